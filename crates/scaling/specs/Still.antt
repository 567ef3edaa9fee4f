-- A float that is the same in both runs: its kind's bounds hold in any two runs, with no weight; and with any weight where k is
-- nothing.
use Rattle.std.specs.Prelude.{◌≡◌, refl, ℕ, ◌*◌, ◌^◌, Float}
use Rattle.std.proofs.Common.{sym, ap, ◌∙◌, subst, zero-mul}
use Rattle.std.specs.Float.{Format}
use Rattle.scaling.specs.Kind.{Kind, In, last}
use Rattle.scaling.specs.Last.{Multiple}
use Rattle.scaling.specs.Two.{Two}

abbrev pub weigh_k : ℕ → ℕ → Kind → Kind
weigh_k u d A = record { any = A.any; zer = A.zer; lo = A.lo; hi = A.hi; g = A.g; u = u; d = d }

-- with no weight
unfoldable pub flat_two : {f : Format} {j : ℕ} {A : Kind} {x x' : Float} (k : ℕ) → Two f j A x x' → Two f k (weigh_k 0 0 A) x x
flat_two k a = record {
  s = a.s;
  m = a.m;
  n = a.m;
  first = a.first;
  second = a.first;
  in_first = record { sign = a.in_first.sign; from = a.in_first.from; to = a.in_first.to };
  in_second = record { sign = a.in_first.sign; from = a.in_first.from; to = a.in_first.to };
  grain = a.grain;
  grain_second = a.grain;
  tie = refl;
}
