-- A float that is the same in both runs: its kind's bounds hold in any two runs, with no weight; and with any weight where k is
-- nothing.
use Rattle.std.specs.Prelude.{◌≡◌, refl, ℕ, ◌*◌, ◌^◌, Float}
use Rattle.std.proofs.Common.{sym, ap, ◌∙◌, subst, zero-mul}
use Rattle.std.specs.Float.{Format}
use Rattle.scaling.specs.Kind.{Kind, In, last}
use Rattle.scaling.specs.Last.{Multiple}
use Rattle.scaling.proofs.Last.{digits_of, last_grain}
use Rattle.scaling.specs.Two.{Two}
use Rattle.scaling.specs.Still.{weigh_k}

-- 2 ^ 0 is the same to any power
pub still_two : {f : Format} {j : ℕ} {A : Kind} {x x' : Float} (u d : ℕ) → Two f j A x x' → Two f 0 (weigh_k u d A) x x
still_two u d a = record {
  s = a.s;
  m = a.m;
  n = a.m;
  first = a.first;
  second = a.first;
  in_first = record { sign = a.in_first.sign; from = a.in_first.from; to = a.in_first.to };
  in_second = record { sign = a.in_first.sign; from = a.in_first.from; to = a.in_first.to };
  grain = a.grain;
  grain_second = a.grain;
  tie = same u d;
}
  where
    same : (u d : ℕ) → a.m * 2 ^ (0 * d) ≡ a.m * 2 ^ (0 * u)
    same u d = ap (λ z. a.m * 2 ^ z) (zero-mul d ∙ sym (zero-mul u))

-- with bounds found elsewhere
pub recast_two : {f : Format} {k : ℕ} {A : Kind} {x x' : Float} (K : Kind) (a : Two f k A x x') → K.u ≡ 0 → K.d ≡ 0
    → K.g ≡ last f K.lo
    → In K a.s a.m → Two f k K x x
recast_two {f} {k} K a u d g i =
    let M = subst (λ z. Multiple z a.m) (sym g) (last_grain i (digits_of a.first)) in
    record {
      s = a.s;
      m = a.m;
      n = a.m;
      first = a.first;
      second = a.first;
      in_first = i;
      in_second = i;
      grain = M;
      grain_second = M;
      tie = ap (λ z. a.m * 2 ^ (k * z)) (d ∙ sym u);
    }
