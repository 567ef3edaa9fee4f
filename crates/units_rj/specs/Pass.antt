-- One pass of RJ in two runs: the roots, their sums and the denominator, and the two quantities without dimension that RC is
-- asked at. At most one of x, y, z is a zero, in the first pass. Assumes nothing.
use Rattle.std.specs.Prelude.{◌≡◌, refl, ℕ, ◌+◌, ◌*◌, ◌^◌, ◌≤◌, ◌<◌, Bool, false, T, Float}
use Rattle.std.proofs.Common.{sym, ap, subst, zero-le, le_trans, le_of_eq, lt_of_lt_of_le, lt_of_le_of_lt, zero-mul, arith, lit<, pow_pos}
use Rattle.std.specs.Float.{binary64}
use Rattle.std.specs.Float.Ieee.{low}
use Rattle.binary64.specs.Operators.{◌⊕◌}
use Rattle.root.specs.Root.{root}
use Rattle.scaling.specs.Units.{Is}
use Rattle.scaling.proofs.Same.{same_units}
use Rattle.scaling.specs.Kind.{Kind, last, plus_k, plus_ok, within}
use Rattle.scaling.proofs.Kind.{floor_le}
use Rattle.scaling.specs.Two.{Two}
use Rattle.scaling.specs.Root.{root_units}
use Rattle.scaling.proofs.Root.{root_value}
use Rattle.scaling.proofs.Nothing.{root_nothing}
use Rattle.scaling.specs.Maybe.{Maybe, none, some, some?, units, units', solid?, Sum}
use Rattle.scaling.proofs.Maybe.{add_maybe, add_some, add_law}
use Rattle.units_rd.specs.Mean.{mean_k}
use Rattle.units_rd.specs.Step.{roots_k, roots_two}
use Rattle.units_rj.specs.Bound.{root_square, pair_square}

abbrev pub l : ℕ
l = 2 ^ low binary64

pub l_pos : 0 < l
l_pos = pow_pos (low binary64)

-- ---- a root: its square is its number, up to a factor of four
pub roots_square : {k : ℕ} {x x' : Float} (a : Two binary64 k mean_k x x') → (a.m * l ≤ 4 * ((roots_two a).m * (roots_two a).m))
    × (a.n * l ≤ 4 * ((roots_two a).n * (roots_two a).n))
roots_square {x = x} {x' = x'} a =
    let S : a.s ≡ false = a.in_first.sign tt in
    let r = roots_two a in (
      square a.m r.m (floor_le a.in_first) a.in_first.to
          (same_units r.first (root_value (subst (λ (s : Bool). Is binary64 x s a.m) S a.first))),
      square a.n r.n (floor_le a.in_second) a.in_second.to
          (same_units r.second (root_value (subst (λ (s : Bool). Is binary64 x' s a.n) S a.second))),
    )
  where
    square : (n r : ℕ) → 2 ^ 1008 ≤ n → n ≤ 2 ^ 1138 → r ≡ root_units n → n * l ≤ 4 * (r * r)
    square n r h i e =
        le_trans (root_square n (lt_of_lt_of_le (lit< tt) h) (lt_of_le_of_lt i (lit< tt)))
        (le_of_eq (ap (λ (z : ℕ). 4 * (z * z)) (sym e)))

pub roots_maybe : {k : ℕ} {x x' : Float} → Maybe binary64 k mean_k x x' → Maybe binary64 k roots_k (root x) (root x')
roots_maybe (none z) = none (root_nothing z)
roots_maybe (some a) = some (roots_two a)

pub roots_some : {k : ℕ} {x x' : Float} (a : Maybe binary64 k mean_k x x') → some? (roots_maybe a) ≡ some? a
unfolding roots_maybe
roots_some (none z) = refl
roots_some (some a) = refl

maybe_square : {k : ℕ} {x x' : Float} (a : Maybe binary64 k mean_k x x')
    → (units a * l ≤ 4 * (units (roots_maybe a) * units (roots_maybe a)))
    × (units' a * l ≤ 4 * (units' (roots_maybe a) * units' (roots_maybe a)))
unfolding roots_maybe
maybe_square (none z) = (le_trans (le_of_eq (zero-mul l)) zero-le, le_trans (le_of_eq (zero-mul l)) zero-le)
maybe_square (some a) = roots_square a

-- ---- the sum of p's root and another
abbrev pub pair_k : Kind
pair_k = record { any = false; zer = false; lo = 2 ^ 1041; hi = 2 ^ 1107; g = last binary64 (2 ^ 1041); u = 1; d = 0 }

pub record Pair (k : ℕ) (P P' X X' r r' s s' : ℕ) (v v' : Float) : Type 0 where
  pub two : Two binary64 k pair_k v v'
  pub square : (P + X) * l ≤ 8 * (two.m * two.m)
  pub square' : (P' + X') * l ≤ 8 * (two.n * two.n)
  pub sums : r + s ≤ 2 * two.m
  pub sums' : r' + s' ≤ 2 * two.n

pub pair : {k : ℕ} {p p' x x' : Float} (P : Two binary64 k mean_k p p') (X : Maybe binary64 k mean_k x x')
    → Pair k P.m P.n (units X) (units' X) (roots_two P).m (roots_two P).n (units (roots_maybe X)) (units' (roots_maybe X))
    (root p ⊕ root x) (root p' ⊕ root x')
unfolding solid? plus_k plus_ok within
pair {k} {p} {p'} {x} {x'} P X =
    let r = some (roots_two P) in
    let s = roots_maybe X in
    let c = add_maybe (lit< tt) pair_k r s tt tt tt tt tt in
    let law = add_law (lit< tt) pair_k r s tt tt tt tt tt in
    let t : T (some? c) = subst T (sym (add_some (lit< tt) pair_k r s tt tt tt tt tt)) tt in
    let q = roots_square P in
    let w = maybe_square X in
    made c t law.0 law.1 q.0 q.1 w.0 w.1
  where
    made : (c : Maybe binary64 k pair_k (root p ⊕ root x) (root p' ⊕ root x')) → T (some? c)
        → Sum (roots_two P).m (units (roots_maybe X)) (units c) → Sum (roots_two P).n (units' (roots_maybe X)) (units' c)
        → P.m * l ≤ 4 * ((roots_two P).m * (roots_two P).m) → P.n * l ≤ 4 * ((roots_two P).n * (roots_two P).n)
        → units X * l ≤ 4 * (units (roots_maybe X) * units (roots_maybe X))
        → units' X * l ≤ 4 * (units' (roots_maybe X) * units' (roots_maybe X))
        → Pair k P.m P.n (units X) (units' X) (roots_two P).m (roots_two P).n (units (roots_maybe X))
        (units' (roots_maybe X))
        (root p ⊕ root x) (root p' ⊕ root x')
    made (none z) t a b q q' w w' = absurd t
    made (some c) t a b q q' w w' = record {
      two = c;
      square = pair_square P.m (units X) (roots_two P).m (units (roots_maybe X)) c.m l q w a.0 a.1;
      square' = pair_square P.n (units' X) (roots_two P).n (units' (roots_maybe X)) c.n l q' w' b.0 b.1;
      sums = twice (roots_two P).m (units (roots_maybe X)) c.m a.0 a.1;
      sums' = twice (roots_two P).n (units' (roots_maybe X)) c.n b.0 b.1;
    }
      where
        twice : (r s c : ℕ) → r ≤ c → s ≤ c → r + s ≤ 2 * c
        twice r s c h i = omega arith
