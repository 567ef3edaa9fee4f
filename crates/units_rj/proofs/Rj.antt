-- DEMAND 3 FOR RJ (document 01): with every argument zero or of size from 2 ^ -64 to 2 ^ 64, before and after all are
-- multiplied by 4 ^ k, and p above zero, both calls are refused alike, or have one round count and the second value is the
-- first times exactly 2 ^ -3k. Assumes nothing.
use Rattle.std.specs.Prelude.{◌≡◌, refl, ℕ, ◌+◌, ◌*◌, ◌<◌, Bool, true, not, cond, T, Float}
use Rattle.std.proofs.Common.{sym, subst, arith, ltb→lt, lt→ltb, Err}
use Rattle.std.proofs.Math.Path.{ap₂, subst₂}
use Rattle.std.proofs.Math.Bool.{false, ◌||◌}
use Rattle.std.proofs.Math.Dec.{not_T}
use Rattle.std.specs.Float.{binary64}
use Rattle.std.specs.Float.Ieee.{eq, le, lt, below}
use Rattle.refusals.specs.declared.Refusal.{Refusal}
use Rattle.refusals.specs.declared.Refusal.TheVariants.{BelowZero, NanGiven, NoResult, ZeroGiven, Zeros}
use Rattle.carlson.specs.Constants.{zero}
use Rattle.carlson_arguments.specs.Checks.{any_nan4, any_infinite4, below3, zeros_of3}
use Rattle.carlson_arguments.specs.Rescaling.{beyond_limits, scale_of4}
use Rattle.carlson.specs.Answer.{infinite_at}
use Rattle.carlson.specs.Answer.{Answer}
use Rattle.rj_positive.specs.Positive.{rj_positive}
use Rattle.elliprj.specs.Rj.{rj_settled, rj_rest, rj_signed, rj, rj_of_positive}
use Rattle.rj_calls.specs.Run.{plan_unscaled, plan_scaled, plan_of, rj_run, rj_unchecked}
use Rattle.elliprj.proofs.Halves.{rj_positive_is}
use Rattle.sorting.specs.Order.{lt_once}
use Rattle.scaling.specs.Kind.{Kind}
use Rattle.scaling.specs.Units.{Is, lt_units}
use Rattle.scaling.specs.Two.{Two}
use Rattle.scaling.proofs.Tests.{zero_is, zero_two, no_units}
use Rattle.scaling.proofs.One.{number, abs_units}
use Rattle.scaling.proofs.Pick.{choose}
use Rattle.scaling.proofs.Signs.{bounded}
use Rattle.units.specs.Statement.{InRange, TimesFour, Alike}
use Rattle.units.specs.Kinds.{argument_k}
use Rattle.units.proofs.Arguments.{argument, no_units_of}
use Rattle.units.proofs.Checks.{numbers3, finite3, below3_two, above3, zeros3_two, zeros_apart}
use Rattle.units.specs.Limits.{first_size, second_size, within4}
use Rattle.units.specs.Answers as answers
use Rattle.units.specs.Answers.{Pair}
use Rattle.units.proofs.Answers.{settled_same, alike_of, alike_back, onward, backward, either_way}
use Rattle.units.specs.Ran.{Ran, refusal, result}
use Rattle.units_rj.specs.Positive.{rj_k, positive_two}

settle : {k : ℕ} {K : Kind} {a b : Answer} → Ran k K a b → Pair k K (rj_settled a) (rj_settled b)
unfolding rj_settled
settle refusal = answers.no
settle (result s) = settled_same NoResult s

-- ---- of one run, where p is above zero: it is done without a call of itself
at_once : (x y z p : Float) → le p zero ≡ false → beyond_limits (scale_of4 x y z p) ≡ false
    → rj_unchecked x y z p ≡ rj_positive x y z p
unfolding rj_unchecked rj_run plan_of plan_scaled plan_unscaled
at_once x y z p e l = rw (e, l)

-- ---- a p above zero
above_zero : {p : Float} {s : Bool} {m : ℕ} → Is binary64 p s m → T (lt zero p) → (s ≡ false) × (0 < m)
above_zero {s = s} {m} P t = go s (subst T (lt_units (zero_is binary64) P) t)
  where
    go : (s : Bool) → T (below false 0 s m) → (s ≡ false) × (0 < m)
    go false h = (refl, ltb→lt 0 m h)
    go true h = absurd h

not_below : {p : Float} {m : ℕ} → Is binary64 p false m → T (not (lt p zero))
not_below {p} {m} P = not_T (lt p zero) (λ t. let h = ltb→lt m 0 (subst T (lt_units P (zero_is binary64)) t) in
    let r : ⊥ = omega arith in r)

not_zero : {p : Float} {s : Bool} {m : ℕ} → Is binary64 p s m → 0 < m → T (not (eq p zero))
not_zero {p} P h = not_T (eq p zero) (λ t. let e = no_units_of P t in let r : ⊥ = omega arith in r)

no : (b : Bool) → T (not b) → b ≡ false
no true t = absurd t
no false t = refl

module _ {k : ℕ} {x x' y y' z z' p p' : Float} (X : Two binary64 k argument_k x x') (Y : Two binary64 k argument_k y y')
    (Z : Two binary64 k argument_k z z')
    (P : Two binary64 k argument_k p p') (plus : T (lt zero p)) where
  S : P.s ≡ false
  S = (above_zero P.first plus).0

  P-is : Is binary64 p false P.m
  P-is = subst (λ s. Is binary64 p s P.m) S P.first

  P-is' : Is binary64 p' false P.n
  P-is' = subst (λ s. Is binary64 p' s P.n) S P.second

  p_zero : T (not (eq p zero))
  p_zero = not_zero P-is (above_zero P.first plus).1

  p_zero' : T (not (eq p' zero))
  p_zero' = subst (λ b. T (not b)) (zero_two P) p_zero

  not_le : (v : Float) → T (not (lt v zero)) → T (not (eq v zero)) → le v zero ≡ false
  unfolding le
  not_le v h i = ap₂ ◌||◌ (no (lt v zero) h) (no (eq v zero) i)

  steps_pair : T (not (below3 x y z)) → T (not (zeros_of3 x y z))
      → Pair k rj_k (rj_settled (rj_unchecked x y z p)) (rj_settled (rj_unchecked x' y' z' p'))
  steps_pair t n =
      let a = above3 X Y Z t in
      let d = zeros_apart (eq x zero) (eq y zero) (eq z zero) n in
      subst₂ (λ u v. Pair k rj_k (rj_settled u) (rj_settled v))
      (sym (at_once x y z p (not_le p (not_below P-is) p_zero)
      (within4 x y z p (first_size X) (first_size Y) (first_size Z) (first_size P))))
      (sym (at_once x' y' z' p' (not_le p' (not_below P-is') p_zero')
      (within4 x' y' z' p' (second_size X) (second_size Y) (second_size Z) (second_size P))))
      (settle (positive_two (record { two = P; plus = not_below P-is }) p_zero a.0 a.1 a.2 d.0 d.1 d.2))

  no_nan : any_nan4 x y z p ≡ false
  no_nan = ap₂ ◌||◌ (numbers3 X.first Y.first Z.first) (number P.first)

  no_nan' : any_nan4 x' y' z' p' ≡ false
  no_nan' = ap₂ ◌||◌ (numbers3 X.second Y.second Z.second) (number P.second)

  no_infinite : any_infinite4 x y z p ≡ false
  no_infinite = ap₂ ◌||◌ (finite3 X.first Y.first Z.first) (bounded (abs_units P.first))

  no_infinite' : any_infinite4 x' y' z' p' ≡ false
  no_infinite' = ap₂ ◌||◌ (finite3 X.second Y.second Z.second) (bounded (abs_units P.second))

  abbrev last : Float → Float → Float → Float → Bool → Answer
  last x y z p i = cond i infinite_at (rj_settled (rj_unchecked x y z p))

  abbrev rest : Float → Float → Float → Float → Bool → Answer
  rest x y z p i = cond (below3 x y z) (Err BelowZero) (cond (zeros_of3 x y z) (Err Zeros) (last x y z p i))

  abbrev whole : Float → Float → Float → Float → Bool → Bool → Bool → Answer
  whole x y z p n e i = cond n (Err NanGiven) (cond e (Err ZeroGiven) (rest x y z p i))

  pub rj_pair_lem : Pair k rj_k (rj x y z p) (rj x' y' z' p')
  unfolding rj rj_signed rj_rest
  rj_pair_lem =
      subst₂ (λ n n'. Pair k rj_k (whole x y z p n (eq p zero) (any_infinite4 x y z p))
      (whole x' y' z' p' n' (eq p' zero) (any_infinite4 x' y' z' p'))) (sym no_nan) (sym no_nan')
      (subst₂ (λ e e'. Pair k rj_k (whole x y z p false e (any_infinite4 x y z p))
      (whole x' y' z' p' false e' (any_infinite4 x' y' z' p')))
      (sym (no (eq p zero) p_zero)) (sym (no (eq p' zero) p_zero'))
      (subst₂ (λ i i'. Pair k rj_k (rest x y z p i) (rest x' y' z' p' i')) (sym no_infinite) (sym no_infinite')
      (choose (Pair k rj_k) (below3 x y z) (below3 x' y' z') (below3_two X Y Z) (λ t. refuse)
      (λ t. choose (Pair k rj_k) (zeros_of3 x y z) (zeros_of3 x' y' z') (zeros3_two X Y Z) (λ n. refuse) (λ n. steps_pair t n)))))
    where
      refuse : {r : Refusal} → Pair k rj_k (Err r) (Err r)
      refuse = answers.no

upward : (k d : ℕ) (x y z p x' y' z' p' : Float) → InRange x → InRange y → InRange z → InRange p → InRange x' → InRange y'
    → InRange z'
    → InRange p' → T (lt zero p)
    → TimesFour (k + d) d x x' → TimesFour (k + d) d y y' → TimesFour (k + d) d z z' → TimesFour (k + d) d p p'
    → Alike (3 * d) (3 * (k + d)) (rj x y z p) (rj x' y' z' p')
upward k d x y z p x' y' z' p' X Y Z P X' Y' Z' P' t q r s w =
    alike_of (3 * d) (3 * (k + d)) (3 * d) (let e : 3 * d ≡ k * 0 + 3 * d = omega arith in e)
    (let e : 3 * (k + d) ≡ k * 3 + 3 * d = omega arith in e)
    (rj_pair_lem (argument k d X X' q) (argument k d Y Y' r) (argument k d Z Z' s) (argument k d P P' w) t)

-- the other run's p is above zero too
is_above : {p : Float} {m : ℕ} → Is binary64 p false m → (m ≡ 0 → ⊥) → T (lt zero p)
is_above {m = m} P h = subst T (sym (lt_units (zero_is binary64) P)) (lt→ltb 0 m (some m h))
  where
    some : (m : ℕ) → (m ≡ 0 → ⊥) → 0 < m
    some m h = omega arith

second_above : {k : ℕ} {p p' : Float} → Two binary64 k argument_k p p' → T (lt zero p) → T (lt zero p')
second_above {p = p} {p'} P t =
    let a = above_zero P.first t in
    is_above (subst (λ s. Is binary64 p' s P.n) a.0 P.second) (no_units P (not_zero P.first a.1)).1

first_above : {k : ℕ} {p p' : Float} → Two binary64 k argument_k p p' → T (lt zero p') → T (lt zero p)
first_above {p = p} {p'} P t =
    let a = above_zero P.second t in
    let n : T (not (eq p zero)) = subst (λ b. T (not b)) (sym (zero_two P)) (not_zero P.second a.1) in
    is_above (subst (λ s. Is binary64 p s P.m) a.0 P.first) (no_units P n).0

pub scaled_above : (u d : ℕ) (p p' : Float) → InRange p → InRange p' → TimesFour u d p p' → T (lt zero p) → T (lt zero p')
scaled_above u d p p' P P' w t =
    either_way u d (λ k e. second_above (argument k d P P' (onward k d e w)) t)
    (λ k e. first_above (argument k u P' P (backward k u e w)) t)

-- THE CLAIM FOR RJ: its weight is 2 ^ -3k
pub rj_scales : (u d : ℕ) (x y z p x' y' z' p' : Float) → InRange x → InRange y → InRange z → InRange p → InRange x'
    → InRange y' → InRange z'
    → InRange p' → T (lt zero p)
    → TimesFour u d x x' → TimesFour u d y y' → TimesFour u d z z' → TimesFour u d p p'
    → Alike (3 * d) (3 * u) (rj x y z p) (rj x' y' z' p')
rj_scales u d x y z p x' y' z' p' X Y Z P X' Y' Z' P' t q r s w =
    either_way u d
    (λ k e.
    subst (λ i. Alike (3 * d) (3 * i) (rj x y z p) (rj x' y' z' p')) (sym e)
    (upward k d x y z p x' y' z' p' X Y Z P X' Y' Z' P' t (onward k d e q) (onward k d e r) (onward k d e s) (onward k d e w)))
    (λ k e.
    subst (λ i. Alike (3 * i) (3 * u) (rj x y z p) (rj x' y' z' p')) (sym e)
    (alike_back (upward k u x' y' z' p' x y z p X' Y' Z' P' X Y Z P (scaled_above u d p p' P P' w t) (backward k u e q)
    (backward k u e r)
    (backward k u e s) (backward k u e w))))
