-- DEMAND 3 FOR RD (document 01): with every argument zero or of size from 2 ^ -64 to 2 ^ 64, before and after all are
-- multiplied by 4 ^ k, both calls are refused alike, or have one round count and the second value is the first times exactly 2
-- ^ -3k. Assumes nothing.
use Rattle.std.specs.Prelude.{◌≡◌, ℕ, ◌+◌, ◌*◌, Bool, not, Float}
use Rattle.std.proofs.Common.{sym, ap₂, subst, subst₂, arith}
use Rattle.std.proofs.Math.Bool.{true, false, ◌&&◌, ◌||◌}
use Rattle.std.proofs.Math.Dec.{T}
use Rattle.std.specs.Float.{binary64}
use Rattle.std.specs.Float.Ieee.{eq, le, lt}
use Rattle.refusals.specs.declared.Refusal.TheVariants.{NoResult}
use Rattle.binary64.specs.Leaves.{absolute, minimum}
use Rattle.carlson.specs.Constants.{zero}
use Rattle.carlson_arguments.specs.Checks.{any_nan3, any_infinite3}
use Rattle.carlson.specs.Answer.{Answer}
use Rattle.elliprd.specs.Rd.{rd_steps, over_scale, rd_unchecked, rd_settled, rd}
use Rattle.scaling.specs.Kind.{Kind}
use Rattle.scaling.specs.Units.{Is}
use Rattle.scaling.specs.Two.{Two}
use Rattle.scaling.proofs.Tests.{zero_two}
use Rattle.scaling.proofs.One.{number}
use Rattle.scaling.proofs.Pick.{choose, smaller_two}
use Rattle.scaling.proofs.Signs.{bounded, lt_zero_two, above_two}
use Rattle.units.specs.Statement.{InRange, TimesFour, Alike}
use Rattle.units.specs.Kinds.{argument_k}
use Rattle.units.proofs.Arguments.{argument, neither_below}
use Rattle.units.specs.Limits.{Size, first_size, second_size, unscaled3}
use Rattle.units.specs.Answers.{Pair, no}
use Rattle.units.proofs.Answers.{late_same, alike_of, alike_back, times_back, either_way}
use Rattle.units.specs.Ran.{Ran, refusal, result}
use Rattle.units_rd.specs.Means.{agm_k}
use Rattle.units_rd.proofs.Steps.{steps_two}

settle : {k : ℕ} {K : Kind} {a b : Answer} → Ran k K a b → Pair k K (rd_settled a false false) (rd_settled b false false)
unfolding rd_settled
settle refusal = no
settle (result s) = late_same NoResult s

-- ---- of one run: nothing is rescaled, and no argument is NaN or infinite
unscaled : (x y z : Float) → Size (absolute x) → Size (absolute y) → Size (absolute z) → rd_unchecked x y z ≡ rd_steps x y z
unfolding rd_unchecked
unscaled x y z a b c = unscaled3 over_scale rd_steps x y z a b c

module _ {x y z : Float} {r s t : Bool} {l m n : ℕ} (X : Is binary64 x r l) (Y : Is binary64 y s m) (Z : Is binary64 z t n) where
  no_nan : any_nan3 x y z ≡ false
  no_nan = rw (number X, number Y, number Z)

  no_infinite : any_infinite3 x y z ≡ false
  no_infinite = rw (bounded X, bounded Y, bounded Z)

module _ {k : ℕ} {x x' y y' z z' : Float} (X : Two binary64 k argument_k x x') (Y : Two binary64 k argument_k y y')
    (Z : Two binary64 k argument_k z z') where
  steps_pair : Ran k agm_k (rd_steps x y z) (rd_steps x' y' z')
      → Pair k agm_k (rd_settled (rd_unchecked x y z) (any_nan3 x y z) (any_infinite3 x y z))
      (rd_settled (rd_unchecked x' y' z') (any_nan3 x' y' z') (any_infinite3 x' y' z'))
  steps_pair r =
      rw (
        no_nan X.first Y.first Z.first,
        no_infinite X.first Y.first Z.first,
        no_nan X.second Y.second Z.second,
        no_infinite X.second Y.second Z.second,
      )
      (subst₂ (λ a b. Pair k agm_k (rd_settled a false false) (rd_settled b false false))
      (sym (unscaled x y z (first_size X) (first_size Y) (first_size Z)))
      (sym (unscaled x' y' z' (second_size X) (second_size Y) (second_size Z))) (settle r))

  -- RD as RJ calls it, with z above zero
  pub unchecked_ran : T (not (lt x zero)) → T (not (lt y zero)) → T (not (eq x zero && eq y zero)) → T (not (lt z zero))
      → T (not (eq z zero))
      → Ran k agm_k (rd_unchecked x y z) (rd_unchecked x' y' z')
  unchecked_ran hx hy nz hz n =
      subst₂ (Ran k agm_k) (sym (unscaled x y z (first_size X) (first_size Y) (first_size Z)))
      (sym (unscaled x' y' z' (second_size X) (second_size Y) (second_size Z))) (steps_two (above_two Z hz n) X Y hx hy nz)

  pub rd_pair : Pair k agm_k (rd x y z) (rd x' y' z')
  unfolding rd le
  rd_pair =
      choose (Pair k agm_k) (lt (minimum x y) zero) (lt (minimum x' y') zero) (lt_zero_two (smaller_two X Y tt)) (λ t. no)
      (λ t.
      choose (Pair k agm_k) (eq x zero && eq y zero) (eq x' zero && eq y' zero) (ap₂ ◌&&◌ (zero_two X) (zero_two Y)) (λ u. no)
      (λ u.
      choose (Pair k agm_k) (le z zero) (le z' zero) (ap₂ ◌||◌ (lt_zero_two Z) (zero_two Z)) (λ v. no)
      (λ v.
      let n = neither_below X.first Y.first t in
      steps_pair (steps_two (above_two Z (nor_first (lt z zero) (eq z zero) v) (nor_second (lt z zero) (eq z zero) v)) X Y
      n.0 n.1 u))))
    where
      nor_first : (a b : Bool) → T (not (a || b)) → T (not a)
      nor_first true b t = t
      nor_first false b t = tt

      nor_second : (a b : Bool) → T (not (a || b)) → T (not b)
      nor_second true b t = absurd t
      nor_second false b t = t

upward : (k d : ℕ) {x y z x' y' z' : Float} → InRange x → InRange y → InRange z → InRange x' → InRange y' → InRange z'
    → TimesFour (k + d) d x x' → TimesFour (k + d) d y y' → TimesFour (k + d) d z z'
    → Alike (3 * d) (3 * (k + d)) (rd x y z) (rd x' y' z')
upward k d X Y Z X' Y' Z' p q r =
    alike_of (3 * d) (3 * (k + d)) (3 * d) (none k d) (more k d)
    (rd_pair (argument k d X X' p) (argument k d Y Y' q) (argument k d Z Z' r))
  where
    none : (k d : ℕ) → 3 * d ≡ k * 0 + 3 * d
    none k d = omega arith

    more : (k d : ℕ) → 3 * (k + d) ≡ k * 3 + 3 * d
    more k d = omega arith

-- THEOREM
pub rd_scales : (u d : ℕ) {x y z x' y' z' : Float} → InRange x → InRange y → InRange z → InRange x' → InRange y' → InRange z'
    → TimesFour u d x x' → TimesFour u d y y' → TimesFour u d z z' → Alike (3 * d) (3 * u) (rd x y z) (rd x' y' z')
rd_scales u d {x} {y} {z} {x'} {y'} {z'} X Y Z X' Y' Z' p q r =
    either_way u d
    (λ k e.
    subst (λ n. Alike (3 * d) (3 * n) (rd x y z) (rd x' y' z')) (sym e)
    (upward k d X Y Z X' Y' Z' (subst (λ n. TimesFour n d x x') e p) (subst (λ n. TimesFour n d y y') e q)
    (subst (λ n. TimesFour n d z z') e r)))
    (λ k e.
    alike_back
    (subst (λ n. Alike (3 * u) (3 * n) (rd x' y' z') (rd x y z)) (sym e)
    (upward k u X' Y' Z' X Y Z (subst (λ n. TimesFour n u x' x) e (times_back p))
    (subst (λ n. TimesFour n u y' y) e (times_back q))
    (subst (λ n. TimesFour n u z' z) e (times_back r)))))
