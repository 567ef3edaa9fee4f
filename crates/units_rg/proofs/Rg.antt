-- DEMAND 3 FOR RG (document 01): with every argument zero or of size from 2 ^ -64 to 2 ^ 64, before and after all are
-- multiplied by 4 ^ k, both calls are refused alike, or have one round count and the second value is the first times exactly 2
-- ^ k. Assumes nothing.
use Rattle.std.specs.Prelude.{◌≡◌, ℕ, ◌+◌, ◌*◌, false, Float}
use Rattle.std.proofs.Common.{sym, subst, subst₂, arith}
use Rattle.std.specs.Float.{binary64}
use Rattle.refusals.specs.declared.Refusal.TheVariants.{RgNoResult}
use Rattle.binary64.specs.Leaves.{absolute}
use Rattle.carlson_arguments.specs.Checks.{below3}
use Rattle.carlson.specs.Answer.{Answer}
use Rattle.elliprg.specs.Rg.{rg_steps, times_root, rg_unchecked, rg_settled, rg}
use Rattle.scaling.specs.Kind.{Kind}
use Rattle.scaling.specs.Two.{Two}
use Rattle.scaling.proofs.Pick.{choose}
use Rattle.units.specs.Statement.{InRange, TimesFour, Alike}
use Rattle.units.specs.Kinds.{argument_k}
use Rattle.units.proofs.Arguments.{argument}
use Rattle.units.proofs.Checks.{numbers3, below3_two, above3}
use Rattle.units.specs.Limits.{Size, first_size, second_size, unscaled3}
use Rattle.units.specs.Answers.{Pair, no}
use Rattle.units.proofs.Answers.{late_same, alike_of, alike_back, onward, backward, either_way}
use Rattle.units.specs.Ran.{Ran, refusal, result}
use Rattle.units_rg.specs.Means.{value_k}
use Rattle.units_rg.proofs.Steps.{steps_two}

-- no argument in range is rescaled
unscaled : (x y z : Float) → Size (absolute x) → Size (absolute y) → Size (absolute z) → rg_unchecked x y z ≡ rg_steps x y z
unfolding rg_unchecked
unscaled x y z a b c = unscaled3 times_root rg_steps x y z a b c

settle : {k : ℕ} {K : Kind} {a b : Answer} → Ran k K a b → Pair k K (rg_settled a false) (rg_settled b false)
unfolding rg_settled
settle refusal = no
settle (result s) = late_same RgNoResult s

-- ---- the entry
pub rg_pair : {k : ℕ} {x y z x' y' z' : Float} → Two binary64 k argument_k x x' → Two binary64 k argument_k y y'
    → Two binary64 k argument_k z z'
    → Pair k value_k (rg x y z) (rg x' y' z')
unfolding rg
rg_pair {k} {x} {y} {z} {x'} {y'} {z'} X Y Z =
    choose (Pair k value_k) (below3 x y z) (below3 x' y' z') (below3_two X Y Z) (λ t. no)
    (λ t.
    let a = above3 X Y Z t in
    subst₂ (λ p q. Pair k value_k (rg_settled (rg_unchecked x y z) p) (rg_settled (rg_unchecked x' y' z') q))
    (sym (numbers3 X.first Y.first Z.first)) (sym (numbers3 X.second Y.second Z.second))
    (subst₂ (λ p q. Pair k value_k (rg_settled p false) (rg_settled q false))
    (sym (unscaled x y z (first_size X) (first_size Y) (first_size Z)))
    (sym (unscaled x' y' z' (second_size X) (second_size Y) (second_size Z))) (settle (steps_two a.0 a.1 a.2))))

upward : (k d : ℕ) {x y z x' y' z' : Float} → InRange x → InRange y → InRange z → InRange x' → InRange y' → InRange z'
    → TimesFour (k + d) d x x' → TimesFour (k + d) d y y' → TimesFour (k + d) d z z' → Alike (k + d) d (rg x y z) (rg x' y' z')
upward k d X Y Z X' Y' Z' p q r =
    alike_of (k + d) d d (let e : k + d ≡ k * 1 + d = omega arith in e) (let e : d ≡ k * 0 + d = omega arith in e)
    (rg_pair (argument k d X X' p) (argument k d Y Y' q) (argument k d Z Z' r))

-- THE CLAIM FOR RG: its weight is 2 ^ k
pub rg_scales : (u d : ℕ) {x y z x' y' z' : Float} → InRange x → InRange y → InRange z → InRange x' → InRange y' → InRange z'
    → TimesFour u d x x' → TimesFour u d y y' → TimesFour u d z z' → Alike u d (rg x y z) (rg x' y' z')
rg_scales u d {x} {y} {z} {x'} {y'} {z'} X Y Z X' Y' Z' p q r =
    either_way u d
    (λ k e.
    subst (λ i. Alike i d (rg x y z) (rg x' y' z')) (sym e)
    (upward k d X Y Z X' Y' Z' (onward k d e p) (onward k d e q) (onward k d e r)))
    (λ k e.
    subst (λ i. Alike u i (rg x y z) (rg x' y' z')) (sym e)
    (alike_back (upward k u X' Y' Z' X Y Z (backward k u e p) (backward k u e q) (backward k u e r))))
