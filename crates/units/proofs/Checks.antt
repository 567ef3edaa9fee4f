-- The checks that entries of three arguments make first (document 01, "Numbers for no"), in two runs: no argument in range is a
-- NaN or an infinity, and
-- the tests for a sign and for zeros say the same in both runs. What they leave open is told of each argument.
use Rattle.std.specs.Prelude.{◌≡◌, ℕ, Bool, true, false, not, ◌&&◌, ◌||◌, T, Float}
use Rattle.std.proofs.Common.{ap₂}
use Rattle.std.specs.Float.{binary64}
use Rattle.scaling.specs.Units.{Is}
use Rattle.scaling.specs.Two.{Two}
use Rattle.scaling.proofs.One.{number}
use Rattle.scaling.proofs.Tests.{zero_two}
use Rattle.scaling.proofs.Signs.{bounded, lt_zero_two}
use Rattle.scaling.proofs.Pick.{smaller_two}
use Rattle.carlson_arguments.specs.Checks.{any_nan2, any_nan3, any_infinite2, any_infinite3, below3, zeros_of3}
use Rattle.units.specs.Kinds.{argument_k}
use Rattle.units.specs.Arguments.{Argument}
use Rattle.units.proofs.Arguments.{neither_below}

module _ {x y : Float} {s t : Bool} {m n : ℕ} (X : Is binary64 x s m) (Y : Is binary64 y t n) where
  pub numbers2 : any_nan2 x y ≡ false
  numbers2 = ap₂ ◌||◌ (number X) (number Y)

  pub finite2 : any_infinite2 x y ≡ false
  finite2 = ap₂ ◌||◌ (bounded X) (bounded Y)

  pub numbers3 : {z : Float} {r : Bool} {l : ℕ} → Is binary64 z r l → any_nan3 x y z ≡ false
  numbers3 Z = ap₂ ◌||◌ numbers2 (number Z)

  pub finite3 : {z : Float} {r : Bool} {l : ℕ} → Is binary64 z r l → any_infinite3 x y z ≡ false
  finite3 Z = ap₂ ◌||◌ finite2 (bounded Z)

module _ {k : ℕ} {x y z x' y' z' : Float} (X : Two binary64 k argument_k x x') (Y : Two binary64 k argument_k y y')
    (Z : Two binary64 k argument_k z z') where
  pub below3_two : below3 x y z ≡ below3 x' y' z'
  below3_two = lt_zero_two (smaller_two (smaller_two X Y tt) Z tt)

  pub above3 : T (not (below3 x y z)) → Argument k x x' × Argument k y y' × Argument k z z'
  above3 h =
      let p = neither_below (smaller_two X Y tt).first Z.first h in
      let q = neither_below X.first Y.first p.0 in
      (record { two = X; plus = q.0 }, record { two = Y; plus = q.1 }, record { two = Z; plus = p.1 })

  pub zeros3_two : zeros_of3 x y z ≡ zeros_of3 x' y' z'
  zeros3_two = ap₂ ◌||◌ (ap₂ ◌&&◌ (zero_two X) (zero_two Y)) (ap₂ ◌&&◌ (ap₂ ◌||◌ (zero_two X) (zero_two Y)) (zero_two Z))

-- no two are zero
pub zeros_apart : (a b c : Bool) → T (not ((a && b) || ((a || b) && c))) → T (not (a && b)) × T (not (a && c)) × T (not (b && c))
zeros_apart true true c h = absurd h
zeros_apart true false true h = absurd h
zeros_apart true false false h = (tt, tt, tt)
zeros_apart false true true h = absurd h
zeros_apart false true false h = (tt, tt, tt)
zeros_apart false false c h = (tt, tt, tt)
