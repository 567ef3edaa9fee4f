-- A choice that is the same in both runs keeps the two runs side by side. So do the smaller and the larger of two floats of any
-- signs, which are choices by a comparison.
use Rattle.std.specs.Prelude.{◌≡◌, ℕ, Bool, true, false, not, cond, T, Float}
use Rattle.std.proofs.Common.{sym, subst}
use Rattle.std.specs.Float.{Format}
use Rattle.std.specs.Float.Ieee.{lt, is_nan}
use Rattle.binary64.specs.Leaves.{maximum, minimum}
use Rattle.scaling.specs.Kind.{Kind, level?}
use Rattle.scaling.proofs.One.{number}
use Rattle.scaling.specs.Two.{Two}
use Rattle.scaling.proofs.Two.{lt_two}

-- in any relation between what the runs give; what the test said may be used
pub choose : {A : Type 0} (R : A → A → Type 0) (b b' : Bool) {u v u' v' : A} → b ≡ b' → (T b → R u u') → (T (not b) → R v v')
    → R (cond b u v) (cond b' u' v')
choose R b b' {u} {v} {u'} {v'} e p q = subst (λ z. R (cond b u v) (cond z u' v')) e (go b p q)
  where
    go : (b : Bool) → (T b → R u u') → (T (not b) → R v v') → R (cond b u v) (cond b u' v')
    go true p q = p tt
    go false p q = q tt

module _ {f : Format} {k : ℕ} {A : Kind} {x y x' y' : Float} (a : Two f k A x x') (b : Two f k A y y') (w : T (level? A A)) where
  -- past the tests for NaN, which fail
  passed : (z z' : Float) → Two f k A z z' → Two f k A (cond (is_nan x) y z) (cond (is_nan x') y' z')
  passed z z' c = subst (λ t. Two f k A (cond t y z) (cond (is_nan x') y' z')) (sym (number a.first))
      (subst (λ t. Two f k A z (cond t y' z')) (sym (number a.second)) c)

  pub smaller_two : Two f k A (minimum x y) (minimum x' y')
  unfolding minimum
  smaller_two = passed (cond (lt y x) y x) (cond (lt y' x') y' x')
      (choose (Two f k A) (lt y x) (lt y' x') (lt_two b a w) (λ t. b) (λ t. a))

  pub larger_two : Two f k A (maximum x y) (maximum x' y')
  unfolding maximum
  larger_two = passed (cond (lt x y) y x) (cond (lt x' y') y' x')
      (choose (Two f k A) (lt x y) (lt x' y') (lt_two a b w) (λ t. b) (λ t. a))
