-- An exact polynomial whose coefficients are at most 1 is at most 2 up to 1/2, and there it rises by at most 4 times what its
-- argument rises: from z to y ≤ z + b, y (e + 4b) = y e + 4 y b ≤ z e + b e + 2b with e ≤ 2. Assumes nothing.
use Prim.Native.Nat.{ℕ, zero, suc}
use Rattle.std.specs.Prelude.{[], ◌∷◌}
use Rattle.std.proofs.Math.Nat.{le_of_mul-le-mul_right}
use native.Mathlib.Omega.{arith}
use Rattle.algebra.specs.Ring.{con, ◌:+◌, ◌:*◌, ◌≈◌, ◌⊩◌, ◌times◌≼◌, Order}
use Rattle.algebra.proofs.Ring.{by_below}
use Rattle.enclosure.specs.Quotient.{Quotient, ◌≼◌, whole, over, ◌⊞◌, ◌⊠◌}
use Rattle.enclosure.specs.Order.{≼_refl, ≼_trans, ⊞-mono, ⊠-mono, ⊞-over}
use Rattle.enclosure.specs.Expansion.{exact}
use Rattle.enclosure.specs.Slope.{half}

two_step : Order 6 (λ c c' z z' e e'.
    (con 2 :* z' :* e' times c :* con 1 ≼ con 1 :* c') ∷ (e :* c' times z :* con 2 ≼ con 1 :* z')
    ∷ (c' :* z' times e :* con 1 ≼ con 2 :* e') ∷ []
    ⊩ (c :* (z' :* e') :+ z :* e :* c') :* con 1 :* con 2 ≈ con 2 :* (c' :* (z' :* e')) :* con 2)
two_step = by_below tt

rise_step : Order 8 (λ y y' z z' e e' b b'.
    (e :* e' :* b' times y :* (z' :* b') ≼ (z :* b' :+ b :* z') :* y')
    ∷ (con 2 :* b :* e' :* z' :* e' :* b' times y :* con 2 ≼ con 1 :* y')
    ∷ (b :* z' :* e' :* b' :* y' times e :* con 1 ≼ con 2 :* e') ∷ []
    ⊩ y :* (e :* (con 1 :* b') :+ con 4 :* b :* e') :* (z' :* e' :* (con 1 :* b'))
    ≈ (z :* e :* (con 1 :* b') :+ con 4 :* b :* (z' :* e')) :* (y' :* (e' :* (con 1 :* b'))))
rise_step = by_below tt

module _ (c : ℕ → Quotient) (small : (i : ℕ) → c i ≼ whole 1) where
  pub exact_two : {z : Quotient} → z ≼ half → (k i : ℕ) → exact c z k i ≼ whole 2
  unfolding exact
  exact_two h zero i = record { cross = omega arith }
  exact_two {z} h (suc k) i =
      let e = exact c z k (suc i) in
      record {
        cross = le_of_mul-le-mul_right (two_step.law (c i).num (c i).den z.num z.den e.num e.den
            (small i).cross h.cross (exact_two h k (suc i)).cross) (omega arith);
      }

  -- THE LAW
  pub exact_rises : {y z : Quotient} (b : Quotient) → y ≼ z ⊞ b → y ≼ half → z ≼ half → (k i : ℕ)
      → exact c y k i ≼ exact c z k i ⊞ whole 4 ⊠ b
  unfolding exact
  exact_rises b near hy hz zero i = record { cross = omega arith }
  exact_rises {y} {z} b near hy hz (suc k) i =
      let e = exact c z k (suc i) in
      let rise : y ⊠ (e ⊞ whole 4 ⊠ b) ≼ z ⊠ e ⊞ whole 4 ⊠ b =
      record {
        cross = rise_step.law y.num y.den z.num z.den e.num e.den b.num b.den
            near.cross hy.cross (exact_two hz k (suc i)).cross;
      } in
      ≼_trans (⊞-mono ≼_refl (≼_trans (⊠-mono ≼_refl (exact_rises b near hy hz k (suc i))) rise))
      (⊞-over (c i) (z ⊠ e) (whole 4 ⊠ b))
