-- A test that computes, at each number below n: so that a kind that depends on the round is tested for all rounds at once. `every
-- 11 test tt` costs one computation, however many lines cite it.
use Rattle.std.specs.Prelude.{ℕ, zero, suc, ◌<◌, ◌≡◌, Bool, true, ◌&&◌, T}
use Rattle.std.proofs.Math.Nat.{le-suc_iff}
use Rattle.std.proofs.Common.{arith, subst, inl, inr}
use Rattle.std.specs.Float.Ieee.Fits.{and_l, and_r}

unfoldable pub all : ℕ → (ℕ → Bool) → Bool
all zero p = true
all (suc n) p = p n && all n p

pub every : (n : ℕ) (p : ℕ → Bool) → T (all n p) → (j : ℕ) → j < n → T (p j)
unfolding all
every zero p t j h = absurd (no j h)
  where
    no : (j : ℕ) → j < 0 → ⊥
    no j h = omega arith
every (suc n) p t j h =
    elim (le-suc_iff.0 h) [
      | inl l ↦ every n p (and_r (p n) (all n p) t) j l
      | inr e ↦ subst (λ i. T (p i)) (let r : n ≡ j = omega arith in r) (and_l (p n) (all n p) t)
    ]
