-- RD's share of RG's joint loop in two runs: it is RD's own loop until it is done, and then stays as it is. Both runs are done
-- in the same pass. Assumes nothing.
use Rattle.std.specs.Prelude.{◌≡◌, ℕ, suc, ◌≤◌, ◌<◌, Bool, true, false, cond, Float}
use Rattle.std.proofs.Math.Path.{refl, subst₂}
use Rattle.std.proofs.Common.{sym, ap, ◌∙◌, inl, inr}
use native.Mathlib.Omega.{arith}
use Rattle.std.specs.Float.{nan, binary64}
use Rattle.std.specs.Float.Ieee.{lt}
use Rattle.root.specs.Root.{root}
use Rattle.carlson.specs.Common.{lambda_of}
use Rattle.rd_duplicate.specs.Duplicate as rd
use Rattle.rd_duplicate.specs.declared.duplicate.Round.{Round}
use Rattle.rg_joint.specs.Joint.{rd_begun, rd_moved, rd_ended, rd_next}
use Rattle.rg_joint.specs.declared.joint.RdPart.{RdPart}
use Rattle.scaling.specs.Kind.{within}
use Rattle.scaling.specs.Two.{Two}
use Rattle.scaling.proofs.One.{widen_two}
use Rattle.scaling.proofs.Pick.{choose}
use Rattle.units.specs.Runs.{Fair}
use Rattle.units_rd.specs.Mean.{arg_k, some}
use Rattle.units_rd.specs.Step.{step_inv}
use Rattle.units_rd.specs.Start.{begun}
use Rattle.units_rd.specs.Series.{value_k}
use Rattle.units_rd.proofs.Loop.{I, value_two, same_test}
use Rattle.units_rg.specs.RfShare.{moved}

-- a share with the arguments beside it is a state of RD's loop
abbrev state : RdPart → Float → Float → Float → Round
state p x y z = record { an = p.an; xn = x; yn = y; zn = z; q = p.q; fnval = p.fnval; sum = p.sum }

-- ---- what is kept: x, y and z are the first arguments, a, b and c the arguments now
pub data Share {k : ℕ} {x x' y y' z z' : Float} (X : Two binary64 k arg_k x x') (Y : Two binary64 k arg_k y y')
    (Z : Two binary64 k arg_k z z') (j : ℕ)
    (a b c a' b' c' : Float) (p p' : RdPart) : Type 0 where
  on : p.done ≡ false → p'.done ≡ false → p.res ≡ nan → p'.res ≡ nan
      → I (some X) (some Y) Z tt j (state p a b c) (state p' a' b' c')
      → Share X Y Z j a b c a' b' c' p p'
  off : p.done ≡ true → p'.done ≡ true → Two binary64 k value_k p.res p'.res → Share X Y Z j a b c a' b' c' p p'

-- ---- a pass
by_flag : {b : Bool} (p : RdPart) (l r c x y a : Float) → p.done ≡ b
    → rd_next p l r c x y a ≡ cond b p (rd_ended (rd_moved p l r c) x y a)
unfolding rd_next
by_flag p l r c x y a e = ap (λ (b : Bool). cond b p (rd_ended (rd_moved p l r c) x y a)) e

module _ {k : ℕ} {x x' y y' z z' : Float} (X : Two binary64 k arg_k x x') (Y : Two binary64 k arg_k y y')
    (Z : Two binary64 k arg_k z z') where
  pub same_done : {j : ℕ} {a b c a' b' c' : Float} {p p' : RdPart} → Share X Y Z j a b c a' b' c' p p' → p.done ≡ p'.done
  same_done (on d d' n n' i) = d ∙ sym d'
  same_done (off d d' r) = d ∙ sym d'

  pub found : {j : ℕ} {a b c a' b' c' : Float} {p p' : RdPart} → Share X Y Z j a b c a' b' c' p p'
      → Fair k value_k p.res p'.res
  found (on d d' n n' i) = inl (n, n')
  found (off d d' r) = inr r

  -- where it goes on, or ends
  ended : (j : ℕ) (a b c a' b' c' : Float) (p p' : RdPart) → j < 50 → p.done ≡ false → p'.done ≡ false → p.res ≡ nan
      → p'.res ≡ nan
      → I (some X) (some Y) Z tt j (state p a b c) (state p' a' b' c')
      → Share X Y Z j a b c a' b' c' (rd_ended p x y (rd.rd_mean x y z)) (rd_ended p' x' y' (rd.rd_mean x' y' z'))
  unfolding rd_ended rd.rd_close
  ended j a b c a' b' c' p p' h d d' n n' i =
      choose (Share X Y Z j a b c a' b' c') (lt p.q p.an) (lt p'.q p'.an)
      (same_test (some X) (some Y) Z tt j (state p a b c) (state p' a' b' c') i)
      (λ t. off refl refl (value_two (some X) (some Y) Z tt j (state p a b c) (state p' a' b' c') (more j h) i t))
      (λ t. on d d' n n' i)
    where
      more : (j : ℕ) → j < 50 → j ≤ 50
      more j h = omega arith

  pub share_pass : (j : ℕ) (a b c a' b' c' : Float) (p p' : RdPart) → j < 50 → Share X Y Z (suc j) a b c a' b' c' p p'
      → Share X Y Z j (moved a b c a) (moved a b c b) (moved a b c c) (moved a' b' c' a') (moved a' b' c' b') (moved a' b' c' c')
      (rd_next p (lambda_of (root a) (root b) (root c)) (root c) c x y (rd.rd_mean x y z))
      (rd_next p' (lambda_of (root a') (root b') (root c')) (root c') c' x' y' (rd.rd_mean x' y' z'))
  unfolding rd_moved rd.rd_moved rd.rd_step
  share_pass j a b c a' b' c' p p' h (on d d' n n' i) =
      let l = lambda_of (root a) (root b) (root c) in
      let l' = lambda_of (root a') (root b') (root c') in
      subst₂ (Share X Y Z j (moved a b c a) (moved a b c b) (moved a b c c) (moved a' b' c' a') (moved a' b' c' b')
      (moved a' b' c' c'))
      (sym (by_flag p l (root c) c x y (rd.rd_mean x y z) d)) (sym (by_flag p' l' (root c') c' x' y' (rd.rd_mean x' y' z') d'))
      (ended j _ _ _ _ _ _ (rd_moved p l (root c) c) (rd_moved p' l' (root c') c') h d d' n n' (step_inv h i))
  share_pass j a b c a' b' c' p p' h (off d d' r) =
      let l = lambda_of (root a) (root b) (root c) in
      let l' = lambda_of (root a') (root b') (root c') in
      subst₂ (Share X Y Z j (moved a b c a) (moved a b c b) (moved a b c c) (moved a' b' c' a') (moved a' b' c' b')
      (moved a' b' c' c'))
      (sym (by_flag p l (root c) c x y (rd.rd_mean x y z) d)) (sym (by_flag p' l' (root c') c' x' y' (rd.rd_mean x' y' z') d'))
      (off d d' r)

  pub share_begun : Share X Y Z 50 x y z x' y' z' (rd_begun x y z) (rd_begun x' y' z')
  unfolding rd_begun rd.rd_begin within
  share_begun = on refl refl refl refl (record { x = widen_two X tt; y = widen_two Y tt; kept = begun (some X) (some Y) Z tt })
