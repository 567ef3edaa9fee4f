-- RF's share of RG's joint loop in two runs: it is RF's own loop until it is done, and then stays as it is. Both runs are done
-- in the same pass. Assumes nothing.
use Rattle.std.specs.Prelude.{◌≡◌, ℕ, suc, ◌<◌, max, Bool, true, false, cond, Float}
use Rattle.std.proofs.Math.Path.{refl, subst₂}
use Rattle.std.proofs.Common.{sym, ap, ◌∙◌, inl, inr, lit<}
use native.Mathlib.Omega.{arith}
use Rattle.std.specs.Float.{nan, binary64}
use Rattle.std.specs.Float.Ieee.{lt}
use Rattle.binary64.specs.Leaves.{absolute}
use Rattle.binary64.specs.Operators.{◌⊕◌, ◌⊖◌, ◌⊘◌}
use Rattle.root.specs.Root.{root}
use Rattle.carlson.specs.Constants.{four}
use Rattle.carlson.specs.Common.{lambda_of}
use Rattle.rf_duplicate.specs.Duplicate.{mean_of, rf_begin, rf_step, rf_close}
use Rattle.rf_duplicate.specs.Duplicate as rf
use Rattle.rf_duplicate.specs.declared.duplicate.Round.{Round}
use Rattle.rg_joint.specs.Joint.{rf_begun, rf_moved, rf_ended, rf_next}
use Rattle.rg_joint.specs.declared.joint.RfPart.{RfPart}
use Rattle.scaling.specs.Two.{Two}
use Rattle.scaling.proofs.Pick.{choose}
use Rattle.units.specs.Kinds.{mean_k}
use Rattle.units.specs.Runs.{Fair}
use Rattle.units_rf.specs.Rc.{result_k}
use Rattle.units_rf.specs.Rounds.{gap_k, Inv}
use Rattle.units_rf.proofs.Rounds.{pass, test, series_two, begin}

-- a share with the arguments beside it is a state of RF's loop
abbrev state : RfPart → Float → Float → Float → Round
state p x y z = record { an = p.an; xn = x; yn = y; zn = z; q = p.q; fnval = p.fnval }

-- an argument after a pass
abbrev pub moved : Float → Float → Float → Float → Float
moved x y z v = (v ⊕ lambda_of (root x) (root y) (root z)) ⊘ four

-- ---- what is kept: D and D' are the larger of the first differences, a, b and c the arguments now
pub data Share (k D D' j : ℕ) (a b c a' b' c' : Float) (p p' : RfPart) : Type 0 where
  on : p.done ≡ false → p'.done ≡ false → p.res ≡ nan → p'.res ≡ nan → Inv k D D' j (state p a b c) (state p' a' b' c')
      → Share k D D' j a b c a' b' c' p p'
  off : p.done ≡ true → p'.done ≡ true → Two binary64 k result_k p.res p'.res → Share k D D' j a b c a' b' c' p p'

pub same_done : {k D D' j : ℕ} {a b c a' b' c' : Float} {p p' : RfPart} → Share k D D' j a b c a' b' c' p p' → p.done ≡ p'.done
same_done (on d d' n n' i) = d ∙ sym d'
same_done (off d d' r) = d ∙ sym d'

pub found : {k D D' j : ℕ} {a b c a' b' c' : Float} {p p' : RfPart} → Share k D D' j a b c a' b' c' p p'
    → Fair k result_k p.res p'.res
found (on d d' n n' i) = inl (n, n')
found (off d d' r) = inr r

-- ---- a pass
by_flag : {b : Bool} (p : RfPart) (l x y a : Float) → p.done ≡ b → rf_next p l x y a ≡ cond b p (rf_ended (rf_moved p l) x y a)
unfolding rf_next
by_flag p l x y a e = ap (λ (b : Bool). cond b p (rf_ended (rf_moved p l) x y a)) e

module _ {k : ℕ} (x y z x' y' z' : Float) (G : Two binary64 k gap_k (mean_of x y z ⊖ x) (mean_of x' y' z' ⊖ x'))
    (H : Two binary64 k gap_k (mean_of x y z ⊖ y) (mean_of x' y' z' ⊖ y')) where
  abbrev D : ℕ
  D = max G.m H.m

  abbrev D' : ℕ
  D' = max G.n H.n

  -- where it goes on, or ends
  ended : (j : ℕ) (a b c a' b' c' : Float) (p p' : RfPart) → j < 50 → p.done ≡ false → p'.done ≡ false → p.res ≡ nan
      → p'.res ≡ nan
      → Inv k D D' j (state p a b c) (state p' a' b' c')
      → Share k D D' j a b c a' b' c' (rf_ended p x y (mean_of x y z)) (rf_ended p' x' y' (mean_of x' y' z'))
  unfolding rf_ended rf_close
  ended j a b c a' b' c' p p' h d d' n n' i =
      choose (Share k D D' j a b c a' b' c') (lt p.q (absolute p.an)) (lt p'.q (absolute p'.an))
      (test j i.an i.q)
      (λ t. off refl refl (series_two j (mean_of x y z) x y (mean_of x' y' z') x' y' (state p a b c) (state p' a' b' c') G H
      (more j h) i t))
      (λ t. on d d' n n' i)
    where
      more : (j : ℕ) → j < 50 → j < 51
      more j h = omega arith

  pub share_pass : (j : ℕ) (a b c a' b' c' : Float) (p p' : RfPart) → j < 50 → Share k D D' (suc j) a b c a' b' c' p p'
      → Share k D D' j (moved a b c a) (moved a b c b) (moved a b c c) (moved a' b' c' a') (moved a' b' c' b') (moved a' b' c' c')
      (rf_next p (lambda_of (root a) (root b) (root c)) x y (mean_of x y z))
      (rf_next p' (lambda_of (root a') (root b') (root c')) x' y' (mean_of x' y' z'))
  unfolding rf_moved rf.rf_moved rf_step
  share_pass j a b c a' b' c' p p' h (on d d' n n' i) =
      let l = lambda_of (root a) (root b) (root c) in
      let l' = lambda_of (root a') (root b') (root c') in
      subst₂ (Share k D D' j (moved a b c a) (moved a b c b) (moved a b c c) (moved a' b' c' a') (moved a' b' c' b')
      (moved a' b' c' c'))
      (sym (by_flag p l x y (mean_of x y z) d)) (sym (by_flag p' l' x' y' (mean_of x' y' z') d'))
      (ended j _ _ _ _ _ _ (rf_moved p l) (rf_moved p' l') h d d' n n' (pass j (state p a b c) (state p' a' b' c') h i))
  share_pass j a b c a' b' c' p p' h (off d d' r) =
      let l = lambda_of (root a) (root b) (root c) in
      let l' = lambda_of (root a') (root b') (root c') in
      subst₂ (Share k D D' j (moved a b c a) (moved a b c b) (moved a b c c) (moved a' b' c' a') (moved a' b' c' b')
      (moved a' b' c' c'))
      (sym (by_flag p l x y (mean_of x y z) d)) (sym (by_flag p' l' x' y' (mean_of x' y' z') d')) (off d d' r)

  pub share_begun : Two binary64 k mean_k x x' → Two binary64 k mean_k y y' → Two binary64 k mean_k z z'
      → Share k D D' 50 x y z x' y' z' (rf_begun x y z) (rf_begun x' y' z')
  unfolding rf_begun rf_begin
  share_begun X Y Z = on refl refl refl refl (begin 50 (lit< tt) X Y Z G H)
