-- RG's joint loop of RF and RD in two runs, and the value made of both: as many passes, and the second value is the first times
-- 2 ^ k. What is not done when the cap is spent is NaN in both. Assumes nothing.
use Rattle.std.specs.Prelude.{◌≡◌, ℕ, suc, ◌^◌, ◌<◌, max, true, Float}
use Rattle.std.proofs.Math.Path.{refl, ap₂, subst}
use Rattle.std.proofs.Common.{ap, ◌∙◌, inl, inr, le_refl}
use Rattle.std.proofs.Math.Bool.{false, ◌&&◌}
use Rattle.std.specs.Float.{nan, binary64}
use Rattle.std.specs.Float.Ieee.{of_bits}
use Rattle.binary64.specs.Operators.{◌⊕◌, ◌⊖◌, ◌⊗◌, ◌⊘◌}
use Rattle.root.specs.Root.{root}
use Rattle.carlson.specs.Constants.{two, three}
use Rattle.carlson.specs.Answer.{joint_at}
use Rattle.rf_duplicate.specs.Duplicate.{mean_of}
use Rattle.rd_duplicate.specs.Duplicate.{rd_mean}
use Rattle.rg_joint.specs.Joint.{joint_begun, joint_moved, joint_next, all_done, rf_rd_of, joint_of, rg_value, rg_joint}
use Rattle.rg_joint.specs.declared.joint.Joint.{Joint}
use Rattle.rg_joint.specs.declared.joint.RfRd.{RfRd}
use Rattle.scaling.specs.Kind.{Kind, last, mul_k, mul_ok, div_k, div_ok, sum_k, sum_ok, within}
use Rattle.scaling.specs.Two.{Two}
use Rattle.scaling.proofs.Two.{mul_two, div_two, sum_two}
use Rattle.scaling.specs.One.{lit_ok}
use Rattle.scaling.proofs.One.{sub_two}
use Rattle.scaling.proofs.One.{lit_two, widen_two}
use Rattle.scaling.specs.Root.{root_k, root_ok}
use Rattle.scaling.proofs.Root.{root_two}
use Rattle.scaling.specs.Nan.{mul_nan, nan_div, nan_sub, sub_nan, nan_add}
use Rattle.units.specs.Kinds.{mean_k}
use Rattle.units.specs.Runs.{Fair, Same, jointly, loops_two}
use Rattle.units_rf.specs.Rc.{result_k}
use Rattle.units_rf.specs.Series.{mean_two}
use Rattle.units_rf.specs.Rounds.{gap_k}
use Rattle.units_rd.specs.Series as rd
use Rattle.units_rg.specs.Means.{value_k}
use Rattle.units_rg.specs.RfShare as rf-share
use Rattle.units_rg.specs.RdShare as rd-share

-- ---- the loop
record Ended (k : ℕ) (r r' : RfRd) : Type 0 where
  rf : Fair k result_k r.rf r'.rf
  rd : Fair k rd.value_k r.rd r'.rd
  rounds : r.rounds ≡ r'.rounds

module _ {k : ℕ} {x y z x' y' z' : Float} (X : Two binary64 k mean_k x x') (Y : Two binary64 k mean_k y y')
    (Z : Two binary64 k mean_k z z') where
  -- RF's first differences
  gap_x : Two binary64 k gap_k (mean_of x y z ⊖ x) (mean_of x' y' z' ⊖ x')
  unfolding gap_k sum_k sum_ok
  gap_x = sub_two (mean_two X Y Z) X tt

  gap_y : Two binary64 k gap_k (mean_of x y z ⊖ y) (mean_of x' y' z' ⊖ y')
  unfolding gap_k sum_k sum_ok
  gap_y = sub_two (mean_two X Y Z) Y tt

  record Inv (j : ℕ) (s t : Joint) : Type 0 where
    rf : rf-share.Share k (max gap_x.m gap_y.m) (max gap_x.n gap_y.n) j s.xn s.yn s.zn t.xn t.yn
        t.zn s.rf t.rf
    rd : rd-share.Share X Y Z j s.xn s.yn s.zn t.xn t.yn t.zn s.rd t.rd

  pass : (j : ℕ) (s t : Joint) → j < 50 → Inv (suc j) s t
      → Inv j (joint_next x y (mean_of x y z) (rd_mean x y z) s) (joint_next x' y' (mean_of x' y' z') (rd_mean x' y' z') t)
  unfolding joint_next joint_moved
  pass j s t h i = record {
    rf = rf-share.share_pass x y z x' y' z' gap_x gap_y j _ _ _ _ _ _ s.rf t.rf h i.rf;
    rd = rd-share.share_pass X Y Z j _ _ _ _ _ _ s.rd t.rd h i.rd;
  }

  same_test : (j : ℕ) (s t : Joint) → Inv j s t → all_done s ≡ all_done t
  unfolding all_done
  same_test j s t i = ap₂ ◌&&◌ (rf-share.same_done i.rf) (rd-share.same_done X Y Z i.rd)

  ends : (j : ℕ) (s t : Joint) (n : ℕ) → Inv j s t → Ended k (rf_rd_of s n) (rf_rd_of t n)
  unfolding rf_rd_of
  ends j s t n i = record { rf = rf-share.found i.rf; rd = rd-share.found X Y Z i.rd; rounds = refl }

  joint_two : Ended k (joint_of x y z) (joint_of x' y' z')
  unfolding joint_of joint_begun
  joint_two =
      loops_two (joint_next x y (mean_of x y z) (rd_mean x y z)) (joint_next x' y' (mean_of x' y' z') (rd_mean x' y' z'))
      all_done all_done
      rf_rd_of rf_rd_of rf_rd_of rf_rd_of (Ended k) Inv 50 pass
      (λ j s t l i. same_test j s t i) (λ j s t n l i p. ends j s t n i) (λ s t n i. ends 0 s t n i) 50 false
      (joint_begun x y z) (joint_begun x' y' z') 0 (le_refl 50) (λ p. absurd p)
      (record { rf = rf-share.share_begun x y z x' y' z' gap_x gap_y X Y Z; rd = rd-share.share_begun X Y Z })

-- ---- the value
-- its parts, of either sign or above zero
abbrev part_k : Kind
part_k = record { any = true; zer = true; lo = 2 ^ 600; hi = 2 ^ 1400; g = last binary64 (2 ^ 600); u = 1; d = 0 }

-- x y / z
abbrev quotient_k : Kind
quotient_k = record { any = false; zer = false; lo = 2 ^ 880; hi = 2 ^ 1268; g = last binary64 (2 ^ 880); u = 2; d = 0 }

module _ {k : ℕ} {x y z x' y' z' : Float} (X : Two binary64 k mean_k x x') (Y : Two binary64 k mean_k y y')
    (Z : Two binary64 k mean_k z z') where
  number_two : {f d f' d' : Float} → Two binary64 k result_k f f' → Two binary64 k rd.value_k d d'
      → Two binary64 k value_k (rg_value x y z f d) (rg_value x' y' z' f' d')
  unfolding rg_value mul_k mul_ok div_k div_ok sum_k sum_ok root_k root_ok within lit_ok of_bits
  number_two f d =
      let first = widen_two {B = part_k} (mul_two Z f tt) tt in
      let second = widen_two {B = part_k} (div_two (mul_two (mul_two (sub_two X Z tt) (sub_two Y Z tt) tt) d tt)
      (lit_two three tt) tt) tt in
      let third = widen_two {B = part_k} (root_two (widen_two {B = quotient_k} (div_two (mul_two X Y tt) Z tt) tt) tt) tt in
      widen_two (div_two (sum_two (sub_two first second tt) third tt) (lit_two two tt) tt) tt

no_rf : (x y z d : Float) → rg_value x y z nan d ≡ nan
unfolding rg_value
no_rf x y z d =
    let p = (x ⊖ z) ⊗ (y ⊖ z) ⊗ d ⊘ three in
    let q = root (x ⊗ y ⊘ z) in
    ap (λ a. (a ⊖ p ⊕ q) ⊘ two) (mul_nan binary64 z) ∙ ap (λ a. (a ⊕ q) ⊘ two) (nan_sub binary64 p)
    ∙ ap (λ a. a ⊘ two) (nan_add binary64 q)
    ∙ nan_div binary64 two

no_rd : (x y z f : Float) → rg_value x y z f nan ≡ nan
unfolding rg_value
no_rd x y z f =
    let q = root (x ⊗ y ⊘ z) in
    ap (λ a. (z ⊗ f ⊖ a ⊘ three ⊕ q) ⊘ two) (mul_nan binary64 ((x ⊖ z) ⊗ (y ⊖ z)))
    ∙ ap (λ a. (z ⊗ f ⊖ a ⊕ q) ⊘ two) (nan_div binary64 three)
    ∙ ap (λ a. (a ⊕ q) ⊘ two) (sub_nan binary64 (z ⊗ f)) ∙ ap (λ a. a ⊘ two) (nan_add binary64 q) ∙ nan_div binary64 two

module _ {k : ℕ} {x y z x' y' z' : Float} (X : Two binary64 k mean_k x x') (Y : Two binary64 k mean_k y y')
    (Z : Two binary64 k mean_k z z') where
  value_two : (f d f' d' : Float) → Fair k result_k f f' → Fair k rd.value_k d d'
      → Fair k value_k (rg_value x y z f d) (rg_value x' y' z' f' d')
  value_two f d f' d' (inl e) D =
      inl (ap (λ a. rg_value x y z a d) e.0 ∙ no_rf x y z d, ap (λ a. rg_value x' y' z' a d') e.1 ∙ no_rf x' y' z' d')
  value_two f d f' d' (inr F) (inl e) =
      inl (ap (λ a. rg_value x y z f a) e.0 ∙ no_rd x y z f, ap (λ a. rg_value x' y' z' f' a) e.1 ∙ no_rd x' y' z' f')
  value_two f d f' d' (inr F) (inr D) = inr (number_two X Y Z F D)

  pub rg_joint_two : Same k value_k (rg_joint x y z) (rg_joint x' y' z')
  unfolding rg_joint
  rg_joint_two =
      let r = joint_of x y z in
      let r' = joint_of x' y' z' in
      let e = joint_two X Y Z in
      let v = rg_value x y z r.rf r.rd in
      let w = rg_value x' y' z' r'.rf r'.rd in
      subst (λ n. Same k value_k (joint_at v r.rounds) (joint_at w n)) e.rounds
      (jointly r.rounds (value_two r.rf r.rd r'.rf r'.rd e.rf e.rd))
