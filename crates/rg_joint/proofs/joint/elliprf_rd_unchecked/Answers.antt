-- `elliprf_rd_unchecked` meets its contract. Assumes nothing.
use Rattle.std.proofs.Common.{◌≡◌, ◌∙◌, refl, sym, arith, false, Float}
use Rattle.carlson.specs.Loop.{capped, left_on, left_over, left_found}
use Rattle.rf_duplicate.specs.Duplicate.{mean_of}
use Rattle.rd_duplicate.specs.Duplicate.{rd_mean}
use Rattle.rg_joint.specs.declared.joint.Joint.{Joint}
use Rattle.rg_joint.specs.Joint.{joint_cap, joint_begun, joint_next, all_done, rf_rd_of, joint_of}
use Rattle.rg_joint.proofs.joint.elliprf_rd_unchecked.Goals as goal

whole : (x y z a b : Float) (s : Joint) → a ≡ mean_of x y z → b ≡ rd_mean x y z → s ≡ joint_begun x y z
    → capped (joint_next x y a b) all_done rf_rd_of rf_rd_of joint_cap false s 0 ≡ joint_of x y z
unfolding joint_of
whole x y z a b s e f g = rw (e, f, g)

pub loop-n-preserved : goal.loop-n-preserved
loop-n-preserved c =
    left_on c.loop-n.invariant refl (omega arith) c.step-at.ensures (sym c.if-all_done.false ∙ c.all_done.ensures)

pub returns-then-all_done : goal.returns-then-all_done
returns-then-all_done c =
    let b = c.args in
    c.result.ensures
    ∙ left_found (left_on c.loop-n.invariant refl (omega arith) c.step-at.ensures c.all_done.ensures) c.if-all_done.true
    ∙ whole b.x b.y b.z _ _ c.begin-at.result c.mean_of-arf.ensures c.mean_of-ard.ensures c.begin-at.ensures

pub returns-after-loop-n : goal.returns-after-loop-n
returns-after-loop-n c =
    let b = c.args in
    c.result-2.ensures
    ∙ left_over c.loop-n.invariant refl (omega arith)
    ∙ whole b.x b.y b.z _ _ c.begin-at.result c.mean_of-arf.ensures c.mean_of-ard.ensures c.begin-at.ensures
