-- RG's joint loop begins at most its cap's rounds (document 02, 2026-12). Assumes nothing.
use Rattle.std.specs.Prelude.{refl, false, Float}
use Rattle.carlson.specs.Answer.{joint_at}
use Rattle.carlson.specs.Loop.{capped_count}
use Rattle.carlson.specs.Ways.{Within}
use Rattle.carlson.proofs.Ways.{counted}
use Rattle.rf_duplicate.specs.Duplicate.{mean_of}
use Rattle.rd_duplicate.specs.Duplicate.{rd_mean}
use Rattle.rg_joint.specs.declared.joint.RfRd.{RfRd}
use Rattle.rg_joint.specs.Joint.{joint_next, joint_begun, all_done, rf_rd_of, joint_cap, joint_of, rg_joint}

pub joint_within : (x y z : Float) → Within joint_cap 0 (rg_joint x y z).way
unfolding rg_joint joint_at joint_of rf_rd_of
joint_within x y z =
    counted _
    (capped_count (joint_next x y (mean_of x y z) (rd_mean x y z)) all_done rf_rd_of rf_rd_of (λ (r : RfRd). r.rounds) joint_cap
    (λ s n. refl) (λ s n. refl) false (joint_begun x y z))
