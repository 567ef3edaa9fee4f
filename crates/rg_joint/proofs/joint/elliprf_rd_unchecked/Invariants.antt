-- What stays so in the loop: what is left of it gives what the whole loop gives.
use Rattle.std.proofs.Common.{false}
use Rattle.carlson.specs.Loop.{Left}
use Rattle.rg_joint.specs.Joint.{joint_cap, joint_next, all_done, rf_rd_of}
use Rattle.rg_joint.proofs.joint.elliprf_rd_unchecked.Given as goal

abbrev pub invariant-loop-n : goal.invariant-loop-n
invariant-loop-n l =
    Left (joint_next l.x l.y l.arf l.ard) all_done rf_rd_of rf_rd_of joint_cap false l.initial.at false l.at l.n
