-- What stays so in the loop: what is left of it gives what the whole loop gives.
use Rattle.std.proofs.Common.{false}
use Rattle.carlson.specs.Loop.{Left}
use Rattle.rj_positive.specs.Duplicate.{rj_cap, rj_step, rj_close, rj_found, rj_spent}
use Rattle.rj_positive.proofs.duplicate.duplicated.Given as goal

abbrev pub invariant-loop-n : goal.invariant-loop-n
invariant-loop-n l =
    Left rj_step (rj_close l.q) (rj_found l.x l.y l.z l.a0) rj_spent rj_cap false l.initial.at false l.at l.n
