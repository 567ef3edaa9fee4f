-- What stays so in the loop: what is left of it gives what the whole loop gives.
use Rattle.std.proofs.Common.{false}
use Rattle.carlson.specs.Loop.{Left}
use Rattle.rd_duplicate.specs.Duplicate.{rd_cap, rd_step, rd_close, rd_found, rd_spent}
use Rattle.rd_duplicate.proofs.duplicate.duplicated.Given as goal

abbrev pub invariant-loop-n : goal.invariant-loop-n
invariant-loop-n l = Left rd_step rd_close (rd_found l.x l.y l.a0) rd_spent rd_cap false l.initial.at false l.at l.n
