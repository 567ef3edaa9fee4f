-- The allowance falls.
use Rattle.rj_calls.proofs.+call.Given as goal

abbrev pub decreases-call : goal.decreases-call
decreases-call l = l.left
