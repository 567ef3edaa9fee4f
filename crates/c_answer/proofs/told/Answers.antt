-- `told` meets its contract, case by case. Assumes nothing.
use borrow.Author.Rules.{rules}
use Rattle.c_answer.specs.Told.{number_of, value_after, rounds_after, road_after, rescalings_after}
use Rattle.c_answer.proofs.told.Goals as goal

pub returns-in-Ok : goal.returns-in-Ok
unfolding number_of value_after rounds_after road_after rescalings_after
returns-in-Ok c =
    let e = c.in-Ok.is in record { value = rw e; value_after = rw e; rounds_after = rw e; road_after = rw e c.number.ensures; rescalings_after = rw e }

pub returns-in-Err : goal.returns-in-Err
unfolding number_of value_after rounds_after road_after rescalings_after
returns-in-Err c =
    let e = c.in-Err.is in record { value = rw e c.number-in-Err.ensures; value_after = rw e; rounds_after = rw e; road_after = rw e; rescalings_after = rw e }
