-- `write_words` meets its contract: it hands out what `write_job` answers. Assumes nothing.
use mathlib.Core.Path.{sym}
use Rattle.worklist.specs.Words.{job_of, written_number, written_place}
use Rattle.worklist.proofs.words.write_words.Goals as goal

pub returns-in-Ok : goal.returns-in-Ok
unfolding job_of written_number written_place
returns-in-Ok c =
    let e = sym c.in-Ok.ensures.value in
    record { number_is = rw e; place_is = rw e; bytes_are = rw e c.in-Ok.ensures.bytes_after }

pub returns-in-Err : goal.returns-in-Err
unfolding job_of written_number written_place
returns-in-Err c =
    let e = sym c.in-Err.ensures.value in
    record { number_is = rw e c.number.ensures; place_is = rw e; bytes_are = rw e c.in-Err.ensures.bytes_after }
