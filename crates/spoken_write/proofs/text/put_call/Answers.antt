-- `put_call` meets its contract, as the flag says. Assumes nothing.
use Rattle.writing.specs.Written.{put_none}
use Rattle.spoken_write.proofs.text.put_call.Goals as goal

pub put_given-requires : goal.put_given-requires
put_given-requires c =
    c.requires

pub returns-then-table : goal.returns-then-table
returns-then-table c =
    rw c.if-table.true c.put_given.ensures

pub returns : goal.returns
returns c =
    rw c.if-table.false (put_none _ _)
