-- `read_all` meets its contract. The invariant: what is left of the line, after the numbers so far, gives what all of it gives.
-- Assumes nothing.
use Rattle.std.proofs.Common.{sym, ap, ◌∙◌, Err}
use Rattle.spoken_read.specs.Numbers.{taken_of}
use Rattle.spoken_read.specs.NumberLaws.{taken_number, taken_none, taken_all}
use Rattle.spoken_read.proofs.numbers.read_all.Goals as goal

pub loop-at-init : goal.loop-at-init
unfolding taken_of
loop-at-init c =
    (rw c.begins-at.ensures.0, c.begins-at.ensures.2)

pub returns-in-Err : goal.returns-in-Err
returns-in-Err c =
    let l = c.args.line.now in
    ap Err c.told.ensures
    ∙ sym (taken_none l c.loop-at.at c.ends-end.result c.loop-at.so c.loop-at-test.true c.ends-end.ensures.0
    c.read.ensures c.in-Err.is)
    ∙ c.loop-at.invariant.0

pub loop-at-preserved : goal.loop-at-preserved
loop-at-preserved c =
    let l = c.args.line.now in (
      rw (c.begins-at-in-loop-at.ensures.0, c.with-so.ensures, c.split.ensures)
          (sym (taken_number l c.loop-at.at c.ends-end.result c.loop-at.so c.loop-at-test.true c.ends-end.ensures.0
          c.read.ensures c.in-Ok.is) ∙ c.loop-at.invariant.0),
      c.begins-at-in-loop-at.ensures.2,
    )

pub returns : goal.returns
returns c =
    let l = c.args.line.now in
    sym (taken_all l c.loop-at.at c.loop-at.so c.loop-at-test.false) ∙ c.loop-at.invariant.0
