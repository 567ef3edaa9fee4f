-- `carried` meets its contract, step by step as its definition. Assumes nothing.
use borrow.Author.Rules.{rules}
use mathlib.Core.Path.{sym}
use Rattle.rj_negative.specs.Reduction.{wrapped_answer}
use Rattle.rj_negative.proofs.reduction.carried.Goals as goal

pub returns-in-Ok : goal.returns-in-Ok
unfolding wrapped_answer
returns-in-Ok c =
    rw (
      c.in-Ok.is,
      sym c.elliprf_unchecked.ensures,
      sym c.rc_of.ensures,
      sym c.together.ensures,
    )

pub returns-in-Err : goal.returns-in-Err
unfolding wrapped_answer
returns-in-Err c =
    rw c.in-Err.is
