-- `settled` meets its contract, case by case: what was found, put together of its fields, is the same. Assumes nothing.
use mathlib.Core.Path.{sym, ◌∙◌}
use Rattle.std.proofs.lemmas.Result.{err_from_is_err_and}
use borrow.Author.Rules.{rules}
use Rattle.carlson.proofs.AnswerLaws.{handed_itself}
use Rattle.elliprd.specs.Rd.{rd_settled}
use Rattle.elliprd.proofs.settled.Goals as goal

pub returns : goal.returns
unfolding rd_settled
returns c =
    rw (c.in_ok-found.was, sym (c.handed.ensures ∙ handed_itself _)) c.settle_late.ensures

pub returns-in_err-found : goal.returns-in_err-found
unfolding rd_settled
returns-in_err-found c =
    let p = err_from_is_err_and c.from_residual.result c.from_residual.ensures.1 in rw (c.in_err-found.was, p.1, p.2)
