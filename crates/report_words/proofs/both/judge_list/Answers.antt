-- `judge_list` meets its contract, case by case as its definition. Assumes nothing.
use mathlib.Core.Path.{sym, ◌∙◌}
use Rattle.std.proofs.lemmas.Result.{err_from_is_err_and}
use Rattle.report_words.specs.Room.{list_judged}
use Rattle.report_words.proofs.both.judge_list.Goals as goal

pub returns-in_err-calls : goal.returns-in_err-calls
unfolding list_judged
returns-in_err-calls c =
    let p = err_from_is_err_and c.from_residual.result c.from_residual.ensures.1 in rw (p.1, p.2, c.in_err-calls.was)

pub returns-then-room_for : goal.returns-then-room_for
unfolding list_judged
returns-then-room_for c = rw (c.in_ok-calls.was, sym c.room_for.ensures ∙ c.if-room_for.true)

pub returns : goal.returns
unfolding list_judged
returns c = rw (c.in_ok-calls.was, sym c.room_for.ensures ∙ c.if-room_for.false)
