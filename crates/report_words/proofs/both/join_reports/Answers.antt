-- `join_reports` meets its contract, by `RoomSteps`. Assumes nothing.
use mathlib.Core.Path.{sym, ◌∙◌}
use Rattle.report_words.proofs.RoomSteps.{join_done, join_words, join_many, join_same}
use Rattle.report_words.proofs.both.join_reports.Goals as goal

pub returns-then-room_both : goal.returns-then-room_both
returns-then-room_both c =
    let e = sym c.room_both.ensures ∙ c.if-room_both.true in
    record { value = join_done _ _ e; report_after = c.join_words.ensures ∙ join_words _ _ e }

pub returns : goal.returns
returns c =
    let e = sym c.room_both.ensures ∙ c.if-room_both.false in
    record { value = join_many _ _ e; report_after = join_same _ _ e }
