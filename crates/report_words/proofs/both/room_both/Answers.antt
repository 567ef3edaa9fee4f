-- `room_both` meets its contract, by `RoomSteps`. Assumes nothing.
use mathlib.Core.Path.{sym, ap, ◌∙◌}
use Rattle.std.specs.Option.{is_some}
use Rattle.report_words.proofs.RoomSteps.{both_left, both_over}
use Rattle.report_words.proofs.both.room_both.Goals as goal

pub returns-in-Some : goal.returns-in-Some
returns-in-Some c =
    c.is_some.ensures ∙ ap is_some c.room_after-in-Some.ensures ∙ both_left _ _ _ (sym c.room_after.ensures ∙ c.in-Some.is)

pub returns-in-None : goal.returns-in-None
returns-in-None c = both_over _ _ (sym c.room_after.ensures ∙ c.in-None.is)
