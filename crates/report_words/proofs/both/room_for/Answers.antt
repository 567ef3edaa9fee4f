-- `room_for` meets its contract, by `RoomSteps`. Assumes nothing.
use mathlib.Core.Path.{sym, ◌∙◌}
use Rattle.report_words.proofs.RoomSteps.{for_list, over_list}
use Rattle.report_words.proofs.both.room_for.Goals as goal

pub returns-in-Some : goal.returns-in-Some
returns-in-Some c = for_list _ _ _ (sym c.room_after.ensures ∙ c.in-Some.is)

pub returns-in-None : goal.returns-in-None
returns-in-None c = over_list _ _ (sym c.room_after.ensures ∙ c.in-None.is)
