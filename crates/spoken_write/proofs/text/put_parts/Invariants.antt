-- What stays so in the loop.
use Rattle.phrases.specs.Runs.{Ran}
use Rattle.spoken_parts.specs.Parts.{part_text, part_room, part_of}
use Rattle.spoken_write.proofs.text.put_parts.Given as goal

abbrev pub invariant-loop-i : goal.invariant-loop-i
invariant-loop-i l = Ran part_text part_room (part_of l.said l.form) l.initial.out l.at l.i l.out l.next
