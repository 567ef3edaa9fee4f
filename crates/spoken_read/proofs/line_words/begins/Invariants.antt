-- What stays so in the loop.
use Rattle.std.proofs.Common.{◌≡◌}
use Rattle.spoken_read.specs.Words.{begins_at}
use Rattle.spoken_read.proofs.line_words.begins.Given as goal

abbrev pub invariant-loop-i : goal.invariant-loop-i
invariant-loop-i l = begins_at l.line l.i ≡ begins_at l.line l.at
