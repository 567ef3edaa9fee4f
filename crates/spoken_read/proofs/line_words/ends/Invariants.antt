-- What stays so in the loop.
use Rattle.std.proofs.Common.{◌≡◌, ◌+◌, drop}
use Rattle.spoken_read.specs.Words.{letters, ends_at}
use Rattle.spoken_read.proofs.line_words.ends.Given as goal

abbrev pub invariant-loop-i : goal.invariant-loop-i
invariant-loop-i l = l.i + letters (drop l.i l.line) ≡ ends_at l.line l.at
