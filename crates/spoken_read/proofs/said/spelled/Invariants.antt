-- What stays so in the loop.
use Rattle.std.proofs.Common.{◌≡◌, drop}
use Rattle.spoken_read.specs.Lines.{spelled_from}
use Rattle.spoken_read.proofs.said.spelled.Given as goal

abbrev pub invariant-loop-b : goal.invariant-loop-b
invariant-loop-b l = spelled_from l.n (drop l.b-index l.word) ≡ spelled_from 1 l.word
