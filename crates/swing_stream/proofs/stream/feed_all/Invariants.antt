-- What stays so in the loop: what was fed so far is the beginning.
use Rattle.std.specs.Prelude.{false}
use Rattle.writing.specs.FedLaws.{Upto}
use Rattle.swing_write.specs.Replies.{longest_swing}
use Rattle.swing_stream.specs.Stream.{swing_byte}
use Rattle.swing_stream.proofs.stream.feed_all.Given as goal

abbrev pub invariant-loop-b : goal.invariant-loop-b
invariant-loop-b l =
    Upto swing_byte (λ s. false) longest_swing 0 l.part l.initial.state l.initial.out l.b-index l.state l.out l.used 0
