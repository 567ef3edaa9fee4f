-- What stays so in the loop.
use Rattle.std.proofs.Common.{◌≤◌, ◌≡◌, false, length, take}
use Rattle.listing_write.specs.Text.{longest_reply}
use Rattle.listing_stream.specs.Stream.{listing_byte, held_length}
use Rattle.writing.specs.FedLaws.{Upto}
use Rattle.listing_stream.proofs.stream.feed_all.Given as goal

abbrev pub invariant-loop-i : goal.invariant-loop-i
invariant-loop-i l =
    (l.n ≤ held_length) × (length l.held ≡ held_length)
    × Upto (listing_byte l.profile) (λ s. false) longest_reply 0 l.block (take l.held_before l.initial.held) l.initial.out l.i (take l.n l.held) l.out l.used 0
