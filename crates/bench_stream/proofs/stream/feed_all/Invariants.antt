-- What stays so in the loop: what was fed so far is the beginning, and the name that is held is none too long.
use Rattle.std.specs.Prelude.{◌≡◌, ◌≤◌, false, length, take}
use Rattle.writing.specs.FedLaws.{Upto}
use Rattle.bench_write.specs.Texts.{longest_reply}
use Rattle.bench_stream.specs.Lines.{under, bench_byte, held_length}
use Rattle.bench_stream.proofs.stream.feed_all.Given as goal

abbrev pub invariant-loop-b : goal.invariant-loop-b
invariant-loop-b l =
    (l.n ≤ held_length) × (length l.held ≡ held_length)
    × Upto bench_byte (λ s. false) longest_reply 0 l.part (under l.initial.state (take l.held_before l.initial.held)) l.initial.out
    l.b-index (under l.state (take l.n l.held)) l.out l.used 0
