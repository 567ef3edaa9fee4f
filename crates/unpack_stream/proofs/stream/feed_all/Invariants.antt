-- What stays so in the loop, and what goes down.
use Prim.Native.Nat.{ℕ, ◌-◌, ◌≤◌}
use mathlib.Core.Path.{◌≡◌}
use mathlib.Core.Bool.{false}
use mathlib.Core.List.{List}
use lib.ListN.{length, take}
use Rattle.std.specs.Option.{is_some}
use Rattle.writing.specs.FedLaws.{Upto}
use Rattle.unpack_stream.specs.Text.{line_room}
use Rattle.unpack_stream.specs.Unpack.{ended, holding, unpack_byte, held_length, state_of}
use Rattle.unpack_stream.specs.declared.stream.Progress.{Progress}
use Rattle.unpack_stream.proofs.stream.feed_all.Given as goal

-- the first i bytes were fed, from what was held, and brought it there
abbrev pub Fed-to : List ℕ → List ℕ → List ℕ → ℕ → List ℕ → List ℕ → Progress → Type 0
Fed-to bytes held out₀ i after out all =
    Upto unpack_byte ended line_room held_length bytes (holding held) out₀ i (state_of after all) out all.used
    all.taken

abbrev pub invariant-loop-i : goal.invariant-loop-i
invariant-loop-i l =
    (l.i ≤ length l.bytes) × (l.all.held ≤ held_length) × (length l.held ≡ held_length) × (is_some l.all.stop ≡ false)
    × Fed-to l.bytes (take l.n l.initial.held) l.initial.out l.i l.held l.out l.all

abbrev pub decreases-loop-i : goal.decreases-loop-i
decreases-loop-i l =
    length l.bytes - l.i
