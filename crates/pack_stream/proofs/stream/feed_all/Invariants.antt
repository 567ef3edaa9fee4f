-- What stays so in the loop.
use Prim.Native.Nat.{ℕ, ◌≤◌}
use mathlib.Core.Path.{◌≡◌}
use mathlib.Core.Bool.{false}
use mathlib.Core.List.{List}
use lib.ListN.{length, take}
use Rattle.writing.specs.FedLaws.{Upto}
use Rattle.pack_stream.specs.Pack.{holding, pack_byte, held_length, job_room, state_of}
use Rattle.pack_stream.specs.declared.stream.Progress.{Progress}
use Rattle.pack_stream.proofs.stream.feed_all.Given as goal

-- the block's first i bytes were fed, from what was held, and brought it there
abbrev pub Fed-to : List ℕ → List ℕ → List ℕ → ℕ → List ℕ → List ℕ → Progress → Type 0
Fed-to block held out₀ i after out all =
    Upto pack_byte (λ h. h.bad) job_room 1 block (holding held) out₀ i (state_of after all) out all.used
    all.lines

abbrev pub invariant-loop-i : goal.invariant-loop-i
invariant-loop-i l =
    (l.all.held ≤ held_length) × (length l.held ≡ held_length) × (l.all.bad ≡ false)
    × Fed-to l.block (take l.n l.initial.held) l.initial.out l.i l.held l.out l.all
