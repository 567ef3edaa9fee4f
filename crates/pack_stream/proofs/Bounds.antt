-- What one byte leads to is one job at most. Assumes nothing.
use Rattle.std.proofs.Common.{Option, Some, None}
use Prim.Native.Nat.{ℕ}
use mathlib.Core.Bool.{Bool, true, false, cond}
use mathlib.Core.List.{[], ◌∷◌, ◌++◌}
use native.Mathlib.Omega.{arith}
use lib.Dec.{eqb}
use lib.ListN.{take}
use Rattle.calls.specs.declared.Call.{Call}
use Rattle.listing_read.specs.Lines.{call_of}
use Rattle.packed.specs.Jobs.{job_length}
use Rattle.packed.specs.LengthLaws.{job_most}
use Rattle.writing.specs.Fed.{quiet}
use Rattle.writing.specs.FedLaws.{Short}
use Rattle.pack_stream.specs.Pack.{job_of, Held, holding, line_end, held_length, pack_byte, job_room}

pub line_short : (r : Option Call) → Short job_room 1 (line_end r)
unfolding line_end job_length
line_short (Some c) = (job_most (job_of c), omega arith)
line_short None = (omega arith, omega arith)

pub byte_short : (h : Held) (b : ℕ) → Short job_room 1 (pack_byte h b)
unfolding pack_byte
byte_short h b = go (eqb b 10)
  where
    go : (t : Bool)
        → Short job_room 1 (cond t (line_end (call_of h.rest)) (quiet (holding (take held_length (h.rest ++ b ∷ [])))))
    go true = line_short (call_of h.rest)
    go false = (omega arith, omega arith)
