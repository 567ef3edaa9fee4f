-- `place` meets its contract. Assumes nothing.
use Rattle.std.proofs.Common.{sym}
use Rattle.spoken_read.specs.Numbers.{place_of}
use Rattle.spoken_read.proofs.numbers.place.Goals as goal

pub returns : goal.returns
unfolding place_of
returns c =
    rw (sym c.wrapping_add_u64.ensures.value) c.wrapping_add_u64-2.ensures.value
