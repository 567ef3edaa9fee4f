-- `start` meets its contract. Assumes nothing.
use mathlib.Core.Path.{refl}
use Rattle.swing_read.specs.Reading.{start_of}
use Rattle.swing_read.proofs.start.Goals as goal

pub returns : goal.returns
unfolding start_of
returns c =
    refl
