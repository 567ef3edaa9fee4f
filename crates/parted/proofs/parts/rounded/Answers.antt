-- `rounded` meets its contract, step by step as its definition. Assumes nothing.
use Rattle.std.proofs.Common.{sym}
use Rattle.parted.specs.Parts.{rounded_of}
use Rattle.parted.proofs.parts.rounded.Goals as goal

pub returns : goal.returns
unfolding rounded_of
returns c =
    rw (sym c.step.ensures) c.wrapping_add_u64.ensures.value
