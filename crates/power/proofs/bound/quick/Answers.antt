-- `power::bound::quick` meets its contract: the digits are moved up, and none is lost. Assumes nothing.
use Rattle.std.proofs.Common.{◌-◌, ◌/◌, ◌^◌, refl}
use Rattle.power.proofs.OneWord.{raised}
use Rattle.power.proofs.bound.quick.Goals as goal

pub returns : goal.returns
returns c =
    let a = c.args in c.bound.ensures a.n a.d (11 - a.n / 2 ^ 53)
    (raised a.n c.requires.0) refl refl
