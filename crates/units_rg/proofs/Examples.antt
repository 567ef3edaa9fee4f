-- The claim at given numbers: the premises compute, so a reader sees that they can be met. With both signs of k, zeros with a
-- sign, and a road each through the mean, the joint loop and a special case.
use Rattle.std.specs.Prelude.{refl}
use Rattle.std.proofs.Common.{inl, inr}
use Rattle.std.specs.Float.Ieee.{fits, eq, le, of_bits}
use Rattle.binary64.specs.Leaves.{absolute}
use Rattle.binary64.specs.Operators.{bits}
use Rattle.carlson.specs.Constants.{one, two, half, four}
use Rattle.elliprg.specs.Rg.{rg}
use Rattle.units.specs.Statement.{Alike}
use Rattle.units_rg.proofs.Rg.{rg_scales}

-- RG(1, 1/2, -0) and RG(4, 2, -0): k = 1, the second value is twice the first
pub mean_up : Alike 1 0 (rg one half (bits 0x8000_0000_0000_0000)) (rg four two (bits 0x8000_0000_0000_0000))
unfolding fits eq le of_bits absolute
mean_up =
    rg_scales 1 0
    (record { fit = tt; size = inr (tt, tt) }) (record { fit = tt; size = inr (tt, tt) }) (record { fit = tt; size = inl tt })
    (record { fit = tt; size = inr (tt, tt) }) (record { fit = tt; size = inr (tt, tt) }) (record { fit = tt; size = inl tt })
    (record { finite_first = tt; finite_second = tt; signs = refl; sizes = refl })
    (record { finite_first = tt; finite_second = tt; signs = refl; sizes = refl })
    (record { finite_first = tt; finite_second = tt; signs = refl; sizes = refl })

-- RG(4, 2, 2 ^ 64) and RG(1, 1/2, 2 ^ 62): k = -1, the second value is half the first
pub joint_down : Alike 0 1 (rg four two (bits 0x43F0_0000_0000_0000)) (rg one half (bits 0x43D0_0000_0000_0000))
unfolding fits eq le of_bits absolute
joint_down =
    rg_scales 0 1
    (record { fit = tt; size = inr (tt, tt) }) (record { fit = tt; size = inr (tt, tt) })
    (record { fit = tt; size = inr (tt, tt) })
    (record { fit = tt; size = inr (tt, tt) }) (record { fit = tt; size = inr (tt, tt) })
    (record { fit = tt; size = inr (tt, tt) })
    (record { finite_first = tt; finite_second = tt; signs = refl; sizes = refl })
    (record { finite_first = tt; finite_second = tt; signs = refl; sizes = refl })
    (record { finite_first = tt; finite_second = tt; signs = refl; sizes = refl })

-- RG(-0, 0, -0): k = 1, and both answers are the same zero
pub zeros_stay : Alike 1 0 (rg (bits 0x8000_0000_0000_0000) (bits 0) (bits 0x8000_0000_0000_0000))
    (rg (bits 0x8000_0000_0000_0000) (bits 0) (bits 0x8000_0000_0000_0000))
unfolding fits eq le of_bits absolute
zeros_stay =
    rg_scales 1 0
    (record { fit = tt; size = inl tt }) (record { fit = tt; size = inl tt }) (record { fit = tt; size = inl tt })
    (record { fit = tt; size = inl tt }) (record { fit = tt; size = inl tt }) (record { fit = tt; size = inl tt })
    (record { finite_first = tt; finite_second = tt; signs = refl; sizes = refl })
    (record { finite_first = tt; finite_second = tt; signs = refl; sizes = refl })
    (record { finite_first = tt; finite_second = tt; signs = refl; sizes = refl })
