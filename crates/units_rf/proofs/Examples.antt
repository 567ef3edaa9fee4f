-- The claims at given numbers: the premises compute, so a reader sees that they can be met. With both signs of k, a zero with a
-- sign, and a y below zero.
use Rattle.std.specs.Prelude.{refl}
use Rattle.std.proofs.Common.{inl, inr}
use Rattle.std.specs.Float.Ieee.{fits, eq, le, of_bits}
use Rattle.binary64.specs.Leaves.{absolute}
use Rattle.binary64.specs.Operators.{bits}
use Rattle.carlson.specs.Constants.{one, half, four}
use Rattle.elliprc.specs.Rc.{rc}
use Rattle.elliprf.specs.Rf.{rf}
use Rattle.units.specs.Statement.{Alike}
use Rattle.units_rf.proofs.Rc.{rc_scales}
use Rattle.units_rf.proofs.Rf.{rf_scales}

-- RF(1, 1/2, -0) and RF(4, 2, -0): k = 1, the second value is half the first
pub rf_up : Alike 0 1 (rf one half (bits 0x8000_0000_0000_0000))
    (rf four (bits 0x4000_0000_0000_0000) (bits 0x8000_0000_0000_0000))
unfolding fits eq le of_bits absolute
rf_up =
    rf_scales 1 0 _ _ _ _ _ _
    (record { fit = tt; size = inr (tt, tt) }) (record { fit = tt; size = inr (tt, tt) }) (record { fit = tt; size = inl tt })
    (record { fit = tt; size = inr (tt, tt) }) (record { fit = tt; size = inr (tt, tt) }) (record { fit = tt; size = inl tt })
    (record { finite_first = tt; finite_second = tt; signs = refl; sizes = refl })
    (record { finite_first = tt; finite_second = tt; signs = refl; sizes = refl })
    (record { finite_first = tt; finite_second = tt; signs = refl; sizes = refl })

-- RC(4, -2 ^ 64) and RC(1, -2 ^ 62): k = -1, the second value is twice the first
pub rc_down : Alike 1 0 (rc four (bits 0xC3F0_0000_0000_0000)) (rc one (bits 0xC3D0_0000_0000_0000))
unfolding fits eq le of_bits absolute
rc_down =
    rc_scales 0 1 _ _ _ _
    (record { fit = tt; size = inr (tt, tt) }) (record { fit = tt; size = inr (tt, tt) })
    (record { fit = tt; size = inr (tt, tt) }) (record { fit = tt; size = inr (tt, tt) })
    (record { finite_first = tt; finite_second = tt; signs = refl; sizes = refl })
    (record { finite_first = tt; finite_second = tt; signs = refl; sizes = refl })
