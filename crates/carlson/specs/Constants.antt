-- The constants of the Rust and of document 01 by their bits. (Those that are what a formula says are in the crate `derived`.)
-- Definitions only.
use Rattle.std.specs.Prelude.{ℕ, Float}
use Rattle.binary64.specs.Operators.{bits}

abbrev pub zero : Float
zero = bits 0

abbrev pub one : Float
one = bits 0x3FF0_0000_0000_0000

abbrev pub two : Float
two = bits 0x4000_0000_0000_0000

abbrev pub three : Float
three = bits 0x4008_0000_0000_0000

abbrev pub four : Float
four = bits 0x4010_0000_0000_0000

abbrev pub half : Float
half = bits 0x3FE0_0000_0000_0000

-- by its bits: 3.141592653589793
abbrev pub pi : Float
pi = bits 0x4009_21FB_5444_2D18

-- by its bits: 1.5707963267948966
abbrev pub half_pi : Float
half_pi = bits 0x3FF9_21FB_5444_2D18

-- 2 ^ -52
abbrev pub epsilon : Float
epsilon = bits 0x3CB0_0000_0000_0000

abbrev pub infinity : Float
infinity = bits 0x7FF0_0000_0000_0000
