-- A size in whole units, and which part of one more is left. Definitions only.
use Rattle.std.specs.Prelude.{ℕ, ◌+◌, ◌*◌, ◌/◌, ◌%◌, ◌^◌, Bool, cond, ◌&&◌, ◌==◌, nat_le, nat_lt, to_bits, Float}
use Prim.Native.Nat.{compare, Ordering}
use Rattle.std.specs.Float.{binary64}
use Rattle.std.specs.Float.Ieee.Positive.{num, den}
use Rattle.parted.specs.declared.parts.Parts.{Parts}

-- less than the half, the half, or more
abbrev pub side_of : Ordering → ℕ
side_of Ordering.lt = 1
side_of Ordering.eq = 2
side_of Ordering.gt = 3

-- which part of d the rest r is; 0 where it is nothing
unfoldable pub part_of : ℕ → ℕ → ℕ
part_of r d = cond (r == 0) 0 (side_of (compare (r * 2) d))

-- the fraction n / d
unfoldable pub parts_of : ℕ → ℕ → Parts
parts_of n d = record { whole = n / d; part = part_of (n % d) d }

abbrev pub no_parts : Parts
no_parts = record { whole = 0; part = 0 }

-- the values below 2 ^ 20, and the units that they are taken in: 1 is made up of 1 to 10 ^ 12 of them
unfoldable pub measured : Float → ℕ → Bool
measured x unit = nat_lt (to_bits binary64 x % 2 ^ 63) (1043 * 2 ^ 52) && (nat_le 1 unit && nat_le unit 1000000000000)

-- the size of an f64, the fraction that it is, in such units
unfoldable pub parted_of : Float → ℕ → Parts
parted_of x unit = cond (measured x unit) (parts_of (num x * unit) (den x)) no_parts

-- of a pattern so small that nothing but itself is left
unfoldable pub tiny_of : ℕ → Parts
tiny_of size = cond (size == 0) no_parts (record { whole = 0; part = 1 })

-- ---- rounded half to even, in a word
unfoldable pub step_of : Parts → ℕ
step_of p = cond (nat_lt p.part 2) 0 (cond (p.part == 2) (p.whole % 2) 1)

unfoldable pub rounded_of : Parts → ℕ
rounded_of p = (p.whole + step_of p) % 2 ^ 64
