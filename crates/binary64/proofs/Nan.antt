-- The NaN that code makes. Assumes nothing.
use mathlib.Core.Path.{◌≡◌, sym}
use lib.Ieee.{Float, nan, binary64, div, of_bits}

pub zero_by_zero : {x : Float} → x ≡ nan → div binary64 (of_bits binary64 0) (of_bits binary64 0) ≡ x
unfolding div of_bits
zero_by_zero e = sym e
