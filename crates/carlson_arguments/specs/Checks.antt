-- The tests on arguments (document 01, "Numbers for no"; the Rust's check! and case!). Definitions only.
use Rattle.std.specs.Prelude.{Bool, ◌&&◌, ◌||◌, Float}
use Rattle.std.specs.Float.Ieee.{lt, eq, is_nan}
use Rattle.binary64.specs.Leaves.{absolute, minimum}
use Rattle.carlson.specs.Constants.{zero, infinity}

-- 1: an argument is NaN
abbrev pub any_nan2 : Float → Float → Bool
any_nan2 x y = is_nan x || is_nan y

abbrev pub any_nan3 : Float → Float → Float → Bool
any_nan3 x y z = any_nan2 x y || is_nan z

abbrev pub any_nan4 : Float → Float → Float → Float → Bool
any_nan4 x y z p = any_nan3 x y z || is_nan p

-- +infinity among the arguments
abbrev pub any_infinite2 : Float → Float → Bool
any_infinite2 x y = eq x infinity || eq y infinity

abbrev pub any_infinite3 : Float → Float → Float → Bool
any_infinite3 x y z = any_infinite2 x y || eq z infinity

-- RJ's, whose p may be infinite with either sign (document 02, 2026-07)
abbrev pub any_infinite4 : Float → Float → Float → Float → Bool
any_infinite4 x y z p = any_infinite3 x y z || eq (absolute p) infinity

-- 2: an argument is below zero. The minimum passes over a NaN.
abbrev pub below3 : Float → Float → Float → Bool
below3 x y z = lt (minimum (minimum x y) z) zero

-- 3: more than one argument is zero, of either sign
abbrev pub zeros_of3 : Float → Float → Float → Bool
zeros_of3 x y z = (eq x zero && eq y zero) || ((eq x zero || eq y zero) && eq z zero)
