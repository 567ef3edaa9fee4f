-- The kinds of an entry's arguments, in units of 2 ^ -1074.
use Rattle.std.specs.Prelude.{◌^◌, true, false}
use Rattle.std.specs.Float.{binary64}
use Rattle.scaling.specs.Kind.{Kind, last}

-- an argument: of either sign, zero or of size from 2 ^ -64 to 2 ^ 64, and multiplied by 4 ^ k
abbrev pub argument_k : Kind
argument_k = record { any = true; zer = true; lo = 2 ^ 1010; hi = 2 ^ 1138; g = last binary64 (2 ^ 1010); u = 2; d = 0 }

-- one above zero
abbrev pub mean_k : Kind
mean_k = record { any = false; zer = false; lo = 2 ^ 1010; hi = 2 ^ 1138; g = last binary64 (2 ^ 1010); u = 2; d = 0 }
