-- The square root of an f64: the exact root, rounded once (document 01, "What the leaves mean"). Definitions only.
use Rattle.std.specs.Prelude.{ℕ, zero, suc, ◌*◌, false, cond, Float}
use Prim.Native.Nat.{compare}
use Rattle.std.specs.Float.{nan, inf, fin}
use Rattle.std.specs.Float.Ieee.{up, down}
use Rattle.rounding.specs.Cut.{Cut, rounded}

-- √(p / q): a / b lies to it as a² / b² lies to p / q
abbrev pub root_of : ℕ → ℕ → Cut
root_of p q a b = compare (a * a * q) (p * (b * b))

-- m * 2 ^ e is the fraction m * up e / down e. A zero keeps its sign, and a number below zero has no root.
unfoldable pub root : Float → Float
root nan = nan
root (inf s) = cond s nan (inf false)
root (fin s zero e) = fin s zero e
root (fin s (suc m) e) = cond s nan (rounded (root_of (suc m * up e) (down e)))
