-- An exact polynomial whose coefficients are at most 1 is at most 2 up to 1/2, and there it rises by at most 4 times what its
-- argument rises: from z to y ≤ z + b, y (e + 4b) = y e + 4 y b ≤ z e + b e + 2b with e ≤ 2. Assumes nothing.
use Prim.Native.Nat.{ℕ, zero, suc}
use Rattle.std.specs.Prelude.{[], ◌∷◌}
use Rattle.std.proofs.Math.Nat.{le_of_mul-le-mul_right}
use native.Mathlib.Omega.{arith}
use Rattle.algebra.specs.Ring.{con, ◌:+◌, ◌:*◌, ◌≈◌, ◌⊩◌, ◌times◌≼◌, Order}
use Rattle.algebra.proofs.Ring.{by_below}
use Rattle.enclosure.specs.Quotient.{Quotient, ◌≼◌, whole, over, ◌⊞◌, ◌⊠◌}
use Rattle.enclosure.specs.Order.{≼_refl, ≼_trans, ⊞-mono, ⊠-mono, ⊞-over}
use Rattle.enclosure.specs.Expansion.{exact}

abbrev pub half : Quotient
half = over 1 1
