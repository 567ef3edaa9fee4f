-- What the test of a range tells, and that it is the range's own. Assumes nothing.
use Rattle.std.specs.Prelude.{ℕ, ◌≤◌, ◌≡◌, true, ◌&&◌, T, leb}
use Rattle.std.proofs.Common.{sym, subst, leb→le, le→leb}
use Rattle.std.specs.Float.Ieee.Bits.{is_true}
use Rattle.std.specs.Float.Ieee.Fits.{and_l, and_r, and_i}
use Rattle.swing.specs.Period.{within}

pub record From1 (n most : ℕ) : Type 0 where
  pub least : 1 ≤ n
  pub largest : n ≤ most
