-- What the test of a range tells, and that it is the range's own. Assumes nothing.
use Rattle.std.specs.Prelude.{ℕ, ◌≤◌, ◌≡◌, true, ◌&&◌, T, leb}
use Rattle.std.proofs.Common.{sym, subst, leb→le, le→leb}
use Rattle.std.specs.Float.Ieee.Bits.{is_true}
use Rattle.std.specs.Float.Ieee.Fits.{and_l, and_r, and_i}
use Rattle.swing.specs.Period.{within}
use Rattle.swing.specs.Ranges.{From1}

pub in_within : (n most : ℕ) → within n most ≡ true → From1 n most
unfolding within
in_within n most e =
    let t : T (leb 1 n && leb n most) = subst T (sym e) tt in
    record { least = leb→le 1 n (and_l (leb 1 n) (leb n most) t); largest = leb→le n most (and_r (leb 1 n) (leb n most) t) }

pub within_from : (n most : ℕ) → From1 n most → within n most ≡ true
unfolding within
within_from n most r = is_true (leb 1 n && leb n most)
    (and_i (leb 1 n) (leb n most) (le→leb 1 n r.least) (le→leb n most r.largest))
