-- The terms that are left, taken onto the sum, give Horner's rule whole.
use Rattle.std.proofs.Common.{◌≡◌}
use Rattle.polynomial.specs.Polynomial.{down, horner}
use Rattle.polynomial.proofs.polynomial.Given as goal

abbrev pub invariant-loop-k : goal.invariant-loop-k
invariant-loop-k l = down l.y l.k l.sum ≡ horner l.y
