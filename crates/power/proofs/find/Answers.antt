-- `power::find` meets its contract: `positive` has the power of a finite number above zero, and `Special` has the rest. Assumes
-- nothing.
use Rattle.std.proofs.Common.{T, sym, ap, ◌∙◌, subst, arith}
use lib.Ieee.{binary64, fits, div, of_bits}
use lib.Ieee.Bits.{of_bits-to_bits}
use Rattle.rounding.specs.Cut.{infinity}
use Rattle.binary64.specs.Tests.{bits_pos, bits_number}
use Rattle.power.specs.Power.{power}
use Rattle.power.proofs.Special.{power_of_infinity, power_of_zero, power_of_rest}
use Rattle.power.proofs.find.Goals as goal
use Rattle.power.proofs.find.Goals.{Start}

-- what owning an f64 tells: the format holds it
held : (c : Start) → T (fits binary64 c.args.a)
held c = subst T (sym c.well_formed.0.1) tt

pub positive-requires : goal.positive-requires
positive-requires c =
    (bits_pos c.args.a (held (goal.at.positive-requires c).Start) c.if-a.true, omega arith)

pub returns-then-b-lt-INFINITY : goal.returns-then-b-lt-INFINITY
returns-then-b-lt-INFINITY c =
    c.positive.ensures ∙ ap power (of_bits-to_bits binary64 c.args.a (held (goal.at.returns-then-b-lt-INFINITY c).Start))

pub returns-then-a : goal.returns-then-a
returns-then-a c =
    power_of_infinity c.args.a (held (goal.at.returns-then-a c).Start) (omega arith) c.if-a.true

pub float_from_bits-value : goal.float_from_bits-value
float_from_bits-value c =
    bits_number infinity (omega arith)

pub returns-then-a-2 : goal.returns-then-a-2
returns-then-a-2 c =
    power_of_zero c.args.a c.if-a-2.true

pub returns : goal.returns
unfolding of_bits div
returns c =
    power_of_rest c.args.a c.if-a.false c.if-a-2.false
