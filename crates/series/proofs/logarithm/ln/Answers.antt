-- `series::logarithm::ln` meets its contract, case by case. Assumes nothing.
use Rattle.std.proofs.Common.{T, sym, ◌∙◌, subst, arith, rules}
use lib.Ieee.{div, of_bits, nan_bits}
use Rattle.series.proofs.Cases.{ln_under, ln_from, ln_infinity, ln_minus_zero, ln_past, ln_range}
use Rattle.series.proofs.logarithm.ln.Goals as goal

pub returns-then-b-lt-TWO : goal.returns-then-b-lt-TWO
returns-then-b-lt-TWO c =
    c.below_two.ensures ∙ ln_under c.args.x c.split-b.result c.split-b.ensures c.if-b-lt-TWO.true

pub returns-then-b-lt-INFINITY : goal.returns-then-b-lt-INFINITY
returns-then-b-lt-INFINITY c =
    c.from_two.ensures ∙ ln_from c.args.x c.split-b.result c.split-b.ensures (omega arith) (omega arith)

pub returns-then-b-eq-INFINITY : goal.returns-then-b-eq-INFINITY
returns-then-b-eq-INFINITY c =
    let held = subst T (sym c.well_formed.0.1) tt in
    ln_infinity c.args.x c.split-b.result c.split-b.ensures held c.if-b-eq-INFINITY.true

pub float_from_bits-result : goal.float_from_bits-result
unfolding nan_bits
float_from_bits-result c =
    search rules

pub returns-then-b : goal.returns-then-b
unfolding of_bits
returns-then-b c =
    ln_minus_zero c.args.x c.split-b.result
    c.split-b.ensures c.if-b.true

pub returns : goal.returns
unfolding of_bits div
returns c =
    ln_past c.args.x c.split-b.result c.split-b.ensures (omega arith) c.if-b-eq-INFINITY.false c.if-b.false
