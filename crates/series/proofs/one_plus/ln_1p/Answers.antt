-- `series::one_plus::ln_1p` meets its contract, case by case. Assumes nothing.
use Rattle.std.proofs.Common.{◌∙◌, arith, rules}
use lib.Ieee.{div, of_bits}
use Rattle.series.proofs.Cases.{ln_1p_tiny, ln_1p_small, ln_1p_none, ln_1p_range, up_to_one}
use Rattle.series.proofs.one_plus.ln_1p.Goals as goal

pub returns-then-a-lt-TINY : goal.returns-then-a-lt-TINY
returns-then-a-lt-TINY c =
    ln_1p_tiny c.args.x c.split-b.result c.split-b.ensures c.if-a-lt-TINY.true

pub near_one-requires : goal.near_one-requires
near_one-requires c =
    (search rules, up_to_one _ (ln_1p_range _ (omega arith) (omega arith)))

pub returns-then-a-le-LAST : goal.returns-then-a-le-LAST
returns-then-a-le-LAST c =
    c.near_one.ensures ∙ ln_1p_small c.args.x c.split-b.result c.split-b.ensures (omega arith) (omega arith)

pub returns : goal.returns
unfolding of_bits div
returns c =
    ln_1p_none c.args.x c.split-b.result c.split-b.ensures (omega arith)
    (omega arith)
