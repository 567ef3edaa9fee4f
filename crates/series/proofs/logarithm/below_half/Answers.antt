-- `series::logarithm::below_half` meets its contract, by `Seeds`. Assumes nothing.
use Rattle.std.proofs.Common.{ℕ, ◌+◌, ◌-◌, ◌*◌, ◌^◌, true, ap, ◌∙◌, arith, rules}
use lib.Ieee.{binary64, size, round}
use Rattle.binary64.specs.Tests.{bits_number}
use Rattle.enclosure.specs.Rules.{T-answer, multiple, ln_below_answer}
use Rattle.series.proofs.Seeds.{inverse_seed_is, below_asked}
use Rattle.series.proofs.logarithm.below_half.Goals as goal

pub float_from_bits-n : goal.float_from_bits-n
float_from_bits-n c =
    bits_number (c.args.m + 1022 * 2 ^ 52) (omega arith)

pub multiple-requires : goal.multiple-requires
multiple-requires c =
    (omega arith, below_asked c.args.e c.args.m c.requires)

pub returns : goal.returns
unfolding ln_below_answer
returns c =
    let a = c.args in
    c.multiple.ensures
    ∙ ap (λ (g : ℕ). round binary64 true (multiple (size a.e) a.e (T-answer 1 g)) (2 ^ (63 - size a.e)))
    (inverse_seed_is a.m)
