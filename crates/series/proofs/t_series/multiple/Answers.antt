-- `series::t_series::multiple` meets its contract, by `Zeros`. Assumes nothing.
use Rattle.std.proofs.Common.{◌≡◌, ℕ, ◌+◌, ◌-◌, ◌*◌, ◌/◌, ◌^◌, ◌≤◌, eqb, sym, ap, ◌∙◌, subst, ap₂, arith, rules}
use lib.Count.{count_leading_zeros}
use lib.Ieee.{binary64, size, round}
use lib.Ieee.Digits.{size-lt}
use Rattle.enclosure.specs.Rules.{T-answer, multiple}
use Rattle.enclosure.proofs.Sizes.{multiple_size, multiple_fits}
use Rattle.series.specs.Ranges.{Seeded, Multiple}
use Rattle.series.specs.Exponents.{size_half}
use Rattle.series.proofs.Zeros.{zeros_least, zeros_most, scale_is, first_is, second_is}
use Rattle.series.proofs.t_series.multiple.Goals as goal
use Rattle.series.proofs.t_series.multiple.Goals.{After-high}

most : (e p d : ℕ) → Multiple e p d → count_leading_zeros 64 e ≤ 63
most e p d h = zeros_most e h.least h.most

-- the rule's answer
abbrev Y : ℕ → ℕ → ℕ → ℕ
Y e p d = multiple (size e) e (T-answer 1 (p * 2 ^ 62 / d))

long : (e p d : ℕ) → Multiple e p d → 2 ^ 61 ≤ Y e p d
long e p d h = multiple_size (size e) e (T-answer 1 (p * 2 ^ 62 / d)) (size_half e h.least)

-- the sum is the rule's
the_sum : (c : After-high) → let a = c.args in
    c.high.result + c.t_sum-t.result / 2 ^ (63 - count_leading_zeros 64 a.e) ≡ Y a.e a.p a.d
the_sum c =
    let h = c.requires.1 in
    let t : c.t_sum-t.result ≡ T-answer 1 (c.args.p * 2 ^ 62 / c.args.d) =
    c.t_sum-t.ensures ∙ ap (λ (g : ℕ). T-answer 1 g) c.quotient.ensures in
    ap₂ ◌+◌ (c.high.ensures ∙ first_is c.args.e h.least h.most)
    (second_is c.args.e h.least h.most c.t_sum-t.result ∙ ap (λ (n : ℕ). 2 * n / 2 ^ size c.args.e) t)

pub overflow_sub-z-2 : goal.overflow_sub-z-2
overflow_sub-z-2 c =
    omega (arith, zeros_least c.args.e c.requires.1.least c.requires.1.most)

pub scaled-requires : goal.scaled-requires
scaled-requires c =
    let few = most c.args.e c.args.p c.args.d c.requires.1 in
    (omega (arith, the_sum (goal.at.scaled-requires c).After-high, long c.args.e c.args.p c.args.d c.requires.1), omega arith, c.requires.0)

pub returns : goal.returns
returns c =
    c.scaled.ensures
    ∙ ap₂ (λ (n k : ℕ). round binary64 (eqb c.args.g 1) n (2 ^ k)) (the_sum (goal.at.returns c).After-high)
    (scale_is c.args.e c.requires.1.least c.requires.1.most)
