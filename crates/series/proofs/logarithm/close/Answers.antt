-- `series::logarithm::close` meets its contract, by `Zeros`. Assumes nothing.
use Rattle.std.proofs.Common.{ℕ, ◌+◌, ◌-◌, ◌^◌, ◌≤◌, eqb, ap, ◌∙◌, ap₂, arith}
use lib.Count.{count_leading_zeros}
use lib.Ieee.{binary64, size, round}
use Rattle.enclosure.specs.Rules.{T-answer}
use Rattle.series.specs.Ln1p.{seed}
use Rattle.series.proofs.Zeros.{shift_least, shift_most, shift_is, shifted_is, closed, close_is}
use Rattle.series.proofs.logarithm.close.Goals as goal

pub overflow_sub-j : goal.overflow_sub-j
overflow_sub-j c =
    shift_least c.args.n c.requires.1.least c.requires.1.most

pub near_one-requires : goal.near_one-requires
near_one-requires c =
    let n = c.args.n in
    let h = c.requires.1 in
    (c.requires.0, rw (shifted_is n h.least h.most, shift_is n h.least h.most) (closed c.args.s n h))

pub returns : goal.returns
returns c =
    let n = c.args.n in
    let h = c.requires.1 in
    let t = eqb c.args.s 1 in
    let j = 53 - size n in
    c.near_one.ensures
    ∙ ap₂ (λ (j m : ℕ). round binary64 t (T-answer j (seed t j m)) (2 ^ (61 + j))) (shift_is n h.least h.most)
    (shifted_is n h.least h.most)
    ∙ ap (λ (y : ℕ). round binary64 t y (2 ^ (61 + j))) (close_is t j n)
