-- `series::t_series::near_one` meets its contract, by `Seeds`. Assumes nothing.
use Rattle.std.proofs.Common.{◌≡◌, ℕ, ◌+◌, ◌*◌, ◌/◌, ◌^◌, eqb, sym, ap, ◌∙◌, subst, arith, rules, eqb-true}
use lib.Ieee.{binary64, round}
use Rattle.enclosure.specs.Rules.{T-answer}
use Rattle.series.specs.Ln1p.{seed}
use Rattle.series.specs.Ranges.{Seeded}
use Rattle.series.proofs.Seeds.{part_small, divisor_range, seed_is, seeded, seed_size}
use Rattle.series.proofs.t_series.near_one.Goals as goal
use Rattle.series.proofs.t_series.near_one.Goals.{After-quotient-sg, After-t_sum}

-- the quotient is the seed
the-seed : (c : After-quotient-sg) → let a = c.args in c.quotient-sg.result ≡ seed (eqb a.s 1) a.j a.m
the-seed c =
    c.quotient-sg.ensures ∙ ap (λ (d : ℕ). c.args.m * 256 * 2 ^ 62 / d) c.divisor.ensures
    ∙ seed_is (eqb c.args.s 1) c.args.j c.args.m c.requires.1.high

the_sum : (c : After-t_sum) → let a = c.args in
    c.t_sum.result ≡ T-answer a.j (seed (eqb a.s 1) a.j a.m)
the_sum c = c.t_sum.ensures ∙ ap (λ (g : ℕ). T-answer c.args.j g) (the-seed c.before)

pub t_sum-requires : goal.t_sum-requires
t_sum-requires c =
    subst (λ (g : ℕ). Seeded c.args.j g) (sym (the-seed (goal.at.t_sum-requires c).After-quotient-sg))
    (seeded (eqb c.args.s 1) c.args.s c.args.j c.args.m (eqb-true c.args.s 1) c.requires.1)

pub scaled-requires : goal.scaled-requires
scaled-requires c = (
  omega (
    arith,
    the_sum (goal.at.scaled-requires c).After-t_sum,
    seed_size (eqb c.args.s 1) c.args.s c.args.j c.args.m (eqb-true c.args.s 1)
        c.requires.1,
  ),
  omega (arith, c.requires.1.most),
  c.requires.0,
)

pub returns : goal.returns
returns c =
    let a = c.args in
    c.scaled.ensures ∙ ap (λ (n : ℕ). round binary64 (eqb a.s 1) n (2 ^ (61 + a.j))) (the_sum (goal.at.returns c).After-t_sum)
