-- `series::arc::above_one` meets its contract, by `Inverse`. Assumes nothing.
use Rattle.std.proofs.Common.{◌≡◌, ℕ, ◌+◌, ◌-◌, ◌*◌, ◌/◌, ◌%◌, ◌^◌, ◌<◌, ◌≤◌, eqb, sym, ap, ◌∙◌, subst, arith, rules}
use lib.Ieee.{binary64, round}
use Rattle.binary64.specs.Tests.{bits_number}
use Rattle.enclosure.specs.Rules.{atan_answer, half_pi, steep_answer}
use Rattle.series.specs.Pattern.{field, digits}
use Rattle.series.specs.Atan.{one}
use Rattle.series.specs.Inverse.{inverse_is, inverse_fits, arc_below, steep_some, past_one}
use Rattle.series.proofs.arc.above_one.Goals as goal
use Rattle.series.proofs.arc.above_one.Goals.{After-arc, After-inverse}

abbrev tau : ℕ → ℕ
tau a = 2 ^ 114 / digits a / 2 ^ (field a - 1023)

above : (a : ℕ) → one < a → 2 ^ 52 < digits a * 2 ^ (field a - 1023)
above a h = past_one (digits a) (field a - 1023) (omega arith) (λ e. omega arith)

the_inverse : (c : After-inverse) → c.inverse.result / 2 ^ (field c.args.a - 1023) ≡ tau c.args.a
the_inverse c =
    let a = c.args.a in
    ap (λ (n : ℕ). n / 2 ^ (field a - 1023)) (c.inverse.ensures ∙ inverse_is (digits a) (field a - 1023) (omega arith))

the-arc : (c : After-arc) → c.arc.result ≡ atan_answer 0 (tau c.args.a)
the-arc c = c.arc.ensures ∙ ap (λ (n : ℕ). atan_answer 0 n) (the_inverse c.before)

the-answer : (c : After-arc) → half_pi - c.arc.result ≡ steep_answer (tau c.args.a)
unfolding steep_answer
the-answer c = ap (λ (n : ℕ). half_pi - n) (the-arc c)

pub float_from_bits-near : goal.float_from_bits-near
float_from_bits-near c =
    bits_number (c.args.a % 2 ^ 52 + one) (omega arith)

pub overflow_sub-arc : goal.overflow_sub-arc
overflow_sub-arc c =
    let a = c.args.a in
    omega (arith, the-arc (goal.at.overflow_sub-arc c).After-arc, arc_below (digits a) (field a - 1023) (omega arith) (above a c.requires.1))

pub scaled-requires : goal.scaled-requires
scaled-requires c =
    let a = c.args.a in
    let some = steep_some (digits a) (field a - 1023) (omega arith) (above a c.requires.1) in
    (omega (arith, the-answer (goal.at.scaled-requires c).After-arc), omega arith, c.requires.0)

pub returns : goal.returns
returns c =
    let a = c.args in
    c.scaled.ensures ∙ ap (λ (n : ℕ). round binary64 (eqb a.s 1) n (2 ^ 62)) (the-answer (goal.at.returns c).After-arc)
