-- `series::arc::arc` meets its contract, by `Products`. Assumes nothing.
use Rattle.std.proofs.Common.{◌≡◌, ℕ, ◌*◌, ◌/◌, ◌^◌, ◌≤◌, ap, ◌∙◌, arith, rules, lt-ltb}
use Rattle.enclosure.specs.Pieces.{euler, pieces, piece, value}
use Rattle.enclosure.specs.Rules.{square, share, front, atan_answer}
use Rattle.enclosure.proofs.Sizes.{share_small, share_inside, front_fits}
use Rattle.pieces.specs.Row.{value_or_zero}
use Rattle.series.proofs.Products.{doubled, square_is, square_small, front_is}
use Rattle.series.proofs.arc.arc.Goals as goal
use Rattle.series.proofs.arc.arc.Goals.{After-high, After-high-front, After-quotient-f}

the-square : (c : After-high) → let a = c.args in c.high.result / 2 ^ (2 * a.j) ≡ square a.j a.tau
the-square c =
    let a = c.args in
    ap (λ (n : ℕ). n / 2 ^ (2 * a.j)) c.high.ensures ∙ square_is a.j a.tau

the-share : (c : After-quotient-f) → let a = c.args in c.quotient-f.result ≡ share (square a.j a.tau)
the-share c = c.quotient-f.ensures ∙ ap share (the-square c.before)

the-front : (c : After-high-front)
    → let a = c.args in c.high-front.result ≡ front a.tau (share (square a.j a.tau))
the-front c =
    let a = c.args in
    c.high-front.ensures ∙ front_is a.tau c.quotient-f.result ∙ ap (λ (f : ℕ). front a.tau f) (the-share c.before)

pub returns : goal.returns
unfolding atan_answer
returns c =
    let j = c.args.j in
    let tau = c.args.tau in
    let f = share (square j tau) in
    let sum : c.euler.result ≡ value euler (4 * f) =
    c.euler.ensures ∙ ap (λ (g : ℕ). value_or_zero euler (4 * g)) (the-share (goal.at.returns c).After-quotient-f)
    ∙ rw (lt-ltb (piece (4 * f)) (pieces euler) (share_inside j tau c.requires.1)) in
    c.high-2.ensures ∙ doubled c.high-front.result c.euler.result
    ∙ ap (λ (p : ℕ). p * c.euler.result / 2 ^ 63) (the-front (goal.at.returns c).After-high-front)
    ∙ ap (λ (h : ℕ). front tau f * h / 2 ^ 63) sum
