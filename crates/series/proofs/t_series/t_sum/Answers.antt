-- `series::t_series::t_sum` meets its contract: the sum at the square, times the seed. Assumes nothing.
use Rattle.std.proofs.Common.{◌≡◌, ℕ, ◌*◌, ◌/◌, ◌^◌, ap, ◌∙◌, rules, lt-ltb}
use Rattle.enclosure.specs.Pieces.{odd, pieces, piece, value}
use Rattle.enclosure.specs.Rules.{seed_square, T-answer}
use Rattle.pieces.specs.Row.{value_or_zero}
use Rattle.series.proofs.Products.{doubled, seed_square_is}
use Rattle.series.proofs.t_series.t_sum.Goals as goal

pub returns : goal.returns
unfolding T-answer
returns c =
    let j = c.args.j in
    let w = seed_square j c.args.sg in
    let square : c.high.result / 2 ^ j / 2 ^ j ≡ w =
    ap (λ (n : ℕ). n / 2 ^ j / 2 ^ j) c.high.ensures ∙ seed_square_is j c.args.sg in
    let sum : c.odd.result ≡ value odd w =
    c.odd.ensures ∙ ap (λ (x : ℕ). value_or_zero odd x) square ∙ rw (lt-ltb (piece w) (pieces odd) c.requires.inside) in
    c.high-2.ensures ∙ ap (λ (h : ℕ). 2 * c.args.sg * h / 2 ^ 64) sum ∙ doubled c.args.sg (value odd w)
