-- `pieces::odd` meets its contract: Horner's rule over the row of x's piece, and nothing past the last one. Assumes nothing.
use Rattle.std.proofs.Common.{◌∙◌, arith, rules, le-ltb}
use Rattle.enclosure.specs.Pieces.{odd, piece}
use Rattle.pieces.proofs.Words.{value_is}
use Rattle.pieces.proofs.odd.Goals as goal

pub returns-then-piece-lt24 : goal.returns-then-piece-lt24
returns-then-piece-lt24 c =
    c.horner.ensures ∙ value_is odd c.args.x _ c.odd_row.ensures
