-- `pieces::euler` meets its contract: Horner's rule over the row of x's piece, and nothing past the last one. Assumes nothing.
use Rattle.std.proofs.Common.{◌∙◌, arith, rules, le-ltb}
use Rattle.enclosure.specs.Pieces.{euler, piece}
use Rattle.pieces.proofs.Words.{value_is}
use Rattle.pieces.proofs.euler.Goals as goal

pub returns-then-piece-lt33 : goal.returns-then-piece-lt33
returns-then-piece-lt33 c =
    c.horner.ensures ∙ value_is euler c.args.x _ c.euler_row.ensures
