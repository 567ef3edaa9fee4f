-- `power::positive` meets its contract, by `Law`: what is returned is the pattern that `is_clear` or `search` vouches for.
-- Assumes nothing.
use Rattle.std.proofs.Common.{sym, arith}
use Rattle.binary64.specs.Tests.{bits_number}
use Rattle.root.specs.Parts.{Scaled}
use Rattle.power.proofs.Law.{power_pattern}
use Rattle.power.proofs.positive.Goals as goal
use Rattle.power.proofs.positive.Goals.{After-scaled-p}

known : (c : After-scaled-p) → Scaled c.args.b c.scaled-p.result.n c.scaled-p.result.y
known c = c.scaled-p.ensures.1 c.requires.0

pub float_from_bits-value : goal.float_from_bits-value
float_from_bits-value c =
    let r = c.is_clear.ensures c.if-is_clear.true in bits_number _ (omega (arith, r.held))

pub returns-then-is_clear : goal.returns-then-is_clear
returns-then-is_clear c =
    sym (power_pattern _ c.requires (known (goal.at.returns-then-is_clear c).After-scaled-p)
    (c.is_clear.ensures c.if-is_clear.true))

pub float_from_bits-value-2 : goal.float_from_bits-value-2
float_from_bits-value-2 c =
    bits_number _ (omega (arith, c.search-a.ensures.held))

pub returns : goal.returns
returns c =
    sym (power_pattern _ c.requires (known (goal.at.returns c).After-scaled-p) c.search-a.ensures)
