-- `root::searched` meets its contract, by `Law`: `search` vouches for the digits. Assumes nothing.
use Rattle.std.proofs.Common.{◌+◌, ◌*◌, ◌^◌, ◌<◌, sym, arith}
use Rattle.rounding.specs.Cut.{infinity}
use Rattle.binary64.specs.Tests.{bits_number}
use Rattle.root.specs.Parts.{Scaled}
use Rattle.root.proofs.Law.{pattern_fits, root_pattern}
use Rattle.root.proofs.searched.Goals as goal
use Rattle.root.proofs.searched.Goals.{After-scaled-p, After-search-d}

known : (c : After-scaled-p) → Scaled c.args.b c.scaled-p.result.n c.scaled-p.result.y
known c = c.scaled-p.ensures.1 c.requires.0

-- the pattern that the digits make
in_range : (c : After-search-d) → c.scaled-p.result.y * 2 ^ 52 + c.search-d.result.c < infinity
in_range c = pattern_fits _ c.requires.1 (c.scaled-p.ensures.1 c.requires.0) c.search-d.ensures

pub float_from_bits-value : goal.float_from_bits-value
float_from_bits-value c =
    bits_number _ (omega (arith, in_range (goal.at.float_from_bits-value c).After-search-d))

pub returns : goal.returns
returns c =
    sym (root_pattern c.search-d.result.c c.requires (known (goal.at.returns c).After-scaled-p) c.search-d.ensures)
