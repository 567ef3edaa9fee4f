-- `root::find` meets its contract: `certified` has tested the guess, or `exactly` has the root. Assumes nothing.
use Rattle.std.proofs.Common.{T, sym, ap, ◌∙◌, subst}
use lib.Ieee.{binary64, fits}
use lib.Ieee.Bits.{of_bits-to_bits}
use Rattle.root.specs.Root.{root}
use Rattle.root.proofs.find.Goals as goal
use Rattle.root.proofs.find.Goals.{Start}

-- what owning an f64 tells: the format holds it
held : (c : Start) → T (fits binary64 c.args.x)
held c = subst T (sym c.well_formed.0.1) tt

pub returns-then-certified : goal.returns-then-certified
returns-then-certified c =
    c.certified.ensures c.if-certified.true ∙ ap root (of_bits-to_bits binary64 c.args.x (held (goal.at.returns-then-certified c).Start))
