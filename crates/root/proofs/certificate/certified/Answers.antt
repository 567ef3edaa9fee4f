-- `root::certificate::certified` meets its contract: `matches` has tested the pattern. Assumes nothing.
use Rattle.std.proofs.Common.{T, sym, ◌∙◌, subst}
use lib.Ieee.{binary64, fits}
use lib.Ieee.Bits.{of_bits-to_bits}
use Rattle.root.proofs.certificate.certified.Goals as goal
use Rattle.root.proofs.certificate.certified.Goals.{Start}

-- what owning an f64 tells: the format holds it
held : (c : Start) → T (fits binary64 c.args.s)
held c = subst T (sym c.well_formed.1.0.1) tt

pub returns-then-s : goal.returns-then-s
returns-then-s c h =
    sym (of_bits-to_bits binary64 c.args.s (held (goal.at.returns-then-s c).Start)) ∙ c.matches.ensures h
