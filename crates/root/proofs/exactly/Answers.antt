-- `root::exactly` meets its contract: `searched` has the root of a finite number above zero, and `Special` has the rest. Assumes
-- nothing.
use Rattle.std.proofs.Common.{T, sym, ap, ◌∙◌, subst, arith}
use lib.Ieee.{binary64, fits, div, of_bits}
use lib.Ieee.Bits.{of_bits-to_bits}
use Rattle.binary64.specs.Tests.{bits_pos}
use Rattle.root.specs.Root.{root}
use Rattle.root.proofs.Special.{root_of_infinity, root_of_zero, root_of_rest}
use Rattle.root.proofs.exactly.Goals as goal
use Rattle.root.proofs.exactly.Goals.{Start}

-- what owning an f64 tells: the format holds it
held : (c : Start) → T (fits binary64 c.args.x)
held c = subst T (sym c.well_formed.0.1) tt

pub searched-requires : goal.searched-requires
searched-requires c =
    (bits_pos c.args.x (held (goal.at.searched-requires c).Start) c.if-x.true, omega arith)

pub returns-then-b-lt-INFINITY : goal.returns-then-b-lt-INFINITY
returns-then-b-lt-INFINITY c =
    c.searched.ensures ∙ ap root (of_bits-to_bits binary64 c.args.x (held (goal.at.returns-then-b-lt-INFINITY c).Start))

pub returns-then-x : goal.returns-then-x
returns-then-x c =
    root_of_infinity c.args.x (held (goal.at.returns-then-x c).Start) (omega arith) c.if-x.true

pub returns-then-x-2 : goal.returns-then-x-2
returns-then-x-2 c =
    root_of_zero c.args.x c.if-x-2.true

pub returns : goal.returns
unfolding of_bits div
returns c =
    root_of_rest c.args.x c.if-x.false c.if-x-2.false
