-- `term` meets its contract: its tests are those of the definition, in its order. They leave the helper no argument between -3/2
-- and -1/2, as it asks. Assumes nothing.
use Rattle.std.proofs.Common.{not, T, sym, subst}
use Rattle.rj_term.specs.Term.{rj_term}
use Rattle.rj_term.proofs.term.term.Goals as goal

pub returns-then-en-2 : goal.returns-then-en-2
unfolding rj_term
returns-then-en-2 c =
    rw (
      c.if-en.true,
      c.if-en-2.true,
      sym c.middle.ensures,
      sym c.elliprc_unchecked.ensures,
    )

pub returns-then-en : goal.returns-then-en
unfolding rj_term
returns-then-en c =
    rw (c.if-en.true, c.if-en-2.false) c.elliprc1p.ensures

pub returns : goal.returns
unfolding rj_term
returns c =
    rw c.if-en.false c.elliprc1p-2.ensures
