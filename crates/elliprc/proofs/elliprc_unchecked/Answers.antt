-- `elliprc_unchecked` meets its contract: its test is the definition's. Assumes nothing.
use mathlib.Core.Path.{sym, ◌∙◌}
use Rattle.carlson_arguments.specs.Rescaling.{rescaling2}
use Rattle.elliprc.specs.Rc.{rc_unchecked}
use Rattle.elliprc.proofs.elliprc_unchecked.Goals as goal

pub returns-then-rescales2 : goal.returns-then-rescales2
unfolding rc_unchecked rescaling2
returns-then-rescales2 c =
    rw (
      sym c.scale2-scale.ensures,
      sym c.rescales2.ensures ∙ c.if-rescales2.true,
      sym c.found.ensures,
    ) c.over_root.ensures

pub returns : goal.returns
unfolding rc_unchecked rescaling2
returns c =
    rw (
      sym c.scale2-scale.ensures,
      sym c.rescales2.ensures
          ∙ c.if-rescales2.false,
    )
    c.found-2.ensures
