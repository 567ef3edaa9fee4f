-- `rc_plain` meets its contract: its tests are those of the definition, in its order. Assumes nothing.
use mathlib.Core.Path.{sym, ◌∙◌}
use Rattle.profile.specs.Profile.{rc_plain}
use Rattle.profile.proofs.rc_plain.Goals as goal

pub returns-then-x : goal.returns-then-x
unfolding rc_plain
returns-then-x c =
    rw c.if-x.true

pub returns-then-y : goal.returns-then-y
unfolding rc_plain
returns-then-y c =
    rw (c.if-x.false, c.if-y.true)

pub returns-then-any_nan2 : goal.returns-then-any_nan2
unfolding rc_plain
returns-then-any_nan2 c =
    rw (
      c.if-x.false,
      c.if-y.false,
      sym c.any_nan2.ensures ∙ c.if-any_nan2.true,
    )

pub returns-then-sized2 : goal.returns-then-sized2
unfolding rc_plain
returns-then-sized2 c =
    rw (
      c.if-x.false,
      c.if-y.false,
      sym c.any_nan2.ensures ∙ c.if-any_nan2.false,
      sym c.sized2.ensures ∙ c.if-sized2.true,
    ) c.elliprc.ensures

pub returns : goal.returns
unfolding rc_plain
returns c =
    rw (
      c.if-x.false,
      c.if-y.false,
      sym c.any_nan2.ensures ∙ c.if-any_nan2.false,
      sym c.sized2.ensures ∙ c.if-sized2.false,
    )
