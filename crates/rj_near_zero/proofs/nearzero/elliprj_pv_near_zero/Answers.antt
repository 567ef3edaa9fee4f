-- `elliprj_pv_near_zero` meets its contract: its tests are those of the definition, in its order. Assumes nothing.
use Rattle.std.proofs.Common.{Some}
use mathlib.Core.Path.{sym, ap, ◌∙◌}
use Rattle.rj_near_zero.specs.NearZero.{near_zero, root_epsilon}
use Rattle.rj_near_zero.proofs.nearzero.elliprj_pv_near_zero.Goals as goal

pub returns-then-far_off : goal.returns-then-far_off
unfolding near_zero
returns-then-far_off c =
    rw (root_epsilon, sym c.far_off.ensures ∙ c.if-far_off.true)

pub returns-then-largest-radius : goal.returns-then-largest-radius
unfolding near_zero
returns-then-largest-radius c =
    rw (
      root_epsilon,
      sym c.far_off.ensures ∙ c.if-far_off.false,
      sym c.deltas_of-d.ensures,
      sym c.largest.ensures,
      c.if-largest-radius.true,
    ) (ap Some c.value_of.ensures)

pub returns : goal.returns
unfolding near_zero
returns c =
    rw (
      root_epsilon,
      sym c.far_off.ensures ∙ c.if-far_off.false,
      sym c.deltas_of-d.ensures,
      sym c.largest.ensures,
      c.if-largest-radius.false,
    )
