-- `elliprc1p` meets its contract: its tests are those of the definition, in its order, and a branch is reached by the arguments
-- that it asks for (specs/Borders.antt). Assumes nothing.
use Rattle.std.proofs.Common.{◌≡◌, Bool, true, false, not, T, sym, subst}
use lib.Ieee.{Float, neg, lt, le}
use lib.Ieee.Fits.{and_i}
use Rattle.binary64.specs.Leaves.{absolute}
use Rattle.carlson.specs.Constants.{zero, one, half}
use Rattle.rj_term.specs.Helper.{hundredth, rc1p}
use Rattle.rj_term.specs.Borders.{past}
use Rattle.rj_term.proofs.Borders.{atan_reached, logs_reached, rc_reached_from_rj, ln_reached_from_rj}
use Rattle.rj_term.proofs.helper.elliprc1p.Goals as goal

yes : {b : Bool} → b ≡ true → T b
yes e = subst T (sym e) tt

no : {b : Bool} → b ≡ false → T (not b)
no e = subst (λ b. T (not b)) (sym e) tt

far : (y : Float) {v : Float} → v ≡ absolute y → le v hundredth ≡ false → T (past y)
far y e h = subst (λ v. T (not (le v hundredth))) e (no h)

pub returns-then-abs : goal.returns-then-abs
unfolding rc1p
returns-then-abs c =
    rw (
      sym c.abs.ensures,
      c.if-abs.true,
      sym c.polynomial.ensures,
    ) c.closed.ensures

pub by_atan-requires : goal.by_atan-requires
by_atan-requires c =
    let y = c.args.y in
    subst T (atan_reached y)
    (and_i (past y) (lt zero y) (far y c.abs.ensures c.if-abs.false) (yes c.if-y.true))

pub returns-then-y : goal.returns-then-y
unfolding rc1p
returns-then-y c =
    rw (
      sym c.abs.ensures,
      c.if-abs.false,
      c.if-y.true,
      sym c.by_atan.ensures,
    ) c.closed-then-y.ensures

pub by_logs-requires : goal.by_logs-requires
by_logs-requires c =
    let y = c.args.y in
    subst T (logs_reached y)
    (and_i (past y) _ (far y c.abs.ensures c.if-abs.false)
    (and_i (not (lt zero y)) (lt (neg half) y) (no c.if-y.false) (yes c.if-y-2.true)))

pub returns-then-y-2 : goal.returns-then-y-2
unfolding rc1p
returns-then-y-2 c =
    rw (
      sym c.abs.ensures,
      c.if-abs.false,
      c.if-y.false,
      c.if-y-2.true,
      sym c.by_logs.ensures,
    ) c.closed-then-y-2.ensures

pub by_rc-requires : goal.by_rc-requires
by_rc-requires c =
    subst T (rc_reached_from_rj c.args.y c.requires) (yes c.if-y-3.true)

pub returns-then-y-3 : goal.returns-then-y-3
unfolding rc1p
returns-then-y-3 c =
    rw (
      sym c.abs.ensures,
      c.if-abs.false,
      c.if-y.false,
      c.if-y-2.false,
      c.if-y-3.true,
    ) c.by_rc.ensures

pub by_ln-requires : goal.by_ln-requires
by_ln-requires c =
    let y = c.args.y in
    ln_reached_from_rj y (yes c.well_formed.0.1) c.requires
    (and_i (past y) _ (far y c.abs.ensures c.if-abs.false)
    (and_i (not (lt zero y)) _ (no c.if-y.false)
    (and_i (not (lt (neg half) y)) (not (lt y (neg one))) (no c.if-y-2.false) (no c.if-y-3.false))))

pub returns : goal.returns
unfolding rc1p
returns c =
    rw (
      sym c.abs.ensures,
      c.if-abs.false,
      c.if-y.false,
      c.if-y-2.false,
      c.if-y-3.false,
      sym c.by_ln.ensures,
    ) c.closed-2.ensures
