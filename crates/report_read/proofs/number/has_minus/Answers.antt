-- `has_minus` meets its contract. Assumes nothing.
use mathlib.Core.Path.{refl, sym, ◌∙◌}
use native.Mathlib.Omega.{arith}
use Rattle.report_read.proofs.Numbers.{minus_here, minus_on, minus_none}
use Rattle.report_read.proofs.number.has_minus.Goals as goal

pub loop-b-init : goal.loop-b-init
loop-b-init c =
    refl

pub returns-then-b-eq45 : goal.returns-then-b-eq45
returns-then-b-eq45 c =
    let l = c.loop-b in
    let a = c.args.line.now in
    sym (minus_here a l.b-index (omega arith) c.if-b-eq45.true) ∙ l.invariant

pub loop-b-preserved : goal.loop-b-preserved
loop-b-preserved c =
    let l = c.loop-b in
    let a = c.args.line.now in
    minus_on a l.b-index (omega arith) c.if-b-eq45.false ∙ l.invariant

pub returns : goal.returns
returns c =
    let l = c.loop-b in
    let a = c.args.line.now in
    sym (minus_none a l.b-index (omega arith)) ∙ l.invariant
