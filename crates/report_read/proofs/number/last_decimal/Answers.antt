-- `last_decimal` meets its contract. Assumes nothing.
use Prim.Native.Nat.{◌^◌}
use mathlib.Core.Path.{refl, sym, ◌∙◌}
use native.Mathlib.Omega.{arith}
use Rattle.report_read.proofs.Numbers.{trailing_on, trailing_all}
use Rattle.report_read.proofs.number.last_decimal.Goals as goal

pub loop-b-init : goal.loop-b-init
loop-b-init c =
    refl

pub loop-b-preserved : goal.loop-b-preserved
loop-b-preserved c =
    let l = c.loop-b in
    let a = c.args.line.now in
    trailing_on 10 (2 ^ 64) l.v a l.b-index c.decimal_step-v.result (omega arith) c.decimal_step-v.ensures ∙ l.invariant

pub returns : goal.returns
returns c =
    let l = c.loop-b in
    let a = c.args.line.now in
    sym (trailing_all 10 (2 ^ 64) l.v a l.b-index (omega arith)) ∙ l.invariant
