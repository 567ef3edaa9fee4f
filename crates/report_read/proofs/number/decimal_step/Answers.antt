-- `decimal_step` meets its contract. Assumes nothing.
use Prim.Native.Nat.{◌+◌, ◌*◌, ◌^◌}
use mathlib.Core.Path.{sym, ◌∙◌}
use native.Mathlib.Omega.{arith}
use Rattle.report_read.proofs.Numbers.{step_there, step_not, low_word}
use Rattle.report_read.proofs.number.decimal_step.Goals as goal

pub returns-then-d-lt10 : goal.returns-then-d-lt10
returns-then-d-lt10 c =
    let d = c.digit-d in
    let a = c.args in
    let p = c.product_plus in
    low_word p.result.hi p.result.lo (a.v * 10 + d.result) (omega arith) p.ensures
    ∙ sym (step_there 10 (2 ^ 64) a.v a.b d.result d.ensures c.if-d-lt10.true)

pub returns : goal.returns
returns c =
    let d = c.digit-d in
    let a = c.args in
    sym (step_not 10 (2 ^ 64) a.v a.b d.result d.ensures c.if-d-lt10.false)
