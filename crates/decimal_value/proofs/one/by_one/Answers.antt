-- `by_one` meets its contract, by `Whole`. Assumes nothing.
use Rattle.std.proofs.Common.{Some, sym, ap, arith}
use Rattle.decimal_value.proofs.Whole.{one_up, one_down}
use Rattle.decimal_value.proofs.Short.{too_long, too_low, too_high, is_short}
use Rattle.decimal_value.proofs.one.by_one.Goals as goal

pub returns-then-d-gt-MOST : goal.returns-then-d-gt-MOST
returns-then-d-gt-MOST c =
    rw (sym (too_long c.args.d c.args.t (omega arith)))

pub returns-then-t-lt-FIRST : goal.returns-then-t-lt-FIRST
returns-then-t-lt-FIRST c =
    rw (sym (too_low c.args.d c.args.t (omega arith) (omega arith)))

pub returns-then-t-gt-LAST : goal.returns-then-t-gt-LAST
returns-then-t-gt-LAST c =
    rw (sym (too_high c.args.d c.args.t (omega arith) (omega arith) (omega arith)))

pub returns-then-t-lt-ONES : goal.returns-then-t-lt-ONES
returns-then-t-lt-ONES c =
    let p = c.ten in
    let a = c.args in
    rw (sym (is_short a.d a.t (omega arith) (omega arith) (omega arith)))
    (ap Some (one_down a.s a.d a.t p.result c.signed.result (omega arith) (omega arith) (p.ensures (omega arith)) c.signed.ensures))

pub returns : goal.returns
returns c =
    let p = c.ten-2 in
    let a = c.args in
    rw (sym (is_short a.d a.t (omega arith) (omega arith) (omega arith)))
    (ap Some (one_up a.s a.d a.t p.result c.signed-2.result (omega arith) (omega arith) (p.ensures (omega arith)) c.signed-2.ensures))
