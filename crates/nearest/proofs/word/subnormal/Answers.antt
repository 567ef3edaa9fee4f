-- `subnormal` meets its contract, by `Even`. Assumes nothing.
use borrow.Author.Rules.{rules}
use native.Mathlib.Omega.{arith}
use mathlib.Core.Path.{◌∙◌}
use Rattle.nearest.proofs.Even.{none_kept, word_below, no_more, quotient_small, rest_is, rest_small, some_kept}
use Rattle.nearest.proofs.word.subnormal.Goals as goal

pub returns-then-k-gt64 : goal.returns-then-k-gt64
returns-then-k-gt64 c =
    none_kept c.args.v c.args.k c.ranges.v.fits (omega arith)

pub even-requires-2 : goal.even-requires-2
even-requires-2 c =
    let v = c.args.v in
    let k = c.args.k in
    let q = quotient_small v k c.ranges.v.fits (omega arith) in
    let r = rest_small v k c.ranges.v.fits (omega arith) in
    (omega arith, omega (arith, rest_is v k c.ranges.v.fits))
