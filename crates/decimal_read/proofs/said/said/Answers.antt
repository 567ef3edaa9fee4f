-- `said` meets its contract, by the laws of a whole text. Assumes nothing.
use native.Mathlib.Omega.{arith}
use Rattle.decimal_read.specs.Whole.{few, taken_le, nothing_said, word_said, long_said}
use Rattle.decimal_read.proofs.said.said.Goals as goal

pub overflow_sub-f : goal.overflow_sub-f
overflow_sub-f c =
    taken_le c.args.text.now c.args.s c.requires.0 c.requires.1 _ c.leading-taken.ensures

pub raised-up-requires : goal.raised-up-requires
raised-up-requires c =
    let h = few c.args.text.now c.args.s c.requires.0 c.requires.1 in
    (omega (arith, h.digits), h.tens)

pub lowered-down-requires : goal.lowered-down-requires
lowered-down-requires c =
    let h = few c.args.text.now c.args.s c.requires.0 c.requires.1 in
    (h.places, h.tens)

pub returns-then-up-down : goal.returns-then-up-down
returns-then-up-down c =
    nothing_said c.args.text.now c.args.s c.requires.0 c.requires.1 _ c.leading-taken.ensures _ _ c.raised-up.ensures
    c.lowered-down.ensures c.if-up-down.true _ c.nearest.ensures

pub returns-then-f-gt-WORD : goal.returns-then-f-gt-WORD
returns-then-f-gt-WORD c =
    long_said c.args.text.now c.args.s c.requires.0 c.requires.1 _ c.leading-taken.ensures _ _ c.raised-up.ensures
    c.lowered-down.ensures c.if-up-down.false c.if-f-gt-WORD.true _ c.long.ensures

pub returns : goal.returns
returns c =
    word_said c.args.text.now c.args.s c.requires.0 c.requires.1 _ c.leading-taken.ensures _ _ c.raised-up.ensures
    c.lowered-down.ensures c.if-up-down.false c.if-f-gt-WORD.false _ c.nearest-2.ensures
