-- `series::arc::below_one` meets its contract: `arc`'s, rounded. Assumes nothing.
use Rattle.std.proofs.Common.{ℕ, ◌+◌, ◌-◌, ◌*◌, ◌^◌, ◌≤◌, eqb, ap, ◌∙◌, arith, rules}
use lib.Ieee.{binary64, round}
use Rattle.enclosure.specs.Rules.{atan_answer}
use Rattle.enclosure.proofs.Sizes.{atan_size}
use Rattle.series.specs.Pattern.{field, digits}
use Rattle.series.proofs.arc.below_one.Goals as goal

pub scaled-requires : goal.scaled-requires
scaled-requires c =
    let a = c.args.a in
    let some : 2 ^ 60 ≤ atan_answer (1022 - field a) (digits a * 512) = atan_size (1022 - field a) (digits a * 512) (omega arith)
    (omega arith) in
    (omega (arith, c.arc.ensures), omega arith, c.requires.0)
