-- `ending` meets its contract. Assumes nothing.
use Rattle.std.proofs.Common.{◌≡◌, Bool, true, false, cond, eqb, refl, ◌∙◌}
use mir.Val.{bool_byte}
use Rattle.pace.specs.Numbers.{ends_of}
use Rattle.pace.proofs.ends.ending.Goals as goal

flag : (t : Bool) → bool_byte t ≡ cond t 1 0
flag true = refl
flag false = refl

pub returns : goal.returns
unfolding ends_of
returns c = c.from.ensures ∙ flag (eqb c.args.b 10)
