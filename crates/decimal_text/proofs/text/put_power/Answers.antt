-- `put_power` meets its contract. Assumes nothing.
use native.Mathlib.Omega.{arith}
use lib.ListN.{length-set}
use Rattle.writing.specs.Written.{put_length}
use Rattle.decimal_text.proofs.Parts.{power_none, power_room, power_put}
use Rattle.decimal_text.proofs.text.put_power.Goals as goal

pub returns-then-s-eq0 : goal.returns-then-s-eq0
returns-then-s-eq0 c =
    power_none _ _ _ c.if-s-eq0.true

pub bounds-out-at : goal.bounds-out-at
bounds-out-at c =
    omega (arith, power_room c.args.s c.if-s-eq0.false)

pub put_sign-digits-requires : goal.put_sign-digits-requires
put_sign-digits-requires c =
    simp length-set (omega (arith, power_room c.args.s c.if-s-eq0.false))

pub returns : goal.returns
returns c =
    power_put c.args.s c.if-s-eq0.false _ c.requires.0 c.width.ensures c.requires.1 c.put_sign-digits.ensures
    c.put_places.ensures
