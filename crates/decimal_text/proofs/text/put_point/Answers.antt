-- `put_point` meets its contract. Assumes nothing.
use native.Mathlib.Omega.{arith}
use Rattle.writing.specs.Written.{put_length}
use Rattle.decimal_text.proofs.Parts.{point_none, point_room, point_put}
use Rattle.decimal_text.proofs.text.put_point.Goals as goal

pub returns-then-s-eq0 : goal.returns-then-s-eq0
returns-then-s-eq0 c =
    point_none _ _ _ c.if-s-eq0.true

pub bounds-out-at : goal.bounds-out-at
bounds-out-at c =
    omega (arith, point_room c.args.s c.if-s-eq0.false)

pub returns : goal.returns
returns c =
    point_put c.args.s c.if-s-eq0.false c.requires c.put_places.ensures
