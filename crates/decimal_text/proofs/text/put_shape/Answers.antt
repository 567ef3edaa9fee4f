-- `put_shape` meets its contract. Assumes nothing.
use Rattle.writing.specs.Written.{put_length}
use Rattle.decimal_text.proofs.Parts.{room_point, room_power, shape_put}
use Rattle.decimal_text.proofs.text.put_shape.Goals as goal

pub put_point-power-requires : goal.put_point-power-requires
put_point-power-requires c =
    room_point c.args.s _ c.width.ensures c.requires.1 c.put_places-point.ensures

pub put_power-requires : goal.put_power-requires
put_power-requires c =
    (c.requires.0, room_power c.args.s _ c.width.ensures c.requires.1 c.put_places-point.ensures c.put_point-power.ensures)

pub returns : goal.returns
returns c =
    shape_put c.args.s _ c.width.ensures c.requires.1 c.put_places-point.ensures c.put_point-power.ensures
    c.put_power.ensures
