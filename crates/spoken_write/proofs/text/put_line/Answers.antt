-- `put_line` meets its contract: it writes where there is room. Assumes nothing.
use Rattle.writing.specs.Written.{there, tried_there, tried_lacking}
use Rattle.spoken_write.proofs.text.put_line.Goals as goal

pub put_parts-requires : goal.put_parts-requires
put_parts-requires c =
    there c.has_room.ensures c.if-has_room.true

pub returns-then-has_room : goal.returns-then-has_room
returns-then-has_room c =
    tried_there c.has_room.ensures c.if-has_room.true c.put_parts.ensures

pub returns : goal.returns
returns c =
    tried_lacking c.has_room.ensures c.if-has_room.false
