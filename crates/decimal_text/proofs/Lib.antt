-- `Laid`: which way a decimal is laid out.
mod Laid
-- `Parts`: the parts of a text, one after the other, and the room that they take.
mod Parts
