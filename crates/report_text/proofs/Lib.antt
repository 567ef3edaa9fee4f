-- `Nibbles`: a number's hexadecimal digits, from its limbs.
mod Nibbles
-- `Parts`: the parts of a line, one after the other, and the room that they take.
mod Parts
-- `Lines`: the lines by their numbers.
mod Lines
