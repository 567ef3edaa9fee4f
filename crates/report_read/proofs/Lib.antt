-- `Numbers`: a line's number, byte by byte.
mod Numbers
-- `Limbs`: digits and a sign into words.
mod Limbs
-- `Tries`: a try at one line, and the lines one after the other.
mod Tries
