-- `put_part` meets its contract, case by case. Assumes nothing.
use native.Mathlib.Nat.{le_refl}
use Rattle.phrases.specs.PieceLaws.{piece_length}
use Rattle.spoken_parts.specs.Parts.{part_text, part_room}
use Rattle.spoken_write.proofs.text.put_part.Goals as goal

pub returns-in-Words : goal.returns-in-Words
unfolding part_text part_room
returns-in-Words c =
    record { tried = rw c.in-Words.is c.put_words.ensures; part_len_bound = rw c.in-Words.is (le_refl _) }

pub returns-in-Value : goal.returns-in-Value
unfolding part_text part_room
returns-in-Value c =
    record { tried = rw c.in-Value.is c.put_value.ensures.tried; part_len_bound = rw c.in-Value.is (c.put_value.ensures.x_len_bound) }

pub returns-in-Piece : goal.returns-in-Piece
unfolding part_text part_room
returns-in-Piece c =
    record { tried = rw c.in-Piece.is c.put_piece.ensures; part_len_bound = rw c.in-Piece.is (piece_length _) }
