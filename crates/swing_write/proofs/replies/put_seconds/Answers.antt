-- `put_seconds` meets its contract: whole seconds and the point, then twelve places. Assumes nothing.
use native.Mathlib.Omega.{arith}
use borrow.Author.Rules.{rules}
use Rattle.writing.specs.Written.{tried_put, put_more, put_length, place_most}
use Rattle.swing_write.specs.Replies.{seconds_text, longest_number}
use Rattle.swing_write.specs.Lengths.{number_length}
use Rattle.swing_write.proofs.replies.put_seconds.Goals as goal

pub returns : goal.returns
unfolding seconds_text
returns c =
    let p = c.put_number-point.ensures in
    put_more p (tried_put (omega (arith, place_most longest_number p (number_length _ _), put_length p)) c.put_places.ensures)
