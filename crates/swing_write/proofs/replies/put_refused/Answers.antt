-- `put_refused` meets its contract: the word, then the number. Assumes nothing.
use native.Mathlib.Omega.{arith}
use borrow.Author.Rules.{rules}
use Rattle.writing.specs.Written.{tried_put, put_more, put_length}
use Rattle.swing_write.specs.Replies.{refused_text}
use Rattle.swing_write.proofs.replies.put_refused.Goals as goal

pub returns : goal.returns
unfolding refused_text
returns c =
    put_more (tried_put (omega arith) c.put_text-after.ensures)
    c.put_number.ensures
