-- `put_refusal` meets its contract: the word, then the number. Assumes nothing.
use native.Mathlib.Omega.{arith}
use borrow.Author.Rules.{rules}
use Rattle.listing_write.specs.Text.{refusal_text}
use Rattle.writing.specs.Written.{tried_put, put_more, put_length}
use Rattle.listing_write.proofs.put_refusal.Goals as goal

pub returns : goal.returns
unfolding refusal_text
returns c =
    put_more (tried_put (omega arith) c.put_text-end.ensures)
    c.put_count.ensures
