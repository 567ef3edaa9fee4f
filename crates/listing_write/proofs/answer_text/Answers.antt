-- `answer_text` meets its contract: no reply is longer than the longest. Assumes nothing.
use Prim.Native.Nat.{◌≤◌}
use mathlib.Core.Path.{◌≡◌, sym}
use native.Mathlib.Omega.{arith}
use borrow.Author.Rules.{rules}
use lib.ListN.{length}
use lib.Seq.{length-take-le}
use Rattle.writing.specs.Written.{put_length}
use Rattle.listing_write.specs.Text.{longest_reply}
use Rattle.listing_write.specs.Lengths.{text_length}
use Rattle.listing_write.proofs.answer_text.Goals as goal

pub returns : goal.returns
returns c =
    let a = c.args in let p = c.write_answer.ensures in let full : length a.out.now ≡ longest_reply = search rules in let most : c.write_answer.result ≤ length c.write_answer.new.out = omega
    (arith, put_length p, p.place, text_length a.call a.answer) in record { put = p; prefix_len = (most, sym (length-take-le _ _ most)) }
