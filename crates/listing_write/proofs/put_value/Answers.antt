-- `put_value` meets its contract: a blank, the digits, a blank, the way. Assumes nothing.
use Prim.Native.Nat.{ℕ, ◌+◌}
use mathlib.Core.Path.{◌≡◌}
use mathlib.Core.List.{List}
use native.Mathlib.Omega.{arith}
use borrow.Author.Rules.{rules}
use lib.Ieee.{binary64, to_bits}
use lib.ListN.{length, set, length-set}
use Rattle.carlson.specs.declared.answer.Found.{Found}
use Rattle.digits.specs.Digits.{digits}
use Rattle.digits.specs.Digits.{word_text}
use Rattle.listing_write.specs.Text.{way_text, value_text}
use Rattle.writing.specs.Written.{Put, tried_put, put_more, put_length, put_byte}
use Rattle.writing.specs.Places.{spelled_place}
use Rattle.listing_write.proofs.put_value.Goals as goal
use Rattle.listing_write.proofs.put_value.Goals.{After-put_word-end}

valued :
    (f : Found) (o o' out : List ℕ) (at bits end next : ℕ) → bits ≡ to_bits binary64 f.value
    → Put (set o at 32) (at + 1) (digits 16 16 bits) o' end
    → Put (set o' end 32) (end + 1) (way_text f) out next → Put o at (value_text f) out next
unfolding value_text word_text
valued f o o' out at bits end next e p q = put_more (put_more (put_byte o at 32) (rw e at p)) (put_more (put_byte o' end 32) q)

-- a byte takes no room, so the digits are written; they are sixteen, and the bytes are as many as before
module _ (c : After-put_word-end) where
  abbrev out : List ℕ
  out = c.args.out.now

  abbrev at₀ : ℕ
  at₀ = c.args.at

  abbrev bits : ℕ
  bits = c.split.result

  word : Put (set out at₀ 32) (at₀ + 1) (digits 16 16 bits) c.put_word-end.new.out c.put_word-end.result
  word = tried_put (simp length-set (omega arith)) c.put_word-end.ensures

  spelled : c.put_word-end.result ≡ at₀ + 1 + 16
  spelled = spelled_place 16 16 bits word

  kept : length c.put_word-end.new.out ≡ length out
  kept = simp length-set at (put_length word)

pub bounds-out-end : goal.bounds-out-end
bounds-out-end c =
    omega (arith, spelled (goal.at.bounds-out-end c).After-put_word-end, kept (goal.at.bounds-out-end c).After-put_word-end)

pub overflow_add-end : goal.overflow_add-end
overflow_add-end c =
    omega (arith, spelled (goal.at.overflow_add-end c).After-put_word-end)

pub put_way-requires : goal.put_way-requires
put_way-requires c =
    simp length-set (omega (arith, spelled (goal.at.put_way-requires c).After-put_word-end, kept (goal.at.put_way-requires c).After-put_word-end))

pub returns : goal.returns
returns c =
    valued _ _ _ _ _ _ _ _ c.split.ensures (word (goal.at.returns c).After-put_word-end) c.put_way.ensures
