-- `put_period` meets its contract: the digits, a blank, the seconds, the line's end. Assumes nothing.
use Prim.Native.Nat.{ℕ, ◌+◌, ◌≤◌}
use mathlib.Core.Path.{◌≡◌, ◌∙◌}
use mathlib.Core.List.{List}
use native.Mathlib.Omega.{arith}
use borrow.Author.Rules.{rules}
use lib.Ieee.{binary64, to_bits}
use lib.ListN.{length, set, length-set}
use Rattle.digits.specs.Digits.{digits}
use Rattle.writing.specs.Places.{spelled_place}
use Rattle.writing.specs.Written.{Put, tried_put, put_more, put_length, place_most, put_byte}
use Rattle.carlson.specs.declared.answer.Found.{Found}
use Rattle.swing_write.specs.Replies.{ticks_of, seconds_text, period_text, longest_seconds}
use Rattle.swing_write.specs.Lengths.{seconds_length}
use Rattle.swing_write.proofs.replies.put_period.Goals as goal
use Rattle.swing_write.proofs.replies.put_period.Goals.{After-put_seconds-end, After-put_word-blank}

timed :
    (f : Found) (o half out : List ℕ) (at bits t blank end : ℕ) → bits ≡ to_bits binary64 f.value → t ≡ ticks_of f.value
    → Put o at (digits 16 16 bits) half blank
    → Put (set half blank 32) (blank + 1) (seconds_text t) out end → Put o at (period_text f) (set out end 10) (end + 1)
unfolding period_text
timed f o half out at bits t blank end e g p q = put_more (put_more (rw e at p) (put_byte half blank 32))
    (put_more (rw g at q) (put_byte out end 10))

-- there is room for the digits; they are sixteen, and the bytes are as many as before
word : (c : After-put_word-blank)
    →
    Put c.args.out.now c.args.at (digits 16 16 c.split.result) c.put_word-blank.new.out
    c.put_word-blank.result
word c = tried_put (omega arith) c.put_word-blank.ensures

spelled : (c : After-put_word-blank) → c.put_word-blank.result ≡ c.args.at + 16
spelled c = spelled_place 16 16 _ (word c)

kept : (c : After-put_word-blank) → length c.put_word-blank.new.out ≡ length c.args.out.now
kept c = put_length (word c)

-- the seconds are at most 33 bytes
ended : (c : After-put_seconds-end)
    → c.put_seconds-end.result ≤ c.args.at + 50
ended c = omega (
  arith,
  place_most longest_seconds c.put_seconds-end.ensures (seconds_length _),
  spelled c.before.before.before.before.before,
)

still : (c : After-put_seconds-end)
    → length c.put_seconds-end.new.out ≡ length c.args.out.now
still c = put_length c.put_seconds-end.ensures ∙ simp length-set (kept c.before.before.before.before.before)

pub bounds-out-blank : goal.bounds-out-blank
bounds-out-blank c =
    omega (arith, spelled (goal.at.bounds-out-blank c).After-put_word-blank, kept (goal.at.bounds-out-blank c).After-put_word-blank)

pub overflow_add-blank : goal.overflow_add-blank
overflow_add-blank c =
    omega (arith, spelled (goal.at.overflow_add-blank c).After-put_word-blank)

pub put_seconds-end-requires : goal.put_seconds-end-requires
put_seconds-end-requires c =
    simp length-set (omega (
      arith,
      spelled (goal.at.put_seconds-end-requires c).After-put_word-blank,
      kept (goal.at.put_seconds-end-requires c).After-put_word-blank,
    ))

pub bounds-out-end : goal.bounds-out-end
bounds-out-end c =
    omega (arith, ended (goal.at.bounds-out-end c).After-put_seconds-end, still (goal.at.bounds-out-end c).After-put_seconds-end)

pub overflow_add-result : goal.overflow_add-result
overflow_add-result c =
    omega (arith, ended (goal.at.overflow_add-result c).After-put_seconds-end)

pub returns : goal.returns
returns c =
    timed _ _ _ _ _ _ _ _ _ c.split.ensures c.ticks.ensures (word (goal.at.returns c).After-put_word-blank) c.put_seconds-end.ensures
