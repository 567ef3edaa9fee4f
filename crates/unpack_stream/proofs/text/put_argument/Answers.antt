-- `put_argument` meets its contract: it writes where the function has this argument. Assumes nothing.
use Prim.Native.Nat.{ℕ, ◌+◌, ◌≤◌, ◌<◌}
use mathlib.Core.Path.{◌≡◌, sym}
use mathlib.Core.List.{List, [], ◌∷◌}
use native.Mathlib.Omega.{arith}
use borrow.Author.Tests.{lt-ltb, le-ltb}
use lib.ListN.{length, set, length-set}
use Rattle.digits.specs.Digits.{digits, word_text}
use Rattle.packed.specs.Jobs.{arity_of, argument_of}
use Rattle.packed.specs.declared.jobs.Job.{Job}
use Rattle.writing.specs.Written.{Put, Tried, tried_put, put_none, put_byte, put_more}
use Rattle.unpack_stream.specs.Text.{argument_text, argument_room}
use Rattle.unpack_stream.proofs.text.put_argument.Goals as goal

own : (j : Job) (k a v : ℕ) → a ≡ arity_of j.function → k < a → v ≡ argument_of j k → argument_text j k ≡ 32 ∷ digits 16 16 v
unfolding argument_text word_text
own j k a v e h f = rw (sym e, lt-ltb k a h, f)

none : (j : Job) (k a : ℕ) → a ≡ arity_of j.function → a ≤ k → argument_text j k ≡ []
unfolding argument_text
none j k a e h = rw (sym e, le-ltb k a h)

put : (l out : List ℕ) (at next v : ℕ) → at + argument_room ≤ length l → Tried 16 (set l at 32) (at + 1) (digits 16 16 v) out next
    → Put l at (32 ∷ digits 16 16 v) out next
put l out at next v h t = put_more (put_byte l at 32) (tried_put (simp length-set (omega arith)) t)

pub returns-then-k-arity : goal.returns-then-k-arity
returns-then-k-arity c =
    rw (own c.args.job c.args.k _ _ c.arity.ensures c.if-k-arity.true c.argument_of.ensures)
    (put _ _ _ _ _ c.requires c.put_word.ensures)

pub returns : goal.returns
returns c =
    let a = c.args in
    rw (none a.job a.k _ c.arity.ensures c.if-k-arity.false) (put_none _ _)
