-- `put_name` meets its contract. Assumes nothing.
use Prim.Native.Nat.{ℕ, ◌+◌}
use mathlib.Core.Path.{◌≡◌, refl}
use mathlib.Core.Bool.{false}
use mathlib.Core.List.{List}
use native.Mathlib.Numerals.{add-one}
use native.Mathlib.Omega.{arith}
use borrow.Author.Rules.{rules}
use borrow.Author.Tests.{eq-eqb, ne_eqb}
use lib.Dec.{eqb}
use lib.ListN.{set, length-set}
use Rattle.writing.specs.Written.{Put, tried_put, put_length}
use Rattle.unpack_stream.specs.Text.{letter_of, name_text}
use Rattle.report_text.proofs.word.put_name.Goals as goal

two : (f : ℕ) (l : List ℕ) (at b : ℕ) → eqb f 6 ≡ false → b ≡ letter_of f
    → Put l at (name_text f) (set (set l at 82) (at + 1) b) (at + 2)
unfolding name_text
two f l at b t e = rw (t, ← e) (record { bytes = rw add-one; place = refl })

pub returns-then-function-eq6 : goal.returns-then-function-eq6
unfolding name_text
returns-then-function-eq6 c =
    rw (eq-eqb _ 6 c.if-function-eq6.true) (tried_put (omega arith) c.put_text.ensures)

pub bounds-out-at-2 : goal.bounds-out-at-2
bounds-out-at-2 c =
    simp length-set (omega arith)

pub shape_of-out : goal.shape_of-out
shape_of-out c =
    simp length-set

pub returns : goal.returns
returns c =
    two _ _ _ _ (ne_eqb _ 6 c.if-function-eq6.false) c.letter.ensures
