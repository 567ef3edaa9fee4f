-- `byte` meets its contract: a newline ends the line, any other byte is read. Assumes nothing.
use Prim.Native.Nat.{ℕ}
use mathlib.Core.Path.{◌≡◌}
use mathlib.Core.List.{List}
use borrow.Author.Tests.{eq-eqb, ne_eqb}
use Rattle.writing.specs.Fed.{Fed}
use Rattle.writing.specs.FedLaws.{fed_quiet}
use Rattle.millimetres.specs.Measured.{byte_measured}
use Rattle.swing_stream.specs.Stream.{swing_byte}
use Rattle.millimetres.specs.declared.Measured.{Measured}
use Rattle.swing_stream.specs.declared.lines.State.{State}
use Rattle.swing_stream.proofs.stream.byte.Goals as goal

goes_on : (s : State) (r : Measured) (b : ℕ) (o : List ℕ) (at : ℕ) → (b ≡ 10 → ⊥) → r ≡ byte_measured s.reading b
    → Fed (swing_byte s b) (record { kind = s.kind; reading = r }) o at o at 0
unfolding swing_byte
goes_on s r b o at ne e = rw (ne_eqb b 10 ne, e) (fed_quiet _ o at)

pub returns-then-b-eq10 : goal.returns-then-b-eq10
unfolding swing_byte
returns-then-b-eq10 c =
    rw (eq-eqb _ _ c.if-b-eq10.true) c.line_end.ensures

pub returns : goal.returns
returns c =
    goes_on _ _ _ _ _ c.if-b-eq10.false c.measure.ensures
