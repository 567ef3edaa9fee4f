-- `line_end` meets its contract: the line is the one that was read. Assumes nothing.
use Prim.Native.Nat.{ℕ}
use mathlib.Core.Path.{◌≡◌, refl, ap, ◌∙◌, subst}
use mathlib.Core.List.{List}
use Rattle.writing.specs.Fed.{Fed}
use Rattle.writing.specs.Written.{Put}
use Rattle.swing_read.specs.Reading.{line_of}
use Rattle.millimetres.specs.Measured.{at_end}
use Rattle.std.specs.Prelude.{Option}
use Rattle.swing_read.specs.declared.Line.{Line}
use Rattle.swing_stream.specs.Lines.{after_line, said_to}
use Rattle.swing_stream.specs.Stream.{heard, said, line_end}
use Rattle.swing_stream.specs.declared.lines.State.{State}
use Rattle.swing_stream.proofs.stream.line_end.Goals as goal

told :
    (s t : State) (l : Option Line) {o out : List ℕ} {at next : ℕ} → l ≡ line_of (at_end s.reading) → t ≡ after_line s l
    → Put o at (said_to s l) out next
    → Fed (line_end s) t o at out next 0
unfolding heard said
told s t l {o} {out} {at} {next} is e p =
    record {
      left = e ∙ ap (after_line s) is;
      said = subst (λ (k : Option Line). Put o at (said_to s k) out next) is p;
      counted = refl;
    }

pub returns : goal.returns
returns c =
    told _ _ _ (c.close-line.ensures ∙ ap line_of c.at_end.ensures) c.after_line.ensures
    c.put_line.ensures
