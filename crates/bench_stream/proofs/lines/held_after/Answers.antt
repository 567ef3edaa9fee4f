-- `held_after` meets its contract: a byte of the name is held, every other is not. Assumes nothing.
use Prim.Native.Nat.{ℕ, ◌≤◌}
use mathlib.Core.Path.{◌≡◌, sym, ◌∙◌}
use mathlib.Core.Bool.{true, false}
use mathlib.Core.List.{List}
use native.Mathlib.Omega.{arith}
use lib.ListN.{length, take, set}
use Rattle.writing.specs.Parts.{held_more}
use Rattle.writing.specs.Written.{pushed, pushed_most}
use Rattle.bench_read.specs.Rows.{named}
use Rattle.bench_read.specs.declared.rows.Row.{Row}
use Rattle.bench_stream.specs.Lines.{held_length, name_after}
use Rattle.bench_stream.proofs.lines.held_after.Goals as goal

kept : (row : Row) (held after : List ℕ) (b n r : ℕ) → length held ≡ held_length → n ≤ held_length → named row b ≡ true
    → after ≡ set held n b → r ≡ pushed n (length held) → take r after ≡ name_after row (take n held) b
unfolding name_after
kept row held after b n r l h t e f = rw (t, e) (held_more held n b r (omega arith) f ∙ rw l)

left : (row : Row) (name : List ℕ) (b : ℕ) → named row b ≡ false → name ≡ name_after row name b
unfolding name_after
left row name b t = rw t

pub returns-then-naming : goal.returns-then-naming
returns-then-naming c =
    record {
      held_after = kept c.args.s.row c.args.held.now _ _ c.args.n _ c.requires.held_len c.requires.n_le_held_length
          (sym c.naming.ensures ∙ c.if-naming.true)
          c.push.ensures.0 c.push.ensures.1;
      upper_bound = pushed_most c.args.n held_length _ c.requires.n_le_held_length (rw c.requires.held_len at c.push.ensures.1);
    }

pub returns : goal.returns
returns c =
    record { held_after = left c.args.s.row _ _ (sym c.naming.ensures ∙ c.if-naming.false); upper_bound = c.requires.n_le_held_length }
