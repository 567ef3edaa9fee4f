-- `byte` meets its contract: a newline ends the line, any other byte is read. Assumes nothing.
use Prim.Native.Nat.{ℕ}
use mathlib.Core.Path.{◌≡◌}
use mathlib.Core.List.{List}
use native.Mathlib.Omega.{arith}
use borrow.Author.Tests.{eq-eqb, ne_eqb}
use lib.ListN.{take}
use Rattle.writing.specs.Fed.{Fed}
use Rattle.writing.specs.FedLaws.{fed_quiet}
use Rattle.bench_stream.specs.Lines.{Open, state_after, name_after, under, open_after, line_end, bench_byte}
use Rattle.bench_stream.specs.declared.lines.State.{State}
use Rattle.bench_stream.proofs.stream.byte.Goals as goal

-- the line has ended
ended : (s : State) (t : Open) (name before out : List ℕ) (b at used : ℕ) → b ≡ 10
    → Fed (line_end (under s name)) t before at out used 0 → Fed (bench_byte (under s name) b) t before at out used 0
unfolding bench_byte
ended s t name before out b at used e f = rw (eq-eqb b 10 e) f

goes_on : (s t : State) (name after before : List ℕ) (b at n : ℕ) → (b ≡ 10 → ⊥) → t ≡ state_after s b
    → take n after ≡ name_after s.row name b
    → Fed (bench_byte (under s name) b) (under t (take n after)) before at before at 0
unfolding bench_byte open_after
goes_on s t name after before b at n ne e f = rw (ne_eqb b 10 ne, e, f) (fed_quiet _ before at)

pub line_end-told-requires : goal.line_end-told-requires
line_end-told-requires c =
    record { n_in_bounds = omega arith; longest_reply_in_bounds = c.requires.longest_reply_in_bounds }

pub returns-then-b-eq10 : goal.returns-then-b-eq10
returns-then-b-eq10 c =
    record {
      fed = ended _ _ _ _ _ _ _ _ c.if-b-eq10.true c.line_end-told.ensures.benches;
      held_le_held_length = omega (arith, c.line_end-told.ensures.held_value);
    }

pub returns : goal.returns
returns c =
    record {
      fed = goes_on _ _ (take c.args.n c.args.held.now) c.held_after-after.new.held _ _ _ c.held_after-after.result
          c.if-b-eq10.false c.after_byte.ensures c.held_after-after.ensures.held_after;
      held_le_held_length = c.held_after-after.ensures.upper_bound;
    }
