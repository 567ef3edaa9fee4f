-- `ended` meets its contract: a line that has begun ends with the input. Assumes nothing.
use Prim.Native.Nat.{ℕ}
use mathlib.Core.Path.{◌≡◌, sym, subst}
use mathlib.Core.Bool.{Bool, cond}
use mathlib.Core.List.{List}
use native.Mathlib.Omega.{arith}
use Rattle.std.proofs.Common.{true, false, ◌∙◌}
use Rattle.bench_read.specs.Rows.{fresh_at}
use Rattle.writing.specs.Fed.{quiet, Fed}
use Rattle.writing.specs.FedLaws.{fed_quiet}
use Rattle.bench_stream.specs.Lines.{Open, under, line_end}
use Rattle.bench_stream.specs.Stream.{input_end}
use Rattle.bench_stream.specs.declared.lines.State.{State}
use Rattle.bench_stream.proofs.stream.ended.Goals as goal

module _ (s : State) (name : List ℕ) {o : List ℕ} where
  none : fresh_at s.row.stage ≡ true → Fed (input_end (under s name)) (under s name) o 0 o 0 0
  unfolding input_end
  none e =
      subst (λ (b : Bool). Fed (cond b (quiet (under s name)) (line_end (under s name))) (under s name) o 0 o 0 0)
      (sym e) (fed_quiet (under s name) o 0)

  begun : {t : Open} {out : List ℕ} {used : ℕ} → fresh_at s.row.stage ≡ false → Fed (line_end (under s name)) t o 0 out used 0
      → Fed (input_end (under s name)) t o 0 out used 0
  unfolding input_end
  begun {t} {out} {used} e f =
      subst (λ (b : Bool). Fed (cond b (quiet (under s name)) (line_end (under s name))) t o 0 out used 0)
      (sym e) f

pub returns-then-unbegun : goal.returns-then-unbegun
returns-then-unbegun c =
    none _ _ (sym c.unbegun.ensures ∙ c.if-unbegun.true)

pub line_end-requires : goal.line_end-requires
line_end-requires c =
    record { n_in_bounds = c.requires.n_in_bounds; longest_reply_in_bounds = omega arith }

pub returns : goal.returns
returns c =
    begun _ _ (sym c.unbegun.ensures ∙ c.if-unbegun.false) c.line_end.ensures.benches
