-- `last` meets its contract: a line that has begun ends with the input. Assumes nothing.
use Prim.Native.Nat.{ℕ}
use mathlib.Core.Path.{◌≡◌, sym, ◌∙◌, subst}
use mathlib.Core.Bool.{Bool, true, false, cond}
use mathlib.Core.List.{List, ◌++◌}
use native.Mathlib.Omega.{arith}
use Rattle.writing.specs.Fed.{Fed}
use Rattle.writing.specs.Written.{Put, put_more, put_length, place_most}
use Rattle.millimetres.specs.Measured.{unread}
use Rattle.swing_write.specs.Replies.{longest_swing, longest_total}
use Rattle.swing_stream.specs.Stream.{heard, said, line_end, said_at_end, said_last}
use Rattle.swing_stream.specs.declared.lines.State.{State}
use Rattle.swing_stream.proofs.Lengths.{said_length, said_end_length}
use Rattle.swing_stream.proofs.stream.last.Goals as goal

ended : (s : State) (o out : List ℕ) (next : ℕ) → unread s.reading ≡ true → Put o 0 (said_at_end s) out next
    → Put o 0 (said_last s) out next
unfolding said_last
ended s o out next e p = subst (λ (b : Bool). Put o 0 (cond b (said_at_end s) (said s ++ said_at_end (heard s))) out next) (sym e) p

begun :
    (s t : State) (o half out : List ℕ) (h next : ℕ) → unread s.reading ≡ false → Fed (line_end s) t o 0 half h 0
    → Put half h (said_at_end t) out next
    → Put o 0 (said_last s) out next
unfolding said_last
begun s t o half out h next e p q =
    subst (λ (b : Bool). Put o 0 (cond b (said_at_end s) (said s ++ said_at_end (heard s))) out next) (sym e)
    (put_more p.said (subst (λ (x : State). Put half h (said_at_end x) out next) p.left q))

pub returns-then-nothing_measured : goal.returns-then-nothing_measured
returns-then-nothing_measured c =
    let p = c.closing.ensures in record { put = ended _ _ _ _ (sym c.nothing_measured.ensures ∙ c.if-nothing_measured.true) p; upper_bound = omega (arith, place_most longest_total p (said_end_length _)) }

pub closing-requires-2 : goal.closing-requires-2
closing-requires-2 c =
    omega (
      arith,
      place_most longest_swing c.line_end-told.ensures.said (said_length _),
      put_length c.line_end-told.ensures.said,
    )

pub returns : goal.returns
returns c =
    let p = c.closing-2.ensures in record {
      put = begun _ _ _ _ _ _ _ (sym c.nothing_measured.ensures ∙ c.if-nothing_measured.false)
          c.line_end-told.ensures p;
      upper_bound = omega (
        arith,
        place_most longest_total p (said_end_length _),
        place_most longest_swing c.line_end-told.ensures.said (said_length _),
      );
    }
