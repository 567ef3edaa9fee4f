-- `put_span` meets its contract: both places are cut as the definition cuts them. Assumes nothing.
use Prim.Native.Nat.{ℕ, ◌-◌, min}
use mathlib.Core.Path.{◌≡◌, subst}
use mathlib.Core.List.{List}
use lib.ListN.{length, take, drop}
use Rattle.writing.specs.Written.{Tried}
use Rattle.spoken_parts.specs.Held.{span_of}
use Rattle.spoken_write.proofs.text.put_span.Goals as goal

module _ (all : List ℕ) (from to : ℕ) {start end : ℕ} (e : end ≡ min to (length all)) (f : start ≡ min from end) where
  span-is : take (end - start) (drop start all) ≡ span_of all from to
  unfolding span_of
  span-is = rw (f, e)

  spanned : {o out : List ℕ} {at next : ℕ}
      → Tried (length (take (end - start) (drop start all))) o at (take (end - start) (drop start all)) out next
      → Tried (length (span_of all from to)) o at (span_of all from to) out next
  spanned {o} {out} {at} {next} t = subst (λ (l : List ℕ). Tried (length l) o at l out next) span-is t

pub returns : goal.returns
returns c =
    spanned _ _ _ c.least-end.ensures.2 c.least-start.ensures.2 c.put_text.ensures
