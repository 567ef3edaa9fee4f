-- `put_given` meets its contract. The invariant: the first i bytes were written, as they are shown. Assumes nothing.
use Prim.Native.Nat.{ℕ, ◌+◌, ◌≤◌, ◌<◌, min}
use mathlib.Core.Path.{◌≡◌, refl, ap, ◌∙◌, subst}
use mathlib.Core.List.{List, [], ◌∷◌, ◌++◌}
use native.Mathlib.Numerals.{add-one}
use native.Mathlib.Omega.{arith}
use lib.ListN.{length, get_or, take, set, length-set}
use lib.Seq.{take-suc}
use Rattle.writing.specs.Parts.{take_least}
use Rattle.writing.specs.Written.{Put, put_more, put_byte}
use Rattle.spoken_parts.specs.Texts.{shown_byte, shown_bytes, given_text}
use Rattle.spoken_write.specs.Shown.{shown_more}
use Rattle.spoken_write.proofs.text.put_given.Goals as goal

none_yet : (o line : List ℕ) (at : ℕ) → Put o at (shown_bytes (take 0 line)) o (at + 0)
unfolding shown_bytes
none_yet o line at = record { bytes = refl; place = refl }

next_is : (line : List ℕ) (i : ℕ) → i < length line
    → shown_bytes (take (i + 1) line) ≡ shown_bytes (take i line) ++ shown_byte (get_or line i 0) ∷ []
next_is line i h =
    ap (λ (m : ℕ). shown_bytes (take m line)) (add-one i) ∙ ap shown_bytes (take-suc line i 0 h) ∙ shown_more (take i line) _

more : {o out : List ℕ} (line : List ℕ) {at i b : ℕ} → i < length line → b ≡ shown_byte (get_or line i 0)
    → Put o at (shown_bytes (take i line)) out (at + i)
    → Put o at (shown_bytes (take (i + 1) line)) (set out (at + i) b) (at + (i + 1))
more {o} {out} line {at} {i} {b} h e p =
    let q = put_more p (put_byte out (at + i) (shown_byte (get_or line i 0))) in
    record { bytes = rw (next_is line i h, e) q.bytes; place = rw (next_is line i h) (omega (arith, q.place)) }

all : {o out : List ℕ} (line : List ℕ) {at i n : ℕ} → n ≡ min (length line) 128 → i ≤ n → n ≤ i
    → Put o at (shown_bytes (take i line)) out (at + i) → Put o at (given_text line) (set out (at + n) 9) (at + n + 1)
unfolding given_text
all {o} {out} line {at} {i} {n} e h k p =
    let f : i ≡ n = omega arith in
    let q : Put o at (shown_bytes (take n line)) out (at + n) =
    subst (λ (m : ℕ). Put o at (shown_bytes (take m line)) out (at + m)) f p in
    put_more (subst (λ (l : List ℕ). Put o at (shown_bytes l) out (at + n)) (take_least line (length line) 128 n refl e) q)
    (put_byte out (at + n) 9)

pub loop-i-init : goal.loop-i-init
loop-i-init c =
    (refl, none_yet _ c.args.line.now _)

pub loop-i-preserved : goal.loop-i-preserved
loop-i-preserved c =
    (simp length-set c.loop-i.invariant.0, more _ (omega arith) c.shown.ensures c.loop-i.invariant.1)

pub shape_of-out : goal.shape_of-out
shape_of-out c =
    simp length-set c.loop-i.invariant.0

pub returns : goal.returns
returns c =
    all _ c.least-n.ensures.2 (omega arith) (omega arith) c.loop-i.invariant.1
