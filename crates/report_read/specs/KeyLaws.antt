-- The lines of two words of one function are never the same: their keys differ. Assumes nothing.
use Rattle.std.specs.Prelude.{ℕ, ◌≤◌, ◌<◌, ◌≡◌, refl, Bool, true, false, ◌&&◌, cond, List, [], ◌∷◌, ◌++◌, T, eqb, ltb}
use Rattle.std.proofs.Common.{◌∙◌, arith, eq-eqb, le-ltb}
use Rattle.scaling.specs.Every.{all, every}
use Rattle.digits.specs.Digits.{glyph_of, digits}
use Rattle.writing.specs.Decimal.{places_of, decimal}
use Rattle.listing_read.specs.Lines.{same}
use Rattle.unpack_stream.specs.Text.{name_text}
use Rattle.report_text.specs.Text.{refused_key, slot_key, slot_line}

-- two texts differ at a byte that both have, whatever follows
unfoldable clash : List ℕ → List ℕ → Bool
clash [] m = false
clash (a ∷ l) [] = false
clash (a ∷ l) (b ∷ m) = cond (eqb a b) (clash l m) true

clash_same : (l m c d : List ℕ) → clash l m ≡ true → same (l ++ c) (m ++ d) ≡ false
unfolding clash same
clash_same [] m c d e = let z : ◌≡◌ {A = ℕ} 0 1 = cc in absurd (omega arith)
clash_same (a ∷ l) [] c d e = let z : ◌≡◌ {A = ℕ} 0 1 = cc in absurd (omega arith)
clash_same (a ∷ l) (b ∷ m) c d e = go (eqb a b) e (clash_same l m c d)
  where
    go : (t : Bool) → cond t (clash l m) true ≡ true → (clash l m ≡ true → same (l ++ c) (m ++ d) ≡ false)
        → (t && same (l ++ c) (m ++ d)) ≡ false
    go true e f = f e
    go false e f = refl

-- every tally's key and every later one, computed
differ : ℕ → ℕ → Bool
differ i j = cond (ltb j 1) true (clash (slot_key j) (slot_key i))

all_differ : T (all 29 (λ i. all i (differ i)))
unfolding all differ clash slot_key refused_key decimal places_of digits glyph_of
all_differ = tt

is_true : (t : Bool) → T t → t ≡ true
is_true true h = refl
is_true false h = elim h [ ]

keys_differ : (i j : ℕ) → 1 ≤ j → j < i → i ≤ 28 → clash (slot_key j) (slot_key i) ≡ true
unfolding differ
keys_differ i j h k l =
    let t = every i (differ i) (every 29 (λ i. all i (differ i)) all_differ i (omega arith)) j k in
    rw (le-ltb j 1 h) at (is_true (differ i j) t)

same_front : (k l m : List ℕ) → same (k ++ l) (k ++ m) ≡ same l m
unfolding same
same_front [] l m = refl
same_front (a ∷ k) l m = rw (eq-eqb a a refl) (same_front k l m)

-- THE LAW: a tally's line is no later one's
pub lines_differ : (f i j n v : ℕ) → 1 ≤ j → j < i → i ≤ 28 → same (slot_line f j n) (slot_line f i v) ≡ false
unfolding slot_line
lines_differ f i j n v h k l =
    same_front (name_text f) (slot_key j ++ decimal 19 n) (slot_key i ++ decimal 19 v)
    ∙ clash_same (slot_key j) (slot_key i) (decimal 19 n) (decimal 19 v) (keys_differ i j h k l)
