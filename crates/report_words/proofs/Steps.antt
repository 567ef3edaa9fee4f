-- From what each function leaves to its definition. Assumes nothing.
use Rattle.std.specs.Prelude.{Some, None}
use Prim.Native.Nat.{ℕ, zero, suc, ◌+◌, ◌-◌, ◌*◌, ◌≤◌, ◌<◌}
use mathlib.Core.Path.{◌≡◌, refl, sym, ◌∙◌}
use mathlib.Core.Bool.{Bool, true, false, ◌&&◌}
use mathlib.Core.List.{List}
use native.Mathlib.Nat.{zero-add, suc-add, sub-zero}
use native.Mathlib.Numerals.{add-one}
use native.Mathlib.Omega.{arith}
use borrow.Rule.Slice.PartMut.{mid_of, put_mid}
use borrow.Author.Tests.{le-leb, lt-leb, lt-ltb, le-ltb, eq-eqb, ne_eqb, eqb-true, leb-true}
use lib.Dec.{eqb, leb}
use lib.ListN.{length, get_or}
use lib.Ieee.{binary64, of_bits, round}
use Rattle.exact.specs.Exact.{turn, below_zero, size_held, rounded_held, held_by}
use Rattle.tally.specs.Tally.{block_added, block_joined}
use Rattle.tally.specs.declared.counted.Counted.{Counted}
use Rattle.report_words.specs.Words.{stands_in, counted_added, calls_in, calls_in_all, room_after, blocks_joined, words_joined}
use Rattle.report_words.specs.Words.{word_at, refused_at, sum_at}

-- ---- what the test tells
pub stands_other : (n f : ℕ) → (n ≡ 384 → ⊥) → false ≡ stands_in n f
unfolding stands_in
stands_other n f h = rw (ne_eqb n 384 h)

pub stands_low : (n f : ℕ) → n ≡ 384 → f < 1 → false ≡ stands_in n f
unfolding stands_in
stands_low n f h k = rw (eq-eqb n 384 h, lt-leb 1 f k)

pub stands_last : (n f : ℕ) → n ≡ 384 → 1 ≤ f → leb f 6 ≡ stands_in n f
unfolding stands_in
stands_last n f h k = rw (eq-eqb n 384 h, le-leb 1 f k)

pub record Stands (n f : ℕ) : Type 0 where
  pub words : n ≡ 384
  pub least : 1 ≤ f
  pub most : f ≤ 6

pub stands_is : {t : Bool} (n f : ℕ) → t ≡ stands_in n f → t ≡ true → Stands n f
unfolding stands_in
stands_is n f e h = go (eqb n 384) (leb 1 f) (leb f 6) refl refl refl (sym e ∙ h)
  where
    go : (a b c : Bool) → eqb n 384 ≡ a → leb 1 f ≡ b → leb f 6 ≡ c → (a && (b && c)) ≡ true → Stands n f
    go true true true p q r e = record { words = eqb-true n 384 p; least = leb-true 1 f q; most = leb-true f 6 r }
    go true true false p q r e = let z : ◌≡◌ {A = ℕ} 0 1 = cc in absurd (omega arith)
    go true false c p q r e = let z : ◌≡◌ {A = ℕ} 0 1 = cc in absurd (omega arith)
    go false b c p q r e = let z : ◌≡◌ {A = ℕ} 0 1 = cc in absurd (omega arith)

-- ---- an answer more
past : (a : ℕ) → a + 64 - a ≡ 64
past a = omega arith

pub added : {t : Bool} (ws ys : List ℕ) (f : ℕ) (c : Counted) → t ≡ stands_in (length ws) f → t ≡ true
    → ys ≡ block_added (mid_of ((f - 1) * 64) ((f - 1) * 64 + 64 - (f - 1) * 64) ws) c
    → put_mid ((f - 1) * 64) ((f - 1) * 64 + 64 - (f - 1) * 64) ws ys ≡ counted_added ws f c
unfolding counted_added
added ws ys f c e h i = rw (sym e ∙ h, past ((f - 1) * 64), i, past ((f - 1) * 64))

pub added_not : {t : Bool} (ws : List ℕ) (f : ℕ) (c : Counted) → t ≡ stands_in (length ws) f → t ≡ false → ws ≡ counted_added ws f c
unfolding counted_added
added_not ws f c e h = rw (sym e ∙ h)

-- ---- what stands there
pub word_past : (ws : List ℕ) (f i : ℕ) → 64 ≤ i → 0 ≡ word_at ws f i
unfolding word_at
word_past ws f i h = rw (le-ltb i 64 h)

pub word_there : {t : Bool} (ws : List ℕ) (f i : ℕ) → i < 64 → t ≡ stands_in (length ws) f → t ≡ true
    → get_or ws ((f - 1) * 64 + i) 0 ≡ word_at ws f i
unfolding word_at
word_there ws f i h e k = rw (lt-ltb i 64 h, sym e ∙ k)

pub word_not : {t : Bool} (ws : List ℕ) (f i : ℕ) → i < 64 → t ≡ stands_in (length ws) f → t ≡ false → 0 ≡ word_at ws f i
unfolding word_at
word_not ws f i h e k = rw (lt-ltb i 64 h, sym e ∙ k)

pub refused_low : (ws : List ℕ) (f n : ℕ) → n < 1 → 0 ≡ refused_at ws f n
unfolding refused_at
refused_low ws f n h = rw (lt-leb 1 n h)

pub refused_past : (ws : List ℕ) (f n : ℕ) → 1 ≤ n → 27 < n → 0 ≡ refused_at ws f n
unfolding refused_at
refused_past ws f n h k = rw (le-leb 1 n h, lt-leb n 27 k)

pub refused_there : (ws : List ℕ) (f n : ℕ) → 1 ≤ n → n ≤ 27 → word_at ws f n ≡ refused_at ws f n
unfolding refused_at
refused_there ws f n h k = rw (le-leb 1 n h, le-leb n 27 k)

past_sum : (a : ℕ) → a + 34 - a ≡ 34
past_sum a = omega arith

pub sum_there : {t : Bool} (ws : List ℕ) (f : ℕ) → t ≡ stands_in (length ws) f → t ≡ true
    → rounded_held (held_by (mid_of ((f - 1) * 64 + 30) ((f - 1) * 64 + 30 + 34 - ((f - 1) * 64 + 30)) ws)) ≡ sum_at ws f
unfolding sum_at
sum_there ws f e h = rw (sym e ∙ h, past_sum ((f - 1) * 64 + 30))

pub sum_not : {t : Bool} (ws : List ℕ) (f : ℕ) → t ≡ stands_in (length ws) f → t ≡ false → of_bits binary64 0 ≡ sum_at ws f
unfolding sum_at rounded_held size_held below_zero turn round of_bits
sum_not ws f e h = rw (sym e ∙ h)

-- ---- the calls
pub calls_other : (room : ℕ) (ws : List ℕ) → (length ws ≡ 384 → ⊥) → Some room ≡ room_after room ws
unfolding room_after calls_in_all
calls_other room ws h = rw (ne_eqb (length ws) 384 h, le-leb 0 room (omega arith), sub-zero)

calls_grow : (left k : ℕ) (ws : List ℕ) → calls_in k ws ≤ calls_in (left + k) ws
unfolding calls_in
calls_grow zero k ws = rw zero-add (omega arith)
calls_grow (suc left) k ws = rw suc-add (omega (arith, calls_grow left k ws))

pub calls_over : (room left k : ℕ) (ws : List ℕ) → length ws ≡ 384 → k < 6 → left + calls_in k ws ≡ room
    → left < get_or ws (k * 64) 0 → None ≡ room_after room ws
unfolding room_after calls_in_all calls_in
calls_over room left k ws h i e m =
    let j : 5 - k + suc k ≡ 6 = omega arith in
    let g : calls_in (suc k) ws ≤ calls_in 6 ws = rw j at (calls_grow (5 - k) (suc k) ws) in
    rw (eq-eqb (length ws) 384 h, lt-leb (calls_in 6 ws) room (omega arith))

pub calls_left : (room left k : ℕ) (ws : List ℕ) → length ws ≡ 384 → k ≤ 6 → 6 ≤ k → left + calls_in k ws ≡ room
    → Some left ≡ room_after room ws
unfolding room_after calls_in_all
calls_left room left k ws h i j e =
    let f : k ≡ 6 = omega arith in
    let g : left + calls_in 6 ws ≡ room = rw f at e in
    let d : room - calls_in 6 ws ≡ left = omega arith in
    rw (eq-eqb (length ws) 384 h, le-leb (calls_in 6 ws) room (omega arith), d)

pub calls_on : (room left k : ℕ) (ws : List ℕ) → left + calls_in k ws ≡ room → get_or ws (k * 64) 0 ≤ left
    → left - get_or ws (k * 64) 0 + calls_in (k + 1) ws ≡ room
unfolding calls_in
calls_on room left k ws e h = rw add-one (omega arith)

-- ---- joined
pub joined_not : (ws os : List ℕ) → (length ws ≡ 384 → ⊥) → ws ≡ words_joined ws os
unfolding words_joined
joined_not ws os h = rw (ne_eqb (length ws) 384 h)

pub joined_nor : (ws os : List ℕ) → length ws ≡ 384 → (length os ≡ 384 → ⊥) → ws ≡ words_joined ws os
unfolding words_joined
joined_nor ws os h k = rw (eq-eqb (length ws) 384 h, ne_eqb (length os) 384 k)

pub joined_all : (k : ℕ) (w₀ ws os : List ℕ) → length w₀ ≡ 384 → length os ≡ 384 → k ≤ 6 → 6 ≤ k
    → blocks_joined k (6 - k) ws os ≡ blocks_joined 0 6 w₀ os → ws ≡ words_joined w₀ os
unfolding words_joined blocks_joined
joined_all k w₀ ws os h i j l e =
    let f : 6 - k ≡ 0 = omega arith in
    let g : ws ≡ blocks_joined 0 6 w₀ os = rw f at e in
    rw (eq-eqb (length w₀) 384 h, eq-eqb (length os) 384 i) g

pub joined_on : (k : ℕ) (ws os ys : List ℕ) → k < 6
    → ys ≡ block_joined (mid_of (k * 64) (k * 64 + 64 - k * 64) ws) (mid_of (k * 64) (k * 64 + 64 - k * 64) os)
    → blocks_joined (k + 1) (6 - (k + 1)) (put_mid (k * 64) (k * 64 + 64 - k * 64) ws ys) os ≡ blocks_joined k (6 - k) ws os
unfolding blocks_joined
joined_on k ws os ys h e =
    let f : 6 - k ≡ suc (6 - (k + 1)) = omega arith in rw (f, past (k * 64), e, past (k * 64), add-one)
