-- What is read at the end of a line that was written is what was written there. Assumes nothing.
use Prim.Native.Nat.{ℕ, zero, suc, ◌+◌, ◌-◌, ◌/◌, ◌%◌, ◌^◌, ◌≤◌, ◌<◌}
use Rattle.std.specs.Prelude.{◌≡◌, Bool, true, false, cond, List, [], ◌∷◌, ◌++◌, eqb, leb, ltb}
use Rattle.std.proofs.Math.Path.{refl, ap}
use Rattle.std.proofs.Common.{◌∙◌, pow-suc, div-le_self, div-lt_iff_lt-mul, mod-eq_of_lt, lt_of_le_of_lt}
use Rattle.std.proofs.Math.Nat.{pow-zero, div-add-mod', mod-lt}
use native.Mathlib.Omega.{arith}
use borrow.Author.Tests.{lt-ltb, ne_eqb}
use Rattle.exact.specs.Exact.{turn, below_zero, size_held}
use Rattle.digits.specs.Digits.{digit_of, glyph_of, digits}
use Rattle.digits.proofs.DigitLaws.{digit_of_glyph}
use Rattle.writing.specs.Decimal.{places_of, decimal}
use Rattle.writing.specs.Places.{places_hold}
use Rattle.unpack_stream.specs.Text.{letter_of, name_text}
use Rattle.report_text.specs.Text.{refused_key, slot_key, slot_line, hex_places, hex_text, sign_text, exact_line}
use Rattle.report_text.specs.HexLaws.{size-lt, digits_hold}
use Rattle.report_read.specs.Reading.{number_step, trailing, has_minus, held_from, said_sum}

-- ---- the number
trailing_append : (base m v : ℕ) (xs ys : List ℕ) → trailing base m v (xs ++ ys) ≡ trailing base m (trailing base m v xs) ys
unfolding trailing
trailing_append base m v [] ys = refl
trailing_append base m v (x ∷ xs) ys = trailing_append base m (number_step base m v x) xs ys

module _ (base m : ℕ) (low : 1 < base) (high : base ≤ 16) where
  next : (n : ℕ) → n < m → number_step base m (n / base) (glyph_of (n % base)) ≡ n
  unfolding number_step
  next n h =
      let k : n % base < base = mod-lt n (omega arith) in
      rw (digit_of_glyph (n % base) (omega arith), lt-ltb (n % base) base k, div-add-mod' n base) (mod-eq_of_lt h)

  shorter : (k n : ℕ) → n < base ^ suc k → n / base < base ^ k
  shorter k n h = (div-lt_iff_lt-mul {k = base} {x = n} {y = base ^ k} (omega arith)).1 (rw pow-suc at h)

  trailing_digits : (k n : ℕ) → n < base ^ k → n < m → trailing base m 0 (digits base k n) ≡ n
  unfolding trailing digits
  trailing_digits zero n h l = let z : n < 1 = rw pow-zero at h in omega arith
  trailing_digits (suc k) n h l =
      trailing_append base m 0 (digits base k (n / base)) (glyph_of (n % base) ∷ [])
      ∙ ap (λ (v : ℕ). number_step base m v (glyph_of (n % base)))
      (trailing_digits k (n / base) (shorter k n h) (lt_of_le_of_lt (div-le_self n base) l))
      ∙ next n l

-- ---- a word's line
-- a key ends with a blank
refused_ends : (m v n : ℕ) → trailing 10 m v (refused_key n) ≡ 0
unfolding refused_key trailing number_step digit_of
refused_ends m v n = trailing_append 10 m 0 (decimal 1 n) (32 ∷ [])

key_ends : (m v i : ℕ) → trailing 10 m v (slot_key i) ≡ 0
unfolding slot_key trailing number_step digit_of
key_ends m v i = go (eqb i 0) (leb i 27) (eqb i 28)
  where
    go : (s t u : Bool)
        → trailing 10 m v
        (cond s (32 ∷ 99 ∷ 97 ∷ 108 ∷ 108 ∷ 115 ∷ 32 ∷ [])
        (cond t (refused_key i)
        (cond u (32 ∷ 114 ∷ 111 ∷ 117 ∷ 110 ∷ 100 ∷ 115 ∷ 32 ∷ []) (32 ∷ 109 ∷ 111 ∷ 115 ∷ 116 ∷ 32 ∷ []))))
        ≡ 0
    go true t u = refl
    go false true u = refused_ends m v i
    go false false true = refl
    go false false false = refl

pub slot_end : (f i n : ℕ) → n < 2 ^ 64 → trailing 10 (2 ^ 64) 0 (slot_line f i n) ≡ n
unfolding slot_line decimal
slot_end f i n h =
    let m : ℕ = 2 ^ 64 in
    trailing_append 10 m 0 (name_text f) (slot_key i ++ digits 10 (places_of 19 n) n)
    ∙ trailing_append 10 m (trailing 10 m 0 (name_text f)) (slot_key i) (digits 10 (places_of 19 n) n)
    ∙ ap (λ (v : ℕ). trailing 10 m v (digits 10 (places_of 19 n) n)) (key_ends m (trailing 10 m 0 (name_text f)) i)
    ∙ trailing_digits 10 m (omega arith) (omega arith) (places_of 19 n) n (places_hold 19 n (omega arith)) h

-- ---- an exact sum's: its size
sign_ends : (m w : ℕ) → trailing 16 m 0 (sign_text w) ≡ 0
unfolding sign_text trailing number_step digit_of
sign_ends m w = go (below_zero w)
  where
    go : (t : Bool) → trailing 16 m 0 (cond t (45 ∷ []) []) ≡ 0
    go true = refl
    go false = refl

size_end : (f w : ℕ) → w < turn → trailing 16 turn 0 (exact_line f w) ≡ size_held w
unfolding exact_line hex_text
size_end f w h =
    let s = size_held w in
    let text : List ℕ = digits 16 (hex_places 543 s) s in
    trailing_append 16 turn 0 (name_text f) (32 ∷ 101 ∷ 120 ∷ 97 ∷ 99 ∷ 116 ∷ 32 ∷ (sign_text w ++ text))
    ∙ blank (trailing 16 turn 0 (name_text f)) (sign_text w ++ text) ∙ trailing_append 16 turn 0 (sign_text w) text
    ∙ ap (λ (v : ℕ). trailing 16 turn v text) (sign_ends turn w)
    ∙ trailing_digits 16 turn (omega arith) (omega arith) (hex_places 543 s) s (digits_hold s (size-lt w h)) (size-lt w h)
  where
    blank : (v : ℕ) (xs : List ℕ) → trailing 16 turn v (32 ∷ 101 ∷ 120 ∷ 97 ∷ 99 ∷ 116 ∷ 32 ∷ xs) ≡ trailing 16 turn 0 xs
    blank v xs = unfold trailing number_step digit_of in refl

-- and its sign
minus_append : (xs ys : List ℕ) → has_minus xs ≡ false → has_minus (xs ++ ys) ≡ has_minus ys
unfolding has_minus
minus_append [] ys h = refl
minus_append (x ∷ xs) ys h = go (eqb x 45) h (minus_append xs ys)
  where
    go : (t : Bool) → cond t true (has_minus xs) ≡ false → (has_minus xs ≡ false → has_minus (xs ++ ys) ≡ has_minus ys)
        → cond t true (has_minus (xs ++ ys)) ≡ has_minus ys
    go true h f = let z : ◌≡◌ {A = ℕ} 0 1 = cc in absurd (omega arith)
    go false h f = f h

glyph_minus : (d : ℕ) → eqb (glyph_of d) 45 ≡ false
unfolding glyph_of
glyph_minus d = go (ltb d 10)
  where
    go : (t : Bool) → eqb (cond t (48 + d) (55 + d)) 45 ≡ false
    go true = ne_eqb (48 + d) 45 (λ e. omega arith)
    go false = ne_eqb (55 + d) 45 (λ e. omega arith)

digits_minus : (k n : ℕ) → has_minus (digits 16 k n) ≡ false
unfolding digits has_minus
digits_minus zero n = refl
digits_minus (suc k) n =
    minus_append (digits 16 k (n / 16)) (glyph_of (n % 16) ∷ []) (digits_minus k (n / 16)) ∙ rw (glyph_minus (n % 16))

letter_minus : (f : ℕ) → eqb (letter_of f) 45 ≡ false
unfolding letter_of
letter_minus f = go (eqb f 1) (eqb f 2) (eqb f 3) (eqb f 4)
  where
    go : (a b c d : Bool) → eqb (cond a 70 (cond b 67 (cond c 68 (cond d 71 74)))) 45 ≡ false
    go true b c d = refl
    go false true c d = refl
    go false false true d = refl
    go false false false true = refl
    go false false false false = refl

name_minus : (f : ℕ) → has_minus (name_text f) ≡ false
unfolding name_text has_minus
name_minus f = go (eqb f 6)
  where
    go : (t : Bool) → has_minus (cond t (67 ∷ 69 ∷ 76 ∷ []) (82 ∷ letter_of f ∷ [])) ≡ false
    go true = refl
    go false = rw (letter_minus f)

sign_end : (f w : ℕ) → has_minus (exact_line f w) ≡ below_zero w
unfolding exact_line sign_text hex_text has_minus
sign_end f w =
    let s = size_held w in
    minus_append (name_text f)
    (32 ∷ 101 ∷ 120 ∷ 97 ∷ 99 ∷ 116 ∷ 32 ∷ (cond (below_zero w) (45 ∷ []) [] ++ digits 16 (hex_places 543 s) s)) (name_minus f)
    ∙ go (below_zero w)
  where
    go : (t : Bool)
        → has_minus (32 ∷ 101 ∷ 120 ∷ 97 ∷ 99 ∷ 116 ∷ 32 ∷
        (cond t (45 ∷ []) [] ++ digits 16 (hex_places 543 (size_held w)) (size_held w))) ≡ t
    go true = refl
    go false = digits_minus (hex_places 543 (size_held w)) (size_held w)

-- so the sum is read as it is held
held_back : (w : ℕ) → w < turn → held_from (below_zero w) (size_held w) ≡ w
unfolding held_from size_held
held_back w h = go (below_zero w)
  where
    go : (t : Bool) → cond t ((turn - cond t (turn - w) w) % turn) (cond t (turn - w) w) ≡ w
    go true = let e : turn - (turn - w) ≡ w = omega arith in ap (λ (z : ℕ). z % turn) e ∙ mod-eq_of_lt h
    go false = refl

pub exact_end : (f w : ℕ) → w < turn → said_sum (exact_line f w) ≡ w
unfolding said_sum
exact_end f w h = rw (sign_end f w, size_end f w h) (held_back w h)
