-- Digits are read back as the number that was written, and what is read as a number is how that number is written. Assumes
-- nothing.
use Prim.Native.Nat.{ℕ, zero, suc, ◌+◌, ◌-◌, ◌*◌, ◌/◌, ◌%◌, ◌^◌, ◌≤◌, ◌<◌}
use Rattle.std.proofs.Math.Path.{◌≡◌, refl, ap}
use Rattle.std.proofs.Common.{◌∙◌, div-one, div-add-mod', div-lt_iff_lt-mul, add-one, arith, length-append}
use Rattle.std.specs.Prelude.{Bool, Option, Some, None}
use Rattle.std.proofs.Math.Bool.{true, false, cond}
use mathlib.Core.List.{List, [], ◌∷◌, ◌++◌}
use Rattle.std.proofs.Math.Nat.{pow-zero, pow-suc, pow-succ', add-zero, div-eq_of_lt, div-div-eq-div-mul, mul-add-div_right, mod-lt, mod-eq_of_lt, mul-add-mod_self_right}
use borrow.Author.Tests.{ltb-true, ltb-false, lt-ltb, le-ltb}
use Rattle.std.proofs.Math.Dec.{ltb}
use Rattle.std.proofs.Math.ListN.{length}
use Rattle.digits.specs.Digits.{glyph_of, digit_of, digits, number_from, word_text}

-- ---- lengths
pub digits_length : (base k n : ℕ) → length (digits base k n) ≡ k
unfolding digits
digits_length base zero n = refl
digits_length base (suc k) n = rw (length-append, digits_length base k (n / base)) (add-one k)

pub word_length : (x : ℕ) → length (word_text x) ≡ 17
unfolding word_text
word_length x = ap suc (digits_length 16 16 x)

-- ---- one digit
pub digit_of_glyph : (d : ℕ) → d < 16 → digit_of (glyph_of d) ≡ d
unfolding digit_of glyph_of
digit_of_glyph d h = go (ltb d 10) refl
  where
    go : (t : Bool) → ltb d 10 ≡ t → digit_of (cond t (48 + d) (55 + d)) ≡ d
    go true e =
        let k : d < 10 = ltb-true d 10 e in
        rw (le-ltb (48 + d) 48 (omega arith), lt-ltb (48 + d) 58 (omega arith)) (omega arith)
    go false e =
        let k : 10 ≤ d = ltb-false d 10 e in
        rw (
          le-ltb (55 + d) 48 (omega arith),
          le-ltb (55 + d) 58 (omega arith),
          le-ltb (55 + d) 65 (omega arith),
          lt-ltb (55 + d) 71 (omega arith),
        ) (omega arith)

pub glyph_of_digit : (b : ℕ) → digit_of b < 16 → glyph_of (digit_of b) ≡ b
unfolding digit_of glyph_of
glyph_of_digit b = go (ltb b 48) (ltb b 58) (ltb b 65) (ltb b 71) refl refl refl refl
  where
    go :
        (t u v w : Bool) → ltb b 48 ≡ t → ltb b 58 ≡ u → ltb b 65 ≡ v → ltb b 71 ≡ w
        → cond t 16 (cond u (b - 48) (cond v 16 (cond w (b - 55) 16))) < 16
        → glyph_of (cond t 16 (cond u (b - 48) (cond v 16 (cond w (b - 55) 16)))) ≡ b
    go true u v w p q r s h = absurd (omega arith)
    go false true v w p q r s h =
        let k : 48 ≤ b = ltb-false b 48 p in
        let l : b < 58 = ltb-true b 58 q in
        rw (lt-ltb (b - 48) 10 (omega arith)) (omega arith)
    go false false true w p q r s h = absurd (omega arith)
    go false false false true p q r s h =
        let k : 65 ≤ b = ltb-false b 65 r in
        rw (le-ltb (b - 55) 10 (omega arith)) (omega arith)
    go false false false false p q r s h = absurd (omega arith)

-- ---- a number of digits, in a base
module _ (base : ℕ) (low : 1 < base) (high : base ≤ 16) where
  -- one digit after what was read
  after : Option ℕ → ℕ → Option ℕ
  after (Some v) b = cond (ltb (digit_of b) base) (Some (v * base + digit_of b)) None
  after None b = None

  read_last : (v : ℕ) (xs : List ℕ) (b : ℕ) → number_from base v (xs ++ b ∷ []) ≡ after (number_from base v xs) b
  unfolding number_from after
  read_last v [] b = refl
  read_last v (x ∷ xs) b = go (ltb (digit_of x) base) (number_from base (v * base + digit_of x) xs)
      (read_last (v * base + digit_of x) xs b)
    where
      go : (t : Bool) (r : Option ℕ) {l : Option ℕ} → l ≡ after r b → cond t l None ≡ after (cond t r None) b
      go true r e = e
      go false r e = refl

  -- what was written is read back
  shorter : (k n : ℕ) → n < base ^ suc k → n / base < base ^ k
  shorter k n h = (div-lt_iff_lt-mul {k = base} {x = n} {y = base ^ k} (omega arith)).1 (rw pow-suc at h)

  next_digit : (v n : ℕ) → after (Some v) (glyph_of (n % base)) ≡ Some (v * base + n % base)
  unfolding after
  next_digit v n =
      let k : n % base < base = mod-lt n (omega arith) in
      rw (digit_of_glyph (n % base) (omega arith), lt-ltb (n % base) base k)

  grouped : (v P n : ℕ) → (v * P + n / base) * base + n % base ≡ v * (P * base) + n
  grouped v P n = omega (arith, div-add-mod' n base)

  pub read_written : (k v n : ℕ) → n < base ^ k → number_from base v (digits base k n) ≡ Some (v * base ^ k + n)
  unfolding number_from digits
  read_written zero v n h =
      let z : n < 1 = rw pow-zero at h in
      ap Some (rw pow-zero (omega arith))
  read_written (suc k) v n h =
      read_last v (digits base k (n / base)) (glyph_of (n % base))
      ∙ ap (λ (w : Option ℕ). after w (glyph_of (n % base))) (read_written k v (n / base) (shorter k n h))
      ∙ next_digit (v * base ^ k + n / base) n ∙ ap Some (rw pow-suc (grouped v (base ^ k) n))

  -- the first of the digits, and the rest
  first_digit : (k n : ℕ) → digits base (suc k) n ≡ glyph_of (n / base ^ k % base) ∷ digits base k n
  unfolding digits
  first_digit zero n = rw (pow-zero, div-one)
  first_digit (suc k) n = rw (first_digit k (n / base), div-div-eq-div-mul, ← pow-succ')

  -- what is read as a number is written so
  pub written_read : (xs : List ℕ) (v n : ℕ) → number_from base v xs ≡ Some n
      → (n / base ^ length xs ≡ v) × (digits base (length xs) n ≡ xs)
  unfolding number_from digits
  written_read [] v n e = (rw (pow-zero, div-one) (cc), refl)
  written_read (x ∷ xs) v n e = go (ltb (digit_of x) base) refl (written_read xs (v * base + digit_of x) n) e
    where
      go :
          (t : Bool) → ltb (digit_of x) base ≡ t
          → (number_from base (v * base + digit_of x) xs ≡ Some n
          → (n / base ^ length xs ≡ v * base + digit_of x) × (digits base (length xs) n ≡ xs))
          → cond t (number_from base (v * base + digit_of x) xs) None ≡ Some n
          → (n / base ^ suc (length xs) ≡ v) × (digits base (suc (length xs)) n ≡ x ∷ xs)
      go true t rest e =
          let h : digit_of x < base = ltb-true (digit_of x) base t in
          let r = rest e in (
            rw (
              pow-suc,
              ← div-div-eq-div-mul,
              r.0,
              mul-add-div_right {m = base} (omega arith) v (digit_of x),
              div-eq_of_lt h,
              add-zero,
            ),
            first_digit (length xs) n
                ∙ rw (r.0, r.1, mul-add-mod_self_right v base (digit_of x), mod-eq_of_lt h, glyph_of_digit x (omega arith)),
          )
      go false t rest e = let z : ◌≡◌ {A = ℕ} 0 1 = cc in absurd (omega arith)
