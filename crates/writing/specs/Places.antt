-- How many digits a number takes, and the place after them. Assumes nothing.
use Rattle.std.specs.Prelude.{ℕ, zero, suc, ◌+◌, ◌*◌, ◌/◌, ◌^◌, ◌≤◌, ◌<◌, ◌≡◌, refl, Bool, true, false, cond, List, ltb}
use Rattle.std.proofs.Common.{sym, ap, ◌∙◌, pow-suc, arith, lt-ltb, ltb-true}
use Rattle.digits.specs.Digits.{digits}
use Rattle.digits.proofs.DigitLaws.{digits_length}
use Rattle.writing.specs.Decimal.{places_of}
use Rattle.writing.specs.Written.{Put}

pub places_most : (more n : ℕ) → places_of more n ≤ suc more
unfolding places_of
places_most zero n = omega arith
places_most (suc more) n = go (ltb n 10) (places_most more (n / 10))
  where
    go : (t : Bool) {p : ℕ} → p ≤ suc more → cond t 1 (suc p) ≤ suc (suc more)
    go true h = omega arith
    go false h = omega arith

pub places_some : (more n : ℕ) → 1 ≤ places_of more n
unfolding places_of
places_some zero n = omega arith
places_some (suc more) n = go (ltb n 10)
  where
    go : (t : Bool) → 1 ≤ cond t 1 (suc (places_of more (n / 10)))
    go true = omega arith
    go false = omega arith

-- ---- a number below a power of ten
less : (k n : ℕ) → n < 10 ^ suc (suc k) → n / 10 < 10 ^ suc k
less k n h = go (10 ^ suc k) (rw (pow-suc 10 (suc k)) at h)
  where
    go : (p : ℕ) → n < p * 10 → n / 10 < p
    go p h = omega arith

one_digit : (more n : ℕ) → n < 10 → places_of more n ≡ 1
unfolding places_of
one_digit zero n h = refl
one_digit (suc more) n h = rw (lt-ltb n 10 h)

-- it is below the power that has as many zeros as it has digits
pub places_hold : (more n : ℕ) → n < 10 ^ suc more → n < 10 ^ places_of more n
unfolding places_of
places_hold zero n h = h
places_hold (suc more) n h = go (ltb n 10) refl (places_hold more (n / 10) (less more n h))
  where
    go : (t : Bool) → ltb n 10 ≡ t → n / 10 < 10 ^ places_of more (n / 10) → n < 10 ^ cond t 1 (suc (places_of more (n / 10)))
    go true e k = omega (arith, ltb-true n 10 e)
    go false e k = rw (pow-suc 10 (places_of more (n / 10))) (omega arith)

-- it has no more digits than that
pub places_few : (k more n : ℕ) → n < 10 ^ suc k → places_of more n ≤ suc k
unfolding places_of
places_few zero more n h = omega (arith, one_digit more n h)
places_few (suc k) zero n h = omega arith
places_few (suc k) (suc more) n h = go (ltb n 10) (places_few k more (n / 10) (less k n h))
  where
    go : (t : Bool) {p : ℕ} → p ≤ suc k → cond t 1 (suc p) ≤ suc (suc k)
    go true h = omega arith
    go false h = omega arith

-- and as many as there is need for, however many more are allowed
pub places_same : (k a b n : ℕ) → n < 10 ^ suc k → k ≤ a → k ≤ b → places_of a n ≡ places_of b n
unfolding places_of
places_same zero a b n h i j = one_digit a n h ∙ sym (one_digit b n h)
places_same (suc k) zero b n h i j = absurd (omega arith)
places_same (suc k) (suc a) zero n h i j = absurd (omega arith)
places_same (suc k) (suc a) (suc b) n h i j =
    ap (λ (p : ℕ). cond (ltb n 10) 1 (suc p)) (places_same k a b (n / 10) (less k n h) (omega arith) (omega arith))

-- the place after the digits
pub spelled_place : (base k n : ℕ) {o out : List ℕ} {at next : ℕ} → Put o at (digits base k n) out next → next ≡ at + k
spelled_place base k n p = rw digits_length at p.place
