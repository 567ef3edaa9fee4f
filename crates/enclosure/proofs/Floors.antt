-- What the rounding down of a row and of Horner's rule loses, and what the terms that a row leaves out amount to: at a point
-- of the piece the rule is at most 3 parts too low for its 12 terms, and the rest is at most the sum of its coefficients.
-- (A step multiplies by at most 1/16, and loses less than 1 part twice.) Assumes nothing.
use Rattle.std.specs.Prelude.{ℕ, zero, suc, ◌+◌, ◌*◌, ◌/◌, ◌^◌, ◌≤◌, ◌<◌, ◌≡◌, refl, Bool, true, ◌&&◌, List, [], ◌∷◌, T, leb, length, get_or}
use Rattle.std.proofs.Common.{le_of_mul-le-mul_right, div-mul-le_self, div-lt_iff_lt-mul, mul-zero, arith, leb→le, pow_pos}
use Rattle.std.proofs.Math.Nat.{lt-div-mul-add, pow-succ', zero-div}
use Rattle.std.specs.Float.Ieee.Fits.{and_l, and_r}
use Rattle.algebra.specs.Ring.{con, nxt, ◌:+◌, ◌:*◌, ◌≈◌, ◌⊩◌, ◌times◌≼◌, Order}
use Rattle.algebra.proofs.Ring.{by_below}
use Rattle.enclosure.specs.Pieces.{entry, entries, horner}
use Rattle.enclosure.specs.Shifted.{evaluate}
use Rattle.enclosure.specs.Floors.{all_fit, left_out, total}

pub horner_step : (d r : ℕ) (rs : List ℕ) → horner d (r ∷ rs) ≡ r + d * horner d rs / 2 ^ 64
horner_step d r [] = rw (mul-zero d, zero-div (2 ^ 64)) (omega arith)
horner_step d r (q ∷ rs) = refl

pub horner_least : (d : ℕ) (rs : List ℕ) → get_or rs 0 0 ≤ horner d rs
horner_least d [] = omega arith
horner_least d (r ∷ rs) = rw (horner_step d r rs) (omega arith)

product_fits : Order 2 (λ d h. (h times d ≼ con (2 ^ 60)) ∷ (con (2 ^ 60) times nxt h ≼ con (2 ^ 64)) ∷ []
    ⊩ nxt (d :* h) ≈ con (2 ^ 60) :* con (2 ^ 64))
product_fits = by_below tt

pub horner_fits : (d : ℕ) (rs : List ℕ) → d ≤ 2 ^ 60 → T (all_fit rs) → horner d rs < 2 ^ 64
horner_fits d [] h t = omega arith
horner_fits d (r ∷ rs) h t =
    let g = horner d rs in
    let e = horner_step d r rs in
    let small = leb→le r (15 * 2 ^ 60) (and_l (leb r (15 * 2 ^ 60)) (all_fit rs) t) in
    let later = horner_fits d rs h (and_r (leb r (15 * 2 ^ 60)) (all_fit rs) t) in
    let f : d * g / 2 ^ 64 < 2 ^ 60 = (div-lt_iff_lt-mul (pow_pos 64)).1 (product_fits.law d g h later) in
    omega arith

-- (Q = q ^ length)
total_step : Order 6 (λ b p q Q e t. (q times e ≼ t :* Q) ∷ (e times p ≼ q) ∷ [] ⊩ b :* (q :* Q) :+ p :* e ≈ (b :+ t) :* (q :* Q))
total_step = by_below tt

below_total : (bs : List ℕ) (p q : ℕ) → p ≤ q → evaluate bs p q ≤ total bs * q ^ length bs
below_total [] p q h = omega arith
below_total (b ∷ bs) p q h =
    rw (pow-succ' q (length bs)) (total_step.law b p q (q ^ length bs) (evaluate bs p q) (total bs) (below_total bs p q h) h)

-- ---- one step: r an entry, h the rule's value of the later ones and f the quotient of 4 p h. Q = (2 ^ 58) ^ length, e the
-- exact value
step_low : Order 9 (λ W g b p Q e r h f.
    (con (2 ^ 122) :* Q times r :* W ≼ b :* g) ∷ (con (2 ^ 58) :* W :* Q times f :* con (2 ^ 64) ≼ con 4 :* p :* h)
    ∷ (con (2 ^ 60) :* p times h :* (W :* Q) ≼ con 16 :* g :* e) ∷ []
    ⊩ (r :+ f) :* (W :* (con (2 ^ 58) :* Q)) :* con (2 ^ 64) ≈ g :* (b :* (con (2 ^ 58) :* Q) :+ p :* e) :* con (2 ^ 64))
step_low = by_below tt

-- (R what is left out)
step_high : Order 10 (λ W g b p Q e r h f R.
    (con (2 ^ 122) :* Q times nxt (b :* g) ≼ r :* W :+ W)
    ∷ (con (2 ^ 58) :* W :* Q times nxt (con 4 :* p :* h) ≼ f :* con (2 ^ 64) :+ con (2 ^ 64))
    ∷ (con (2 ^ 60) :* p times con 16 :* g :* e ≼ ((h :+ con 3) :* W :+ con 16 :* g :* R) :* Q)
    ∷ (con 12 :* con (2 ^ 58) :* W :* Q :+ con (2 ^ 64) :* g :* R :* Q times p ≼ con (2 ^ 58)) ∷ []
    ⊩ g :* (b :* (con (2 ^ 58) :* Q) :+ p :* e) :* con (2 ^ 64)
    ≈ ((r :+ f :+ con 3) :* W :+ g :* R) :* (con (2 ^ 58) :* Q) :* con (2 ^ 64))
step_high = by_below tt

nothing_left : Order 5 (λ W g Q e t. (g times e ≼ t :* Q) ∷ [] ⊩ g :* e ≈ ((con 0 :+ con 3) :* W :+ g :* t) :* Q)
nothing_left = by_below tt

module _ (W : ℕ) (pos : 0 < W) (p : ℕ) (inside : p ≤ 2 ^ 58) where
  entry_low : (g b : ℕ) → entry W g b * W ≤ b * g
  entry_low g b = div-mul-le_self (b * g) W

  entry_high : (g b : ℕ) → b * g < entry W g b * W + W
  entry_high g b = lt-div-mul-add pos

  pub floors_low : (k g : ℕ) (bs : List ℕ) → horner (4 * p) (entries k W g bs) * (W * (2 ^ 58) ^ length bs)
      ≤ g * evaluate bs p (2 ^ 58)
  floors_low zero g bs = omega arith
  floors_low (suc k) g [] = omega arith
  floors_low (suc k) g (b ∷ bs) =
      let h = horner (4 * p) (entries k W (16 * g) bs) in
      rw (horner_step (4 * p) (entry W g b) (entries k W (16 * g) bs), pow-succ' (2 ^ 58) (length bs))
      (le_of_mul-le-mul_right (step_low.law W g b p ((2 ^ 58) ^ length bs) (evaluate bs p (2 ^ 58)) (entry W g b) h
      (4 * p * h / 2 ^ 64)
      (entry_low g b) (div-mul-le_self (4 * p * h) (2 ^ 64)) (floors_low k (16 * g) bs)) (pow_pos 64))

  pub floors_high : (k g : ℕ) (bs : List ℕ)
      → g * evaluate bs p (2 ^ 58) ≤ ((horner (4 * p) (entries k W g bs) + 3) * W + g * left_out k bs) * (2 ^ 58) ^ length bs
  floors_high zero g bs =
      nothing_left.law W g ((2 ^ 58) ^ length bs) (evaluate bs p (2 ^ 58)) (total bs) (below_total bs p (2 ^ 58) inside)
  floors_high (suc k) g [] = omega arith
  floors_high (suc k) g (b ∷ bs) =
      let h = horner (4 * p) (entries k W (16 * g) bs) in
      rw (horner_step (4 * p) (entry W g b) (entries k W (16 * g) bs), pow-succ' (2 ^ 58) (length bs))
      (le_of_mul-le-mul_right (step_high.law W g b p ((2 ^ 58) ^ length bs) (evaluate bs p (2 ^ 58)) (entry W g b) h
      (4 * p * h / 2 ^ 64)
      (left_out k bs)
      (entry_high g b) (lt-div-mul-add (pow_pos 64)) (floors_high k (16 * g) bs) inside) (pow_pos 64))
