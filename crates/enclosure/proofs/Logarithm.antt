-- The rule for T(s) is near every enclosure, from a seed: s in parts of 2 ^ -(62 + j), 3 too low or 1 too high at most. In
-- these parts: the square is 26 parts of 2 ^ -64 too low or 9 too high at most, so the sum loses 6 + 2 * 26 parts of 2 ^ -63
-- and gains 2 * 9; what the series leaves out after 44 terms is 2 at most. Assumes nothing.
use Rattle.std.specs.Prelude.{ℕ, ◌+◌, ◌-◌, ◌*◌, ◌/◌, ◌^◌, ◌≤◌, ◌<◌, ◌≡◌, [], ◌∷◌}
use Rattle.std.proofs.Common.{sym, ◌∙◌, ap, div-mul-le_self, mul-pos, le_of_eq, arith, leb→le, pow_pos, pow-add}
use Rattle.std.proofs.Math.Nat.{le_of_mul-le-mul_right, lt-div-mul-add, pow-le-pow_right}
use Rattle.algebra.specs.Ring.{con, nxt, ◌:+◌, ◌:*◌, ◌≈◌, ◌⊩◌, ◌times◌≼◌, Order}
use Rattle.algebra.proofs.Ring.{by_below}
use Rattle.enclosure.specs.Quotient.{Quotient, ◌≼◌, over, parts, ◌⊞◌, ◌⊠◌}
use Rattle.enclosure.specs.Order.{≼_refl, ≼_trans, ⊞-mono, ⊠-mono}
use Rattle.enclosure.specs.Enclosure.{odd_power, T-term, T-factor, T-lower, T-upper, Within}
use Rattle.enclosure.proofs.Nested.{T-falls, T-nested, near_all, gathered}
use Rattle.enclosure.specs.Expansion.{power, Enough}
use Rattle.enclosure.proofs.Expansion.{T-expansion, late, enough_by}
use Rattle.enclosure.specs.Pieces.{odd, terms, value}
use Rattle.enclosure.specs.Rules.{seed_square, T-answer}
use Rattle.enclosure.proofs.Rows.{value_fits}
use Rattle.enclosure.specs.Values.{partial, Near}
use Rattle.enclosure.proofs.Values.{value_low, value_high}
use Rattle.enclosure.specs.Logarithm.{Seed}

-- ---- the square w. s = p / q, g is sg, Q = 2 ^ (62 + j), G = 2 ^ (60 + 2j)
square_low : Order 6 (λ p q Q G g w.
    (q :* q times w :* G ≼ g :* g) ∷ (g :* q :+ p :* Q :+ q times g :* q ≼ p :* Q :+ q) ∷
    (con 2 :* q times p :* Q ≼ (g :+ con 3) :* q)
    ∷ (con 2 :* q :* q times g ≼ con (2 ^ 62)) ∷ (con 9 :* q :* q times con (2 ^ 60) ≼ G) ∷
    (p :* p times Q :* Q ≼ con (2 ^ 64) :* G) ∷ []
    ⊩ w :* (q :* q) :* G ≈ (p :* p :* con (2 ^ 64) :+ con 9 :* (q :* q)) :* G)
square_low = by_below tt

square_high : Order 6 (λ p q Q G g w.
    (q :* q times nxt (g :* g) ≼ w :* G :+ G) ∷ (p :* Q :+ (g :+ con 3) :* q times p :* Q ≼ (g :+ con 3) :* q)
    ∷ (con 6 :* q :* q times g ≼ con (2 ^ 62))
    ∷ (con 25 :* q :* q times con (2 ^ 60) ≼ G) ∷ (p :* p times con (2 ^ 64) :* G ≼ Q :* Q) ∷ []
    ⊩ p :* p :* con (2 ^ 64) :* G ≈ (w :+ con 26) :* (q :* q) :* G)
square_high = by_below tt

squared : Order 2 (λ p q. (con 5 :* p :+ con 3 :* q times con 5 :* p ≼ con 3 :* q) ∷ [] ⊩ con 25 :* (p :* p) ≈ con 9 :* (q :* q))
squared = by_below tt

pub small_square : (s : Quotient) → 5 * s.num ≤ 3 * s.den → 25 * (s.num * s.num) ≤ 9 * (s.den * s.den)
small_square s = squared.law s.num s.den

square_fits : Order 3 (λ w n d. (con 25 times w :* d ≼ n :* con (2 ^ 64) :+ con 9 :* d) ∷
    (con (2 ^ 64) times con 25 :* n ≼ con 9 :* d) ∷ []
    ⊩ con 25 :* w :* d ≈ con (9 * 2 ^ 64 + 225) :* d)
square_fits = by_below tt

-- ---- the answer B. h is the sum's value, e / d the exact sum
answer_low : Order 8 (λ B g h p q Q e d.
    (q :* d :* Q times B :* con (2 ^ 63) ≼ g :* h) ∷ (h :* d :* Q times g :* q ≼ p :* Q :+ q)
    ∷ (p :* Q :* Q times h :* d ≼ e :* con (2 ^ 63) :+ con 2 :* con 9 :* d)
    ∷ (q :* d :* Q times nxt h ≼ con (2 ^ 64)) ∷ (con 18 :* d :* Q times p :* Q ≼ (g :+ con 3) :* q)
    ∷ (con 18 :* q :* d :* Q times g ≼ con (2 ^ 62)) ∷ []
    ⊩ B :* (q :* d :* Q) :* con (2 ^ 63) ≈ (p :* e :* Q :+ con 12 :* (q :* d)) :* Q :* con (2 ^ 63))
answer_low = by_below tt

answer_high : Order 8 (λ B g h p q Q e d.
    (q :* d times nxt (g :* h) ≼ B :* con (2 ^ 63) :+ con (2 ^ 63)) ∷ ((h :+ con 58) :* d times p :* Q ≼ (g :+ con 3) :* q)
    ∷ (p :* Q times e :* con (2 ^ 63) ≼ (h :+ con 6 :+ con 2 :* con 26) :* d) ∷ (con 3 :* q :* d times nxt h ≼ con (2 ^ 64))
    ∷ (con 58 :* q :* d times g ≼ con (2 ^ 62)) ∷ []
    ⊩ p :* e :* Q :* con (2 ^ 63) ≈ (B :+ con 37) :* (q :* d) :* con (2 ^ 63))
answer_high = by_below tt

-- ---- what the series leaves out: w / x is the power of s^2, D = q^2 - p^2
tail_fits : Order 7 (λ w x p q Q g D.
    (con (2 ^ 66) :* q :* q :* w times p :* Q ≼ (g :+ con 3) :* q) ∷
    (con 16 :* q :* q :* q :* (g :+ con 3) times w :* con (2 ^ 62) ≼ x)
    ∷ (q :* x :* (g :+ con 3) times con 16 :* (q :* q) ≼ con 25 :* D) ∷ (con 25 :* D :* q :* x times g ≼ con (2 ^ 62)) ∷ []
    ⊩ q :* q :* (w :* (p :* con 1)) :* Q :* con (2 ^ 66) ≈ con 2 :* (D :* (x :* (q :* con 1))) :* con (2 ^ 66))
tail_fits = by_below tt

scale : (j : ℕ) → 2 ^ (62 + j) * 2 ^ (62 + j) ≡ 2 ^ 64 * 2 ^ (60 + 2 * j)
scale j =
    let e : 62 + j + (62 + j) ≡ 64 + (60 + 2 * j) = omega arith in
    sym (pow-add 2 (62 + j) (62 + j)) ∙ ap (λ (n : ℕ). 2 ^ n) e ∙ pow-add 2 64 (60 + 2 * j)

room : (j : ℕ) → 2 ^ 60 ≤ 2 ^ (60 + 2 * j)
room j = let h : 60 ≤ 60 + 2 * j = omega arith in pow-le-pow_right (omega arith) h

module _ (s : Quotient) (proper : s.num < s.den) (j sg : ℕ) (seed : Seed s j sg) where
  abbrev Q : ℕ
  Q = 2 ^ (62 + j)

  abbrev w : ℕ
  w = seed_square j sg

  abbrev z : Quotient
  z = s ⊠ s

  abbrev poly : Quotient
  poly = partial odd z

  abbrev h : ℕ
  h = value odd w

  abbrev B : ℕ
  B = sg * h / 2 ^ 63

  pub near : Near odd z w 9 26
  near =
      let p = s.num in
      let q = s.den in
      let k = 60 + 2 * j in
      let l : w * (q * q) ≤ p * p * 2 ^ 64 + 9 * (q * q) =
      le_of_mul-le-mul_right
      (square_low.law p q Q (2 ^ k) sg w (div-mul-le_self (sg * sg) (2 ^ k)) seed.low seed.high seed.fits (room j)
      (le_of_eq (scale j)))
      (pow_pos k) in
      let u : p * p * 2 ^ 64 ≤ (w + 26) * (q * q) =
      le_of_mul-le-mul_right
      (square_high.law p q Q (2 ^ k) sg w (lt-div-mul-add (pow_pos k)) seed.high seed.fits (room j)
      (le_of_eq (sym (scale j))))
      (pow_pos k) in
      let c = small_square s seed.small in
      let f : 25 * w ≤ 9 * 2 ^ 64 + 225 = le_of_mul-le-mul_right (square_fits.law w (p * p) (q * q) l c)
      (mul-pos s.pos s.pos) in
      record {
        low = l;
        high = u;
        half = omega arith;
        fits = omega arith;
        inside = omega arith;
      }

  h_fits : h < 2 ^ 64
  h_fits = value_fits odd w near.inside

  partial_low : parts (62 + j) B ≼ s ⊠ poly ⊞ parts (62 + j) 12
  partial_low =
      let k = answer_low.law B sg h s.num s.den Q poly.num poly.den (div-mul-le_self (sg * h) (2 ^ 63)) seed.low
      (value_low odd z w 9 26 near) h_fits seed.high seed.fits in
      record { cross = le_of_mul-le-mul_right k (pow_pos 63) }

  partial_high : s ⊠ poly ≼ parts (62 + j) (B + 37)
  partial_high =
      let k = answer_high.law B sg h s.num s.den Q poly.num poly.den (lt-div-mul-add (pow_pos 63)) seed.high
      (value_high odd z w 9 26 near) h_fits seed.fits in
      record { cross = le_of_mul-le-mul_right k (pow_pos 63) }

  enough : Enough z (terms odd)
  enough = enough_by {y = over 9 24} (terms odd) (record { cross = omega (arith, small_square s seed.small) }) (leb→le _ _ tt)

  tail_high : T-factor s proper ⊠ T-term s (terms odd) ≼ parts (62 + j) 2
  unfolding odd_power
  tail_high =
      let x = power z (terms odd) in
      let D = s.den * s.den - s.num * s.num in
      let d : 16 * (s.den * s.den) ≤ 25 * D = omega (arith, small_square s seed.small) in
      let k = tail_fits.law x.num x.den s.num s.den Q sg D seed.high enough d seed.fits in
      let fits : T-factor s proper ⊠ (x ⊠ (s ⊠ over 1 0)) ≼ parts (62 + j) 2 =
      record { cross = le_of_mul-le-mul_right k (pow_pos 66) } in
      ≼_trans (⊠-mono ≼_refl (late (T-term s) z (T-factor s proper) (T-falls s proper) (terms odd))) fits

  -- THE LAW, of one enclosure: the answer is no higher above its lower end, nor lower below its upper end
  pub T-tight : Within (λ n. T-upper s proper (terms odd)) (λ n. T-lower s (terms odd))
      (parts (62 + j) (T-answer j sg)) (parts (62 + j) 12) (parts (62 + j) 39)
  unfolding T-answer T-lower T-upper
  T-tight = record {
    low = λ n. ≼_trans partial_low (⊞-mono (T-expansion s (terms odd)).0 ≼_refl);
    high = λ n. gathered (62 + j) B 37 2 (≼_trans (T-expansion s (terms odd)).1 partial_high) tail_high;
  }

  -- and so of all
  pub T-near : Within (T-lower s) (T-upper s proper) (parts (62 + j) (T-answer j sg)) (parts (62 + j) 12) (parts (62 + j) 39)
  T-near = near_all (T-nested s proper) (terms odd) (T-tight.low 0) (T-tight.high 0)
