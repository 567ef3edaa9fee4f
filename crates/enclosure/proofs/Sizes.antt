-- The answers have enough digits, so that the rules' parts are small beside an f64's, and not too many for a word. Assumes
-- nothing.
use Rattle.std.specs.Prelude.{ℕ, ◌+◌, ◌-◌, ◌*◌, ◌/◌, ◌^◌, ◌≤◌, ◌<◌, [], ◌∷◌}
use Rattle.std.proofs.Common.{le_trans, le-div_iff_mul-le, div-lt_iff_lt-mul, div-le_self, mul-le-mul, mul-le-mul_left, mul-le-mul_right, arith, pow_pos}
use Rattle.std.proofs.Math.Nat.{div-le_of_le-mul}
use Rattle.algebra.specs.Ring.{con, nxt, ◌:+◌, ◌:*◌, ◌≈◌, ◌⊩◌, ◌times◌≼◌, Order}
use Rattle.algebra.proofs.Ring.{by_below}
use Rattle.enclosure.specs.Quotient.{Quotient, parts}
use Rattle.enclosure.specs.Enclosure.{argument_of_ln}
use Rattle.enclosure.specs.Pieces.{euler, odd, pieces, piece, value}
use Rattle.enclosure.specs.Rules.{square, share, front, atan_answer, steep_answer, seed_square, T-answer, part, gain_seed}
use Rattle.enclosure.specs.Rules.{loss_seed, ln_seed, ln_two, multiple, ln_answer}
use Rattle.enclosure.specs.Rules.{inverse_seed, ln_below_answer, gain_answer, loss_answer}
use Rattle.enclosure.proofs.Rows.{value_fits, value_least}
use Rattle.enclosure.specs.Atan as atan
use Rattle.enclosure.proofs.Atan as atan_laws
use Rattle.enclosure.specs.Logarithm as logarithm
use Rattle.enclosure.proofs.Logarithm as logarithm_laws
use Rattle.enclosure.proofs.Seeds.{ln_seeds, beyond, inverse_seeds, above_seeds, below_seeds}
use Rattle.enclosure.proofs.Steep.{inverse_most}

-- t is a whole number of parts
pub exact_floor : (j tau : ℕ) → tau ≤ 2 ^ 62 → atan.Floor (parts (62 + j) tau) j tau
exact_floor j tau h = record {
  low = omega arith;
  high = omega (arith, pow_pos (62 + j));
  one = mul-le-mul_right (2 ^ (62 + j)) h;
}

-- (a product of p ≤ 2 ^ 62 with a word)
product_fits : Order 2 (λ p h. (h times p ≼ con (2 ^ 62)) ∷ (con (2 ^ 62) times nxt h ≼ con (2 ^ 64)) ∷ []
    ⊩ nxt (p :* h) ≈ con (2 ^ 63) :* con (2 ^ 63))
product_fits = by_below tt

-- ---- atan
module _ (j tau : ℕ) (high : tau ≤ 2 ^ 62) where
  abbrev f : ℕ
  f = share (square j tau)

  pub share_small : f ≤ 2 ^ 61
  share_small = atan_laws.share_fits (parts (62 + j) tau) j tau (exact_floor j tau high)

  pub share_inside : piece (4 * f) < pieces euler
  share_inside = omega (arith, share_small)

  pub atan_size : 2 ^ 61 ≤ tau → 2 ^ 60 ≤ atan_answer j tau
  unfolding atan_answer
  atan_size low =
      let r : 2 ^ 61 ≤ 2 ^ 62 - f = omega (arith, share_small) in
      let p : 2 ^ 60 ≤ front tau f = (le-div_iff_mul-le (pow_pos 62)).1 (mul-le-mul low r) in
      (le-div_iff_mul-le (pow_pos 63)).1 (mul-le-mul p (value_least euler (4 * f) share_inside))

  pub front_fits : front tau f ≤ 2 ^ 62
  front_fits = let r : 2 ^ 62 - f ≤ 2 ^ 62 = omega arith in div-le_of_le-mul (2 ^ 62) (mul-le-mul high r)

  pub atan_fits : atan_answer j tau < 2 ^ 63
  unfolding atan_answer
  atan_fits =
      (div-lt_iff_lt-mul (pow_pos 63)).1 (product_fits.law (front tau f) (value euler (4 * f)) front_fits
      (value_fits euler (4 * f) share_inside))

pub steep_size : (t : Quotient) (h : t.den < t.num) → 2 ^ 61 ≤ steep_answer (t.den * 2 ^ 62 / t.num)
unfolding steep_answer
steep_size t h = omega (arith, inverse_most t h)

-- ---- T
module _ (s : Quotient) (j sg : ℕ) (seed : logarithm.Seed s j sg) where
  abbrev w : ℕ
  w = seed_square j sg

  pub seed_inside : piece w < pieces odd
  seed_inside = (logarithm_laws.near s (omega (arith, seed.small, s.pos)) j sg seed).inside

  pub T-size : sg ≤ T-answer j sg
  unfolding T-answer
  T-size = (le-div_iff_mul-le (pow_pos 63)).1 (mul-le-mul_left sg (value_least odd w seed_inside))

  pub T-fits : T-answer j sg < 2 ^ 63
  unfolding T-answer
  T-fits = (div-lt_iff_lt-mul (pow_pos 63)).1 (product_fits.law sg (value odd w) seed.fits (value_fits odd w seed_inside))

gain_least : Order 2 (λ m c. (con (2 ^ 59) times c ≼ m :* con (2 ^ 7)) ∷ (con (2 ^ 68) times con (2 ^ 52) ≼ m) ∷ []
    ⊩ con (2 ^ 59) :* (con (2 ^ 61) :+ c) ≈ m :* con (2 ^ 7) :* con (2 ^ 62))
gain_least = by_below tt

pub gain_size : (j m : ℕ) → 2 ^ 52 ≤ m → 2 ^ 59 ≤ gain_seed j m
gain_size j m low =
    let c = part j m in
    let pos : 0 < 2 ^ 61 + c = omega arith in
    (le-div_iff_mul-le pos).1 (gain_least.law m c (div-le_self (m * 2 ^ 7) (2 ^ j)) low)

loss_least : Order 2 (λ m d. (con (2 ^ 59) times d ≼ con (2 ^ 61)) ∷ (con (2 ^ 69) times con (2 ^ 52) ≼ m) ∷ []
    ⊩ con (2 ^ 59) :* d ≈ m :* con (2 ^ 7) :* con (2 ^ 62))
loss_least = by_below tt

pub loss_size : (j m : ℕ) → 2 ^ 52 ≤ m → m ≤ 2 ^ 53 → 2 ^ 59 ≤ loss_seed j m
loss_size j m low high =
    let c = part j m in
    let pos : 0 < 2 ^ 61 - c = omega (arith, div-le_self (m * 2 ^ 7) (2 ^ j)) in
    (le-div_iff_mul-le pos).1 (loss_least.law m (2 ^ 61 - c) (omega arith) low)

-- ---- ln, where e has b digits
enough_digits : Order 2 (λ e M. (con (2 ^ 61) times M ≼ con 2 :* e) ∷ [] ⊩ con (2 ^ 61) :* M ≈ e :* con ln_two)
enough_digits = by_below tt

pub multiple_size : (b e t : ℕ) → 2 ^ b ≤ 2 * e → 2 ^ 61 ≤ multiple b e t
multiple_size b e t h = let k : 2 ^ 61 ≤ e * ln_two / 2 ^ b =
    (le-div_iff_mul-le (pow_pos b)).1 (enough_digits.law e (2 ^ b) h) in omega arith

pub multiple_fits : (b e t : ℕ) → t < 2 ^ 63 → 1 ≤ e → e < 2 ^ b → multiple b e t < 2 ^ 64
multiple_fits b e t word some fits =
    let two : 2 ≤ 2 ^ b = omega arith in
    let first : e * ln_two / 2 ^ b ≤ ln_two = div-le_of_le-mul (2 ^ b) (omega arith) in
    let second : 2 * t / 2 ^ b ≤ t = div-le_of_le-mul (2 ^ b) (mul-le-mul_right t two) in
    omega arith

pub ln_size : (b e m : ℕ) → 2 ^ b ≤ 2 * e → 2 ^ 61 ≤ ln_answer b e m
unfolding ln_answer
ln_size b e m = multiple_size b e (T-answer 1 (ln_seed m))

pub ln_fits : (m b e : ℕ) → 2 ^ 52 ≤ m → m < 2 ^ 53 → 1 ≤ e → e < 2 ^ b → ln_answer b e m < 2 ^ 64
unfolding ln_answer
ln_fits m b e low high =
    multiple_fits b e (T-answer 1 (ln_seed m)) (T-fits (argument_of_ln (parts 52 m)) 1 (ln_seed m) (ln_seeds m low high))

pub ln_below_size : (b e m : ℕ) → 2 ^ b ≤ 2 * e → 2 ^ 61 ≤ ln_below_answer b e m
unfolding ln_below_answer
ln_below_size b e m = multiple_size b e (T-answer 1 (inverse_seed m))

pub ln_below_fits : (m b e : ℕ) → 2 ^ 52 ≤ m → m < 2 ^ 53 → 1 ≤ e → e < 2 ^ b → ln_below_answer b e m < 2 ^ 64
unfolding ln_below_answer
ln_below_fits m b e low high =
    multiple_fits b e (T-answer 1 (inverse_seed m)) (T-fits (beyond m low high) 1 (inverse_seed m) (inverse_seeds m low high))

-- ---- ln between 1/2 and 2, where the distance from 1 is n parts of 2 ^ -53, n of 53 - j digits
pub above_one_size : (m j : ℕ) → 2 ^ 52 ≤ m → m < 2 ^ 53 → let n = 2 * (m - 2 ^ 52) in 2 ^ 52 ≤ n * 2 ^ j → n * 2 ^ j ≤ 2 ^ 53
    → (2 ^ 59 ≤ gain_answer j n) × (gain_answer j n < 2 ^ 63)
unfolding gain_answer
above_one_size m j low high some fits =
    let k = 2 * (m - 2 ^ 52) * 2 ^ j in
    let s = argument_of_ln (parts 52 m) in
    let seed = above_seeds m j low high fits in
    (le_trans (gain_size j k some) (T-size s j (gain_seed j k) seed), T-fits s j (gain_seed j k) seed)

pub below_one_size : (m j : ℕ) → 2 ^ 52 ≤ m → m < 2 ^ 53 → let n = 2 ^ 53 - m in 2 ^ 52 ≤ n * 2 ^ j → n * 2 ^ j ≤ 2 ^ 53
    → (2 ^ 59 ≤ loss_answer j n) × (loss_answer j n < 2 ^ 63)
unfolding loss_answer
below_one_size m j low high some fits =
    let k = (2 ^ 53 - m) * 2 ^ j in
    let s = beyond m low high in
    let seed = below_seeds m j low high fits in
    (le_trans (loss_size j k some fits) (T-size s j (loss_seed j k) seed), T-fits s j (loss_seed j k) seed)
