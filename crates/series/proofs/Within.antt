-- THE THEOREMS (document 01, "What the leaves mean"): at every f64 of the ranges the answer lies within one last place (its
-- "unit") of every enclosure, whatever n. `Near` says what that is. And the answers where there is no enclosure. Assumes nothing.
use Rattle.std.specs.Prelude.{◌≡◌, ℕ, suc, ◌+◌, ◌-◌, ◌*◌, ◌/◌, ◌^◌, ◌<◌, ◌≤◌, true, false, ◌==◌, from_bits, to_bits, refl, Float}
use Rattle.std.proofs.Common.{sym, ap, ◌∙◌, subst, inl, inr, le_trans, le_of_lt, arith}
use Rattle.std.specs.Float.{binary64}
use Rattle.std.specs.Float.Ieee.{size, round}
use Rattle.std.specs.Float.Ieee.Digits.{size-lt}
use Rattle.algebra.specs.Order.{lt_or_le}
use Rattle.rounding.specs.Cut.{infinity, value}
use Rattle.rounding.proofs.Value.{value_lt}
use Rattle.enclosure.specs.Quotient.{Quotient, parts}
use Rattle.enclosure.specs.Order.{≼_refl}
use Rattle.enclosure.specs.Enclosure.{atan_lower, atan_upper, steep_lower, steep_upper, gain, loss}
use Rattle.enclosure.proofs.Enclosure.{gain_proper, loss_proper}
use Rattle.enclosure.specs.Enclosure.{double_lower, double_upper}
use Rattle.enclosure.specs.Enclosure.{ln_lower, ln_upper, ln_below_lower, ln_below_upper}
use Rattle.enclosure.specs.Pieces as pieces
use Rattle.enclosure.specs.Rules.{atan_answer, half_pi, steep_answer, T-answer, gain_seed, loss_seed, ln_answer, ln_below_answer}
use Rattle.enclosure.specs.Rules.{gain_answer, loss_answer}
use Rattle.enclosure.specs.Atan.{Floor}
use Rattle.enclosure.proofs.Atan.{atan_near}
use Rattle.enclosure.proofs.Answers.{steep_within, double_near, within_same}
use Rattle.enclosure.proofs.Answers as answers
use Rattle.enclosure.specs.Logarithm.{Seed}
use Rattle.enclosure.proofs.Sizes.{atan_size, atan_fits, steep_size, T-size, T-fits, gain_size, loss_size, above_one_size}
use Rattle.enclosure.proofs.Sizes.{below_one_size}
use Rattle.enclosure.proofs.Tiny as tiny
use Rattle.series.specs.Pattern.{size_bits, field, digits}
use Rattle.series.specs.Near.{signed, number, Near}
use Rattle.series.specs.Atan.{one, far, atan}
use Rattle.series.specs.Atan as arc
use Rattle.series.specs.Ln.{half, two, ln_close, below_exponent, full_digits, ln_below_two, ln}
use Rattle.series.specs.Ln as logarithm
use Rattle.series.specs.Ln1p.{last, ln_1p}
use Rattle.series.specs.Ln1p as one-plus
use Rattle.series.proofs.Cases as cases
use Rattle.series.specs.Exponents.{full_low, full_high, digits_most, answer_fits, answer_size, below_fits, below_size}
use Rattle.series.specs.Rounded.{rounded_near}
use Rattle.series.specs.Names.{signed_bits}
use Rattle.series.proofs.Arguments.{floor_below, whole_parts, one_is, above_one, inverse_is, inverse_none, seed_above}
use Rattle.series.proofs.Arguments.{seed_below}
use Rattle.series.proofs.Small.{nothing, cube_small, square_small, quarter}

-- ---- another name for the same answer
near_is : {s : ℕ} {y z : Float} {lower upper : ℕ → Quotient} → y ≡ z → Near s z lower upper → Near s y lower upper
near_is e h = record { bits = h.bits; finite = h.finite; is = e ∙ h.is; within = h.within }

-- nothing is left of the inverse: π/2
steep_none : steep_answer 0 ≡ half_pi
unfolding steep_answer atan_answer pieces.value pieces.row pieces.numerators
steep_none = refl

steep_word : (n : ℕ) → steep_answer n < 2 ^ 64
unfolding steep_answer
steep_word n = omega arith

module _ (s a : ℕ) (sign : s ≤ 1) (small : a < infinity) where
  abbrev x : Float
  x = signed s a

  abbrev b : ℕ
  b = a + s * 2 ^ 63

  is : b ≡ to_bits binary64 x
  is = signed_bits s a sign small

  size_same : size_bits b ≡ a
  size_same = omega arith

  sign_same : b / 2 ^ 63 ≡ s
  sign_same = omega arith

  -- ---- atan up to 1
  abbrev t : Quotient
  t = number a

  -- A is the rule's answer in parts of 2 ^ -(62 + j)
  atan_rounded : (j tau : ℕ) → j ≤ 100 → tau ≤ 2 ^ 62 → 2 ^ 61 ≤ tau → Floor t j tau
      → Near s (round binary64 (s == 1) (atan_answer j tau) (2 ^ (62 + j))) (atan_lower t) (atan_upper t)
  atan_rounded j tau few high low floor =
      rounded_near (atan_answer j tau) (62 + j) (omega (arith, atan_size j tau high low)) (omega (arith, atan_fits j tau high))
      (omega arith)
      s 10 30 sign (omega arith) (omega arith) (atan_near t j tau floor)

  pub atan_within_tiny : a < arc.tiny → Near s (atan x) (atan_lower t) (atan_upper t)
  atan_within_tiny h = record {
    bits = a;
    finite = small;
    is = sym (cases.atan_tiny x b is (subst (λ (n : ℕ). n < arc.tiny) (sym size_same) h));
    within = within_same (tiny.atan_tiny t) ≼_refl ≼_refl (cube_small a h) (nothing a);
  }

  atan_within_below : arc.tiny ≤ a → a < one → Near s (atan x) (atan_lower t) (atan_upper t)
  atan_within_below h l =
      let j = 1022 - field a in
      let case = cases.atan_below_one x b is (rw size_same h) (rw size_same l) in
      let named : arc.below_one (s == 1) a ≡ atan x = rw (size_same, sign_same) at case in
      near_is (sym named) (atan_rounded j (digits a * 2 ^ 9) (omega arith) (omega arith) (omega arith)
      (floor_below a (omega arith) l))

  atan_within_one : a ≡ one → Near s (atan x) (atan_lower t) (atan_upper t)
  atan_within_one e =
      let case = cases.atan_at_one x b is (size_same ∙ e) in
      let named : arc.at_one (s == 1) ≡ atan x = rw sign_same at case in
      let size-one : value a ≡ 2 ^ 1074 = ap value e ∙ one_is in
      let floor : Floor t 0 (2 ^ 62) = whole_parts t 0 (2 ^ 62) (omega arith) (ap (λ (v : ℕ). v * 2 ^ 62) size-one) in
      near_is (sym named) (atan_rounded 0 (2 ^ 62) (omega arith) (omega arith) (omega arith) floor)

  -- THEOREM
  pub atan_within : a ≤ one → Near s (atan x) (atan_lower t) (atan_upper t)
  atan_within h = elim (lt_or_le a arc.tiny) [
    | inl l ↦ atan_within_tiny l
    | inr l ↦ elim (lt_or_le a one) [ inl k ↦ atan_within_below l k | inr k ↦ atan_within_one (omega arith) ]
  ]

  -- ---- atan above 1
  module _ (above : one < a) where
    pub proper : t.den < t.num
    proper = above_one a above

    abbrev tau : ℕ
    tau = 2 ^ 114 / digits a / 2 ^ (field a - 1023)

    steep_rounded : Near s (round binary64 (s == 1) (steep_answer (t.den * 2 ^ 62 / t.num)) (2 ^ 62)) (steep_lower t proper)
        (steep_upper t proper)
    steep_rounded =
        rounded_near (steep_answer (t.den * 2 ^ 62 / t.num)) 62 (le_trans few (steep_size t proper))
        (steep_word (t.den * 2 ^ 62 / t.num))
        (omega arith)
        s 30 11 sign (omega arith) (omega arith) (steep_within t proper)
      where
        few : 2 ^ 59 ≤ 2 ^ 61
        few = omega arith

    -- the answer is the rule's, also where nothing is left of the inverse
    steep_is : round binary64 (s == 1) (steep_answer (t.den * 2 ^ 62 / t.num)) (2 ^ 62) ≡ atan x
    steep_is = elim (lt_or_le a far) [
      | inl l ↦
          let case =
          cases.atan_above_one x b is (rw size_same (omega arith)) (rw size_same (λ e. omega arith)) (rw size_same l) in
          let named : arc.above_one (s == 1) a ≡ atan x = rw (size_same, sign_same) at case in
          ap (λ (n : ℕ). round binary64 (s == 1) (steep_answer n) (2 ^ 62)) (inverse_is a above) ∙ named
      | inr l ↦
          let case = cases.atan_far x b is (rw size_same l) (rw size_same (omega arith)) in
          let named : arc.at_infinity (s == 1) ≡ atan x = rw sign_same at case in
          ap (λ (n : ℕ). round binary64 (s == 1) n (2 ^ 62)) (ap steep_answer (inverse_none a l) ∙ steep_none) ∙ named
    ]

    -- THEOREM
    pub steep_atan_within : Near s (atan x) (steep_lower t proper) (steep_upper t proper)
    steep_atan_within = near_is (sym steep_is) steep_rounded

-- ---- ln_1p from 0 to 3/4, and from -3/4 to 0
-- (B is the rule's answer in parts of 2 ^ -(61 + j), from the seed sg of r)
double_rounded : (s : ℕ) → s ≤ 1 → (r : Quotient) (proper : r.num < r.den) (j sg : ℕ) → Seed r j sg → j ≤ 100 → 2 ^ 59 ≤ sg
    → Near s (round binary64 (s == 1) (T-answer j sg) (2 ^ (61 + j))) (double_lower r) (double_upper r proper)
double_rounded s sign r proper j sg seed few some =
    rounded_near (T-answer j sg) (61 + j) (le_trans some (T-size r j sg seed)) (omega (arith, T-fits r j sg seed)) (omega arith)
    s 12 39 sign (omega arith) (omega arith) (double_near r proper j sg seed)

module _ (a : ℕ) (small : a ≤ last) where
  number_below : a < infinity
  number_below = omega arith

  pub below_one : value a < 2 ^ 1074
  below_one = subst (λ (v : ℕ). value a < v) one_is (value_lt a one (omega arith))

  ln_1p_is : (s : ℕ) → s ≤ 1 → one-plus.tiny ≤ a → one-plus.ln_1p_of (s == 1) a ≡ ln_1p (signed s a)
  ln_1p_is s sign h =
      let c = a + s * 2 ^ 63 in
      let e : size_bits c ≡ a = omega arith in
      let f : c / 2 ^ 63 ≡ s = omega arith in
      rw (e, f) at (cases.ln_1p_small (signed s a) c (signed_bits s a sign number_below) (rw e h) (rw e small))

  ln_1p_itself : (s : ℕ) → s ≤ 1 → a < one-plus.tiny → ln_1p (signed s a) ≡ signed s a
  ln_1p_itself s sign h =
      let c = a + s * 2 ^ 63 in
      let e : size_bits c ≡ a = omega arith in
      sym (cases.ln_1p_tiny (signed s a) c (signed_bits s a sign number_below) (rw e h))

  -- THEOREM
  pub ln_1p_within_above : Near 0 (ln_1p (signed 0 a)) (double_lower (gain (number a)))
      (double_upper (gain (number a)) (gain_proper (number a)))
  ln_1p_within_above = elim (lt_or_le a one-plus.tiny) [
    | inl l ↦ record {
      bits = a;
      finite = number_below;
      is = ln_1p_itself 0 (omega arith) l;
      within = within_same (tiny.gain_tiny (number a) (quarter a l)) ≼_refl ≼_refl (square_small a l) (nothing a);
    }
    | inr l ↦
        let range = cases.ln_1p_range a l small in
        let some = gain_size (1022 - field a) (digits a) range.low in
        let j = 1022 - field a in
        near_is (sym (ln_1p_is 0 (omega arith) l))
        (double_rounded 0 (omega arith) (gain (number a)) (gain_proper (number a)) j (gain_seed j (digits a))
        (seed_above a l small)
        (omega arith) some)
  ]

  -- THEOREM
  pub ln_1p_within_below : let r = loss (number a) below_one in
      Near 1 (ln_1p (signed 1 a)) (double_lower r) (double_upper r (loss_proper (number a) below_one))
  ln_1p_within_below = elim (lt_or_le a one-plus.tiny) [
    | inl l ↦ record {
      bits = a;
      finite = number_below;
      is = ln_1p_itself 1 (omega arith) l;
      within = within_same (tiny.loss_tiny (number a) below_one (quarter a l)) ≼_refl ≼_refl (nothing a) (square_small a l);
    }
    | inr l ↦
        let range = cases.ln_1p_range a l small in
        let fits : digits a ≤ 2 ^ 53 = omega arith in
        let some = loss_size (1022 - field a) (digits a) range.low fits in
        let j = 1022 - field a in
        let r = loss (number a) below_one in
        near_is (sym (ln_1p_is 1 (omega arith) l))
        (double_rounded 1 (omega arith) r (loss_proper (number a) below_one) j (loss_seed j (digits a))
        (seed_below a l small below_one)
        (omega arith) some)
  ]

-- ---- ln
-- (the pattern is that of the number)
plain : (b : ℕ) → b < infinity → b ≡ to_bits binary64 (from_bits binary64 b)
plain b l = let e : b + 0 * 2 ^ 63 ≡ b = omega arith in rw e at (signed_bits 0 b (omega arith) l)

under : (b : ℕ) → b < two → ln_below_two b ≡ ln (from_bits binary64 b)
under b h = cases.ln_under (from_bits binary64 b) b (plain b (omega arith)) h

few : 2 ^ 59 ≤ 2 ^ 61
few = omega arith

-- from 2 up
ln_within_from_two : (b : ℕ) → two ≤ b → b < infinity
    → Near 0 (ln (from_bits binary64 b)) (ln_lower (parts 52 (digits b)) (field b - 1023))
    (ln_upper (parts 52 (digits b)) (field b - 1023))
ln_within_from_two b h l =
    let e = field b - 1023 in
    let m = digits b in
    let range = cases.ln_range b h l in
    let z = size e in
    let most : z ≤ 11 = digits_most e m range in
    near_is (sym (cases.ln_from (from_bits binary64 b) b (plain b l) h l))
    (rounded_near (ln_answer z e m) (63 - z) (le_trans few (answer_size e m range)) (answer_fits e m range) (omega arith)
    0 12 42 (omega arith) (omega arith) (omega arith)
    (answers.ln_within m z e range.low range.high range.least (size-lt e) (omega arith)))

-- between 1 and 2, where x - 1 is n parts of 2 ^ -53
ln_within_above_one : (b : ℕ) → logarithm.one < b → b < two
    → Near 0 (ln (from_bits binary64 b)) (ln_lower (parts 52 (digits b)) 0) (ln_upper (parts 52 (digits b)) 0)
ln_within_above_one b h l =
    let n = 2 * (digits b - 2 ^ 52) in
    let same : 2 * (b - logarithm.one) ≡ n = omega arith in
    let j = 53 - size n in
    let m = digits b in
    let low : 2 ^ 52 ≤ m = omega arith in
    let high : m < 2 ^ 53 = omega arith in
    let some : 1 ≤ n = omega arith in
    let most : n < 2 ^ 53 = omega arith in
    let fits : n * 2 ^ j ≤ 2 ^ 53 = le_of_lt (full_high n some most) in
    let size_is = above_one_size m j low high (full_low n some most) fits in
    let case : ln_close false n ≡ ln (from_bits binary64 b) =
    ap (λ (k : ℕ). ln_close false k) (sym same) ∙ cases.ln_above_one b (omega arith) (λ e. omega arith) ∙ under b l in
    near_is (sym case)
    (rounded_near (gain_answer j n) (61 + j) size_is.0 (word size_is.1) (omega arith)
    0 12 39 (omega arith) (omega arith) (omega arith) (answers.above_one_within m j low high fits))
  where
    word : {k : ℕ} → k < 2 ^ 63 → k < 2 ^ 64
    word h = omega arith

-- THEOREM: above 1 the number is m * 2 ^ e, m = digits / 2 ^ 52 (`ln_parts`)
pub ln_within : (b : ℕ) → logarithm.one < b → b < infinity
    → Near 0 (ln (from_bits binary64 b)) (ln_lower (parts 52 (digits b)) (field b - 1023))
    (ln_upper (parts 52 (digits b)) (field b - 1023))
ln_within b h l = elim (lt_or_le b two) [
  | inl k ↦ let e : field b - 1023 ≡ 0 = omega arith in rw e (ln_within_above_one b h k)
  | inr k ↦ ln_within_from_two b k l
]

-- between 1/2 and 1, where 1 - x is n parts of 2 ^ -53
ln_within_below_one : (b : ℕ) → half ≤ b → b < logarithm.one
    → Near 1 (ln (from_bits binary64 b)) (ln_below_lower (parts 52 (digits b)) 1) (ln_below_upper (parts 52 (digits b)) 1)
ln_within_below_one b h l =
    let n = 2 ^ 53 - digits b in
    let same : logarithm.one - b ≡ n = omega arith in
    let j = 53 - size n in
    let m = digits b in
    let low : 2 ^ 52 ≤ m = omega arith in
    let high : m < 2 ^ 53 = omega arith in
    let some : 1 ≤ n = omega arith in
    let most : n < 2 ^ 53 = omega arith in
    let fits : n * 2 ^ j ≤ 2 ^ 53 = le_of_lt (full_high n some most) in
    let size_is = below_one_size m j low high (full_low n some most) fits in
    let case : ln_close true n ≡ ln (from_bits binary64 b) =
    ap (λ (k : ℕ). ln_close true k) (sym same) ∙ cases.ln_below_one b h l ∙ under b (omega arith) in
    near_is (sym case)
    (rounded_near (loss_answer j n) (61 + j) size_is.0 (word size_is.1) (omega arith)
    1 12 39 (omega arith) (omega arith) (omega arith) (answers.below_one_within m j low high fits))
  where
    word : {k : ℕ} → k < 2 ^ 63 → k < 2 ^ 64
    word h = omega arith

-- below 1/2
ln_within_below_half : (b : ℕ) → 1 ≤ b → b < half → let m = parts 52 (full_digits b) in let e = suc (below_exponent b) in
    Near 1 (ln (from_bits binary64 b)) (ln_below_lower m e) (ln_below_upper m e)
ln_within_below_half b h l =
    let e = below_exponent b in
    let m = full_digits b in
    let range = cases.ln_below_range b h l in
    let z = size e in
    let most : z ≤ 11 = digits_most e m range in
    near_is (sym (cases.ln_below_half b h l ∙ under b (omega arith)))
    (rounded_near (ln_below_answer z e m) (63 - z) (le_trans few (below_size e m range)) (below_fits e m range) (omega arith)
    1 12 42 (omega arith) (omega arith) (omega arith)
    (answers.ln_below_within m z e range.low range.high range.least (size-lt e) (omega arith)))

-- THEOREM: below 1 the number is m * 2 ^ -e, m = full_digits / 2 ^ 52 (`ln_below_parts`), and the answer is below zero
pub ln_below_within : (b : ℕ) → 1 ≤ b → b < logarithm.one → let m = parts 52 (full_digits b) in let e = suc (below_exponent b) in
    Near 1 (ln (from_bits binary64 b)) (ln_below_lower m e) (ln_below_upper m e)
ln_below_within b h l = elim (lt_or_le b half) [
  | inl k ↦ ln_within_below_half b h k
  | inr k ↦
      let normal = cases.normal b (omega arith) in
      let none : 1022 - field b ≡ 0 = omega arith in
      rw (normal.0, normal.1, none) (ln_within_below_one b k l)
]
