-- An argument taken apart by its pattern is the number that the rules and the enclosures speak of. Assumes nothing.
use Rattle.std.specs.Prelude.{◌≡◌, ℕ, suc, ◌+◌, ◌-◌, ◌*◌, ◌/◌, ◌%◌, ◌^◌, ◌<◌, ◌≤◌, refl}
use Rattle.std.proofs.Common.{sym, ap, ap₂, ◌∙◌, subst, inl, inr, le_of_eq, le_of_lt, lt_of_lt_of_le, add_comm, mul_comm, mul-le-mul_right, mul-lt-mul_of_pos_right, arith, lit<, pow_pos, pow-add, pow_mono}
use Rattle.std.proofs.Math.Nat.{div-eq_of_lt, mul-sub, mul-div-mul_right, div-div-eq-div-mul}
use Rattle.std.specs.Float.Ieee.{size}
use Rattle.std.specs.Float.Ieee.Digits.{size-le}
use Rattle.algebra.specs.Order.{lt_or_le}
use Rattle.rounding.specs.Cut.{value}
use Rattle.rounding.proofs.Value.{value_high, value_small, value_lt}
use Rattle.enclosure.specs.Quotient.{Quotient, parts}
use Rattle.enclosure.specs.Enclosure.{gain, loss}
use Rattle.enclosure.specs.Rules.{gain_seed, loss_seed}
use Rattle.enclosure.proofs.Seeds.{gain_seeds, loss_seeds, seed_same}
use Rattle.enclosure.specs.Atan.{Floor}
use Rattle.enclosure.specs.Logarithm.{Seed}
use Rattle.series.specs.Pattern.{field, digits}
use Rattle.series.specs.Near.{number}
use Rattle.series.specs.Atan.{one, far}
use Rattle.series.specs.Ln.{below_exponent, full_digits}
use Rattle.series.specs.Ln1p.{tiny, last}
use Rattle.series.specs.Ranges.{Small}
use Rattle.series.proofs.Cases.{ln_1p_range, subnormal, normal}

-- ---- the size by digits and field
pub size_is : (a : ℕ) → 2 ^ 52 ≤ a → value a ≡ digits a * 2 ^ (field a - 1)
size_is a h = value_high a h ∙ ap (λ (m : ℕ). m * 2 ^ (field a - 1)) (add_comm (2 ^ 52) (a % 2 ^ 52))

-- the size's last place is document 01's unit: 2 ^ 52 of them are the largest power of two not above it, and where it is less,
-- it is the smallest unit
pub place_normal : (a : ℕ) → 2 ^ 52 ≤ a → (2 ^ 52 * 2 ^ (field a - 1) ≤ value a) × (value a < 2 ^ 53 * 2 ^ (field a - 1))
place_normal a h = rw (size_is a h) (
  mul-le-mul_right (2 ^ (field a - 1)) (omega arith),
  mul-lt-mul_of_pos_right (omega arith) (pow_pos (field a - 1)),
)

pub place_subnormal : (a : ℕ) → a < 2 ^ 52 → (value a ≡ a) × (field a - 1 ≡ 0)
place_subnormal a h = (value_small a (omega arith), omega arith)

pub below_places : (a : ℕ) → value a < 2 ^ 53 * 2 ^ (field a - 1)
below_places a = elim (lt_or_le a (2 ^ 52)) [
  | inl l ↦ let e = place_subnormal a l in rw (e.0, e.1) (omega arith)
  | inr l ↦ (place_normal a l).1
]

-- ---- scales. q parts of the size's digits are one, where the field is 1 at least.
pub scale : (i q k : ℕ) → i + q ≡ k + 1074 → (m : ℕ) → m * 2 ^ i * 2 ^ q ≡ m * 2 ^ k * 2 ^ 1074
scale i q k e m =
    regroup m (2 ^ i) (2 ^ q) ∙ ap (λ (p : ℕ). m * p) (sym (pow-add 2 i q) ∙ ap (λ (n : ℕ). 2 ^ n) e ∙ pow-add 2 k 1074)
    ∙ sym (regroup m (2 ^ k) (2 ^ 1074))
  where
    regroup : (a b c : ℕ) → a * b * c ≡ a * (b * c)
    regroup a b c = omega arith

-- ---- atan: the size is a whole number of the rule's parts
pub whole_parts : (t : Quotient) (j tau : ℕ) → tau ≤ 2 ^ 62 → t.num * 2 ^ (62 + j) ≡ tau * t.den → Floor t j tau
whole_parts t j tau h e = record {
  low = le_of_eq (sym e);
  high = subst (λ (n : ℕ). n < tau * t.den + t.den) (sym e) (more (tau * t.den) t.den t.pos);
  one = subst (λ (n : ℕ). n ≤ 2 ^ 62 * t.den) (sym e) (mul-le-mul_right t.den h);
}
  where
    more : (x y : ℕ) → 0 < y → x < x + y
    more x y p = omega arith

pub floor_below : (a : ℕ) → 2 ^ 52 ≤ a → a < one → Floor (number a) (1022 - field a) (digits a * 2 ^ 9)
floor_below a h l =
    let i = field a - 1 in
    let q = 62 + (1022 - field a) in
    let e : i + q ≡ 9 + 1074 = omega arith in
    whole_parts (number a) (1022 - field a) (digits a * 2 ^ 9) (omega arith)
    (ap (λ (v : ℕ). v * 2 ^ q) (size_is a h) ∙ scale i q 9 e (digits a))

-- ---- atan above 1: the inverse
pub one_is : value one ≡ 2 ^ 1074
unfolding value
one_is = refl

far_is : value far ≡ 2 ^ 1137
unfolding value
far_is = refl

pub above_one : (a : ℕ) → one < a → 2 ^ 1074 < value a
above_one a h = subst (λ (v : ℕ). v < value a) one_is (value_lt one a h)

pub inverse_is : (a : ℕ) → one < a → 2 ^ 1074 * 2 ^ 62 / value a ≡ 2 ^ 114 / digits a / 2 ^ (field a - 1023)
inverse_is a h =
    let e = field a - 1023 in
    let f : field a - 1 ≡ e + 1022 = omega arith in
    let v : value a ≡ digits a * 2 ^ e * 2 ^ 1022 =
    size_is a (omega arith) ∙ ap (λ (n : ℕ). digits a * 2 ^ n) f ∙ ap (λ (p : ℕ). digits a * p) (pow-add 2 e 1022)
    ∙ sym (regroup (digits a) (2 ^ e) (2 ^ 1022)) in
    ap (λ (n : ℕ). 2 ^ 1136 / n) v
    ∙ mul-div-mul_right (2 ^ 114) (digits a * 2 ^ e) (pow_pos 1022)
    ∙ sym (div-div-eq-div-mul (2 ^ 114) (digits a) (2 ^ e))
  where
    regroup : (a b c : ℕ) → a * b * c ≡ a * (b * c)
    regroup a b c = omega arith

pub inverse_none : (a : ℕ) → far ≤ a → 2 ^ 1074 * 2 ^ 62 / value a ≡ 0
inverse_none a h =
    let long : 2 ^ 1137 ≤ value a = elim (lt_or_le far a) [
      | inl l ↦ subst (λ (v : ℕ). v ≤ value a) far_is (le_of_lt (value_lt far a l))
      | inr l ↦ let e : far ≡ a = omega arith in le_of_eq (sym far_is ∙ ap value e)
    ] in
    div-eq_of_lt (lt_of_lt_of_le (lit< {m = 2 ^ 1136} {n = 2 ^ 1137} tt) long)

-- ---- ln: the size is digits / 2 ^ 52 times 2 ^ e (for readers of `ln_within`)
pub ln_parts : (b : ℕ) → one ≤ b → value b * 2 ^ 52 ≡ digits b * 2 ^ (field b - 1023) * 2 ^ 1074
ln_parts b h =
    let i = field b - 1 in
    let e : i + 52 ≡ field b - 1023 + 1074 = omega arith in
    ap (λ (v : ℕ). v * 2 ^ 52) (size_is b (omega arith)) ∙ scale i 52 (field b - 1023) e (digits b)

-- below 1, full_digits / 2 ^ 52 times 2 ^ -e (for readers of `ln_below_within`)
pub ln_below_parts : (b : ℕ) → 1 ≤ b → b < one → value b * 2 ^ (52 + suc (below_exponent b)) ≡ full_digits b * 2 ^ 1074
ln_below_parts b h l = elim (lt_or_le b (2 ^ 52)) [
  | inl k ↦
      let s = size b in
      let few : s ≤ 52 = size-le b 52 k in
      let e : 52 + suc (1074 - s) ≡ 53 - s + 1074 = omega arith in
      rw ((subnormal b k).0, (subnormal b k).1, (place_subnormal b k).0)
      (ap (λ (n : ℕ). b * 2 ^ n) e ∙ ap (λ (n : ℕ). b * n) (pow-add 2 (53 - s) 1074) ∙ sym (grouped b (2 ^ (53 - s)) (2 ^ 1074)))
  | inr k ↦
      let i = field b - 1 in
      let e : i + (52 + suc (1022 - field b)) ≡ 1074 = omega arith in
      rw ((normal b k).0, (normal b k).1, size_is b k)
      (grouped (digits b) (2 ^ i) (2 ^ (52 + suc (1022 - field b)))
      ∙ ap (λ (n : ℕ). digits b * n) (sym (pow-add 2 i (52 + suc (1022 - field b))) ∙ ap (λ (n : ℕ). 2 ^ n) e))
]
  where
    grouped : (a b c : ℕ) → a * b * c ≡ a * (b * c)
    grouped a b c = omega arith

-- ---- ln_1p: the quotient times K / K
same_quotient : (n d n' d' K : ℕ) → n' ≡ n * K → d' ≡ d * K → n * d' ≡ n' * d
same_quotient n d n' d' K e f = rw (e, f) (omega arith)

-- the size is digits * 2 ^ -(53 + j), both times 2 ^ (field - 1)
one_parts : (a : ℕ) → 2 ^ 52 ≤ a → a < one → 2 ^ 1074 ≡ 2 ^ (53 + (1022 - field a)) * 2 ^ (field a - 1)
one_parts a h l =
    let e : 1074 ≡ 53 + (1022 - field a) + (field a - 1) = omega arith in
    ap (λ (n : ℕ). 2 ^ n) e ∙ pow-add 2 (53 + (1022 - field a)) (field a - 1)

more_parts : (A v Q m K : ℕ) → A ≡ Q * K → v ≡ m * K → 2 * A + v ≡ (2 * Q + m) * K
more_parts A v Q m K e f = rw (e, f) (omega arith)

less_parts : (A v Q m K : ℕ) → A ≡ Q * K → v ≡ m * K → 2 * A - v ≡ (2 * Q - m) * K
less_parts A v Q m K e f = rw (e, f) (regroup Q m K ∙ sym (sub_mul' (2 * Q) m K))
  where
    regroup : (Q m K : ℕ) → 2 * (Q * K) - m * K ≡ 2 * Q * K - m * K
    regroup Q m K = omega arith

    sub_mul' : (a b c : ℕ) → (a - b) * c ≡ a * c - b * c
    sub_mul' a b c = mul_comm (a - b) c ∙ mul-sub c a b ∙ ap₂ (λ (m n : ℕ). m - n) (mul_comm c a) (mul_comm c b)

module _ (a : ℕ) (low : tiny ≤ a) (high : a ≤ last) where
  abbrev j : ℕ
  j = 1022 - field a

  abbrev m : ℕ
  m = digits a

  abbrev K : ℕ
  K = 2 ^ (field a - 1)

  one_split : 2 ^ 1074 ≡ 2 ^ (53 + j) * K
  one_split = one_parts a (omega arith) (omega arith)

  num_is : value a ≡ m * K
  num_is = size_is a (omega arith)

  range : Small j m
  range = ln_1p_range a low high

  digits_fit : m ≤ 2 ^ 53
  digits_fit = omega arith

  pub seed_above : Seed (gain (number a)) j (gain_seed j m)
  seed_above =
      let q = 2 * 2 ^ (53 + j) + m in
      let same = same_quotient m q (value a) _ K num_is (more_parts (2 ^ 1074) (value a) (2 ^ (53 + j)) m K one_split num_is) in
      seed_same (gain (parts (53 + j) m)) (gain (number a)) j (gain_seed j m) same (gain_seeds j m digits_fit)

  pub seed_below : (proper : value a < 2 ^ 1074) → Seed (loss (number a) proper) j (loss_seed j m)
  seed_below proper =
      let strict : m < 2 ^ (53 + j) = lt_of_lt_of_le range.high (pow_mono {i = 53} {j = 53 + j} (omega arith)) in
      let q = 2 * 2 ^ (53 + j) - m in
      let same = same_quotient m q (value a) _ K num_is (less_parts (2 ^ 1074) (value a) (2 ^ (53 + j)) m K one_split num_is) in
      seed_same (loss (parts (53 + j) m) strict) (loss (number a) proper) j (loss_seed j m) same
      (loss_seeds j m strict digits_fit range.small)
