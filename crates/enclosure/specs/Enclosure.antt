-- The enclosures of document 01, "What the leaves mean": the ends between which T, atan, ln and ln_1p lie after n terms,
-- and what it is for an answer to lie near every one of them. Definitions, with the six inequalities that they need to be
-- written: a denominator is above zero, and the argument of T below 1.
-- T and atan are odd, so all is said of sizes: the sign of an argument is the sign of the answer.
use Rattle.std.specs.Prelude.{ℕ, zero, suc, ◌+◌, ◌-◌, ◌*◌, ◌<◌}
use Rattle.std.proofs.Common.{mul-pos, mul-le-mul, arith}
use Rattle.enclosure.specs.Quotient.{Quotient, ◌≼◌, whole, over, ◌⊞◌, ◌⊟◌, ◌⊠◌}

-- the first n terms of a series
unfoldable pub sum : (ℕ → Quotient) → ℕ → Quotient
sum a zero = whole 0
sum a (suc n) = sum a n ⊞ a n

-- ---- T(s) = s + s^3/3 + s^5/5 + .., for 0 ≤ s < 1
-- s^(2k+1)
unfoldable pub odd_power : Quotient → ℕ → Quotient
odd_power s zero = s
odd_power s (suc k) = s ⊠ s ⊠ odd_power s k

-- s^(2k+1) / (2k+1)
abbrev pub T-term : Quotient → ℕ → Quotient
T-term s k = odd_power s k ⊠ over 1 (2 * k)

pub squares_apart : (a b : ℕ) → a < b → 0 < b * b - a * a
squares_apart a b h = omega (arith, mul-le-mul h h)

-- 1 / (1 - s^2)
abbrev pub T-factor : (s : Quotient) → s.num < s.den → Quotient
T-factor s h = record { num = s.den * s.den; den = s.den * s.den - s.num * s.num; pos = squares_apart s.num s.den h }

-- "After n terms T lies from the partial sum to that plus s^(2n+1) / ((2n+1) (1-s^2))"
unfoldable pub T-lower : Quotient → ℕ → Quotient
T-lower s n = sum (T-term s) n

unfoldable pub T-upper : (s : Quotient) → s.num < s.den → ℕ → Quotient
T-upper s h n = sum (T-term s) n ⊞ T-factor s h ⊠ T-term s n

-- ---- atan(t) for 0 ≤ t ≤ 1: Euler's series
-- 1 + t^2
abbrev pub one_and_square : Quotient → Quotient
one_and_square t = record { num = t.den * t.den + t.num * t.num; den = t.den * t.den; pos = mul-pos t.pos t.pos }

pub square_pos : (t : Quotient) → 0 < t.den * t.den + t.num * t.num
square_pos t = omega (arith, mul-pos t.pos t.pos)

-- 1 / (1 + t^2)
abbrev pub euler_start : Quotient → Quotient
euler_start t = record { num = t.den * t.den; den = t.den * t.den + t.num * t.num; pos = square_pos t }

-- t^2 / (1 + t^2)
abbrev pub euler_ratio : Quotient → Quotient
euler_ratio t = record { num = t.num * t.num; den = t.den * t.den + t.num * t.num; pos = square_pos t }

-- "the first term is t / (1 + t^2), the n-th after it (n from 1) is the one before times 2n / (2n+1) times t^2 / (1 + t^2)"
unfoldable pub euler_term : Quotient → ℕ → Quotient
euler_term t zero = t ⊠ euler_start t
euler_term t (suc k) = euler_term t k ⊠ over (2 * suc k) (2 * suc k) ⊠ euler_ratio t

-- "atan lies from each partial sum to that plus (1 + t^2) times the next term"
unfoldable pub atan_lower : Quotient → ℕ → Quotient
atan_lower t n = sum (euler_term t) n

unfoldable pub atan_upper : Quotient → ℕ → Quotient
atan_upper t n = sum (euler_term t) n ⊞ one_and_square t ⊠ euler_term t n

-- ---- atan(t) for t > 1: "8 atan(1/5) - 2 atan(1/239) - atan(1/t)". What is taken away is greatest at the lower end.
-- (A lower end below zero is 0 here, and asks as little of an answer, which is no less than 0. No upper end is below zero.)
abbrev pub inverse : (t : Quotient) → t.den < t.num → Quotient
inverse t h = record { num = t.den; den = t.num; pos = omega arith }

abbrev pub fifth : Quotient
fifth = over 1 4

abbrev pub part_of_239 : Quotient
part_of_239 = over 1 238

unfoldable pub steep_lower : (t : Quotient) → t.den < t.num → ℕ → Quotient
steep_lower t h n = whole 8 ⊠ atan_lower fifth n ⊟ (whole 2 ⊠ atan_upper part_of_239 n ⊞ atan_upper (inverse t h) n)

unfoldable pub steep_upper : (t : Quotient) → t.den < t.num → ℕ → Quotient
steep_upper t h n = whole 8 ⊠ atan_upper fifth n ⊟ (whole 2 ⊠ atan_lower part_of_239 n ⊞ atan_lower (inverse t h) n)

-- ---- ln of m * 2 ^ e, 1 ≤ m < 2: "2e T(1/3) + 2 T((m-1) / (m+1))"
abbrev pub third : Quotient
third = over 1 2

pub third_proper : third.num < third.den
third_proper = omega arith

-- (m-1) / (m+1)
abbrev pub argument_of_ln : Quotient → Quotient
argument_of_ln m = record { num = m.num - m.den; den = m.num + m.den; pos = omega (arith, m.pos) }

pub ln_proper : (m : Quotient) → (argument_of_ln m).num < (argument_of_ln m).den
ln_proper m = omega (arith, m.pos)

unfoldable pub ln_lower : Quotient → ℕ → ℕ → Quotient
ln_lower m e n = whole (2 * e) ⊠ T-lower third n ⊞ whole 2 ⊠ T-lower (argument_of_ln m) n

unfoldable pub ln_upper : Quotient → ℕ → ℕ → Quotient
ln_upper m e n = whole (2 * e) ⊠ T-upper third third_proper n ⊞ whole 2 ⊠ T-upper (argument_of_ln m) (ln_proper m) n

-- ---- ln of m * 2 ^ -e, e ≥ 1: the same with the exponent below zero (document 02, 2026-02). The answer is below zero, its size
-- 2e T(1/3) - 2 T((m-1) / (m+1)); what is taken away is greatest at the lower end. (No upper end is below zero.)
unfoldable pub ln_below_lower : Quotient → ℕ → ℕ → Quotient
ln_below_lower m e n = whole (2 * e) ⊠ T-lower third n ⊟ whole 2 ⊠ T-upper (argument_of_ln m) (ln_proper m) n

unfoldable pub ln_below_upper : Quotient → ℕ → ℕ → Quotient
ln_below_upper m e n = whole (2 * e) ⊠ T-upper third third_proper n ⊟ whole 2 ⊠ T-lower (argument_of_ln m) n

-- ---- ln_1p(a): "2 T(a / (2+a))". Where a is below zero, -2 T(|a| / (2-|a|)), for |a| < 1.
abbrev pub gain : Quotient → Quotient
gain a = record { num = a.num; den = 2 * a.den + a.num; pos = omega (arith, a.pos) }

abbrev pub loss : (a : Quotient) → a.num < a.den → Quotient
loss a h = record { num = a.num; den = 2 * a.den - a.num; pos = omega arith }

-- the ends of 2 T(s)
unfoldable pub double_lower : Quotient → ℕ → Quotient
double_lower s n = whole 2 ⊠ T-lower s n

unfoldable pub double_upper : (s : Quotient) → s.num < s.den → ℕ → Quotient
double_upper s h n = whole 2 ⊠ T-upper s h n

-- ---- near every enclosure: v is at most `down` above each upper end, and at most `up` below each lower end
pub record Within (lower upper : ℕ → Quotient) (v down up : Quotient) : Type 0 where
  pub low : (n : ℕ) → v ≼ upper n ⊞ down
  pub high : (n : ℕ) → lower n ≼ v ⊞ up
