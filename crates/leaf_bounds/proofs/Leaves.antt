-- How large atan, ln and ln(1 + a) - ln(1 - a) are at an argument of 2 ^ -90 to 2 ^ 526, above 1 for ln: from 2 ^ -104 to
-- 2 ^ 16, or no number. A rule's answer has 60 to 64 digits of a known part (`Sizes`), so its size is known within a few
-- powers of two. Assumes nothing.
use Rattle.std.specs.Prelude.{ℕ, ◌+◌, ◌-◌, ◌*◌, ◌/◌, ◌^◌, ◌≤◌, ◌<◌, ◌≡◌, Bool, true, false, ◌⊎◌, Float}
use Rattle.std.proofs.Common.{sym, ◌∙◌, subst, inl, inr, le_trans, le_of_lt, le_of_eq, not-le_of_lt, pow_mono}
use Rattle.std.proofs.Math.Path.{ap}
use native.Mathlib.Omega.{arith}
use Rattle.std.proofs.Math.Dec.{lit≤, lit<}
use Rattle.std.specs.Float.{nan}
use Rattle.std.specs.Float.Ieee.{binary64, size, round, neg, add, sub, to_bits}
use Rattle.std.specs.Float.Ieee.Scale.{overflow}
use Rattle.algebra.specs.Order.{lt_or_le}
use Rattle.rounding.specs.Cut.{infinity, value}
use Rattle.rounding.proofs.Value.{value_lt}
use Rattle.rounding.specs.Sign.{bits_neg}
use Rattle.enclosure.specs.Rules.{atan_answer, half_pi, steep_answer, T-answer, gain_seed, loss_seed, ln_answer, gain_answer}
use Rattle.enclosure.proofs.Sizes.{atan_size, atan_fits, steep_size, T-size, T-fits, gain_size, loss_size, above_one_size}
use Rattle.enclosure.specs.Enclosure.{gain, loss}
use Rattle.series.specs.Pattern.{size_bits, field, digits}
use Rattle.series.specs.Near.{number}
use Rattle.series.specs.Atan.{atan}
use Rattle.series.specs.Atan as arc
use Rattle.series.specs.Ln.{ln}
use Rattle.series.specs.Ln as logarithm
use Rattle.series.specs.Ln1p.{ln_1p}
use Rattle.series.specs.Ln1p as one-plus
use Rattle.series.proofs.Cases as cases
use Rattle.series.specs.Exponents.{full_low, full_high, digits_most, answer_fits, answer_size}
use Rattle.series.proofs.Arguments.{one_is, above_one, inverse_is, seed_above, seed_below}
use Rattle.series.specs.Names.{signed_bits}
use Rattle.scaling.specs.Units.{Is, neg_units}
use Rattle.leaf_bounds.specs.Pattern.{pattern, bits_are, named, value_back}
use Rattle.leaf_bounds.specs.Rounded.{Powers, rounded_between, sum_between}
use Rattle.leaf_bounds.specs.Leaves.{high, least, low, most}

fits : 2 ^ high < overflow binary64
fits = lit< tt

value_le : (a b : ℕ) → a ≤ b → value a ≤ value b
value_le a b h = elim (lt_or_le a b) [
  | inl l ↦ le_of_lt (value_lt a b l)
  | inr l ↦ le_of_eq (ap value (let e : a ≡ b = omega arith in e))
]

-- a rule's answer A of 60 to 64 digits, in units of 2 ^ -t
answer : (s : Bool) (A t : ℕ) → 2 ^ 59 ≤ A → A < 2 ^ 64 → 52 ≤ t → t ≤ 150
    → Powers binary64 s low high (round binary64 s A (2 ^ t))
answer s A t h l few many = rounded_between binary64 s A t low high 59 64 h (le_of_lt l) (omega arith) (omega arith) fits

module _ {x : Float} {n : ℕ} (is : Is binary64 x false n) (from : 2 ^ least ≤ n) (to : n ≤ 2 ^ most) where
  abbrev b : ℕ
  b = pattern n

  bits : b ≡ to_bits binary64 x
  bits = sym (bits_are is)

  infinite : 2 ^ most < value infinity
  unfolding value
  infinite = lit< tt

  finite : b < infinity
  finite = elim (lt_or_le b infinity) [
    | inl l ↦ l
    | inr l ↦ absurd (not-le_of_lt infinite (le_trans (value_le infinity b l) (le_trans (le_of_eq (value_back is)) to)))
  ]

  same : size_bits b ≡ b
  same = let l = finite in omega arith

  unsigned : b / 2 ^ 63 ≡ 0
  unsigned = let l = finite in omega arith

  -- the argument itself, where it is below 2 ^ 16
  itself : (c : ℕ) → b < c → value c ≤ 2 ^ high → Powers binary64 false low high x
  itself c h l = record {
    n = n;
    is = is;
    from = le_trans (pow_mono {i = low} {j = least} (lit≤ tt)) from;
    to = le_trans (le_of_eq (sym (value_back is))) (le_trans (le_of_lt (value_lt b c h)) l);
  }

  -- ---- atan
  atan_tiny : value arc.tiny ≤ 2 ^ high
  unfolding value
  atan_tiny = lit≤ tt

  atan_below : arc.tiny ≤ b → b < arc.one → Powers binary64 false low high (atan x)
  atan_below h l =
      let case = cases.atan_below_one x b bits (rw same h) (rw same l) in
      let is : arc.below_one false b ≡ atan x = rw (same, unsigned) at case in
      let j = 1022 - field b in
      let tau = digits b * 2 ^ 9 in
      let tau-low : 2 ^ 61 ≤ tau = omega arith in
      let tau_high : tau ≤ 2 ^ 62 = omega arith in
      let long = atan_size j tau tau_high tau-low in
      let short = atan_fits j tau tau_high in
      subst (Powers binary64 false low high) is (answer false (atan_answer j tau) (62 + j) (omega arith) (omega arith)
      (omega arith) (omega arith))

  atan_one : b ≡ arc.one → Powers binary64 false low high (atan x)
  atan_one e =
      let case = cases.atan_at_one x b bits (same ∙ e) in
      let is : arc.at_one false ≡ atan x = rw unsigned at case in
      let long = atan_size 0 (2 ^ 62) (lit≤ tt) (lit≤ tt) in
      let short = atan_fits 0 (2 ^ 62) (lit≤ tt) in
      subst (Powers binary64 false low high) is (answer false (atan_answer 0 (2 ^ 62)) 62 (omega arith) (omega arith)
      (omega arith) (omega arith))

  steep_word : (t : ℕ) → steep_answer t < 2 ^ 64
  unfolding steep_answer
  steep_word t = omega arith

  atan_above : arc.one < b → b < arc.far → Powers binary64 false low high (atan x)
  atan_above h l =
      let case = cases.atan_above_one x b bits (rw same (omega arith)) (rw same (λ e. omega arith)) (rw same l) in
      let is : arc.above_one false b ≡ atan x = rw (same, unsigned) at case in
      let tau = 2 ^ 114 / digits b / 2 ^ (field b - 1023) in
      let long : 2 ^ 61 ≤ steep_answer tau = subst (λ (t : ℕ). 2 ^ 61 ≤ steep_answer t) (inverse_is b h)
      (steep_size (number b) (above_one b h)) in
      let short = steep_word tau in
      subst (Powers binary64 false low high) is (answer false (steep_answer tau) 62 (omega arith) short (omega arith)
      (omega arith))

  atan_far : arc.far ≤ b → Powers binary64 false low high (atan x)
  atan_far h =
      let case = cases.atan_far x b bits (rw same h) (rw same (le_of_lt finite)) in
      let is : arc.at_infinity false ≡ atan x = rw unsigned at case in
      subst (Powers binary64 false low high) is (answer false half_pi 62 (lit≤ tt) (lit< tt) (omega arith) (omega arith))

  pub atan_between : Powers binary64 false low high (atan x)
  atan_between = elim (lt_or_le b arc.tiny) [
    | inl h ↦ subst (Powers binary64 false low high) (cases.atan_tiny x b bits (rw same h)) (itself arc.tiny h atan_tiny)
    | inr h ↦
        elim (lt_or_le b arc.one) [
          | inl l ↦ atan_below h l
          | inr l ↦
              elim (lt_or_le arc.one b) [
                | inl k ↦ elim (lt_or_le b arc.far) [ inl q ↦ atan_above k q | inr q ↦ atan_far q ]
                | inr k ↦ atan_one (omega arith)
              ]
        ]
  ]

  -- ---- ln, where the argument is above 1
  ln_from_two : logarithm.two ≤ b → Powers binary64 false low high (ln x)
  ln_from_two h =
      let e = field b - 1023 in
      let m = digits b in
      let range = cases.ln_range b h finite in
      let few = digits_most e m range in
      let long = answer_size e m range in
      subst (Powers binary64 false low high) (cases.ln_from x b bits h finite)
      (answer false (ln_answer (size e) e m) (63 - size e) (omega arith) (answer_fits e m range) (omega arith) (omega arith))

  ln_above_one : logarithm.one < b → b < logarithm.two → Powers binary64 false low high (ln x)
  ln_above_one h l =
      let k = 2 * (digits b - 2 ^ 52) in
      let j = 53 - size k in
      let e : 2 * (b - logarithm.one) ≡ k = omega arith in
      let some : 1 ≤ k = omega arith in
      let most : k < 2 ^ 53 = omega arith in
      let fits : k * 2 ^ j ≤ 2 ^ 53 = le_of_lt (full_high k some most) in
      let sizes = above_one_size (digits b) j (omega arith) (omega arith) (full_low k some most) fits in
      let long = sizes.0 in
      let short = sizes.1 in
      let case = cases.ln_above_one b (omega arith) (λ q. omega arith) ∙ cases.ln_under x b bits l in
      subst (Powers binary64 false low high) (ap (λ (i : ℕ). logarithm.ln_close false i) (sym e) ∙ case)
      (answer false (gain_answer j k) (61 + j) long (omega arith) (omega arith) (omega arith))

  pub ln_between : 2 ^ 1074 < n → Powers binary64 false low high (ln x)
  ln_between above = elim (lt_or_le logarithm.one b) [
    | inl h ↦ elim (lt_or_le b logarithm.two) [ inl l ↦ ln_above_one h l | inr l ↦ ln_from_two l ]
    | inr h ↦ absurd (not-le_of_lt above
        (le_trans (le_of_eq (sym (value_back is))) (le_trans (value_le b logarithm.one h) (le_of_eq one_is))))
  ]

  -- ---- ln(1 + a) - ln(1 - a): both sizes, and their sum
  abbrev c : ℕ
  c = b + 1 * 2 ^ 63

  negative_bits : c ≡ to_bits binary64 (neg x)
  negative_bits =
      let l = finite in
      signed_bits 1 b (lit≤ tt) l ∙ ap (λ (y : Float). to_bits binary64 y) (bits_neg b (omega arith) ∙ ap neg (sym (named is)))

  same_size : size_bits c ≡ b
  same_size = let l = finite in omega arith

  signed : c / 2 ^ 63 ≡ 1
  signed = let l = finite in omega arith

  one_plus_tiny : value one-plus.tiny ≤ 2 ^ high
  unfolding value
  one_plus_tiny = lit≤ tt

  gain_between : one-plus.tiny ≤ b → b ≤ one-plus.last → Powers binary64 false low high (ln_1p x)
  gain_between h l =
      let case = cases.ln_1p_small x b bits (rw same h) (rw same l) in
      let is : one-plus.ln_1p_of false b ≡ ln_1p x = rw (same, unsigned) at case in
      let j = 1022 - field b in
      let range = cases.ln_1p_range b h l in
      let seed = seed_above b h l in
      let sg = gain_seed j (digits b) in
      let some = gain_size j (digits b) range.low in
      let long = le_trans some (T-size (gain (number b)) j sg seed) in
      let short = T-fits (gain (number b)) j sg seed in
      subst (Powers binary64 false low high) is (answer false (T-answer j sg) (61 + j) long (omega arith) (omega arith)
      (omega arith))

  loss_between : one-plus.tiny ≤ b → b ≤ one-plus.last → Powers binary64 true low high (ln_1p (neg x))
  loss_between h l =
      let case = cases.ln_1p_small (neg x) c negative_bits (rw same_size h) (rw same_size l) in
      let is : one-plus.ln_1p_of true b ≡ ln_1p (neg x) = rw (same_size, signed) at case in
      let j = 1022 - field b in
      let range = cases.ln_1p_range b h l in
      let proper : value b < 2 ^ 1074 = subst (λ (v : ℕ). value b < v) one_is (value_lt b arc.one (omega arith)) in
      let seed = seed_below b h l proper in
      let sg = loss_seed j (digits b) in
      let digit : digits b ≤ 2 ^ 53 = omega arith in
      let some = loss_size j (digits b) range.low digit in
      let long = le_trans some (T-size (loss (number b) proper) j sg seed) in
      let short = T-fits (loss (number b) proper) j sg seed in
      subst (Powers binary64 true low high) is (answer true (T-answer j sg) (61 + j) long (omega arith) (omega arith)
      (omega arith))

  -- the negative of a tiny argument
  opposite : Powers binary64 false low high x → Powers binary64 true low high (neg x)
  opposite v = record { n = v.n; is = neg_units v.is; from = v.from; to = v.to }

  abbrev pub spread : Float
  spread = sub binary64 (ln_1p x) (ln_1p (neg x))

  no_spread : nan ≡ ln_1p x → spread ≡ nan
  unfolding sub add
  no_spread e = ap (λ (y : Float). sub binary64 y (ln_1p (neg x))) (sym e)

  both : Powers binary64 false low high (ln_1p x) → Powers binary64 true low high (ln_1p (neg x))
      → Powers binary64 false low (high + 1) spread
  both v w = sum_between binary64 low high v w (lit< tt)

  pub spread_between : (spread ≡ nan) ⊎ Powers binary64 false low (high + 1) spread
  spread_between = elim (lt_or_le b one-plus.tiny) [
    | inl h ↦
        let v = itself one-plus.tiny h one_plus_tiny in
        inr (both (subst (Powers binary64 false low high) (cases.ln_1p_tiny x b bits (rw same h)) v)
        (subst (Powers binary64 true low high) (cases.ln_1p_tiny (neg x) c negative_bits (rw same_size h)) (opposite v)))
    | inr h ↦
        elim (lt_or_le one-plus.last b) [
          | inl l ↦ inl (no_spread (cases.ln_1p_none x b bits (rw same h) (rw same l)))
          | inr l ↦ inr (both (gain_between h l) (loss_between h l))
        ]
  ]
