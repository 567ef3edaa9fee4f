-- The decrement of any two peaks is below 2 ^ 20: ln of a finite f64 above zero is an answer of 64 binary digits at most in
-- parts of 2 ^ -52 or less, and the quotient of two numbers from 1 to 2 ^ 53 is such an f64. Assumes nothing.
use Rattle.std.specs.Prelude.{ℕ, ◌+◌, ◌-◌, ◌*◌, ◌^◌, ◌≤◌, ◌<◌, ◌≡◌, refl, true, false, [], ◌∷◌, eqb, Float}
use Rattle.std.proofs.Common.{sym, ap, ◌∙◌, inl, inr, le_of_lt, arith}
use Rattle.std.proofs.Math.Path.{subst}
use Rattle.std.specs.Float.{binary64}
use Rattle.std.specs.Float.Ieee.{size, round, of_bits, to_bits}
use Rattle.algebra.specs.Order.{lt_or_le}
use Rattle.algebra.specs.Ring.{con, ◌:*◌, ◌≈◌, ◌⊩◌, ◌times◌≼◌}
use Rattle.algebra.proofs.Ring.{below}
use Rattle.rounding.specs.Cut.{infinity, value}
use Rattle.enclosure.proofs.Sizes.{above_one_size, below_one_size}
use Rattle.enclosure.specs.Rules.{ln_answer, ln_below_answer, gain_answer, loss_answer}
use Rattle.series.specs.Pattern.{field, digits}
use Rattle.series.specs.Near.{signed}
use Rattle.series.specs.Scaled as whole
use Rattle.series.specs.Ln.{half, one, two, ln_close, below_exponent, full_digits, ln}
use Rattle.series.proofs.Cases as cases
use Rattle.series.specs.Exponents.{full_low, full_high, digits_most, answer_fits, answer_size, below_fits, below_size}
use Rattle.binary64.proofs.Meaning.{bits_back}
use Rattle.between.specs.Between.{Between}
use Rattle.between.proofs.Between.{fraction_between}
use Rattle.swing.specs.Period.{ratio}
use Rattle.swing.specs.Ranges.{From1}
use Rattle.decay.specs.Quotients.{ratio_is}

-- an f64 by its sign and the pattern of its size, which is below that of 2 ^ 20
pub record Small (x : Float) : Type 0 where
  pub sign : ℕ
  pub bits : ℕ
  pub sign_is : sign ≤ 1
  pub below : bits < 1043 * 2 ^ 52
  pub is : x ≡ signed sign bits

-- an answer Y of a rule, in parts of 2 ^ -k
answered : (Y k s : ℕ) → 2 ^ 59 ≤ Y → Y < 2 ^ 64 → 52 ≤ k → k ≤ 200 → s ≤ 1 → Small (round binary64 (eqb s 1) Y (2 ^ k))
answered Y k s some word least most sign =
    let range : (0 < Y) × (Y < 2 ^ 64) = (omega arith, word) in
    record {
      sign = s;
      bits = whole.pattern Y range - k * 2 ^ 52;
      sign_is = sign;
      below = low (whole.pattern Y range) k (whole.pattern_high Y range) least;
      is = sym (whole.scaled_is Y range k s (omega arith) sign);
    }
  where
    low : (n k : ℕ) → n ≤ 1087 * 2 ^ 52 → 52 ≤ k → n - k * 2 ^ 52 < 1043 * 2 ^ 52
    low n k h l = omega arith

module _ (x : Float) (b : ℕ) (is : b ≡ to_bits binary64 x) where
  from_two : two ≤ b → b < infinity → Small (ln x)
  from_two h l =
      let e = field b - 1023 in
      let m = digits b in
      let range = cases.ln_range b h l in
      let few = digits_most e m range in
      let long = answer_size e m range in
      subst Small (cases.ln_from x b is h l)
      (answered (ln_answer (size e) e m) (63 - size e) 0 (omega arith) (answer_fits e m range) (omega arith) (omega arith)
      (omega arith))

  above_one : one < b → b < two → Small (ln x)
  above_one h l =
      let n = 2 * (digits b - 2 ^ 52) in
      let j = 53 - size n in
      let same : 2 * (b - one) ≡ n = omega arith in
      let some : 1 ≤ n = omega arith in
      let most : n < 2 ^ 53 = omega arith in
      let fits = le_of_lt (full_high n some most) in
      let sizes = above_one_size (digits b) j (omega arith) (omega arith) (full_low n some most) fits in
      let short = sizes.1 in
      subst Small
      (ap (λ (k : ℕ). ln_close false k) (sym same) ∙ cases.ln_above_one b (omega arith) (λ e. omega arith)
      ∙ cases.ln_under x b is l)
      (answered (gain_answer j n) (61 + j) 0 sizes.0 (omega arith) (omega arith) (omega arith) (omega arith))

  at_one : b ≡ one → Small (ln x)
  at_one e =
      subst Small (cases.ln_one b e ∙ cases.ln_under x b is (omega arith))
      (record { sign = 0; bits = 0; sign_is = omega arith; below = omega arith; is = refl })

  below_one : half ≤ b → b < one → Small (ln x)
  below_one h l =
      let n = 2 ^ 53 - digits b in
      let j = 53 - size n in
      let same : one - b ≡ n = omega arith in
      let some : 1 ≤ n = omega arith in
      let most : n < 2 ^ 53 = omega arith in
      let fits = le_of_lt (full_high n some most) in
      let sizes = below_one_size (digits b) j (omega arith) (omega arith) (full_low n some most) fits in
      let short = sizes.1 in
      subst Small
      (ap (λ (k : ℕ). ln_close true k) (sym same) ∙ cases.ln_below_one b h l ∙ cases.ln_under x b is (omega arith))
      (answered (loss_answer j n) (61 + j) 1 sizes.0 (omega arith) (omega arith) (omega arith) (omega arith))

  below_half : 1 ≤ b → b < half → Small (ln x)
  below_half h l =
      let e = below_exponent b in
      let m = full_digits b in
      let range = cases.ln_below_range b h l in
      let few = digits_most e m range in
      let long = below_size e m range in
      subst Small (cases.ln_below_half b h l ∙ cases.ln_under x b is (omega arith))
      (answered (ln_below_answer (size e) e m) (63 - size e) 1 (omega arith) (below_fits e m range) (omega arith) (omega arith)
      (omega arith))

  -- THE LAW: ln of a finite f64 above zero
  pub ln_small : 1 ≤ b → b < infinity → Small (ln x)
  ln_small h l = elim (lt_or_le b one) [
    | inl k ↦ elim (lt_or_le b half) [ inl i ↦ below_half h i | inr i ↦ below_one i k ]
    | inr k ↦ elim (lt_or_le one b) [
      | inl i ↦ elim (lt_or_le b two) [ inl j ↦ above_one i j | inr j ↦ from_two j l ]
      | inr i ↦ at_one (omega arith)
    ]
  ]

-- ---- a quotient of two numbers from 1 to 2 ^ 53 lies from 2 ^ -53 to 2 ^ 53
low_ratio : (a b : ℕ) → 1 ≤ a → b ≤ 2 ^ 53 → 2 ^ 1021 * b ≤ a * 2 ^ 1074
low_ratio =
    below 2 (λ a b. (con (2 ^ 1074) times con 1 ≼ a) ∷ (con (2 ^ 1021) times b ≼ con (2 ^ 53)) ∷ []
    ⊩ con (2 ^ 1021) :* b ≈ a :* con (2 ^ 1074)) tt

high_ratio : (a b : ℕ) → a ≤ 2 ^ 53 → 1 ≤ b → a * 2 ^ 1074 ≤ 2 ^ 1127 * b
high_ratio =
    below 2 (λ a b. (con (2 ^ 1074) times a ≼ con (2 ^ 53)) ∷ (con (2 ^ 1127) times con 1 ≼ b) ∷ []
    ⊩ a :* con (2 ^ 1074) ≈ con (2 ^ 1127) :* b) tt

module _ (a b : ℕ) (A : From1 a (2 ^ 53)) (B : From1 b (2 ^ 53)) where
  ratio_between : Between (970 * 2 ^ 52) (1076 * 2 ^ 52) (ratio a b)
  unfolding value
  ratio_between =
      subst (λ (x : Float). Between (970 * 2 ^ 52) (1076 * 2 ^ 52) x) (sym (ratio_is a b A B))
      (fraction_between a b (970 * 2 ^ 52) (1076 * 2 ^ 52) B.least tt (low_ratio a b A.least B.largest)
      (high_ratio a b A.largest B.least))

  -- THE LAW: the decrement of two peaks
  pub decrement_small : Small (ln (ratio a b))
  decrement_small =
      let X = ratio_between in
      ln_small (ratio a b) X.n (sym (ap (λ (y : Float). to_bits binary64 y) X.is ∙ back X.n X.high))
      (least X.n X.low) (finite X.n X.high)
    where
      back : (n : ℕ) → n ≤ 1076 * 2 ^ 52 → to_bits binary64 (of_bits binary64 n) ≡ n
      back n h = bits_back n (omega arith) (omega arith)

      least : (n : ℕ) → 970 * 2 ^ 52 ≤ n → 1 ≤ n
      least n h = omega arith

      finite : (n : ℕ) → n ≤ 1076 * 2 ^ 52 → n < infinity
      finite n h = omega arith
