-- Every finite f64 has a name by its sign and the pattern of its size, and its pattern is made of the two. Assumes nothing.
use Rattle.std.specs.Prelude.{◌≡◌, ℕ, zero, suc, ◌+◌, ◌*◌, ◌/◌, ◌%◌, ◌^◌, ◌<◌, ◌≤◌, true, false, T, to_bits, Float}
use Rattle.std.proofs.Math.Path.{refl}
use Rattle.std.proofs.Common.{sym, ap, ◌∙◌, true≢false, inl, inr, arith}
use Rattle.std.specs.Float.{nan, inf, fin, binary64}
use Rattle.std.specs.Float.Ieee.{fits, is_nan, of_bits}
use Rattle.std.specs.Float.Ieee.Scale.{finite}
use Rattle.std.specs.Float.Ieee.Bits.{of_bits-to_bits, to_bits-lt}
use Rattle.algebra.specs.Order.{lt_or_le}
use Rattle.rounding.specs.Cut.{infinity}
use Rattle.binary64.specs.Tests.{number_bits}
use Rattle.binary64.proofs.Meaning.{bits_back}
use Rattle.series.specs.Near.{signed}

pub signed_bits : (s a : ℕ) → s ≤ 1 → a < infinity → a + s * 2 ^ 63 ≡ to_bits binary64 (signed s a)
signed_bits s a h l = sym (bits_back (a + s * 2 ^ 63) (omega arith) (omega arith))

infinite : (s : ℕ) → s ≤ 1 → finite (signed s infinity) ≡ false
unfolding of_bits
infinite zero h = refl
infinite (suc zero) h = refl
infinite (suc (suc s)) h = absurd (omega arith)

pub record Named (x : Float) : Type 0 where
  pub sign : ℕ
  pub bits : ℕ
  pub sign_small : sign ≤ 1
  pub below : bits < infinity
  pub is : x ≡ signed sign bits

pub named : (x : Float) → T (fits binary64 x) → finite x ≡ true → Named x
named x f h =
    let b = to_bits binary64 x in
    let s = b / 2 ^ 63 in
    let a = b % 2 ^ 63 in
    let word : b < 2 ^ 64 = to_bits-lt binary64 x f in
    let small : s ≤ 1 = omega arith in
    let e : b ≡ a + s * 2 ^ 63 = omega arith in
    let is : x ≡ signed s a = sym (of_bits-to_bits binary64 x f) ∙ ap (λ (n : ℕ). of_bits binary64 n) e in
    let most : a ≤ infinity = number_bits x f (finite_number x h) in
    record {
      sign = s;
      bits = a;
      sign_small = small;
      below = elim (lt_or_le a infinity) [
        | inl l ↦ l
        | inr l ↦
            let top : a ≡ infinity = omega arith in
            absurd (true≢false (sym h ∙ ap finite (is ∙ ap (λ (n : ℕ). signed s n) top) ∙ infinite s small))
      ];
      is = is;
    }
  where
    finite_number : (x : Float) → finite x ≡ true → is_nan x ≡ false
    finite_number nan h = absurd (true≢false (sym h))
    finite_number (inf s) h = absurd (true≢false (sym h))
    finite_number (fin s m e) h = unfold is_nan in refl
