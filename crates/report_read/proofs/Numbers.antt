-- A line's number, byte by byte. Assumes nothing.
use Prim.Native.Nat.{ℕ, ◌+◌, ◌*◌, ◌%◌, ◌^◌, ◌≤◌, ◌<◌}
use mathlib.Core.Path.{◌≡◌, sym}
use mathlib.Core.Bool.{true, false}
use mathlib.Core.List.{List}
use native.Mathlib.Numerals.{add-one}
use native.Mathlib.Omega.{arith}
use borrow.Author.Tests.{lt-ltb, le-ltb, eq-eqb, ne_eqb}
use lib.ListN.{length, get_or, drop, drop_of_length-le}
use lib.Seq.{drop-cons}
use Rattle.digits.specs.Digits.{digit_of}
use Rattle.report_read.specs.Reading.{number_step, trailing, has_minus}

-- ---- one byte
pub step_there : (base m v b d : ℕ) → d ≡ digit_of b → d < base → number_step base m v b ≡ (v * base + d) % m
unfolding number_step
step_there base m v b d e h = rw (sym e, lt-ltb d base h)

pub step_not : (base m v b d : ℕ) → d ≡ digit_of b → base ≤ d → number_step base m v b ≡ 0
unfolding number_step
step_not base m v b d e h = rw (sym e, le-ltb d base h)

pub low_word : (hi lo t : ℕ) → lo < 2 ^ 64 → hi * 2 ^ 64 + lo ≡ t + 0 → lo ≡ t % 2 ^ 64
low_word hi lo t h e = omega arith

-- ---- what is left gives what all gives
module _ (base m v : ℕ) (line : List ℕ) (i : ℕ) where
  pub trailing_on : (w : ℕ) → i < length line → w ≡ number_step base m v (get_or line i 0)
      → trailing base m w (drop (i + 1) line) ≡ trailing base m v (drop i line)
  unfolding trailing
  trailing_on w h e = rw (drop-cons line i 0 h, add-one, e)

  pub trailing_all : length line ≤ i → trailing base m v (drop i line) ≡ v
  unfolding trailing
  trailing_all h = rw (drop_of_length-le line h)

module _ (line : List ℕ) (i : ℕ) where
  pub minus_here : i < length line → get_or line i 0 ≡ 45 → has_minus (drop i line) ≡ true
  unfolding has_minus
  minus_here h e = rw (drop-cons line i 0 h, eq-eqb (get_or line i 0) 45 e)

  pub minus_on : i < length line → (get_or line i 0 ≡ 45 → ⊥) → has_minus (drop (i + 1) line) ≡ has_minus (drop i line)
  unfolding has_minus
  minus_on h e = rw (drop-cons line i 0 h, ne_eqb (get_or line i 0) 45 e, add-one)

  pub minus_none : length line ≤ i → has_minus (drop i line) ≡ false
  unfolding has_minus
  minus_none h = rw (drop_of_length-le line h)
