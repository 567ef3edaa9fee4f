-- What a verdict cannot do: a slower knee never passes where a quicker one drags, nor does a knee drag by a wider limit that
-- passes by a narrower one. `drag_of` is a function of the five numbers, so that a verdict hangs on nothing else. Assumes nothing.
use Rattle.std.specs.Prelude.{ℕ, ◌+◌, ◌*◌, ◌≤◌, ◌≡◌, true, false, T, Float}
use Rattle.std.proofs.Math.Path.{refl}
use Rattle.std.proofs.Common.{le_trans, arith, Ok, Err}
use Rattle.std.proofs.Math.Nat.{mul-le-mul_right}
use Rattle.std.proofs.Math.Dec.{le→leb, leb→le}
use Rattle.std.specs.Float.Ieee.{of_bits}
use Rattle.std.specs.Float.Ieee.Positive.{num, den}
use Rattle.binary64.specs.Operators.{bits}
use Rattle.carlson.specs.Answer.{Answer}
use Rattle.swing.specs.Period.{period_of}
use Rattle.drag.specs.Verdict.{passes, judged_of, drag_of, weighed}
use Rattle.drag.specs.VerdictLaws.{Passing}

module _ (v : Float) where
  slower : (t u m : ℕ) → t ≤ u → T (passes v u m) → T (passes v t m)
  unfolding passes
  slower t u m h p =
      le→leb (t * den v) (num v * 1000000000 + m * den v)
      (le_trans (mul-le-mul_right (den v) h) (leb→le (u * den v) (num v * 1000000000 + m * den v) p))

  wider : (t m n : ℕ) → m ≤ n → T (passes v t m) → T (passes v t n)
  unfolding passes
  wider t m n h p =
      le→leb (t * den v) (num v * 1000000000 + n * den v)
      (omega (arith, leb→le (t * den v) (num v * 1000000000 + m * den v) p, mul-le-mul_right (den v) h))

-- THE LAWS, of the same ideal swing
pub slower_drags : (l h g t u m : ℕ) → t ≤ u → Passing (drag_of l h g u m) → Passing (drag_of l h g t m)
unfolding drag_of
slower_drags l h g t u m k = go (period_of l h g)
  where
    go : (a : Answer) → Passing (judged_of a u m) → Passing (judged_of a t m)
    go (Ok f) p = unfold judged_of weighed in slower f.value t u m k (unfold judged_of weighed in p)
    go (Err n) p = absurd (unfold judged_of in p)

pub wider_passes : (l h g t m n : ℕ) → m ≤ n → Passing (drag_of l h g t m) → Passing (drag_of l h g t n)
unfolding drag_of
wider_passes l h g t m n k = go (period_of l h g)
  where
    go : (a : Answer) → Passing (judged_of a t m) → Passing (judged_of a t n)
    go (Ok f) p = unfold judged_of weighed in wider f.value t m n k (unfold judged_of weighed in p)
    go (Err n) p = absurd (unfold judged_of in p)

-- ---- on the nanosecond: an ideal swing of one second, and of 1.0000000005 seconds, whose printed excess is 0 at 1,000,000,001
-- ns
pub on_the_limit : passes (bits 0x3FF0_0000_0000_0000) 1000000007 7 ≡ true
on_the_limit = unfold passes of_bits in refl

pub over_the_limit : passes (bits 0x3FF0_0000_0000_0000) 1000000008 7 ≡ false
over_the_limit = unfold passes of_bits in refl

pub not_as_printed : passes (bits 0x3FF0_0000_0022_5C18) 1000000001 0 ≡ false
not_as_printed = unfold passes of_bits in refl
