-- The printed places of a decrement are its value's to the nearest, whatever the peaks: it is below 2 ^ 20. Assumes nothing.
use Rattle.std.specs.Prelude.{ℕ, ◌+◌, ◌*◌, ◌%◌, ◌^◌, ◌<◌, ◌≡◌, refl, Bool, true, false, ◌&&◌, cond, T, Float, Result, Ok, Err}
use Rattle.std.proofs.Common.{sym, ap, ◌∙◌, subst, arith}
use borrow.Author.Tests.{lt-ltb}
use Rattle.std.specs.Float.{binary64}
use Rattle.std.specs.Float.Ieee.{fits, to_bits}
use Rattle.std.specs.Float.Ieee.Bits.{of_bits-fits, is_true}
use Rattle.std.specs.Float.Ieee.Fits.{and_l, and_r}
use Rattle.std.specs.Float.Ieee.Nearest.{closest}
use Rattle.std.specs.Float.Ieee.Positive.{num, den}
use Rattle.series.specs.Ln.{ln}
use Rattle.series.specs.Names.{signed_bits}
use Rattle.parted.specs.Parts.{measured, parted_of, rounded_of}
use Rattle.parted.specs.Rounds.{nearest_units}
use Rattle.swing.specs.Period.{within, ratio}
use Rattle.swing.proofs.Ranges.{in_within}
use Rattle.refusals.specs.declared.Refusal.{Refusal}
use Rattle.refusals.specs.declared.Refusal.TheVariants.{Amplitude}
use Rattle.decay.specs.Decrement.{decay_of}
use Rattle.decay.specs.Small.{Small, decrement_small}

-- "12 places": units of which 10 ^ 12 make up 1
abbrev pub places : ℕ
places = 1000000000000

module _ (x : Float) (s : Small x) where
  pattern_is : to_bits binary64 x % 2 ^ 63 ≡ s.bits
  pattern_is =
      ap (λ (n : ℕ). n % 2 ^ 63) (ap (λ (y : Float). to_bits binary64 y) s.is
      ∙ sym (signed_bits s.sign s.bits s.sign_is (finite s.bits s.below)))
      ∙ unsigned s.bits s.sign s.below
    where
      finite : (n : ℕ) → n < 1043 * 2 ^ 52 → n < 2047 * 2 ^ 52
      finite n h = omega arith

      unsigned : (n k : ℕ) → n < 1043 * 2 ^ 52 → (n + k * 2 ^ 63) % 2 ^ 63 ≡ n
      unsigned n k h = omega arith

  small_measured : T (measured x places)
  unfolding measured
  small_measured = rw (pattern_is, lt-ltb s.bits (1043 * 2 ^ 52) s.below) tt

  small_fits : T (fits binary64 x)
  small_fits = subst (λ (y : Float). T (fits binary64 y)) (sym s.is) (of_bits-fits binary64 (s.bits + s.sign * 2 ^ 63))

  small_nearest : rounded_of (parted_of x places) ≡ closest (num x * places) (den x)
  small_nearest = nearest_units x places small_fits small_measured

-- what is printed of an answer: the whole number of such units that is nearest to it, half to even
pub ToNearest : Result Float Refusal → Type 0
ToNearest (Ok x) = rounded_of (parted_of x places) ≡ closest (num x * places) (den x)
ToNearest (Err r) = T true

-- THE LAW: whatever the two numbers
pub to_nearest : (a b : ℕ) → ToNearest (decay_of a b)
unfolding decay_of ToNearest
to_nearest a b = go (within a (2 ^ 53) && within b (2 ^ 53)) refl
  where
    both : T (within a (2 ^ 53) && within b (2 ^ 53)) → ToNearest (Ok (ln (ratio a b)))
    both t =
        let A = in_within a (2 ^ 53) (is_true (within a (2 ^ 53)) (and_l (within a (2 ^ 53)) (within b (2 ^ 53)) t)) in
        let B = in_within b (2 ^ 53) (is_true (within b (2 ^ 53)) (and_r (within a (2 ^ 53)) (within b (2 ^ 53)) t)) in
        small_nearest (ln (ratio a b)) (decrement_small a b A B)

    go : (t : Bool) → within a (2 ^ 53) && within b (2 ^ 53) ≡ t
        → ToNearest (cond t (Ok (ln (ratio a b))) (Err Amplitude))
    go true e = both (subst T (sym e) tt)
    go false e = tt
