-- What we answer to a call has bits of a finite f64, or a number of few digits. Assumes nothing.
use Rattle.std.specs.Prelude.{
  ℕ,
  ◌+◌,
  ◌%◌,
  ◌^◌,
  ◌≤◌,
  ◌<◌,
  ◌≡◌,
  refl,
  Bool,
  true,
  false,
  ◌&&◌,
  ◌||◌,
  List,
  [],
  ◌∷◌,
  T,
  eqb,
  ltb,
  Float,
  Ok,
  Err,
}
use Rattle.std.proofs.Common.{sym, ap, subst, ◌∙◌, true≢false, ⊎_elim, arith, eqb-true, lt-ltb, ltb→lt}
use Rattle.std.specs.Float.{binary64}
use Rattle.std.specs.Float.Ieee.{neg, of_bits, to_bits}
use Rattle.std.specs.Float.Ieee.Bits.{of_bits-to_bits, to_bits-lt}
use Rattle.std.specs.Float.Ieee.Fits.{and_l, and_r}
use Rattle.std.specs.Float.Ieee.Scale.{finite}
use Rattle.refusals.specs.Numbers.{refusal_number}
use Rattle.algebra.specs.Order.{lt_or_le}
use Rattle.rounding.specs.Cut.{infinity}
use Rattle.rounding.proofs.Value.{infinity_is}
use Rattle.rounding.specs.Sign.{bits_neg}
use Rattle.binary64.specs.Tests.{bits_nan}
use Rattle.distance.specs.Steps.{finite_pattern}
use Rattle.carlson.specs.Only.{among, Only, value, refused, Finite}
use Rattle.carlson.specs.Answer.{Answer}
use Rattle.calls.specs.declared.Call.{Call}
use Rattle.calls.specs.declared.Call.TheVariants.{Rc, Rf, Rd, Rg, Rj, Cel}
use Rattle.answers.specs.Answers.{answer_of}
use Rattle.demands.specs.Total.{numbers_of}
use Rattle.demands.proofs.Total.{total}
use Rattle.fitting.specs.Fitting.{Fit, Fits, fitting}

-- ---- the pattern of a finite f64
infinite_pattern : (b : ℕ) → b < 2 ^ 64 → b % 2 ^ 63 ≡ infinity → finite (of_bits binary64 b) ≡ false
unfolding neg
infinite_pattern b h e = ⊎_elim above under (lt_or_le b (2 ^ 63))
  where
    above : b < 2 ^ 63 → finite (of_bits binary64 b) ≡ false
    above l = let f : b ≡ infinity = omega arith in rw (f, infinity_is)

    under : 2 ^ 63 ≤ b → finite (of_bits binary64 b) ≡ false
    under l = let f : b ≡ infinity + 2 ^ 63 = omega arith in rw (f, bits_neg infinity (omega arith), infinity_is)

pub finite_pattern_lem : (x : Float) → Fit x → finite x ≡ true → finite_pattern (to_bits binary64 x) ≡ true
unfolding finite_pattern
finite_pattern_lem x f h = ⊎_elim (λ l. lt-ltb (b % 2 ^ 63) infinity l) beyond (lt_or_le (b % 2 ^ 63) infinity)
  where
    b : ℕ
    b = to_bits binary64 x

    none : finite (of_bits binary64 b) ≡ false → ⊥
    none e = true≢false (sym h ∙ ap finite (sym (of_bits-to_bits binary64 x f)) ∙ e)

    beyond : infinity ≤ b % 2 ^ 63 → ltb (b % 2 ^ 63) infinity ≡ true
    beyond l =
        absurd
        (⊎_elim (λ k. none (ap finite (bits_nan b k))) (λ k. none (infinite_pattern b (to_bits-lt binary64 x f) (omega arith)))
        (lt_or_le infinity (b % 2 ^ 63)))

-- ---- the numbers
-- every number of the list has ten digits at most
abbrev short : List ℕ → Bool
short [] = true
short (m ∷ ms) = ltb m (10 ^ 10) && short ms

short_among : (n : ℕ) (ns : List ℕ) → T (short ns) → T (among n ns) → n < 10 ^ 10
short_among n [] s h = absurd h
short_among n (m ∷ ms) s h = go (eqb n m) refl h (short_among n ms (and_r (ltb m (10 ^ 10)) (short ms) s))
  where
    go : (t : Bool) → eqb n m ≡ t → T (t || among n ms) → (T (among n ms) → n < 10 ^ 10) → n < 10 ^ 10
    go true e h rest =
        subst (λ (k : ℕ). k < 10 ^ 10) (sym (eqb-true n m e)) (ltb→lt m (10 ^ 10) (and_l (ltb m (10 ^ 10)) (short ms) s))
    go false e h rest = rest h

numbers_short : (c : Call) → T (short (numbers_of c))
numbers_short (Rc x y) = tt
numbers_short (Rf x y z) = tt
numbers_short (Rd x y z) = tt
numbers_short (Rg x y z) = tt
numbers_short (Rj x y z p) = tt
numbers_short (Cel kc p a b) = tt

-- ---- THE LAW, over a call: what the listing has to say of an answer
abbrev pub Sayable : Answer → Type 0
Sayable (Ok f) = (to_bits binary64 f.value < 2 ^ 64) × (finite_pattern (to_bits binary64 f.value) ≡ true)
Sayable (Err r) = refusal_number r < 10 ^ 10

sayable : (a : Answer) (ns : List ℕ) → T (short ns) → Only Finite ns a → Fits a → Sayable a
sayable (Ok f) ns s (value h) k = (to_bits-lt binary64 f.value k, finite_pattern_lem f.value k h)
sayable (Err r) ns s (refused h) k = short_among (refusal_number r) ns s h

pub answer_sayable : (c : Call) → Sayable (answer_of c)
answer_sayable c = sayable (answer_of c) (numbers_of c) (numbers_short c) (total c) (fitting c)
