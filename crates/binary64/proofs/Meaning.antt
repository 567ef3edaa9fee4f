-- That no second answer would do (document 01, "How tight the contracts are"). A contract `r ≡ definition` leaves one answer by
-- itself; shown here is that document 01's own words for the leaf leave one too, and that it is the definition's. Assumes
-- nothing.
use Rattle.std.specs.Prelude.{ℕ, ◌%◌, ◌^◌, ◌≤◌, ◌<◌, ◌≡◌, refl, Bool, true, false, not, cond, T, Float}
use Rattle.std.proofs.Common.{sym, ap, ◌∙◌, subst, true≢false}
use Rattle.std.specs.Float.{nan, inf, fin, binary64}
use Rattle.std.specs.Float.Ieee.{fits, is_nan, lt, of_bits, to_bits}
use Rattle.std.specs.Float.Ieee.Bits.{of_bits-to_bits, to_bits-of_bits, nan_bits_is}
use Rattle.rounding.specs.Cut.{infinity}
use Rattle.binary64.specs.Leaves.{maximum, minimum}
use Rattle.binary64.specs.Tests.{bits_number}
use Rattle.binary64.specs.Meaning.{Chosen}

-- ---- split and join: the bits of an f64 are its own, and a pattern that is no NaN's is that of one f64
pub same_bits : (x y : Float) → T (fits binary64 x) → T (fits binary64 y) → to_bits binary64 x ≡ to_bits binary64 y → x ≡ y
same_bits x y f g e =
    sym (of_bits-to_bits binary64 x f) ∙ ap (λ (b : ℕ). of_bits binary64 b) e ∙ of_bits-to_bits binary64 y g

pub bits_back : (b : ℕ) → b < 2 ^ 64 → b % 2 ^ 63 ≤ infinity → to_bits binary64 (of_bits binary64 b) ≡ b
bits_back b h u = to_bits-of_bits binary64 b h (subst (λ (t : Bool). T (not t)) (nan_bits_is binary64 b) (bits_number b u))

both_nan : (x y : Float) → is_nan x ≡ true → is_nan y ≡ true → y ≡ x
unfolding is_nan
both_nan nan nan h k = refl
both_nan nan (inf s) h k = absurd (true≢false (sym k))
both_nan nan (fin s m e) h k = absurd (true≢false (sym k))
both_nan (inf s) y h k = absurd (true≢false (sym h))
both_nan (fin s m e) y h k = absurd (true≢false (sym h))

module _ (t : Bool) (x y : Float) (fair : is_nan y ≡ true → t ≡ false) where
  -- what the definitions say, with the tests as they come out
  chosen_is : (a b c : Bool) → is_nan x ≡ a → is_nan y ≡ b → t ≡ c → Chosen t x y (cond a y (cond c y x))
  chosen_is true b c p q s = record {
    first_passed = λ h. refl;
    second_passed = λ h. both_nan x y p h;
    taken = λ h k l. refl;
    kept = λ h k l. absurd (true≢false (sym p ∙ h));
  }
  chosen_is false b true p q s = record {
    first_passed = λ h. refl;
    second_passed = λ h. absurd (true≢false (sym s ∙ fair h));
    taken = λ h k l. refl;
    kept = λ h k l. absurd (true≢false (sym s ∙ l));
  }
  chosen_is false b false p q s = record {
    first_passed = λ h. absurd (true≢false (sym h ∙ p));
    second_passed = λ h. refl;
    taken = λ h k l. absurd (true≢false (sym l ∙ s));
    kept = λ h k l. refl;
  }

  chosen_only : (r : Float) (a b c : Bool) → is_nan x ≡ a → is_nan y ≡ b → t ≡ c → Chosen t x y r → r ≡ cond a y (cond c y x)
  chosen_only r true b c p q s w = w.first_passed p
  chosen_only r false true true p q s w = absurd (true≢false (sym s ∙ fair q))
  chosen_only r false true false p q s w = w.second_passed q
  chosen_only r false false true p q s w = w.taken p q s
  chosen_only r false false false p q s w = w.kept p q s

right_nan : (x y : Float) → is_nan y ≡ true → lt x y ≡ false
unfolding is_nan lt
right_nan nan nan h = refl
right_nan (inf s) nan h = refl
right_nan (fin s m e) nan h = refl
right_nan x (inf s) h = absurd (true≢false (sym h))
right_nan x (fin s m e) h = absurd (true≢false (sym h))

left_nan : (x y : Float) → is_nan y ≡ true → lt y x ≡ false
unfolding is_nan lt
left_nan x nan h = refl
left_nan x (inf s) h = absurd (true≢false (sym h))
left_nan x (fin s m e) h = absurd (true≢false (sym h))

pub maximum_chosen : (x y : Float) → Chosen (lt x y) x y (maximum x y)
unfolding maximum
maximum_chosen x y = chosen_is (lt x y) x y (right_nan x y) (is_nan x) (is_nan y) (lt x y) refl refl refl

pub maximum_only : (x y r : Float) → Chosen (lt x y) x y r → r ≡ maximum x y
unfolding maximum
maximum_only x y r w = chosen_only (lt x y) x y (right_nan x y) r (is_nan x) (is_nan y) (lt x y) refl refl refl w

pub minimum_chosen : (x y : Float) → Chosen (lt y x) x y (minimum x y)
unfolding minimum
minimum_chosen x y = chosen_is (lt y x) x y (left_nan x y) (is_nan x) (is_nan y) (lt y x) refl refl refl

pub minimum_only : (x y r : Float) → Chosen (lt y x) x y r → r ≡ minimum x y
unfolding minimum
minimum_only x y r w = chosen_only (lt y x) x y (left_nan x y) r (is_nan x) (is_nan y) (lt y x) refl refl refl w
