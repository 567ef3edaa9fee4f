-- An f64's text is that of its sign and that of its size, and the size's is short. Assumes nothing.
use Rattle.std.specs.Prelude.{ℕ, zero, suc, ◌+◌, ◌*◌, ◌/◌, ◌%◌, ◌^◌, ◌≤◌, ◌<◌, ◌≡◌, Bool, cond, List, [], ◌∷◌, ◌++◌, T, eqb, ltb, leb, Float}
use Rattle.std.proofs.Math.Path.{refl, ap}
use Rattle.std.proofs.Common.{sym, ◌∙◌, true≢false, zero-mul, le-ltb}
use Rattle.std.proofs.Math.Bool.{true, false}
use native.Mathlib.Omega.{arith}
use Rattle.std.proofs.Math.ListN.{length}
use Rattle.std.specs.Float.{nan, inf, fin}
use Rattle.std.specs.Float.Ieee.{binary64, up, down, odd, fits, is_nan, lt, ne, of_fields, of_bits, to_bits}
use Rattle.std.specs.Float.Ieee.Bits.{of_bits-to_bits}
use Rattle.std.specs.Float.Ieee.Compare.{nan_differs}
use Rattle.rounding.specs.Cut.{infinity}
use Rattle.rounding.proofs.Value.{infinity_is}
use Rattle.binary64.specs.Leaves.{absolute}
use Rattle.binary64.specs.Tests.{zero_above, ne_itself, number_above}
use Rattle.digits.specs.Digits.{digits, glyph_of}
use Rattle.writing.specs.Decimal.{places_of, decimal}
use Rattle.decimal.specs.Decimal.{ones}
use Rattle.decimal_short.specs.Shortest.{place_of, shortest}
use Rattle.decimal_short.specs.Above.{above_told}
use Rattle.decimal_short.proofs.Range.{place_least, place_most}
use Rattle.decimal_short.proofs.Fewest.{seventeen_digits}
use Rattle.decimal_text.specs.declared.shape.Shape.{Shape}
use Rattle.decimal_text.specs.Shape.{whole_shape, shape_of, places_text, power_text, shape_text}
use Rattle.decimal_text.specs.Text.{sign_text, size_text, text_of}
use Rattle.decimal_text.specs.Bounds.{shape_length, power_small}

-- below zero, a zero by its sign too
unfoldable pub sign_of : Float → Bool
sign_of nan = false
sign_of (inf s) = s
sign_of (fin s m e) = s

-- how a finite x without a sign is laid out: a zero is a whole number
unfoldable pub plain_shape : Float → Shape
plain_shape x = cond (lt zero_above x) (shape_of (shortest x) (place_of x)) (whole_shape 0 ones)

-- the text of x without its sign
unfoldable pub plain_text : Float → List ℕ
plain_text x =
    cond (lt x (of_bits binary64 infinity)) (shape_text (plain_shape x)) (cond (ne x x) (110 ∷ 97 ∷ 110 ∷ []) (105 ∷ 110 ∷ 102 ∷ []))

-- ---- the sign is the highest bit
nan_is : is_nan nan ≡ true
unfolding is_nan
nan_is = refl

odd_sign : (d : ℕ) (s : Bool) (q k l : ℕ) → sign_of (odd d s q k l) ≡ s
unfolding odd sign_of
odd_sign d s zero k l = refl
odd_sign d s (suc q) k l = refl

fields_sign : (s : Bool) (y t : ℕ) → is_nan (of_fields binary64 s y t) ≡ false → sign_of (of_fields binary64 s y t) ≡ s
unfolding of_fields
fields_sign s zero t n = odd_sign 53 s t 0 1074
fields_sign s (suc y) t n = go (eqb (suc y) 2047) (eqb t 0) n
  where
    go : (a b : Bool) → is_nan (cond a (cond b (inf s) nan) (odd 53 s (2 ^ 52 + t) y 1074)) ≡ false
        → sign_of (cond a (cond b (inf s) nan) (odd 53 s (2 ^ 52 + t) y 1074)) ≡ s
    go true true n = unfold sign_of in refl
    go true false n = absurd (true≢false (sym nan_is ∙ n))
    go false b n = odd_sign 53 s (2 ^ 52 + t) y 1074

bits_sign : (b : ℕ) → is_nan (of_bits binary64 b) ≡ false → sign_of (of_bits binary64 b) ≡ leb (2 ^ 63) b
unfolding of_bits
bits_sign b n = fields_sign (leb (2 ^ 63) b) (b % 2 ^ 63 / 2 ^ 52) (b % 2 ^ 52) n

number_sign : (x : Float) → T (fits binary64 x) → is_nan x ≡ false → sign_of x ≡ leb (2 ^ 63) (to_bits binary64 x)
number_sign x f n =
    let e = of_bits-to_bits binary64 x f in
    ap sign_of (sym e) ∙ bits_sign (to_bits binary64 x) (ap is_nan e ∙ n)

pub sign_is : (x : Float) → T (fits binary64 x) → sign_of x ≡ leb (2 ^ 63) (to_bits binary64 x)
sign_is nan f = unfold sign_of to_bits in refl
sign_is (inf s) f = number_sign (inf s) f (unfold is_nan in refl)
sign_is (fin s m e) f = number_sign (fin s m e) f (unfold is_nan in refl)

-- ---- a zero
zero_not_above : (e : _) → lt zero_above (fin false 0 e) ≡ false
unfolding lt of_bits
zero_not_above e = none (0 * 1 * down e) (0 * up e * 1) (ap (λ (z : ℕ). z * 1) (zero-mul (up e)))
  where
    none : (a b : ℕ) → b ≡ 0 → ltb a b ≡ false
    none a b z = le-ltb a b (omega arith)

zero_text : shape_text (whole_shape 0 ones) ≡ 48 ∷ []
unfolding shape_text whole_shape places_text power_text decimal places_of digits glyph_of
zero_text = refl

-- ---- THE LAW: the sign, then the size
plain_finite : (m : ℕ) (e : _) → plain_text (fin false m e) ≡ shape_text (plain_shape (fin false m e))
unfolding plain_text
plain_finite m e =
    let t : lt (fin false m e) (inf false) ≡ true = unfold lt in refl in
    let u : lt (fin false m e) (of_bits binary64 infinity) ≡ true = ap (λ (y : Float). lt (fin false m e) y) infinity_is ∙ t in
    rw u

plain_infinite : plain_text (inf false) ≡ 105 ∷ 110 ∷ 102 ∷ []
unfolding plain_text
plain_infinite =
    let t : lt (inf false) (inf false) ≡ false = unfold lt in refl in
    let u : lt (inf false) (of_bits binary64 infinity) ≡ false = ap (λ (y : Float). lt (inf false) y) infinity_is ∙ t in
    let n : ne (inf false) (inf false) ≡ false = ne_itself (inf false) ∙ (unfold is_nan in refl) in
    rw (u, n)

plain_nan : plain_text nan ≡ 110 ∷ 97 ∷ 110 ∷ []
unfolding plain_text
plain_nan =
    let u : lt nan (of_bits binary64 infinity) ≡ false = unfold lt in refl in
    rw (u, nan_differs)

pub text_is : (x : Float) → sign_text (sign_of x) ++ plain_text (absolute x) ≡ text_of x
unfolding text_of sign_of absolute size_text
text_is nan = ap (λ (l : List ℕ). sign_text false ++ l) plain_nan ∙ (unfold sign_text in refl)
text_is (inf s) = ap (λ (l : List ℕ). sign_text s ++ l) plain_infinite
text_is (fin s zero e) = ap (λ (l : List ℕ). sign_text s ++ l)
    (plain_finite 0 e ∙ (unfold plain_shape in rw (zero_not_above e) zero_text))
text_is (fin s (suc m) e) = ap (λ (l : List ℕ). sign_text s ++ l)
    (plain_finite (suc m) e ∙ (unfold plain_shape in rw (number_above m e)))

-- ---- its length
pub sign_length : (s : Bool) → length (sign_text s) ≤ 1
unfolding sign_text
sign_length true = omega arith
sign_length false = omega arith

module _ (x : Float) (f : T (fits binary64 x)) (k : lt x (of_bits binary64 infinity) ≡ true) where
  pub plain_length : length (shape_text (plain_shape x)) ≤ 23
  unfolding plain_shape
  plain_length = go (lt zero_above x) refl
    where
      go : (t : Bool) → lt zero_above x ≡ t
          → length (shape_text (cond t (shape_of (shortest x) (place_of x)) (whole_shape 0 ones))) ≤ 23
      go true h =
          let A = above_told x f h k in
          shape_length (shortest x) (seventeen_digits A) (place_of x) (place_least A) (place_most A)
      go false h = rw zero_text (omega arith)

  pub plain_power : (plain_shape x).power < 1000
  unfolding plain_shape whole_shape
  plain_power = go (lt zero_above x) refl
    where
      go : (t : Bool) → lt zero_above x ≡ t → (cond t (shape_of (shortest x) (place_of x)) (whole_shape 0 ones)).power < 1000
      go true h =
          let A = above_told x f h k in
          power_small (shortest x) (seventeen_digits A) (place_of x) (place_least A) (place_most A)
      go false h = omega arith
