-- The step numbers of finite f64s are in the order of the f64s, and one where those are equal. Assumes nothing.
use Rattle.std.specs.Prelude.{ℕ, ◌+◌, ◌-◌, ◌*◌, ◌^◌, ◌≤◌, ◌<◌, ◌≡◌, refl, Bool, not, ◌&&◌, ◌||◌, cond, [], ◌∷◌, T, eqb, ltb, leb, Float}
use Rattle.std.proofs.Math.Path.{sym}
use Rattle.std.proofs.Common.{ap, subst, ◌∙◌, ⊎_elim, mul-lt-mul_of_pos_right, lt_of_mul-lt-mul_right, mul-pos, add-mul, arith, ltb-true, le-ltb, le-leb, eqb-true, eq-eqb, ne_eqb, eqb→eq, pow_pos}
use Rattle.std.proofs.Math.Bool.{true, false}
use Rattle.std.specs.Bool.{beq}
use Rattle.std.proofs.lemmas.Bool.{lt-leb}
use Rattle.std.specs.Float.{nan, inf, fin, binary64}
use Rattle.std.specs.Float.Ieee.{up, down, below, level, lt, eq, neg, of_bits}
use Rattle.std.specs.Float.Ieee.Fits.{down_pos}
use Rattle.std.specs.Float.Ieee.Exact.{HasValue}
use Rattle.algebra.specs.Ring.{◌:*◌, ◌≈◌, ◌⊩◌, ◌times◌≼◌}
use Rattle.algebra.proofs.Ring.{ring}
use Rattle.algebra.specs.Order.{lt_or_le, same_bool, same_ltb}
use Rattle.rounding.specs.Cut.{value, infinity}
use Rattle.rounding.proofs.Value.{value_lt, value_small, value_is}
use Rattle.rounding.specs.Sign.{bits_neg}
use Rattle.distance.specs.Steps.{size_of, step_of, gap, apart_of, finite_pattern}

-- ---- two pairs of numbers in the same order
record Alike (a b c d : ℕ) : Type 0 where
  up : a < b → c < d
  up' : c < d → a < b
  down : b < a → d < c
  down' : d < c → b < a
  some : 0 < a + b → 0 < c + d
  some' : 0 < c + d → 0 < a + b

equal : (a b c d : ℕ) → (c < d → a < b) → (d < c → b < a) → a ≡ b → c ≡ d
equal a b c d up down e =
    ⊎_elim (λ h. absurd (omega (arith, up h)))
    (λ h. ⊎_elim (λ k. absurd (omega (arith, down k))) (λ k. omega arith) (lt_or_le d c))
    (lt_or_le c d)

same_eqb : (a b c d : ℕ) → (a ≡ b → c ≡ d) → (c ≡ d → a ≡ b) → eqb a b ≡ eqb c d
same_eqb a b c d f g =
    same_bool (eqb a b) (eqb c d) (λ t. subst T (sym (eq-eqb c d (f (eqb→eq a b t)))) tt)
    (λ t. subst T (sym (eq-eqb a b (g (eqb→eq c d t)))) tt)

and_true : (t : Bool) → (t && true) ≡ t
and_true true = refl
and_true false = refl

and-false : (t : Bool) → (t && false) ≡ false
and-false true = refl
and-false false = refl

and_same : (t : Bool) {u v : Bool} → (t ≡ true → u ≡ v) → (t && u) ≡ (t && v)
and_same true e = e refl
and_same false e = refl

module _ {a b c d : ℕ} (l : Alike a b c d) where
  alike_below : (s t : Bool) → below s a t b ≡ below s c t d
  alike_below false false = same_ltb a b c d l.up l.up'
  alike_below false true = refl
  alike_below true false = same_ltb 0 (a + b) 0 (c + d) l.some l.some'
  alike_below true true = same_ltb b a d c l.down l.down'

  alike_level : (s t : Bool) → level s a t b ≡ level s c t d
  alike_level s t =
      ap (λ (o : Bool). o && (beq s t || eqb a 0)) (same_eqb a b c d there back)
      ∙ and_same (eqb c d) (λ e. ap (λ (o : Bool). beq s t || o) (nought (back (eqb-true c d e)) (eqb-true c d e)))
    where
      there : a ≡ b → c ≡ d
      there = equal a b c d l.up' l.down'

      back : c ≡ d → a ≡ b
      back = equal c d a b l.up l.down

      nought : a ≡ b → c ≡ d → eqb a 0 ≡ eqb c 0
      nought e f =
          same_eqb a 0 c 0
          (λ z. ⊎_elim (λ h. absurd (omega (arith, l.some' h))) (λ h. omega arith) (lt_or_le 0 (c + d)))
          (λ z. ⊎_elim (λ h. absurd (omega (arith, l.some h))) (λ h. omega arith) (lt_or_le 0 (a + b)))

-- one is the other times a number above zero
half : (a b c d x y : ℕ) → 0 < x → a * x ≡ c * y → b * x ≡ d * y → a < b → c < d
half a b c d x y p e f h = lt_of_mul-lt-mul_right y (rw (e, f) at (mul-lt-mul_of_pos_right h p))

scaled : (a b c d x y : ℕ) → 0 < x → 0 < y → a * x ≡ c * y → b * x ≡ d * y → Alike a b c d
scaled a b c d x y p q e f =
    let g : (a + b) * x ≡ (c + d) * y = rw (add-mul a b x, add-mul c d y, e, f) in
    let z : 0 * x ≡ 0 * y = omega arith in
    record {
      up = half a b c d x y p e f;
      up' = half c d a b y x q (sym e) (sym f);
      down = half b a d c x y p f e;
      down' = half d c b a y x q (sym f) (sym e);
      some = half 0 (a + b) 0 (c + d) x y p z g;
      some' = half 0 (c + d) 0 (a + b) y x q (sym z) (sym g);
    }

-- a value is in the order of its pattern
by_value : (i j : ℕ) → Alike (value i) (value j) i j
by_value i j = record {
  up = back i j;
  up' = value_lt i j;
  down = back j i;
  down' = value_lt j i;
  some = λ h. ⊎_elim (λ k. k) (λ k. absurd (none (omega arith) (omega arith) h)) (lt_or_le 0 (i + j));
  some' = λ h. ⊎_elim (λ k. omega (arith, positive i k)) (λ k. omega (arith, positive j (omega arith))) (lt_or_le 0 i);
}
  where
    back : (i j : ℕ) → value i < value j → i < j
    back i j h = ⊎_elim (λ k. k) (λ k. absurd (⊎_elim (λ m. omega (arith, value_lt j i m))
        (λ m. let e : i ≡ j = omega arith in omega (arith, ap value e)) (lt_or_le j i))) (lt_or_le i j)

    nothing : (i : ℕ) → i ≡ 0 → value i ≡ 0
    nothing i e = ap value e ∙ value_small 0 (omega arith)

    none : i ≡ 0 → j ≡ 0 → 0 < value i + value j → ⊥
    none e f h = omega (arith, nothing i e, nothing j f)

    positive : (i : ℕ) → 0 < i → 0 < value i
    positive i h = omega (arith, value_lt 0 i h)

-- ---- what the tests of f64s say where sign and value are known
-- two fractions over one number, crosswise
abbrev one_unit : ℕ
one_unit = 2 ^ 1074

crossed : (a b c d u w : ℕ) → 0 < c → 0 < d → a * one_unit ≡ u * c → b * one_unit ≡ w * d → Alike (a * d) (b * c) u w
crossed a b c d u w C D e f =
    scaled (a * d) (b * c) u w one_unit (c * d) (pow_pos 1074) (mul-pos C D)
    (ring 5 (λ a c d u k. (d times a :* k ≼ u :* c) ∷ [] ⊩ a :* d :* k ≈ u :* (c :* d)) tt a c d u one_unit e)
    (ring 5 (λ b c d w k. (c times b :* k ≼ w :* d) ∷ [] ⊩ b :* c :* k ≈ w :* (c :* d)) tt b c d w one_unit f)

pub lt_value : (x y : Float) (s t : Bool) (u w : ℕ) → HasValue x s u (2 ^ 1074) → HasValue y t w (2 ^ 1074)
    → lt x y ≡ below s u t w
unfolding lt
lt_value nan y s t u w p q = absurd p
lt_value (inf r) y s t u w p q = absurd p
lt_value (fin r m e) nan s t u w p q = absurd q
lt_value (fin r m e) (inf r') s t u w p q = absurd q
lt_value (fin r m e) (fin r' n d) s t u w p q =
    rw (p.0, q.0)
    (alike_below (crossed (m * up e) (n * up d) (down e) (down d) u w (down_pos e) (down_pos d) p.1 q.1) s t)

pub eq_value : (x y : Float) (s t : Bool) (u w : ℕ) → HasValue x s u (2 ^ 1074) → HasValue y t w (2 ^ 1074)
    → eq x y ≡ level s u t w
unfolding eq
eq_value nan y s t u w p q = absurd p
eq_value (inf r) y s t u w p q = absurd p
eq_value (fin r m e) nan s t u w p q = absurd q
eq_value (fin r m e) (inf r') s t u w p q = absurd q
eq_value (fin r m e) (fin r' n d) s t u w p q =
    rw (p.0, q.0)
    (alike_level (crossed (m * up e) (n * up d) (down e) (down d) u w (down_pos e) (down_pos d) p.1 q.1) s t)

-- the sign and the value of a finite pattern
pub opposite_value : (x : Float) (s : Bool) (u k : ℕ) → HasValue x s u k → HasValue (neg x) (not s) u k
unfolding neg
opposite_value nan s u k p = p
opposite_value (inf t) s u k p = p
opposite_value (fin t m e) s u k p = (ap not p.0, p.1)

pub pattern_value : (b : ℕ) → b < 2 ^ 64 → size_of b < infinity
    → HasValue (of_bits binary64 b) (leb (2 ^ 63) b) (value (size_of b)) (2 ^ 1074)
pattern_value b h k = ⊎_elim above under (lt_or_le b (2 ^ 63))
  where
    above : b < 2 ^ 63 → HasValue (of_bits binary64 b) (leb (2 ^ 63) b) (value (size_of b)) (2 ^ 1074)
    above l =
        let e : size_of b ≡ b = omega arith in
        rw (e, lt-leb (2 ^ 63) b l) (value_is b (omega arith))

    under : 2 ^ 63 ≤ b → HasValue (of_bits binary64 b) (leb (2 ^ 63) b) (value (size_of b)) (2 ^ 1074)
    under l =
        let c : ℕ = size_of b in
        let e : c + 2 ^ 63 ≡ b = omega arith in
        let f : of_bits binary64 b ≡ neg (of_bits binary64 c) = ap (of_bits binary64) (sym e) ∙ bits_neg c (omega arith) in
        rw (f, le-leb (2 ^ 63) b l) (opposite_value (of_bits binary64 c) false (value c) (2 ^ 1074) (value_is c (omega arith)))

-- ---- THE LAWS
-- the step number of a sign and a size
module _ (i j : ℕ) (h : i < 2 ^ 63) (k : j < 2 ^ 63) where
  stepped : Bool → ℕ → ℕ
  stepped s i = cond s (2 ^ 63 - i) (2 ^ 63 + i)

  steps_below : (s t : Bool) → below s i t j ≡ ltb (stepped s i) (stepped t j)
  unfolding stepped
  steps_below false false = same_ltb i j (2 ^ 63 + i) (2 ^ 63 + j) (λ l. omega arith) (λ l. omega arith)
  steps_below false true = sym (le-ltb (2 ^ 63 + i) (2 ^ 63 - j) (omega arith))
  steps_below true false = same_ltb 0 (i + j) (2 ^ 63 - i) (2 ^ 63 + j) (λ l. omega arith) (λ l. omega arith)
  steps_below true true = same_ltb j i (2 ^ 63 - i) (2 ^ 63 - j) (λ l. omega arith) (λ l. omega arith)

  -- equal with other signs: both are zeros
  both_zero : (eqb i j && eqb i 0) ≡ eqb (i + j) 0
  both_zero = ⊎_elim some none (lt_or_le 0 (i + j))
    where
      none : i + j ≤ 0 → (eqb i j && eqb i 0) ≡ eqb (i + j) 0
      none l = rw (eq-eqb i j (omega arith), eq-eqb i 0 (omega arith), eq-eqb (i + j) 0 (omega arith))

      some : 0 < i + j → (eqb i j && eqb i 0) ≡ eqb (i + j) 0
      some l = rw (ne_eqb (i + j) 0 (λ e. omega arith))
          (⊎_elim (λ m. rw (ne_eqb i 0 (λ e. omega arith)) (and-false (eqb i j))) (λ m. rw (ne_eqb i j (λ e. omega arith)))
          (lt_or_le 0 i))

  steps_level : (s t : Bool) → level s i t j ≡ eqb (stepped s i) (stepped t j)
  unfolding stepped
  steps_level false false = and_true (eqb i j) ∙ same_eqb i j (2 ^ 63 + i) (2 ^ 63 + j) (λ l. omega arith) (λ l. omega arith)
  steps_level false true = both_zero ∙ same_eqb (i + j) 0 (2 ^ 63 + i) (2 ^ 63 - j) (λ l. omega arith) (λ l. omega arith)
  steps_level true false = both_zero ∙ same_eqb (i + j) 0 (2 ^ 63 - i) (2 ^ 63 + j) (λ l. omega arith) (λ l. omega arith)
  steps_level true true = and_true (eqb i j) ∙ same_eqb i j (2 ^ 63 - i) (2 ^ 63 - j) (λ l. omega arith) (λ l. omega arith)

-- two finite patterns of a u64
module _ (a b : ℕ) (a-fits : a < 2 ^ 64) (b-fits : b < 2 ^ 64) (a-finite : finite_pattern a ≡ true)
    (b-finite : finite_pattern b ≡ true)
  where
    left : HasValue (of_bits binary64 a) (leb (2 ^ 63) a) (value (size_of a)) (2 ^ 1074)
    unfolding finite_pattern
    left = pattern_value a a-fits (ltb-true (size_of a) infinity a-finite)

    right : HasValue (of_bits binary64 b) (leb (2 ^ 63) b) (value (size_of b)) (2 ^ 1074)
    unfolding finite_pattern
    right = pattern_value b b-fits (ltb-true (size_of b) infinity b-finite)

    -- the step numbers are in the order of the values
    pub step_order : lt (of_bits binary64 a) (of_bits binary64 b) ≡ ltb (step_of a) (step_of b)
    unfolding step_of stepped
    step_order =
        lt_value _ _ _ _ _ _ left right ∙ alike_below (by_value (size_of a) (size_of b)) (leb (2 ^ 63) a) (leb (2 ^ 63) b)
        ∙ steps_below (size_of a) (size_of b) (omega arith) (omega arith) (leb (2 ^ 63) a) (leb (2 ^ 63) b)

    -- and one exactly where the values are equal, a zero and the other being so
    pub step_same : eq (of_bits binary64 a) (of_bits binary64 b) ≡ eqb (step_of a) (step_of b)
    unfolding step_of stepped
    step_same =
        eq_value _ _ _ _ _ _ left right ∙ alike_level (by_value (size_of a) (size_of b)) (leb (2 ^ 63) a) (leb (2 ^ 63) b)
        ∙ steps_level (size_of a) (size_of b) (omega arith) (omega arith) (leb (2 ^ 63) a) (leb (2 ^ 63) b)

    -- so the distance is none exactly there
    pub apart_same : eq (of_bits binary64 a) (of_bits binary64 b) ≡ eqb (apart_of a b) 0
    unfolding apart_of gap
    apart_same = step_same ∙ same_eqb (step_of a) (step_of b) (apart_of a b) 0 (λ e. omega arith) (λ e. omega arith)
