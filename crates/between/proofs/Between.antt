-- Which f64s an operation can give, from which f64s it is given: rounding keeps the order, so bounds go through each step.
-- A bound is a bit pattern, and each rule asks for two comparisons of whole numbers that compute. Assumes nothing.
use Prim.Native.Nat.{ℕ, zero, suc, ◌+◌, ◌*◌, ◌^◌, ◌≤◌, ◌<◌, compare, Ordering}
use Rattle.std.specs.Prelude.{◌≡◌, refl, Bool, ◌&&◌, [], ◌∷◌, T, leb, ltb, ℤ, Float}
use Rattle.std.proofs.Common.{sym, ap, ◌∙◌, inl, inr, le_refl, le_of_eq, le_of_lt, le_antisymm, mul_assoc, le_trans, lt_of_lt_of_le, lt_of_le_of_lt, lt_irrefl, mul-pos, mul-le-mul, add-le-add, mul-le-mul_right, mul-le-mul_left, zero-lt-suc, leb→le, le→leb, ltb→lt, pow_pos}
use Rattle.std.proofs.Math.Path.{subst}
use Rattle.std.proofs.Math.Bool.{false}
use Rattle.std.proofs.Math.Nat.{eq_of_mul-eq-mul_right}
use Rattle.std.proofs.Math.Dec.{is_le, eqb-suc-zero}
use Rattle.std.specs.Float.{nan, inf, fin}
use Rattle.std.specs.Float.Ieee.{binary64, up, down, round, sum, add, mul, div, of_bits}
use Rattle.std.specs.Float.Ieee.Fits.{up_pos, down_pos, and_l, and_r}
use Rattle.std.specs.Float.Ieee.Exact.{HasValue}
use Rattle.std.specs.Float.Ieee.Scale.{round_same}
use Rattle.algebra.specs.Ring.{con, nxt, ◌:+◌, ◌:*◌, ◌≈◌, ◌⊩◌, ◌times◌≼◌}
use Rattle.algebra.proofs.Ring.{ring, below}
use Rattle.algebra.specs.Order.{lt_or_le, Compared, compared}
use Rattle.rounding.specs.Cut.{Cut, value, infinity, rounded}
use Rattle.rounding.proofs.Value.{value_lt, value_is}
use Rattle.rounding.specs.Laws.{Number, Nearest, middle}
use Rattle.rounding.proofs.Laws.{rounded_nearest}
use Rattle.rounding.specs.Fraction.{fraction}
use Rattle.rounding.proofs.Fraction.{fraction_number, rounded_fraction}
use Rattle.binary64.specs.Operators.{◌⊕◌, ◌⊗◌, ◌⊘◌}
use Rattle.root.specs.Root.{root_of, root}
use Rattle.root.proofs.Laws.{root_number}
use Rattle.between.specs.Between.{Between, Form, solid}

-- ---- a number known by comparison is rounded to a pattern between those between whose values it lies
lower_half : (a b : ℕ) → a < b → (a + b) * 2 ^ 1074 < b * 2 ^ 1075
lower_half = below 2 (λ a b. (con (2 ^ 1074) times nxt a ≼ b) ∷ [] ⊩ nxt ((a :+ b) :* con (2 ^ 1074)) ≈ b :* con (2 ^ 1075)) tt

upper_half : (a b : ℕ) → a < b → a * 2 ^ 1075 < (a + b) * 2 ^ 1074
upper_half = below 2 (λ a b. (con (2 ^ 1074) times nxt a ≼ b) ∷ [] ⊩ nxt (a :* con (2 ^ 1075)) ≈ (a :+ b) :* con (2 ^ 1074)) tt

solid_above : (lo hi : ℕ) → T (solid lo hi) → 0 < lo
solid_above lo hi o = ltb→lt 0 lo (and_l (ltb 0 lo) (leb lo hi && ltb hi infinity) o)

solid_under : (lo hi : ℕ) → T (solid lo hi) → hi < infinity
solid_under lo hi o = ltb→lt hi infinity (and_r (leb lo hi) (ltb hi infinity) (and_r (ltb 0 lo) (leb lo hi && ltb hi infinity) o))

solid_low : (lo hi : ℕ) → T (solid lo hi) → lo ≤ infinity
solid_low lo hi o =
    le_trans (leb→le lo hi (and_l (leb lo hi) (ltb hi infinity) (and_r (ltb 0 lo) (leb lo hi && ltb hi infinity) o)))
    (le_of_lt (solid_under lo hi o))

module _ (v : Cut) (num : Number v) where
  not_under : (p n : ℕ) → p ≤ infinity → T (is_le (v (value p) (2 ^ 1074))) → Nearest v n → p ≤ n
  not_under p n h t N = elim (lt_or_le n p) [
    | inl l ↦
        absurd
        (N.higher p l h
        (num.below (middle n p) (2 ^ 1075) (value p) (2 ^ 1074) (pow_pos 1075) (pow_pos 1074)
        (lower_half (value n) (value p) (value_lt n p l)) t))
    | inr l ↦ l
  ]

  not_over : (q n : ℕ) → (v (value q) (2 ^ 1074) ≡ Ordering.lt → ⊥) → Nearest v n → n ≤ q
  not_over q n t N = elim (lt_or_le q n) [
    | inl l ↦
        absurd
        (t
        (num.below (value q) (2 ^ 1074) (middle q n) (2 ^ 1075) (pow_pos 1074) (pow_pos 1075)
        (upper_half (value q) (value n) (value_lt q n l))
        (N.lower q l)))
    | inr l ↦ l
  ]

  cut_between : (p q : ℕ) → T (solid p q) → T (is_le (v (value p) (2 ^ 1074))) → (v (value q) (2 ^ 1074) ≡ Ordering.lt → ⊥)
      → Between p q (rounded v)
  cut_between p q o s t =
      let r = rounded_nearest v num in
      record {
        ok = o;
        n = r.0;
        is = r.1;
        low = not_under p r.0 (solid_low p q o) s r.2;
        high =
            not_over q r.0 t r.2;
      }

not_below : (a b : ℕ) → b ≤ a → compare a b ≡ Ordering.lt → ⊥
not_below a b h e = lt_irrefl a (lt_of_lt_of_le (subst (λ (o : Ordering). Compared o a b) e (compared a b)) h)

-- a fraction
pub fraction_between : (P Q p q : ℕ) → 0 < Q → T (solid p q) → value p * Q ≤ P * 2 ^ 1074 → P * 2 ^ 1074 ≤ value q * Q
    → Between p q (round binary64 false P Q)
fraction_between P Q p q H o s t =
    subst (λ (x : Float). Between p q x) (rounded_fraction P Q H)
    (cut_between (fraction P Q) (fraction_number P Q H) p q o (le→leb (value p * Q) (P * 2 ^ 1074) s)
    (not_below (value q * Q) (P * 2 ^ 1074) t))

pub form_of : (x : Float) (u : ℕ) → 0 < u → HasValue x false u (2 ^ 1074) → Form x u
form_of nan u h v = absurd v
form_of (inf s) u h v = absurd v
form_of (fin s zero e) u h v = absurd (lt_irrefl 0 (subst (λ (z : ℕ). 0 < z) (sym v.1 ∙ nothing (up e))
    (mul-pos h (down_pos e))))
  where
    nothing : (w : ℕ) → 0 * w * 2 ^ 1074 ≡ 0
    nothing = ring 1 (λ w. con 0 :* w :* con (2 ^ 1074) ≈ con 0) tt
form_of (fin s (suc m) e) u h v = record { m = m; e = e; is = ap (λ (t : Bool). fin t (suc m) e) v.0; units = v.1 }

value_le : (a b : ℕ) → a ≤ b → value a ≤ value b
value_le a b h = elim (lt_or_le a b) [
  | inl l ↦ le_of_lt (value_lt a b l)
  | inr l ↦ le_of_eq (ap value (le_antisymm h l))
]

module _ {lo hi : ℕ} {x : Float} (X : Between lo hi x) where
  unfoldable pub whole_units_of : ℕ
  whole_units_of = value X.n

  pub units_low : value lo ≤ whole_units_of
  unfolding whole_units_of
  units_low = value_le lo X.n X.low

  pub units_high : whole_units_of ≤ value hi
  unfolding whole_units_of
  units_high = value_le X.n hi X.high

  under_infinity : X.n < infinity
  under_infinity = lt_of_le_of_lt X.high (solid_under lo hi X.ok)

  pub has_value : HasValue x false whole_units_of (2 ^ 1074)
  unfolding whole_units_of
  has_value = subst (λ (y : Float). HasValue y false (value X.n) (2 ^ 1074)) (sym X.is) (value_is X.n under_infinity)

  pub units_pos : 0 < whole_units_of
  unfolding whole_units_of value
  units_pos = value_lt 0 X.n (lt_of_lt_of_le (solid_above lo hi X.ok) X.low)

  pub form : Form x whole_units_of
  form = form_of x whole_units_of units_pos has_value

-- ---- the operations on two such f64s: the exact result's fraction, rounded once
sum_cross : (a b c d u w D : ℕ) → a * D ≡ u * c → b * D ≡ w * d → (a * d + b * c) * D ≡ (u + w) * (c * d)
sum_cross =
    ring 7 (λ a b c d u w D. (d times a :* D ≼ u :* c) ∷ (c times b :* D ≼ w :* d) ∷ []
    ⊩ (a :* d :+ b :* c) :* D ≈ (u :+ w) :* (c :* d)) tt

product_cross : (a b c d u w D : ℕ) → a * D ≡ u * c → b * D ≡ w * d → a * b * (D * D) ≡ u * w * (c * d)
product_cross =
    ring 7 (λ a b c d u w D. (b :* D times a :* D ≼ u :* c) ∷ (u :* c times b :* D ≼ w :* d) ∷ []
    ⊩ a :* b :* (D :* D) ≈ u :* w :* (c :* d)) tt

quotient_cross : (a b c d u w D : ℕ) → a * D ≡ u * c → w * d ≡ b * D → a * d * w * D ≡ u * (b * c) * D
quotient_cross =
    ring 7 (λ a b c d u w D. (d :* w times a :* D ≼ u :* c) ∷ (u :* c times w :* d ≼ b :* D) ∷ []
    ⊩ a :* d :* w :* D ≈ u :* (b :* c) :* D) tt

module _ {x y : Float} {u w : ℕ} (X : Form x u) (Y : Form y w) where
  add_is : x ⊕ y ≡ round binary64 false (u + w) (2 ^ 1074)
  unfolding add sum
  add_is =
      let a = suc X.m * up X.e in
      let b = suc Y.m * up Y.e in
      let c = down X.e in
      let d = down Y.e in
      rw (X.is, Y.is)
      (round_same binary64 false (a * d + b * c) (c * d) (u + w) (2 ^ 1074) (mul-pos (down_pos X.e) (down_pos Y.e))
      (pow_pos 1074)
      (sum_cross a b c d u w (2 ^ 1074) X.units Y.units))

  mul_is : x ⊗ y ≡ round binary64 false (u * w) (2 ^ 1074 * 2 ^ 1074)
  unfolding mul
  mul_is =
      let a = suc X.m * up X.e in
      let b = suc Y.m * up Y.e in
      let c = down X.e in
      let d = down Y.e in
      rw (X.is, Y.is)
      (round_same binary64 false (a * b) (c * d) (u * w) (2 ^ 1074 * 2 ^ 1074) (mul-pos (down_pos X.e) (down_pos Y.e))
      (mul-pos (pow_pos 1074) (pow_pos 1074))
      (product_cross a b c d u w (2 ^ 1074) X.units Y.units))

  pub div_is : 0 < w → x ⊘ y ≡ round binary64 false u w
  unfolding div
  div_is W =
      let a = suc X.m * up X.e in
      let b = suc Y.m * up Y.e in
      let c = down X.e in
      let d = down Y.e in
      rw (X.is, Y.is, eqb-suc-zero Y.m)
      (round_same binary64 false (a * d) (b * c) u w (mul-pos (mul-pos (zero-lt-suc Y.m) (up_pos Y.e)) (down_pos X.e)) W
      (eq_of_mul-eq-mul_right (2 ^ 1074) (pow_pos 1074) (a * d * w) (u * (b * c))
      (quotient_cross a b c d u w (2 ^ 1074) X.units (sym Y.units))))

root_is : {x : Float} {u : ℕ} (X : Form x u) → root x ≡ rounded (root_of (suc X.m * up X.e) (down X.e))
unfolding root
root_is X = rw X.is

-- ---- THE RULES
module _ {lo hi lo' hi' : ℕ} {x y : Float} (X : Between lo hi x) (Y : Between lo' hi' y) (p q : ℕ) (o : T (solid p q)) where
  pub sum_between : T (leb (value p) (value lo + value lo')) → T (leb (value hi + value hi') (value q)) → Between p q (x ⊕ y)
  sum_between s t = subst (λ (z : Float). Between p q z) (sym (add_is (form X) (form Y)))
      (fraction_between (whole_units_of X + whole_units_of Y) (2 ^ 1074) p q (pow_pos 1074) o
      (mul-le-mul_right (2 ^ 1074) (le_trans (leb→le (value p) (value lo + value lo') s)
      (add-le-add (units_low X) (units_low Y))))
      (mul-le-mul_right (2 ^ 1074) (le_trans (add-le-add (units_high X) (units_high Y))
      (leb→le (value hi + value hi') (value q) t))))

  pub product_between : T (leb (value p * 2 ^ 1074) (value lo * value lo')) → T (leb (value hi * value hi') (value q * 2 ^ 1074))
      → Between p q (x ⊗ y)
  product_between s t = subst (λ (z : Float). Between p q z) (sym (mul_is (form X) (form Y)))
      (fraction_between (whole_units_of X * whole_units_of Y) (2 ^ 1074 * 2 ^ 1074) p q (mul-pos (pow_pos 1074) (pow_pos 1074)) o
      (le_trans (le_of_eq (sym (mul_assoc (value p) (2 ^ 1074) (2 ^ 1074))))
      (mul-le-mul_right (2 ^ 1074) (le_trans (leb→le (value p * 2 ^ 1074) (value lo * value lo') s)
      (mul-le-mul (units_low X) (units_low Y)))))
      (le_trans (mul-le-mul_right (2 ^ 1074)
      (le_trans (mul-le-mul (units_high X) (units_high Y)) (leb→le (value hi * value hi') (value q * 2 ^ 1074) t)))
      (le_of_eq (mul_assoc (value q) (2 ^ 1074) (2 ^ 1074)))))

  pub quotient_between : T (leb (value p * value hi') (value lo * 2 ^ 1074)) → T (leb (value hi * 2 ^ 1074) (value q * value lo'))
      → Between p q (x ⊘ y)
  quotient_between s t = subst (λ (z : Float). Between p q z) (sym (div_is (form X) (form Y) (units_pos Y)))
      (fraction_between (whole_units_of X) (whole_units_of Y) p q (units_pos Y) o
      (le_trans (mul-le-mul_left (value p) (units_high Y))
      (le_trans (leb→le (value p * value hi') (value lo * 2 ^ 1074) s) (mul-le-mul_right (2 ^ 1074) (units_low X))))
      (le_trans (mul-le-mul_right (2 ^ 1074) (units_high X))
      (le_trans (leb→le (value hi * 2 ^ 1074) (value q * value lo') t) (mul-le-mul_left (value q) (units_low Y)))))

root_cross : (u m c D : ℕ) → m * D ≡ u * c → m * (D * D) ≡ u * D * c
root_cross = ring 4 (λ u m c D. (D times m :* D ≼ u :* c) ∷ [] ⊩ m :* (D :* D) ≈ u :* D :* c) tt

root_low : (p u m c D : ℕ) → p * p ≤ u * D → m * D ≡ u * c → p * p * c ≤ m * (D * D)
root_low p u m c D h e = le_trans (mul-le-mul_right c h) (le_of_eq (sym (root_cross u m c D e)))

root_high : (q u m c D : ℕ) → u * D ≤ q * q → m * D ≡ u * c → m * (D * D) ≤ q * q * c
root_high q u m c D h e = le_trans (le_of_eq (root_cross u m c D e)) (mul-le-mul_right c h)

pub root_between : {lo hi : ℕ} {x : Float} (X : Between lo hi x) (p q : ℕ) → T (solid p q)
    → T (leb (value p * value p) (value lo * 2 ^ 1074))
    → T (leb (value hi * 2 ^ 1074) (value q * value q)) → Between p q (root x)
root_between {lo} {hi} {x} X p q o s t =
    let F = form X in
    let M = suc F.m * up F.e in
    let c = down F.e in
    subst (λ (z : Float). Between p q z) (sym (root_is F))
    (cut_between (root_of M c) (root_number M c (down_pos F.e)) p q o
    (le→leb (value p * value p * c) (M * (2 ^ 1074 * 2 ^ 1074))
    (root_low (value p) (whole_units_of X) M c (2 ^ 1074)
    (le_trans (leb→le (value p * value p) (value lo * 2 ^ 1074) s) (mul-le-mul_right (2 ^ 1074) (units_low X))) F.units))
    (not_below (value q * value q * c) (M * (2 ^ 1074 * 2 ^ 1074))
    (root_high (value q) (whole_units_of X) M c (2 ^ 1074)
    (le_trans (mul-le-mul_right (2 ^ 1074) (units_high X)) (leb→le (value hi * 2 ^ 1074) (value q * value q) t)) F.units)))

-- a constant
pub constant : (n : ℕ) → T (solid n n) → Between n n (of_bits binary64 n)
constant n o = record { ok = o; n = n; is = refl; low = le_refl n; high = le_refl n }
