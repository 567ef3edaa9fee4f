-- The order of f64s, of which the code tests `<` alone: of two not each is below the other, "not below" goes through a number in
-- the middle, and of two numbers it is `<=`. Assumes nothing.
use Rattle.std.specs.Prelude.{ℕ, ◌+◌, ◌*◌, ◌≤◌, ◌<◌, ◌≡◌, refl, Bool, true, false, ◌&&◌, ◌||◌, ltb, eqb, Float}
use Rattle.std.proofs.Common.{sym, ap, ◌∙◌, true≢false, inl, inr, eq-or-lt_of_le, eq-zero-or-pos, mul-pos, zero-mul, arith, le-ltb, lt-ltb, ltb-true, ltb-false, eq-eqb}
use Rattle.std.specs.Float.{nan, inf, fin}
use Rattle.std.specs.Float.Ieee.{is_nan, lt, le, eq, below, level, up, down}
use Rattle.std.specs.Float.Ieee.Fits.{down_pos}
use Rattle.std.specs.Float.Ieee.Positive.{through}

-- ---- of two, not each is below the other
below_once : (s t : Bool) (m n : ℕ) → below s m t n ≡ true → below t n s m ≡ false
below_once false false m n e = let h = ltb-true m n e in le-ltb n m (omega arith)
below_once false true m n e = absurd (true≢false (sym e))
below_once true false m n e = refl
below_once true true m n e = let h = ltb-true n m e in le-ltb m n (omega arith)

pub lt_once : (x y : Float) → lt x y ≡ true → lt y x ≡ false
unfolding lt
lt_once nan nan e = refl
lt_once nan (inf t) e = refl
lt_once nan (fin t n d) e = refl
lt_once (inf s) nan e = refl
lt_once (inf true) (inf true) e = refl
lt_once (inf true) (inf false) e = refl
lt_once (inf false) (inf true) e = sym e
lt_once (inf false) (inf false) e = refl
lt_once (inf true) (fin t n d) e = refl
lt_once (inf false) (fin t n d) e = sym e
lt_once (fin s m e) nan h = refl
lt_once (fin s m e) (inf true) h = sym h
lt_once (fin s m e) (inf false) h = refl
lt_once (fin s m e) (fin t n d) h = below_once s t (m * up e * down d) (n * up d * down e) h

-- ---- not below, from x over y to z: fractions X / p, Y / q, Z / r with their signs s, t, u
nothing : (X q r : ℕ) → 0 < q → X * q ≤ 0 → X * r ≡ 0
nothing X q r Q h = elim (eq-zero-or-pos X) [
  | inl e ↦ ap (λ (n : ℕ). n * r) e ∙ zero-mul r
  | inr l ↦ let g : 0 < X * q = mul-pos l Q in absurd (omega arith)
]

module _ (X Y Z p q r : ℕ) (P : 0 < p) (Q : 0 < q) (R : 0 < r) where
  below_through : (s t u : Bool) → below t (Y * p) s (X * q) ≡ false → below u (Z * q) t (Y * r) ≡ false
      → below u (Z * p) s (X * r) ≡ false
  below_through false false false h k =
      le-ltb (Z * p) (X * r) (through X Y Z p q r Q (ltb-false (Y * p) (X * q) h) (ltb-false (Z * q) (Y * r) k))
  below_through false true false h k =
      let a = ltb-false 0 (Y * p + X * q) h in
      let b = nothing X q r Q (omega arith) in
      le-ltb (Z * p) (X * r) (omega arith)
  below_through true t false h k = refl
  below_through false false true h k =
      let a = ltb-false (Y * p) (X * q) h in
      let b = ltb-false 0 (Z * q + Y * r) k in
      let c = nothing Y r p R (omega arith) in
      let d = nothing X q r Q (omega arith) in
      let e = nothing Z q p Q (omega arith) in
      le-ltb 0 (Z * p + X * r) (omega arith)
  below_through false true true h k =
      let a = ltb-false 0 (Y * p + X * q) h in
      let b = ltb-false (Y * r) (Z * q) k in
      let c = nothing Y p r P (omega arith) in
      let d = nothing X q r Q (omega arith) in
      let e = nothing Z q p Q (omega arith) in
      le-ltb 0 (Z * p + X * r) (omega arith)
  below_through true false true h k =
      let b = ltb-false 0 (Z * q + Y * r) k in
      let e = nothing Z q p Q (omega arith) in
      le-ltb (X * r) (Z * p) (omega arith)
  below_through true true true h k =
      le-ltb (X * r) (Z * p) (through Z Y X r q p Q (ltb-false (Y * r) (Z * q) k) (ltb-false (X * q) (Y * p) h))

under_nan : (z : Float) → lt z nan ≡ false
unfolding lt
under_nan nan = refl
under_nan (inf u) = refl
under_nan (fin u o f) = refl

pub not_below_through : (x y z : Float) → is_nan y ≡ false → lt y x ≡ false → lt z y ≡ false → lt z x ≡ false
unfolding lt is_nan
not_below_through nan y z g h k = under_nan z
not_below_through (inf s) y nan g h k = refl
not_below_through (fin s m e) y nan g h k = refl
not_below_through (inf s) nan (inf u) g h k = absurd (true≢false g)
not_below_through (inf s) nan (fin u o f) g h k = absurd (true≢false g)
not_below_through (fin s m e) nan (inf u) g h k = absurd (true≢false g)
not_below_through (fin s m e) nan (fin u o f) g h k = absurd (true≢false g)
not_below_through (inf true) (inf t) (inf true) g h k = refl
not_below_through (inf s) (inf t) (inf false) g h k = refl
not_below_through (inf false) (inf true) (inf true) g h k = absurd (true≢false h)
not_below_through (inf false) (inf false) (inf true) g h k = absurd (true≢false k)
not_below_through (inf true) (inf t) (fin u o f) g h k = refl
not_below_through (inf false) (inf true) (fin u o f) g h k = absurd (true≢false h)
not_below_through (inf false) (inf false) (fin u o f) g h k = absurd (true≢false k)
not_below_through (inf s) (fin t n d) (inf false) g h k = refl
not_below_through (inf s) (fin t n d) (inf true) g h k = absurd (true≢false k)
not_below_through (inf s) (fin t n d) (fin u o f) g h k = h
not_below_through (fin s m e) (inf t) (inf false) g h k = refl
not_below_through (fin s m e) (inf true) (inf true) g h k = absurd (true≢false h)
not_below_through (fin s m e) (inf false) (inf true) g h k = absurd (true≢false k)
not_below_through (fin s m e) (inf true) (fin u o f) g h k = absurd (true≢false h)
not_below_through (fin s m e) (inf false) (fin u o f) g h k = absurd (true≢false k)
not_below_through (fin s m e) (fin t n d) (inf u) g h k = k
not_below_through (fin s m e) (fin t n d) (fin u o f) g h k =
    below_through (m * up e) (n * up d) (o * up f) (down e) (down d) (down f) (down_pos e) (down_pos d) (down_pos f) s t u h k

-- ---- of two numbers, not below is `<=`
not_below_level : (s t : Bool) (m n : ℕ) → below t n s m ≡ false → (below s m t n || level s m t n) ≡ true
not_below_level false false m n h = below_or_level (ltb-false n m h)
  where
    below_or_level : m ≤ n → (ltb m n || (eqb m n && true)) ≡ true
    below_or_level l = elim (eq-or-lt_of_le l) [
      | inl e ↦ rw (le-ltb m n (omega arith), eq-eqb m n e)
      | inr g ↦ rw (lt-ltb m n g)
    ]
not_below_level false true m n h = let a = ltb-false 0 (n + m) h in rw (eq-eqb m n (omega arith), eq-eqb m 0 (omega arith))
not_below_level true false m n h = elim (eq-zero-or-pos (m + n)) [
  | inl e ↦ rw (le-ltb 0 (m + n) (omega arith), eq-eqb m n (omega arith), eq-eqb m 0 (omega arith))
  | inr g ↦ rw (lt-ltb 0 (m + n) g)
]
not_below_level true true m n h = below_or_level (ltb-false m n h)
  where
    below_or_level : n ≤ m → (ltb n m || (eqb m n && true)) ≡ true
    below_or_level l = elim (eq-or-lt_of_le l) [
      | inl e ↦ rw (le-ltb n m (omega arith), eq-eqb m n (sym e))
      | inr g ↦ rw (lt-ltb n m g)
    ]

pub not_below_le : (x y : Float) → is_nan x ≡ false → is_nan y ≡ false → lt y x ≡ false → le x y ≡ true
unfolding lt eq le is_nan
not_below_le nan y g k h = absurd (true≢false g)
not_below_le (inf s) nan g k h = absurd (true≢false k)
not_below_le (fin s m e) nan g k h = absurd (true≢false k)
not_below_le (inf true) (inf true) g k h = refl
not_below_le (inf true) (inf false) g k h = refl
not_below_le (inf false) (inf true) g k h = absurd (true≢false h)
not_below_le (inf false) (inf false) g k h = refl
not_below_le (inf true) (fin t n d) g k h = refl
not_below_le (inf false) (fin t n d) g k h = absurd (true≢false h)
not_below_le (fin s m e) (inf true) g k h = absurd (true≢false h)
not_below_le (fin s m e) (inf false) g k h = refl
not_below_le (fin s m e) (fin t n d) g k h = not_below_level s t (m * up e * down d) (n * up d * down e) h
