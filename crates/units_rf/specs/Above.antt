-- What RC's logarithm is taken of is above 1: where y / x is not above 1/2, (√x + √(x - y)) / √y is 9/8 at least, rounded or not.
-- Not above 1/2 is below 3/4 before the rounding, so x - y is at least y/4 and its root at least √y / 2; and a sum loses no more
-- than a fifth by rounding. All numbers are units. Assumes nothing.
use Rattle.std.specs.Prelude.{◌≡◌, ℕ, ◌+◌, ◌-◌, ◌*◌, ◌/◌, ◌^◌, ◌≤◌, ◌<◌, Bool, false, Float}
use Rattle.std.proofs.Common.{sym, ap, ◌∙◌, inl, inr, le_trans, le_of_eq, le_of_lt, lt_of_le_of_lt, not-le_of_lt, mul-le-mul_right, mul-one, zero-lt-suc, div-mul-le_self, le-div_iff_mul-le, div-lt_iff_lt-mul, arith, lit<, lit≤, pow_pos, pow-add}
use Rattle.std.proofs.Math.Nat.{lt-div-mul-add}
use Rattle.std.specs.Float.{binary64}
use Rattle.std.specs.Float.Ieee.{low, size}
use Rattle.std.specs.Float.Ieee.Digits.{size-lt, size_reaches}
use Rattle.binary64.specs.Operators.{◌⊖◌}
use Rattle.root.specs.Root.{root}
use Rattle.scaling.specs.Near.{near, near_mono, near_exact, near_whole, size_above, either}
use Rattle.scaling.specs.Units.{Is}
use Rattle.scaling.proofs.Same.{same_units}
use Rattle.scaling.proofs.Kind.{near_le}
use Rattle.scaling.specs.Last.{Digits}
use Rattle.scaling.proofs.Last.{digits_of}
use Rattle.scaling.specs.Root.{root_units}
use Rattle.scaling.proofs.Root.{root_mono, root_at, root_scale, root_value}

-- ---- rounding takes a fifth away at most: three digits are kept
near_part : (n : ℕ) → 2 ^ 2 ≤ n → 4 * n ≤ 5 * near binary64 n 1
near_part n h =
    let z = size n in
    let Z : 3 ≤ z = size_above n 2 h in
    let q = 2 ^ (z - 3) in
    let t = n / q in
    let top : 2 ^ (z - 1) ≡ 4 * q = ap (λ (i : ℕ). 2 ^ i) (let r : z - 1 ≡ 2 + (z - 3) = omega arith in r)
    ∙ pow-add 2 2 (z - 3) in
    let all : 2 ^ z ≡ 8 * q = ap (λ (i : ℕ). 2 ^ i) (let r : z ≡ 3 + (z - 3) = omega arith in r) ∙ pow-add 2 3 (z - 3) in
    let low : 4 ≤ t = (le-div_iff_mul-le (pow_pos (z - 3))).1
    (le_trans (le_of_eq (sym top)) (size_reaches n (z - 1) (omega arith))) in
    let high : t < 8 = (div-lt_iff_lt-mul (pow_pos (z - 3))).1 (omega (arith, size-lt n, all)) in
    let kept : t * q ≤ near binary64 n 1 =
    le_trans (le_of_eq (sym (near_exact binary64 t (z - 3) 1 (zero-lt-suc 0) (lt_of_le_of_lt (le_of_lt high) (lit< tt)))))
    (near_le binary64 1 (zero-lt-suc 0) (le_trans (le_of_eq (mul-one (t * q))) (div-mul-le_self n q))) in
    let more : q * 4 ≤ t * q = le_trans (le_of_eq (turn q)) (mul-le-mul_right q low) in
    let rest : n < t * q + q = lt-div-mul-add (pow_pos (z - 3)) in
    omega arith
  where
    turn : (q : ℕ) → q * 4 ≡ 4 * q
    turn q = omega arith

-- what a float is, it stays
near_itself : (n : ℕ) → Digits binary64 n → near binary64 n 1 ≡ n
near_itself n d =
    ap (λ (i : ℕ). near binary64 i 1) (d.is ∙ sym (mul-one (d.M * 2 ^ d.j)))
    ∙ near_exact binary64 d.M d.j 1 (zero-lt-suc 0) d.small
    ∙ sym d.is

-- ---- not above a half, rounded: not three quarters
pub three_quarters : (X Y : ℕ) → 0 < X → near binary64 (Y * 2 ^ low binary64) X ≤ 2 ^ 1073 → 4 * Y < 3 * X
three_quarters X Y pos half = elim (either (3 * X) (4 * Y)) [
  | inr l ↦ l
  | inl l ↦
      let cross : 3 * 2 ^ 1072 * 1 * X ≤ Y * 2 ^ low binary64 * 1 =
      le_trans (le_of_eq (first (2 ^ 1072) X))
      (le_trans (mul-le-mul_right (2 ^ 1072) l) (le_of_eq (last (2 ^ 1072) Y (2 ^ 1074) (pow-add 2 2 1072)))) in
      let three : 3 * 2 ^ 1072 ≤ near binary64 (Y * 2 ^ low binary64) X =
      le_trans (le_of_eq (sym (near_exact binary64 3 1072 1 (zero-lt-suc 0) (lit< tt))))
      (near_mono binary64 _ 1 _ X (zero-lt-suc 0) pos cross) in
      absurd (not-le_of_lt (lit< {m = 2 ^ 1073} {n = 3 * 2 ^ 1072} tt) (le_trans three half))
]
  where
    first : (q x : ℕ) → 3 * q * 1 * x ≡ 3 * x * q
    first q x = omega arith

    last : (q y p : ℕ) → p ≡ 4 * q → 4 * y * q ≡ y * p * 1
    last q y p e = rw e (omega arith)

module _ (X Y : ℕ) (digits : Digits binary64 Y) (order : Y < X) (some : 2 ^ 1010 ≤ Y) (most : X ≤ 2 ^ 1140)
    (half : near binary64 (Y * 2 ^ low binary64) X ≤ 2 ^ 1073) where
  -- the difference, rounded, and its root
  abbrev G : ℕ
  G = near binary64 (X - Y) 1

  difference : Y ≤ G * 2 ^ 2
  difference =
      let pos : 0 < X = omega arith in
      let l : Y ≤ (X - Y) * 2 ^ 2 = omega (arith, three_quarters X Y pos half) in
      le_trans (le_of_eq (sym (near_itself Y digits)))
      (le_trans (near_le binary64 1 (zero-lt-suc 0) l) (le_of_eq (near_whole binary64 (X - Y) 2)))

  fits : G * 2 ^ (2 * 1) ≤ 2 ^ 2098
  fits =
      let l : X - Y ≤ 1 * 2 ^ 1140 * 1 = less X Y (2 ^ 1140) most in
      let g : G ≤ 2 ^ 1140 =
      le_trans (near_le binary64 1 (zero-lt-suc 0) l)
      (le_of_eq (near_exact binary64 1 1140 1 (zero-lt-suc 0) (lit< tt) ∙ plain (2 ^ 1140))) in
      le_trans (mul-le-mul_right (2 ^ 2) g) (lit≤ tt)
    where
      plain : (n : ℕ) → 1 * n ≡ n
      plain n = omega arith

      less : (x y q : ℕ) → x ≤ q → x - y ≤ 1 * q * 1
      less x y q h = omega arith

  half_root : root_units Y ≤ root_units G * 2
  half_root = le_trans (root_mono Y (G * 2 ^ 2) difference) (le_of_eq (root_scale G 1 fits))

  abbrev sum : ℕ
  sum = root_units X + root_units G

  -- THE LAW
  pub nine_eighths : 2 ^ 2 ≤ root_units Y → 9 * 2 ^ 1071 ≤ near binary64 (near binary64 sum 1 * 2 ^ low binary64) (root_units Y)
  nine_eighths root =
      let R = root_units Y in
      let P = near binary64 sum 1 in
      let large : 2 ^ 2 ≤ sum = omega (arith, root_mono Y X (le_of_lt order)) in
      let pos : 0 < R = omega arith in
      let enough : 9 * R ≤ 8 * P = omega (arith, near_part sum large, half_root, root_mono Y X (le_of_lt order)) in
      let cross : 9 * 2 ^ 1071 * 1 * R ≤ P * 2 ^ low binary64 * 1 =
      le_trans (le_of_eq (first (2 ^ 1071) R))
      (le_trans (mul-le-mul_right (2 ^ 1071) enough) (le_of_eq (last (2 ^ 1071) P (2 ^ 1074) (pow-add 2 3 1071)))) in
      le_trans (le_of_eq (sym (near_exact binary64 9 1071 1 (zero-lt-suc 0) (lit< tt))))
      (near_mono binary64 _ 1 _ R (zero-lt-suc 0) pos cross)
    where
      first : (q r : ℕ) → 9 * q * 1 * r ≡ 9 * r * q
      first q r = omega arith

      last : (q y p : ℕ) → p ≡ 8 * q → 8 * y * q ≡ y * p * 1
      last q y p e = rw e (omega arith)

-- ---- of floats, in one run
root_some : (Y : ℕ) → 2 ^ 1010 ≤ Y → 2 ^ 2 ≤ root_units Y
root_some Y h = le_trans (le_trans (lit≤ tt) (le_of_eq (sym (root_at 505 (lit≤ tt))))) (root_mono (2 ^ 1010) Y h)

pub argument_least : {x y : Float} {s t r : Bool} {X Y A B R : ℕ} → Is binary64 x false X → Is binary64 y false Y
    → Is binary64 (root x) s A
    → Is binary64 (x ⊖ y) false (near binary64 (X - Y) 1) → Is binary64 (root (x ⊖ y)) t B → Is binary64 (root y) r R
    → Y < X → 2 ^ 1010 ≤ Y → X ≤ 2 ^ 1140 → near binary64 (Y * 2 ^ low binary64) X ≤ 2 ^ 1073
    → 9 * 2 ^ 1071 ≤ near binary64 (near binary64 (A + B) 1 * 2 ^ low binary64) R
argument_least {X = X} {Y} {A} {B} {R} x y a d b r order some most half =
    rw (same_units a (root_value x), same_units b (root_value d), same_units r (root_value y))
    (nine_eighths X Y (digits_of y) order some most half (root_some Y some))
