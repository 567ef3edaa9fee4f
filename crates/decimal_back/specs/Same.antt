-- The number that a decimal's text says is the decimal. Assumes nothing.
use Prim.Native.Nat.{ℕ, suc, ◌+◌, ◌-◌, ◌*◌, ◌/◌, ◌%◌, ◌^◌, ◌≤◌, ◌<◌}
use Rattle.std.specs.Prelude.{◌≡◌, refl, Bool, ◌&&◌, List, ◌++◌, leb}
use Rattle.std.proofs.Math.Path.{sym}
use Rattle.std.proofs.Common.{ap, ◌∙◌, subst, lt_of_le_of_lt, mul-one, div-le_self, div-add-mod', leb→le, pow-add}
use Rattle.std.proofs.Math.Bool.{true, false, cond}
use Rattle.std.proofs.Math.Nat.{lt_of_lt_of_le, mod-lt, mul-lt-mul_of_pos_right, pow-le-pow_right}
use native.Mathlib.Omega.{arith}
use borrow.Author.Tests.{leb-true, ltb-true, ltb-false}
use Rattle.std.proofs.Math.Dec.{ltb}
use Rattle.std.specs.Float.{binary64}
use Rattle.std.specs.Float.Ieee.{round}
use Rattle.decimal.specs.Decimal.{ones, decimal_of}
use Rattle.decimal_scan.specs.Scan.{start_of, bytes_after, is_whole}
use Rattle.decimal_scan.specs.Number.{text_value}
use Rattle.decimal_read.specs.SaidLaws.{same_number}
use Rattle.decimal_short.proofs.Within.{ten_pos}
use Rattle.decimal_text.specs.declared.shape.Shape.{Shape}
use Rattle.decimal_text.specs.Shape.{whole_shape, point_shape, power_shape, shape_of, shape_text}
use Rattle.decimal_text.specs.Text.{sign_text}
use Rattle.writing.specs.Places.{places_few}
use Rattle.decimal_back.specs.Count.{Counted, counted}
use Rattle.decimal_back.specs.Laid.{Says, shape_says}

-- the text l is a number, and its f64 that of d * 10 ^ (t - 1200)
pub record Tells (l : List ℕ) (m : Bool) (d t : ℕ) : Type 0 where
  pub whole : is_whole (bytes_after start_of l) ≡ true
  pub value : text_value l ≡ decimal_of m d t

-- d * 10 ^ u over 10 ^ v
same_decimal : (m : Bool) (d u v t : ℕ) → u + (1200 - t) ≡ (t - 1200) + v
    → round binary64 m (d * 10 ^ u) (10 ^ v) ≡ decimal_of m d t
same_decimal m d u v t e =
    let h : v ≤ 0 + u + 1200 = omega arith in
    let g : 0 + u + 1200 - v ≡ t = omega arith in
    ap (λ (x : ℕ). round binary64 m (x * 10 ^ u) (10 ^ v)) (sym (mul-one d)) ∙ same_number m d 0 u v h ∙ ap (decimal_of m d) g

tells : {l : List ℕ} {m : Bool} {v up down : ℕ} (d u t : ℕ) → Says l m v up down → v * 10 ^ up ≡ d * 10 ^ u
    → u + (1200 - t) ≡ (t - 1200) + down
    → Tells l m d t
tells {l} {m} {v} {up} {down} d u t s e h = record {
  whole = s.whole;
  value = s.value ∙ ap (λ (x : ℕ). round binary64 m x (10 ^ down)) e ∙ same_decimal m d u down t h;
}

-- ---- the three shapes of d, which has suc k digits
module _ (m : Bool) (d t k : ℕ) (D : d < 10 ^ suc k) (K : k ≤ 16) where
  under_all : d < 10 ^ 20
  under_all = let h : suc k ≤ 20 = omega arith in lt_of_lt_of_le D (pow-le-pow_right (leb→le 1 10 tt) h)

  whole_tells : 1200 ≤ t → suc k + t ≤ 1217 → Tells (sign_text m ++ shape_text (whole_shape d t)) m d t
  unfolding whole_shape
  whole_tells l u =
      let P = 10 ^ (t - 1200) in
      let a : d * P < 10 ^ suc k * P = mul-lt-mul_of_pos_right D (ten_pos (t - 1200)) in
      let b : 10 ^ suc k * P ≡ 10 ^ (suc k + (t - 1200)) = sym (pow-add 10 (suc k) (t - 1200)) in
      let h : suc k + (t - 1200) ≤ 20 = omega arith in
      let c : 10 ^ (suc k + (t - 1200)) ≤ 10 ^ 20 = pow-le-pow_right (leb→le 1 10 tt) h in
      tells d (t - 1200) t
      (shape_says m (whole_shape d t) (record {
        whole = lt_of_lt_of_le (subst (λ (x : ℕ). d * P < x) b a) c;
        places = omega arith;
        part = omega arith;
        power = omega arith;
      }))
      (plain (d * P)) (omega arith)
    where
      plain : (x : ℕ) → (x * 10 ^ 0 + 0) * 10 ^ 0 ≡ x
      plain x = omega arith

  -- the digits on both sides of the point
  joined : (j : ℕ) → d / 10 ^ j * 10 ^ j + d % 10 ^ j ≡ d
  joined j = div-add-mod' d (10 ^ j)

  front : (j : ℕ) → d / 10 ^ j < 10 ^ 20
  front j = lt_of_le_of_lt (div-le_self d (10 ^ j)) under_all

  point_tells : t < 1200 → 1195 < suc k + t → Tells (sign_text m ++ shape_text (point_shape d (1200 - t))) m d t
  unfolding point_shape
  point_tells l u =
      let j = 1200 - t in
      tells d 0 t
      (shape_says m (point_shape d j) (record {
        whole = front j;
        places = omega arith;
        part = mod-lt d (ten_pos j);
        power = omega arith;
      }))
      (ap (λ (x : ℕ). x * 10 ^ 0) (joined j)) (omega arith)

  power_tells : 860 ≤ t → t < 1509 → Tells (sign_text m ++ shape_text (power_shape d k t)) m d t
  unfolding power_shape
  power_tells l u =
      let b = ltb (k + t) 1200 in
      let n = (k + t - 1200) + (1200 - (k + t)) in
      tells d (cond b 0 n) t
      (shape_says m (power_shape d k t) (record {
        whole = front k;
        places = omega arith;
        part = mod-lt d (ten_pos k);
        power = omega arith;
      }))
      (ap (λ (x : ℕ). x * 10 ^ cond b 0 n) (joined k)) (go b refl)
    where
      go : (b : Bool) → ltb (k + t) 1200 ≡ b
          → cond b 0 ((k + t - 1200) + (1200 - (k + t))) + (1200 - t)
          ≡ (t - 1200) + (cond b ((k + t - 1200) + (1200 - (k + t))) 0 + k)
      go true e = let h : k + t < 1200 = ltb-true (k + t) 1200 e in omega arith
      go false e = let h : 1200 ≤ k + t = ltb-false (k + t) 1200 e in omega arith

-- `shape_of` of a number of n digits
abbrev shaped : ℕ → ℕ → ℕ → Shape
shaped d t n =
    cond (leb ones t && leb (n + t) 1217) (whole_shape d t)
    (cond (ltb t ones && ltb 1195 (n + t)) (point_shape d (ones - t)) (power_shape d (n - 1) t))

-- THE LAW: the text of a decimal says the decimal
pub shape_tells : (m : Bool) (d t : ℕ) → d < 10 ^ 17 → 860 ≤ t → t < 1509 → Tells (sign_text m ++ shape_text (shape_of d t)) m d t
unfolding shape_of
shape_tells m d t D l u =
    subst (λ (n : ℕ). Tells (sign_text m ++ shape_text (shaped d t n)) m d t) (sym c.is)
    (go (leb 1200 t) refl (leb (suc k + t) 1217) refl (ltb t 1200) refl (ltb 1195 (suc k + t)) refl)
  where
    c : Counted 19 d
    c = counted 19 d (omega arith)

    k : ℕ
    k = c.k

    K : k ≤ 16
    K = omega (arith, c.is, places_few 16 19 d D)

    less : suc k - 1 ≡ k
    less = omega arith

    powered : Tells (sign_text m ++ shape_text (power_shape d (suc k - 1) t)) m d t
    powered = subst (λ (j : ℕ). Tells (sign_text m ++ shape_text (power_shape d j t)) m d t) (sym less)
        (power_tells m d t k c.enough K l u)

    go : (a : Bool) → leb 1200 t ≡ a → (b : Bool) → leb (suc k + t) 1217 ≡ b → (e : Bool) → ltb t 1200 ≡ e
        → (f : Bool) → ltb 1195 (suc k + t) ≡ f
        → Tells (sign_text m ++ shape_text (cond (a && b) (whole_shape d t)
        (cond (e && f) (point_shape d (1200 - t)) (power_shape d (suc k - 1) t)))) m d t
    go true p true q e r f s = whole_tells m d t k c.enough K (leb-true 1200 t p) (leb-true (suc k + t) 1217 q)
    go true p false q true r f s = absurd (omega (arith, leb-true 1200 t p, ltb-true t 1200 r))
    go true p false q false r f s = powered
    go false p b q true r true s = point_tells m d t k c.enough K (ltb-true t 1200 r) (ltb-true 1195 (suc k + t) s)
    go false p b q true r false s = powered
    go false p b q false r f s = powered
