-- Two floats that differ do so by a part in 2 ^ (prec + 1) of the larger at least: what lies between them is a multiple of the
-- smaller's last place. So a quotient like (x - y) / x, which bounds alone would let be tiny, is never so; and a lower bound from
-- elsewhere enters a kind.
use Rattle.std.specs.Prelude.{◌≡◌, ℕ, ◌+◌, ◌-◌, ◌*◌, ◌^◌, ◌≤◌, ◌<◌, [], ◌∷◌, Float}
use Rattle.std.proofs.Common.{sym, ap, ap₂, ◌∙◌, inl, inr, le_trans, le_of_eq, le_of_lt, mul-one, one-mul, mul-le-mul_right, mul-le-mul_left, zero-lt-suc, arith, pow-add, pow_mono}
use Rattle.std.proofs.Math.Pow.{pow-lt}
use Rattle.std.specs.Float.{Format}
use Rattle.std.specs.Float.Ieee.{prec, low, size}
use Rattle.std.specs.Float.Ieee.Digits.{size-lt, size_reaches}
use Rattle.algebra.specs.Ring.{con, ◌:*◌, ◌≈◌, ◌⊩◌, ◌times◌≼◌}
use Rattle.algebra.proofs.Ring.{below, ring}
use Rattle.scaling.specs.Near.{near, digits, near_mono, near_exact, either, size_above}
use Rattle.scaling.specs.Cross.{sub_mul}
use Rattle.scaling.specs.Kind.{Kind, last}
use Rattle.scaling.proofs.Kind.{near_le}
use Rattle.scaling.specs.Last.{Digits, Multiple}
use Rattle.scaling.proofs.Last.{multiple, coarser}
use Rattle.scaling.specs.Two.{Two}
use Rattle.scaling.specs.Gap.{raise_k}

pub raise_two : {f : Format} {k : ℕ} {A : Kind} {x y : Float} (l : ℕ) (a : Two f k A x y) → l ≤ a.m → l ≤ a.n
    → Two f k (raise_k l A) x y
unfolding raise_k
raise_two l a p q = record {
  s = a.s;
  m = a.m;
  n = a.n;
  first = a.first;
  second = a.second;
  in_first = record { sign = a.in_first.sign; from = inr p; to = a.in_first.to };
  in_second = record { sign = a.in_second.sign; from = inr q; to = a.in_second.to };
  grain = a.grain;
  grain_second = a.grain_second;
  tie = a.tie;
}

-- ---- the difference of two floats y < x
-- two multiples of 2 ^ g that differ do so by 2 ^ g
multiples_apart : (g x y : ℕ) → Multiple g x → Multiple g y → y < x → 2 ^ g ≤ x - y
multiples_apart g x y a b h =
    let e : x - y ≡ (a.c - b.c) * 2 ^ g = ap₂ ◌-◌ a.is b.is ∙ sym (sub_mul a.c b.c (2 ^ g)) in
    elim (either a.c b.c) [
      | inl l ↦ absurd (clash x y h
          (le_trans (le_of_eq a.is) (le_trans (mul-le-mul_right (2 ^ g) l) (le_of_eq (sym b.is)))))
      | inr l ↦
          let c : 1 ≤ a.c - b.c = omega arith in
          le_trans (le_of_eq (sym (one-mul (2 ^ g)))) (le_trans (mul-le-mul_right (2 ^ g) c) (le_of_eq (sym e)))
    ]
  where
    clash : (x y : ℕ) → y < x → x ≤ y → ⊥
    clash x y h k = omega arith

pub gap_least : {f : Format} {x y : ℕ} → Digits f x → Digits f y → y < x → x ≤ (x - y) * 2 ^ (prec f + 1)
gap_least {f} {x} {y} X Y h =
    elim (either x (2 * y)) [
      | inr l ↦ far x y (2 ^ (prec f + 1)) l (pow_mono (let r : 1 ≤ prec f + 1 = omega arith in r))
      | inl l ↦ close l
    ]
  where
    far : (x y q : ℕ) → 2 * y < x → 2 ^ 1 ≤ q → x ≤ (x - y) * q
    far x y q h k = le_trans (let r : x ≤ (x - y) * 2 = omega arith in r) (mul-le-mul_left (x - y) k)

    close : x ≤ 2 * y → x ≤ (x - y) * 2 ^ (prec f + 1)
    close l =
        let z = size x in
        let p = prec f in
        let g : ℕ = z - 1 - p in
        let Z : 0 < z = size_above x 0 (let r : 1 ≤ x = omega arith in r) in
        let top : 2 ^ (z - 1) ≤ x = size_reaches x (z - 1) (let r : z - 1 < z = omega arith in r) in
        let s : z - 1 ≤ size y = half x y (z - 1) l top in
        let M = coarser (last f x) g (let r : g ≤ z - p = omega arith in r) (multiple x X (let r : x ≤ x = omega arith in r)) in
        let N = coarser (last f y) g (let r : g ≤ size y - p = omega arith in r)
        (multiple y Y (let r : y ≤ y = omega arith in r)) in
        let d = multiples_apart g x y M N h in
        le_trans (le_of_lt (size-lt x))
        (le_trans (pow_mono (let r : z ≤ g + (p + 1) = omega arith in r))
        (le_trans (le_of_eq (pow-add 2 g (p + 1))) (mul-le-mul_right (2 ^ (p + 1)) d)))
      where
        half : (x y i : ℕ) → x ≤ 2 * y → 2 ^ i ≤ x → i ≤ size y
        half x y i l t =
            elim (either i (size y)) [
              | inl g ↦ g
              | inr g ↦
                  absurd
                  (let b = size-lt y in
                  let c : 2 * 2 ^ size y ≤ 2 ^ i =
                  le_trans (le_of_eq (ap (λ (z : ℕ). z) (sym (pow-add 2 1 (size y)))))
                  (pow_mono (let r : 1 + size y ≤ i = omega arith in r)) in
                  let r : ⊥ = omega arith in r)
            ]

-- rounding takes less than half away
pub near_half : (f : Format) (n : ℕ) → n ≤ 2 * near f n 1
near_half f n =
    elim (either n 0) [
      | inl l ↦ (let r : n ≤ 2 * near f n 1 = omega arith in r)
      | inr l ↦
          let z = size n in
          let Z : 0 < z = size_above n 0 l in
          let top : 2 ^ (z - 1) ≤ n = size_reaches n (z - 1) (let r : z - 1 < z = omega arith in r) in
          let b = size-lt n in
          let e : 2 ^ (z - 1) ≤ near f n 1 =
          le_trans (le_of_eq (sym (one-mul (2 ^ (z - 1))) ∙ sym (near_exact f 1 (z - 1) 1 (zero-lt-suc 0) (pow-lt (digits f)))))
          (near_le f 1 (zero-lt-suc 0) (le_trans (le_of_eq (mul-one (1 * 2 ^ (z - 1)) ∙ one-mul (2 ^ (z - 1)))) top)) in
          let d : 2 ^ z ≡ 2 * 2 ^ (z - 1) = ap (λ (i : ℕ). 2 ^ i) (let r : z ≡ 1 + (z - 1) = omega arith in r)
          ∙ pow-add 2 1 (z - 1) in
          omega arith
    ]

-- (x - y) / w, for y < x and a w up to x: 2 ^ -(prec + 2) or more
pub ratio_least : (f : Format) (x y w i : ℕ) → Digits f x → Digits f y → y < x → 0 < w → w ≤ x → i + (prec f + 2) ≡ low f
    → 2 ^ i ≤ near f (near f (x - y) 1 * 2 ^ low f) w
ratio_least f x y w i X Y h W u e =
    let d = near f (x - y) 1 in
    let a : w ≤ d * 2 ^ (prec f + 2) =
    le_trans (le_trans u (gap_least X Y h))
    (le_trans (mul-le-mul_right (2 ^ (prec f + 1)) (near_half f (x - y)))
    (le_of_eq (ring 2 (λ d q. con 2 :* d :* q ≈ d :* (con 2 :* q)) tt d (2 ^ (prec f + 1))
    ∙ ap (λ (z : ℕ). d * z) (sym (pow-add 2 1 (prec f + 1))
    ∙ ap (λ (z : ℕ). 2 ^ z) (let r : 1 + (prec f + 1) ≡ prec f + 2 = omega arith in r))))) in
    let l : 2 ^ low f ≡ 2 ^ i * 2 ^ (prec f + 2) = ap (λ (z : ℕ). 2 ^ z) (sym e) ∙ pow-add 2 i (prec f + 2) in
    le_trans (le_of_eq (sym (one-mul (2 ^ i)) ∙ sym (near_exact f 1 i 1 (zero-lt-suc 0) (pow-lt (digits f)))))
    (near_mono f (1 * 2 ^ i * 1) 1 (d * 2 ^ low f) w (zero-lt-suc 0) W
    (le_trans (below 4 (λ i x d q. (i times x ≼ d :* q) ∷ [] ⊩ con 1 :* i :* con 1 :* x ≈ d :* (i :* q) :* con 1) tt (2 ^ i) w d
    (2 ^ (prec f + 2)) a)
    (le_of_eq (ap (λ (z : ℕ). d * z * 1) (sym l)))))
