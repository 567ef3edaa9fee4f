-- The rule of `Two` for the square root. On units the root is `root_units`: it keeps the order, takes 4 ^ j units to 2 ^ (537 +
-- j), and 4 ^ t goes through it as 2 ^ t, at a subnormal argument too, for a root is never subnormal.
use Rattle.std.specs.Prelude.{◌≡◌, Bool, false, not, ◌&&◌, [], ◌∷◌, ℤ, T, ltb, leb, eqb, Float}
use Rattle.std.proofs.Math.Path.{refl, fun_ext}
use Rattle.std.proofs.Common.{sym, ap, ap₂, ◌∙◌, subst, subst₂, inl, inr, le_refl, le_trans, le_of_eq, le_of_lt, lt_of_le_of_lt, lt_of_lt_of_le, eq-zero-or-pos, mul_assoc, mul-pos, mul-le-mul_right, zero-mul, zero-lt-suc, arith, ltb→lt, leb→le, le→leb, eqb→eq, pow-add, pow_mono, pow_pos}
use Prim.Native.Nat.{Ordering}
use Prim.Native.Nat.{ℕ, zero, suc, ◌+◌, ◌-◌, ◌*◌, ◌/◌, ◌^◌, ◌≤◌, ◌<◌, compare}
use Rattle.std.proofs.Math.Nat.{eq_of_mul-eq-mul_right}
use Rattle.std.proofs.Math.Dec.{is_le}
use Rattle.std.proofs.Math.Pow.{pow-lt}
use Rattle.std.specs.Float.{fin, binary64}
use Rattle.std.specs.Float.Ieee.{up, down, size}
use Rattle.std.specs.Float.Ieee.Digits.{size-lt, size-le, size_reaches}
use Rattle.std.specs.Float.Ieee.Fits.{and_l, and_r, down_pos}
use Rattle.algebra.specs.Ring.{con, ◌:*◌, ◌≈◌, ◌⊩◌, ◌times◌≼◌}
use Rattle.algebra.proofs.Ring.{ring, below}
use Rattle.algebra.specs.Order.{lt_or_le, eq_compare, scaled_compare}
use Rattle.rounding.specs.Cut.{value, infinity, rounded}
use Rattle.rounding.proofs.Value.{value_small}
use Rattle.rounding.specs.Laws.{Number, found}
use Rattle.root.specs.Root.{root_of, root}
use Rattle.root.proofs.Laws.{root_number}
use Rattle.scaling.specs.Near.{size_above}
use Rattle.scaling.specs.Units.{Is, form}
use Rattle.scaling.specs.Kind.{Kind, In, last}
use Rattle.scaling.proofs.Kind.{and₃}
use Rattle.scaling.proofs.Last.{pow_le, is_under, digits_of, last_grain}
use Rattle.scaling.specs.Rounded.{units_of, rounded_is, value_power, value_below, value_infinity, compare_weaker, units_mono}
use Rattle.scaling.specs.Rounded.{units_exact, units_scale}
use Rattle.scaling.specs.Two.{Two}
use Rattle.scaling.specs.Root.{root_k, root_ok, root_units}

-- two fractions that are one number have one root
pub same_root : (p q r s : ℕ) → 0 < q → 0 < s → p * s ≡ r * q → root_of p q ≡ root_of r s
same_root p q r s Q S h = fun_ext (λ a. fun_ext (λ b. at a b))
  where
    left : (a q s : ℕ) → a * a * q * s ≡ a * a * s * q
    left = ring 3 (λ a q s. a :* a :* q :* s ≈ a :* a :* s :* q) tt

    right : (p q r s b : ℕ) → p * s ≡ r * q → p * (b * b) * s ≡ r * (b * b) * q
    right = ring 5 (λ p q r s b. (b :* b times p :* s ≼ r :* q) ∷ [] ⊩ p :* (b :* b) :* s ≈ r :* (b :* b) :* q) tt

    at : (a b : ℕ) → root_of p q a b ≡ root_of r s a b
    at a b =
        sym (scaled_compare (a * a * q) (p * (b * b)) s S)
        ∙ ap₂ compare (left a q s) (right p q r s b h)
        ∙ scaled_compare (a * a * s) (r * (b * b)) q Q

number_of : (n : ℕ) → Number (root_of n (2 ^ 1074))
number_of n = root_number n (2 ^ 1074) (pow_pos 1074)

pub root_mono : (m n : ℕ) → m ≤ n → root_units m ≤ root_units n
unfolding root_units
root_mono m n h =
    units_mono (root_of m (2 ^ 1074)) (root_of n (2 ^ 1074)) (number_of n)
    (λ a.
    compare_weaker (a * a * 2 ^ 1074) (m * (2 ^ 1075 * 2 ^ 1075)) (a * a * 2 ^ 1074) (n * (2 ^ 1075 * 2 ^ 1075))
    (le_refl (a * a * 2 ^ 1074))
    (mul-le-mul_right (2 ^ 1075 * 2 ^ 1075) h))

pub root_none : root_units 0 ≡ 0
unfolding root_units
root_none = units_exact (root_of 0 (2 ^ 1074)) (number_of 0) 0 (zero-lt-suc _) none ∙ value_small 0 (omega arith)
  where
    none : root_of 0 (2 ^ 1074) (2 * value 0) (2 ^ 1075) ≡ Ordering.eq
    none = ap (λ (z : ℕ). root_of 0 (2 ^ 1074) (2 * z) (2 ^ 1075)) (value_small 0 (omega arith))

four : (t : ℕ) → 2 ^ (2 * t) ≡ 2 ^ t * 2 ^ t
four t = ap (λ z. 2 ^ z) (let q : 2 * t ≡ t + t = omega arith in q) ∙ pow-add 2 t t

-- the pattern of 2 ^ (537 + j) units
abbrev power_of_two : ℕ → ℕ
power_of_two j = (485 + j) * 2 ^ 52 + 2 ^ 52

pub root_at : (j : ℕ) → j ≤ 1049 → root_units (2 ^ (2 * j)) ≡ 2 ^ (537 + j)
unfolding root_units
root_at j h =
    units_exact (root_of (2 ^ (2 * j)) (2 ^ 1074)) (number_of (2 ^ (2 * j))) (power_of_two j)
    (let r : power_of_two j < infinity = omega arith in r) exact
    ∙ worth
  where
    worth : value (power_of_two j) ≡ 2 ^ (537 + j)
    worth = value_power (485 + j) ∙ ap (λ (z : ℕ). 2 ^ z) (let r : 52 + (485 + j) ≡ 537 + j = omega arith in r)

    square : (w : ℕ) → 2 * (2 ^ 537 * w) * (2 * (2 ^ 537 * w)) * 2 ^ 1074 ≡ w * w * (2 ^ 1075 * 2 ^ 1075)
    square =
        ring 1 (λ w.
        con 2 :* (con (2 ^ 537) :* w) :* (con 2 :* (con (2 ^ 537) :* w)) :* con
        (2 ^ 1074) ≈ w :* w :* (con (2 ^ 1075) :* con (2 ^ 1075))) tt

    exact : root_of (2 ^ (2 * j)) (2 ^ 1074) (2 * value (power_of_two j)) (2 ^ 1075) ≡ Ordering.eq
    exact =
        let w = 2 ^ j in
        let e : value (power_of_two j) ≡ 2 ^ 537 * w = worth ∙ pow-add 2 537 j in
        ap₂ (λ (p z : ℕ). root_of p (2 ^ 1074) (2 * z) (2 ^ 1075)) (four j) e
        ∙ eq_compare (2 * (2 ^ 537 * w) * (2 * (2 ^ 537 * w)) * 2 ^ 1074) (w * w * (2 ^ 1075 * 2 ^ 1075)) (square w)

-- the root of a float is far from overflow
root_under : (n : ℕ) → n ≤ 2 ^ 2098 → root_units n < 2 ^ 2098
root_under n h =
    lt_of_le_of_lt (root_mono n (2 ^ 2098) h)
    (lt_of_le_of_lt (le_of_eq (root_at 1049 (le_refl 1049))) (pow-lt (let r : 537 + 1049 < 2098 = omega arith in r)))

root_found : (n : ℕ) → n ≤ 2 ^ 2098 → found (root_of n (2 ^ 1074)) < infinity
unfolding root_units units_of
root_found n h = value_below (found (root_of n (2 ^ 1074))) infinity
    (lt_of_lt_of_le (root_under n h) (le_of_eq (sym value_infinity)))

pub root_scale : (n t : ℕ) → n * 2 ^ (2 * t) ≤ 2 ^ 2098 → root_units (n * 2 ^ (2 * t)) ≡ root_units n * 2 ^ t
unfolding root_units
root_scale n t h =
    elim (eq-zero-or-pos n) [
      | inl z ↦
          ap root_units (ap (λ i. i * 2 ^ (2 * t)) z ∙ zero-mul (2 ^ (2 * t)))
          ∙ root_none
          ∙ sym (zero-mul (2 ^ t))
          ∙ ap (λ i. i * 2 ^ t) (sym (ap root_units z ∙ root_none))
      | inr p ↦
          units_scale (root_of n (2 ^ 1074)) (root_of (n * 2 ^ (2 * t)) (2 ^ 1074)) (number_of n)
          (number_of (n * 2 ^ (2 * t))) t shift (big p)
          (root_found (n * 2 ^ (2 * t)) h)
    ]
  where
    shift : (a : ℕ) → root_of (n * 2 ^ (2 * t)) (2 ^ 1074) (a * 2 ^ t) (2 ^ 1075) ≡ root_of n (2 ^ 1074) a (2 ^ 1075)
    shift a =
        let w = 2 ^ t in
        ap₂ compare
        (ring 3 (λ a w l. a :* w :* (a :* w) :* l ≈ a :* a :* l :* (w :* w)) tt a w (2 ^ 1074))
        (ap (λ (z : ℕ). n * z * (2 ^ 1075 * 2 ^ 1075)) (four t)
        ∙ ring 3 (λ n w b. n :* (w :* w) :* b ≈ n :* b :* (w :* w)) tt n w (2 ^ 1075 * 2 ^ 1075))
        ∙ scaled_compare (a * a * 2 ^ 1074) (n * (2 ^ 1075 * 2 ^ 1075)) (w * w) (mul-pos (pow_pos t) (pow_pos t))

    big : 0 < n → T (is_le (root_of n (2 ^ 1074) (2 ^ 53) (2 ^ 1075)))
    big p =
        le→leb (2 ^ 53 * 2 ^ 53 * 2 ^ 1074) (n * (2 ^ 1075 * 2 ^ 1075))
        (below 1 (λ n. (con (2 ^ 1180) times con 1 ≼ n) ∷ [] ⊩ con (2 ^ 1180) ≈ n :* con (2 ^ 2150)) tt n p)

-- ---- the root of a float
pub root_value : {x : Float} {n : ℕ} → Is binary64 x false n → Is binary64 (root x) false (root_units n)
root_value {x} {n} X =
    let r = form X in
    subst (λ z. Is binary64 (root z) false (root_units n)) (sym r.is)
    (go r.m r.e r.units (subst (λ z. Is binary64 z false n) r.is X))
  where
    keeps : (e : ℤ) → root (fin false 0 e) ≡ fin false 0 e
    keeps e = unfold root in refl

    rounds : (m : ℕ) (e : ℤ) → root (fin false (suc m) e) ≡ rounded (root_of (suc m * up e) (down e))
    rounds m e = unfold root in refl

    opened : (n : ℕ) → units_of (root_of n (2 ^ 1074)) ≡ root_units n
    opened n = unfold root_units in refl

    go : (m : ℕ) (e : ℤ) → m * up e * 2 ^ 1074 ≡ n * down e → Is binary64 (fin false m e) false n
        → Is binary64 (root (fin false m e)) false (root_units n)
    go zero e u X' =
        let z : n ≡ 0 =
        eq_of_mul-eq-mul_right (down e) (down_pos e) n 0
        (sym u ∙ ring 3 (λ u l d. con 0 :* u :* l ≈ con 0 :* d) tt (up e) (2 ^ 1074) (down e)) in
        subst₂ (λ x i. Is binary64 x false i) (sym (keeps e)) (z ∙ sym (ap root_units z ∙ root_none)) X'
    go (suc m) e u X' =
        let h : n ≤ 2 ^ 2098 = le_of_lt (is_under X') in
        subst₂ (λ x i. Is binary64 x false i)
        (sym (rounds m e ∙ ap rounded (same_root (suc m * up e) (down e) n (2 ^ 1074) (down_pos e) (pow_pos 1074) u)))
        (opened n)
        (rounded_is (root_of n (2 ^ 1074)) (root_found n h))

pub positive_size : (n : ℕ) → 0 < n → 0 < size n
positive_size n h = size_above n 0 h

root_from : (lo m : ℕ) → 0 < lo → lo ≤ m → m ≤ 2 ^ 2098 → 2 ^ (537 + (size lo - 1) / 2) ≤ root_units m
root_from lo m p l b =
    let z = size lo in
    let j : ℕ = (z - 1) / 2 in
    let Z : 0 < z = positive_size lo p in
    let i : z - 1 < z = omega arith in
    let J : 2 * j ≤ z - 1 = omega arith in
    let r = le_trans (size_reaches lo (z - 1) i) l in
    let k : z - 1 ≤ 2098 = pow_le (z - 1) 2098 (le_trans r b) in
    le_trans (le_of_eq (sym (root_at j (let q : j ≤ 1049 = omega arith in q))))
    (root_mono (2 ^ (2 * j)) m (le_trans (pow_mono J) r))

root_to : (hi m : ℕ) → m ≤ hi → hi ≤ 2 ^ 2098 → root_units m ≤ 2 ^ (537 + (size (hi - 1) + 1) / 2)
root_to hi m l b =
    let z = size (hi - 1) in
    let j : ℕ = (z + 1) / 2 in
    let J : z ≤ 2 * j = omega arith in
    let s = size-lt (hi - 1) in
    let c : m ≤ 2 ^ z = whole m hi (2 ^ z) l s in
    let k : z ≤ 2098 = size-le (hi - 1) 2098 (less hi (2 ^ 2098) (pow_pos 2098) b) in
    le_trans (root_mono m (2 ^ (2 * j)) (le_trans c (pow_mono J))) (le_of_eq (root_at j (let q : j ≤ 1049 = omega arith in q)))
  where
    whole : (m hi p : ℕ) → m ≤ hi → hi - 1 < p → m ≤ p
    whole m hi p h k = omega arith

    less : (hi p : ℕ) → 0 < p → hi ≤ p → hi - 1 < p
    less hi p h k = omega arith

root_in : {A : Kind} {m : ℕ} → T (ltb 0 A.lo) → T (leb A.hi (2 ^ 2098)) → In A false m → In (root_k A) false (root_units m)
unfolding root_k
root_in {A} {m} lo hi a =
    let h = leb→le A.hi (2 ^ 2098) hi in
    record {
      sign = λ t. refl;
      from =
          elim a.from [
            | inl x ↦ inl (x.0, ap root_units x.1 ∙ root_none)
            | inr l ↦ inr (root_from A.lo m (ltb→lt 0 A.lo lo) l (le_trans a.to h))
          ];
      to = root_to A.hi m a.to h;
    }

-- ---- in two runs
-- n is m times 4 ^ c, with a common power beside both
root_up : (m n d c : ℕ) → n ≤ 2 ^ 2098 → n * 2 ^ (2 * d) ≡ m * 2 ^ (2 * (d + c)) → root_units n * 2 ^ d ≡ root_units m * 2 ^ (d + c)
root_up m n d c h e =
    let q : 2 * (d + c) ≡ 2 * c + 2 * d = omega arith in
    let s : n ≡ m * 2 ^ (2 * c) =
    eq_of_mul-eq-mul_right (2 ^ (2 * d)) (pow_pos (2 * d)) n (m * 2 ^ (2 * c))
    (e ∙ ap (λ (z : ℕ). m * 2 ^ z) q ∙ ap (λ (z : ℕ). m * z) (pow-add 2 (2 * c) (2 * d))
    ∙ sym (mul_assoc m (2 ^ (2 * c)) (2 ^ (2 * d)))) in
    ap (λ (z : ℕ). z * 2 ^ d) (ap root_units s ∙ root_scale m c (subst (λ (z : ℕ). z ≤ 2 ^ 2098) s h))
    ∙ mul_assoc (root_units m) (2 ^ c) (2 ^ d)
    ∙ ap (λ (z : ℕ). root_units m * z) (sym (pow-add 2 c d) ∙ ap (λ (z : ℕ). 2 ^ z) (let r : c + d ≡ d + c = omega arith in r))

root_tie : (m n d u : ℕ) → m ≤ 2 ^ 2098 → n ≤ 2 ^ 2098 → n * 2 ^ (2 * d) ≡ m * 2 ^ (2 * u)
    → root_units n * 2 ^ d ≡ root_units m * 2 ^ u
root_tie m n d u M N e =
    elim (lt_or_le u d) [
      | inl l ↦
          let f : d ≡ u + (d - u) = omega arith in
          sym (subst (λ (z : ℕ). root_units m * 2 ^ u ≡ root_units n * 2 ^ z) (sym f)
          (root_up n m u (d - u) M (subst (λ (z : ℕ). m * 2 ^ (2 * u) ≡ n * 2 ^ (2 * z)) f (sym e))))
      | inr l ↦
          let f : u ≡ d + (u - d) = omega arith in
          subst (λ (z : ℕ). root_units n * 2 ^ d ≡ root_units m * 2 ^ z) (sym f)
          (root_up m n d (u - d) N (subst (λ (z : ℕ). n * 2 ^ (2 * d) ≡ m * 2 ^ (2 * z)) f e))
    ]

half : (k w : ℕ) → w ≡ 2 * (w / 2) → 2 ^ (k * w) ≡ 2 ^ (2 * (k * (w / 2)))
half k w e = ap (λ z. 2 ^ (k * z)) e ∙ ap (λ z. 2 ^ z) (let r : k * (2 * (w / 2)) ≡ 2 * (k * (w / 2)) = omega arith in r)

pub root_two : {k : ℕ} {A : Kind} {x y : Float} → Two binary64 k A x y → T (root_ok A) → Two binary64 k (root_k A) (root x) (root y)
unfolding root_k root_ok
root_two {k} {A} {x} {y} a ok =
    let b = not A.any && ltb 0 A.lo && leb A.hi (2 ^ 2098) in
    let w = eqb A.u (2 * (A.u / 2)) && eqb A.d (2 * (A.d / 2)) in
    let o = and₃ (not A.any) (ltb 0 A.lo) (leb A.hi (2 ^ 2098)) (and_l b w ok) in
    let s : a.s ≡ false = a.in_first.sign o.0 in
    let U = eqb→eq A.u (2 * (A.u / 2)) (and_l (eqb A.u (2 * (A.u / 2))) (eqb A.d (2 * (A.d / 2))) (and_r b w ok)) in
    let D = eqb→eq A.d (2 * (A.d / 2)) (and_r (eqb A.u (2 * (A.u / 2))) (eqb A.d (2 * (A.d / 2))) (and_r b w ok)) in
    let p = root_value (subst (λ z. Is binary64 x z a.m) s a.first) in
    let q = root_value (subst (λ z. Is binary64 y z a.n) s a.second) in
    let i = root_in o.1 o.2 (subst (λ z. In A z a.m) s a.in_first) in
    let j = root_in o.1 o.2 (subst (λ z. In A z a.n) s a.in_second) in
    record {
      s = false;
      m = root_units a.m;
      n = root_units a.n;
      first = p;
      second = q;
      in_first = i;
      in_second = j;
      grain = last_grain i (digits_of p);
      grain_second = last_grain j (digits_of q);
      tie =
          root_tie a.m a.n (k * (A.d / 2)) (k * (A.u / 2)) (le_of_lt (is_under a.first))
          (le_of_lt (is_under a.second))
          (ap (λ z. a.n * z) (sym (half k A.d D)) ∙ a.tie ∙ ap (λ z. a.m * z) (half k A.u U));
    }
