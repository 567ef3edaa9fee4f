-- The rule of `Two` for the power -3/2 of a float above zero. On units the power is `power_units`: it turns the order round, takes
-- 4 ^ j units to 2 ^ (2685 - 3 j), and 4 ^ t goes through it as 8 ^ -t while the result is normal.
use Rattle.std.specs.Prelude.{◌≡◌, Bool, false, not, ◌&&◌, [], ◌∷◌, ℤ, T, ltb, leb, eqb, Float}
use Rattle.std.proofs.Math.Path.{refl}
use Rattle.std.proofs.Common.{sym, ap, ap₂, ◌∙◌, subst, subst₂, inr, le_refl, le_trans, le_of_eq, lt_of_lt_of_le, lt_of_le_of_lt, lt_irrefl, mul-zero, mul-one, mul-pos, mul-le-mul, mul-le-mul_left, arith, ltb→lt, leb→le, le→leb, eqb→eq, pow-add, pow_mono, pow_pos}
use Prim.Native.Nat.{Ordering}
use Prim.Native.Nat.{ℕ, zero, suc, ◌+◌, ◌-◌, ◌*◌, ◌/◌, ◌^◌, ◌≤◌, ◌<◌, compare}
use Rattle.std.proofs.Math.Nat.{eq_of_mul-eq-mul_right}
use Rattle.std.proofs.Math.Dec.{is_le}
use Rattle.std.proofs.Math.Pow.{pow-lt}
use Rattle.std.specs.Float.{fin, binary64}
use Rattle.std.specs.Float.Ieee.{up, down, size}
use Rattle.std.specs.Float.Ieee.Digits.{size-lt, size_reaches}
use Rattle.std.specs.Float.Ieee.Fits.{and_l, and_r, down_pos}
use Rattle.algebra.specs.Ring.{con, ◌:*◌, ◌≈◌, ◌⊩◌, ◌times◌≼◌}
use Rattle.algebra.proofs.Ring.{ring}
use Rattle.algebra.specs.Order.{eq_compare}
use Rattle.rounding.specs.Cut.{value, infinity, rounded}
use Rattle.rounding.specs.Laws.{Number, found}
use Rattle.power.specs.Power.{cube, power_of, power}
use Rattle.power.specs.Laws.{power_number, same_power}
use Rattle.scaling.specs.Units.{Is, form}
use Rattle.scaling.specs.Kind.{Kind, In, floor, last}
use Rattle.scaling.proofs.Kind.{solid, and₃}
use Rattle.scaling.proofs.Last.{digits_of, last_grain}
use Rattle.scaling.specs.Rounded.{units_of, rounded_is, value_power, value_below, value_infinity, compare_weaker, units_mono}
use Rattle.scaling.specs.Rounded.{units_exact, units_scale}
use Rattle.scaling.specs.Two.{Two}
use Rattle.scaling.proofs.Root.{positive_size}
use Rattle.scaling.specs.Power.{power_fits, power_k, power_ok, power_units}

number_of : (n : ℕ) → 0 < n → Number (power_of n (2 ^ 1074))
number_of n h = power_number n (2 ^ 1074) h

-- what a square times a cube is compared with: 1, in these units
abbrev whole : ℕ
whole = cube (2 ^ 1074) * (2 ^ 1075 * 2 ^ 1075)

pub power_anti : (m n : ℕ) → 0 < m → m ≤ n → power_units n ≤ power_units m
unfolding power_units
power_anti m n M h =
    units_mono (power_of n (2 ^ 1074)) (power_of m (2 ^ 1074)) (number_of m M)
    (λ a. compare_weaker (a * a * cube n) whole (a * a * cube m) whole (mul-le-mul_left (a * a) (mul-le-mul (mul-le-mul h h) h))
    (le_refl whole))

-- the pattern of 2 ^ (52 + i) units
abbrev power_of_two : ℕ → ℕ
power_of_two i = i * 2 ^ 52 + 2 ^ 52

pub power_at : (j : ℕ) → 3 * j + 52 ≤ 2685 → 588 ≤ 3 * j → power_units (2 ^ (2 * j)) ≡ 2 ^ (2685 - 3 * j)
unfolding power_units
power_at j h g =
    units_exact (power_of (2 ^ (2 * j)) (2 ^ 1074)) (number_of (2 ^ (2 * j)) (pow_pos (2 * j))) (power_of_two (2633 - 3 * j))
    (let r : power_of_two (2633 - 3 * j) < infinity = omega arith in r) exact
    ∙ worth
  where
    worth : value (power_of_two (2633 - 3 * j)) ≡ 2 ^ (2685 - 3 * j)
    worth = value_power (2633 - 3 * j) ∙ ap (λ (z : ℕ). 2 ^ z) (let r : 52 + (2633 - 3 * j) ≡ 2685 - 3 * j = omega arith in r)

    exact : power_of (2 ^ (2 * j)) (2 ^ 1074) (2 * value (power_of_two (2633 - 3 * j))) (2 ^ 1075) ≡ Ordering.eq
    exact =
        let w = 2 ^ j in
        let p = 2 ^ (2685 - 3 * j) in
        let f : 2 ^ (2 * j) ≡ w * w = ap (λ z. 2 ^ z) (let q : 2 * j ≡ j + j = omega arith in q) ∙ pow-add 2 j j in
        let q : 2685 - 3 * j + (j + (j + j)) ≡ 2685 = omega arith in
        let e : p * (w * (w * w)) ≡ 2 ^ 2685 =
        ap (λ (z : ℕ). p * (w * z)) (sym (pow-add 2 j j)) ∙ ap (λ (z : ℕ). p * z) (sym (pow-add 2 j (j + j)))
        ∙ sym (pow-add 2 (2685 - 3 * j) (j + (j + j))) ∙ ap (λ (z : ℕ). 2 ^ z) q in
        ap₂ (λ (n z : ℕ). power_of n (2 ^ 1074) (2 * z) (2 ^ 1075)) f worth
        ∙ eq_compare (2 * p * (2 * p) * cube (w * w)) whole (one p w e)
      where
        one : (p w : ℕ) → p * (w * (w * w)) ≡ 2 ^ 2685 → 2 * p * (2 * p) * cube (w * w) ≡ whole
        one p w e =
            ring 2 (λ p w.
            (con 4 :* p :* w :* w :* w times p :* (w :* (w :* w)) ≼ con (2 ^ 2685)) ∷
            (con (2 ^ 2687) times p :* (w :* (w :* w)) ≼ con (2 ^ 2685)) ∷ []
            ⊩ con 2 :* p :* (con 2 :* p) :* (w :* w :* (w :* w) :* (w :* w)) ≈ con (2 ^ 5372)) tt p w e e

-- the exact power is normal, at no more than 4 ^ j units
power_normal : (n j : ℕ) → n ≤ 2 ^ (2 * j) → 3 * j + 52 ≤ 2685 → T (is_le (power_of n (2 ^ 1074) (2 ^ 53) (2 ^ 1075)))
power_normal n j h g =
    le→leb (2 ^ 53 * 2 ^ 53 * cube n) whole
    (le_trans (mul-le-mul_left (2 ^ 106) (mul-le-mul (mul-le-mul h h) h))
    (le_trans (le_of_eq (ap (λ (z : ℕ). 2 ^ 106 * z) (cubed j) ∙ sym (pow-add 2 106 (6 * j))))
    (pow_mono (let r : 106 + 6 * j ≤ 5372 = omega arith in r))))
  where
    cubed : (j : ℕ) → cube (2 ^ (2 * j)) ≡ 2 ^ (6 * j)
    cubed j =
        ap (λ (z : ℕ). z * 2 ^ (2 * j)) (sym (pow-add 2 (2 * j) (2 * j)))
        ∙ sym (pow-add 2 (2 * j + 2 * j) (2 * j))
        ∙ ap (λ (z : ℕ). 2 ^ z) (let r : 2 * j + 2 * j + 2 * j ≡ 6 * j = omega arith in r)

power_found : (n : ℕ) → power_units n < 2 ^ 2098 → found (power_of n (2 ^ 1074)) < infinity
unfolding power_units units_of
power_found n h = value_below (found (power_of n (2 ^ 1074))) infinity (lt_of_lt_of_le h (le_of_eq (sym value_infinity)))

pub power_scale : (n t j : ℕ) → 0 < n → n * 2 ^ (2 * t) ≤ 2 ^ (2 * j) → 3 * j + 52 ≤ 2685 → power_units n < 2 ^ 2098
    → power_units (n * 2 ^ (2 * t)) * 2 ^ (3 * t) ≡ power_units n
unfolding power_units
power_scale n t j N h g top =
    sym
    (units_scale (power_of (n * 2 ^ (2 * t)) (2 ^ 1074)) (power_of n (2 ^ 1074))
    (number_of (n * 2 ^ (2 * t)) (mul-pos N (pow_pos (2 * t))))
    (number_of n N) (3 * t)
    shift (power_normal (n * 2 ^ (2 * t)) j h g) (power_found n top))
  where
    six : (t : ℕ) → 2 ^ (3 * t) * 2 ^ (3 * t) ≡ cube (2 ^ (2 * t))
    six t =
        sym (pow-add 2 (3 * t) (3 * t))
        ∙ ap (λ (z : ℕ). 2 ^ z) (let r : 3 * t + 3 * t ≡ 2 * t + 2 * t + 2 * t = omega arith in r)
        ∙ pow-add 2 (2 * t + 2 * t) (2 * t)
        ∙ ap (λ (z : ℕ). z * 2 ^ (2 * t)) (pow-add 2 (2 * t) (2 * t))

    shift : (a : ℕ) → power_of n (2 ^ 1074) (a * 2 ^ (3 * t)) (2 ^ 1075) ≡ power_of (n * 2 ^ (2 * t)) (2 ^ 1074) a (2 ^ 1075)
    shift a =
        ap (λ (z : ℕ). compare z whole)
        (ring 4 (λ a w n q.
        (a :* a :* n :* n :* n times w :* w ≼ q :* q :* q) ∷ []
        ⊩ a :* w :* (a :* w) :* (n :* n :* n) ≈ a :* a :* (n :* q :* (n :* q) :* (n :* q))) tt a (2 ^ (3 * t)) n (2 ^ (2 * t))
        (six t))

-- ---- the power of a float above zero
pub power_value : {x : Float} {n : ℕ} → Is binary64 x false n → 0 < n → power_units n < 2 ^ 2098
    → Is binary64 (power x) false (power_units n)
power_value {x} {n} X N top = let r = form X in subst (λ z. Is binary64 (power z) false (power_units n)) (sym r.is)
    (go r.m r.e r.units)
  where
    rounds : (m : ℕ) (e : ℤ) → power (fin false (suc m) e) ≡ rounded (power_of (suc m * up e) (down e))
    rounds m e = unfold power in refl

    opened : (n : ℕ) → units_of (power_of n (2 ^ 1074)) ≡ power_units n
    opened n = unfold power_units in refl

    go : (m : ℕ) (e : ℤ) → m * up e * 2 ^ 1074 ≡ n * down e → Is binary64 (power (fin false m e)) false (power_units n)
    go zero e u =
        let z : n ≡ 0 =
        eq_of_mul-eq-mul_right (down e) (down_pos e) n 0
        (sym u ∙ ring 3 (λ u l d. con 0 :* u :* l ≈ con 0 :* d) tt (up e) (2 ^ 1074) (down e)) in
        absurd (lt_irrefl 0 (subst (λ (i : ℕ). 0 < i) z N))
    go (suc m) e u =
        let v = power_of n (2 ^ 1074) in
        subst₂ (λ x i. Is binary64 x false i)
        (sym (rounds m e ∙ ap rounded (same_power (suc m * up e) (down e) n (2 ^ 1074) (down_pos e) (pow_pos 1074) u)))
        (opened n) (rounded_is v (power_found n top))

-- ---- the kind of a power: between the powers of powers of four
-- the powers of four around a number
abbrev under : ℕ → ℕ
under n = (size n - 1) / 2

abbrev over : ℕ → ℕ
over n = (size (n - 1) + 1) / 2

fits_low : (j : ℕ) → T (power_fits j) → 588 ≤ 3 * j
fits_low j t = leb→le 588 (3 * j) (and_l (leb 588 (3 * j)) (leb (3 * j + 52) 2685) t)

fits_high : (j : ℕ) → T (power_fits j) → 3 * j + 52 ≤ 2685
fits_high j t = leb→le (3 * j + 52) 2685 (and_r (leb 588 (3 * j)) (leb (3 * j + 52) 2685) t)

power_to : (lo m : ℕ) → 0 < lo → lo ≤ m → T (power_fits (under lo)) → power_units m ≤ 2 ^ (2685 - 3 * under lo)
power_to lo m p l t =
    let z = size lo in
    let j : ℕ = under lo in
    let Z : 0 < z = positive_size lo p in
    let i : z - 1 < z = omega arith in
    let J : 2 * j ≤ z - 1 = omega arith in
    le_trans (power_anti (2 ^ (2 * j)) m (pow_pos (2 * j)) (le_trans (pow_mono J) (le_trans (size_reaches lo (z - 1) i) l)))
    (le_of_eq (power_at j (fits_high j t) (fits_low j t)))

four_above : (hi m : ℕ) → m ≤ hi → m ≤ 2 ^ (2 * over hi)
four_above hi m l =
    let z = size (hi - 1) in
    let J : z ≤ 2 * over hi = omega arith in
    le_trans (whole_le m hi (2 ^ z) l (size-lt (hi - 1))) (pow_mono J)
  where
    whole_le : (m hi p : ℕ) → m ≤ hi → hi - 1 < p → m ≤ p
    whole_le m hi p h k = omega arith

power_from : (hi m : ℕ) → 0 < m → m ≤ hi → T (power_fits (over hi)) → 2 ^ (2685 - 3 * over hi) ≤ power_units m
power_from hi m p l t =
    le_trans (le_of_eq (sym (power_at (over hi) (fits_high (over hi) t) (fits_low (over hi) t))))
    (power_anti m (2 ^ (2 * over hi)) p (four_above hi m l))

power_in : (A : Kind) {m : ℕ} → 0 < A.lo → A.lo ≤ m → m ≤ A.hi → T (power_fits (under A.lo)) → T (power_fits (over A.hi))
    → In (power_k A) false (power_units m)
unfolding power_k
power_in A {m} z l h q r = record {
  sign = λ t. refl;
  from = inr (power_from A.hi m (lt_of_lt_of_le z l) h r);
  to = power_to A.lo m z l q;
}

-- what is at most 2 ^ (2685 - 3 j) does not overflow
no_overflow : (j m : ℕ) → T (power_fits j) → m ≤ 2 ^ (2685 - 3 * j) → m < 2 ^ 2098
no_overflow j m t h = let g = fits_low j t in lt_of_le_of_lt h (pow-lt (let r : 2685 - 3 * j < 2098 = omega arith in r))

pub power_two : {k : ℕ} {A : Kind} {x y : Float} → Two binary64 k A x y → T (power_ok A)
    → Two binary64 k (power_k A) (power x) (power y)
unfolding power_k power_ok
power_two {k} {A} {x} {y} a ok =
    let f₁ = power_fits (under A.lo) in
    let f₂ = power_fits (over A.hi) in
    let o = and₃ (not A.any && ltb 0 (floor A)) (eqb A.u (2 * (A.u / 2)) && eqb A.d 0) (f₁ && f₂) ok in
    let q = and_l f₁ f₂ o.2 in
    let r = and_r f₁ f₂ o.2 in
    let s : a.s ≡ false = a.in_first.sign (and_l (not A.any) (ltb 0 (floor A)) o.0) in
    let fl = ltb→lt 0 (floor A) (and_r (not A.any) (ltb 0 (floor A)) o.0) in
    let l = solid a.in_first fl in
    let l' = solid a.in_second fl in
    let M = lt_of_lt_of_le l.0 l.1 in
    let N = lt_of_lt_of_le l'.0 l'.1 in
    let i = power_in A l.0 l.1 a.in_first.to q r in
    let j = power_in A l.0 l'.1 a.in_second.to q r in
    let top = no_overflow (under A.lo) (power_units a.m) q (power_to A.lo a.m l.0 l.1 q) in
    let top' = no_overflow (under A.lo) (power_units a.n) q (power_to A.lo a.n l.0 l'.1 q) in
    let p = power_value (subst (λ z. Is binary64 x z a.m) s a.first) M top in
    let p' = power_value (subst (λ z. Is binary64 y z a.n) s a.second) N top' in
    let e = times_four k A.u A.d a.m a.n o.1 a.tie in
    record {
      s = false;
      m = power_units a.m;
      n = power_units a.n;
      first = p;
      second = p';
      in_first = i;
      in_second = j;
      grain = last_grain i (digits_of p);
      grain_second = last_grain j (digits_of p');
      tie = tied k (A.u / 2) a.m a.n (over A.hi) M e (four_above A.hi a.n a.in_second.to)
          (fits_high (over A.hi) r) top;
    }
  where
    -- the second run's units are 4 ^ t times the first's
    times_four : (k u d m n : ℕ) → T (eqb u (2 * (u / 2)) && eqb d 0) → n * 2 ^ (k * d) ≡ m * 2 ^ (k * u)
        → n ≡ m * 2 ^ (2 * (k * (u / 2)))
    times_four k u d m n t e =
        let U = eqb→eq u (2 * (u / 2)) (and_l (eqb u (2 * (u / 2))) (eqb d 0) t) in
        let D = eqb→eq d 0 (and_r (eqb u (2 * (u / 2))) (eqb d 0) t) in
        sym (ap (λ z. n * 2 ^ (k * z)) D ∙ ap (λ z. n * 2 ^ z) (mul-zero k) ∙ mul-one n)
        ∙ e
        ∙ ap (λ z. m * 2 ^ z) (ap (λ z. k * z) U ∙ (let w : k * (2 * (u / 2)) ≡ 2 * (k * (u / 2)) = omega arith in w))

    tied : (k h m n j : ℕ) → 0 < m → n ≡ m * 2 ^ (2 * (k * h)) → n ≤ 2 ^ (2 * j) → 3 * j + 52 ≤ 2685 → power_units m < 2 ^ 2098
        → power_units n * 2 ^ (k * (3 * h)) ≡ power_units m * 2 ^ (k * 0)
    tied k h m n j M e l g top =
        ap (λ z. power_units n * 2 ^ z) (let w : k * (3 * h) ≡ 3 * (k * h) = omega arith in w)
        ∙ ap (λ z. power_units z * 2 ^ (3 * (k * h))) e
        ∙ power_scale m (k * h) j M (subst (λ z. z ≤ 2 ^ (2 * j)) e l) g top
        ∙ sym (ap (λ z. power_units m * 2 ^ z) (mul-zero k) ∙ mul-one (power_units m))
