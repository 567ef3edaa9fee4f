-- A float of lo units or more is a multiple of the last place that lo has. A sum of two multiples of a power of two is one too,
-- rounded or not, so it is zero or no less.
use Rattle.std.specs.Prelude.{◌≡◌, ◌⊎◌, ℕ, zero, suc, ◌+◌, ◌-◌, ◌*◌, ◌%◌, ◌^◌, ◌≤◌, ◌<◌, Bool, ◌&&◌, [], ◌∷◌, pos, negsuc, ltb, leb, eqb, Float}
use Rattle.std.proofs.Common.{sym, ◌∙◌, subst, inl, inr, lt_of_mul-lt-mul_right, mul-lt-mul_of_pos_right, lt_of_lt_of_le, mul_comm, le_trans, le_of_eq, lt_of_le_of_lt, not-le_of_lt, eq-zero-or-pos, zero-mul, one-mul, mul-one, mul_assoc, mul-le-mul_right, zero-lt-suc, arith, ltb→lt, leb→le, pow-add, pow_pos, shl_lt}
use Rattle.std.proofs.Math.Path.{ap}
use Rattle.std.proofs.Math.Nat.{eq_of_mul-eq-mul_right}
use Rattle.std.proofs.Math.Pow.{pow-lt}
use Rattle.std.specs.Float.{nan, inf, fin, Format}
use Rattle.std.specs.Float.Ieee.{prec, emax, low, up, down, size, fits}
use Rattle.std.specs.Float.Ieee.Digits.{size-lt, size-le, back}
use Rattle.std.specs.Float.Ieee.Fits.{and_r, down_pos}
use Rattle.std.specs.Float.Ieee.Scale.{overflow}
use Rattle.algebra.specs.Ring.{con, ◌:*◌, ◌≈◌, ◌⊩◌, ◌times◌≼◌}
use Rattle.algebra.proofs.Ring.{ring}
use Rattle.scaling.specs.Near.{near, digits, near_exact, near_zero_lem, near_whole, either}
use Rattle.scaling.specs.Cross.{add_n, add_n_cross}
use Rattle.scaling.specs.Units.{Is}
use Rattle.scaling.specs.Kind.{Kind, In, last}
use Rattle.scaling.proofs.Kind.{and₃, near_le}
use Rattle.scaling.specs.Last.{Digits, Multiple}

pub pow_le : (a b : ℕ) → 2 ^ a ≤ 2 ^ b → a ≤ b
pow_le a b h = elim (either a b) [ inl g ↦ g | inr g ↦ absurd (not-le_of_lt (pow-lt g) h) ]

pub digits_of : {f : Format} {x : Float} {s : Bool} {n : ℕ} → Is f x s n → Digits f n
unfolding fits
digits_of {x = nan} a = absurd a.val
digits_of {x = inf t} a = absurd a.val
digits_of {f} {x = fin t zero e} {n = n} a = record {
  M = 0;
  j = 0;
  is =
      eq_of_mul-eq-mul_right (down e) (down_pos e) n (0 * 1)
      (sym a.val.1 ∙ ring 3 (λ u l d. con 0 :* u :* l ≈ con 0 :* con 1 :* d) tt (up e) (2 ^ low f) (down e));
  small = pow_pos (prec f);
}
digits_of {f} {x = fin t (suc m) (pos k)} {n = n} a =
    let o = and₃ (eqb (suc m % 2) 1 && ltb (suc m) (2 ^ prec f)) (leb 1 (2 ^ low f)) (ltb (suc m * 2 ^ k) (2 ^ suc (emax f) * 1))
    a.fit in
    record {
      M = suc m;
      j = k + low f;
      is = sym (mul-one n) ∙ sym a.val.1 ∙ mul_assoc (suc m) (2 ^ k) (2 ^ low f)
          ∙ ap (λ z. suc m * z) (sym (pow-add 2 k (low f)));
      small = ltb→lt (suc m) (2 ^ prec f) (and_r (eqb (suc m % 2) 1) (ltb (suc m) (2 ^ prec f)) o.0);
    }
digits_of {f} {x = fin t (suc m) (negsuc k)} {n = n} a =
    let o =
    and₃ (eqb (suc m % 2) 1 && ltb (suc m) (2 ^ prec f)) (leb (2 ^ suc k) (2 ^ low f))
    (ltb (suc m * 1) (2 ^ suc (emax f) * 2 ^ suc k)) a.fit in
    let l : suc k ≤ low f = pow_le (suc k) (low f) (leb→le (2 ^ suc k) (2 ^ low f) o.1) in
    let e : 2 ^ (low f - suc k) * 2 ^ suc k ≡ 2 ^ low f = sym (pow-add 2 (low f - suc k) (suc k))
    ∙ ap (λ (x : ℕ). 2 ^ x) (back (low f) (suc k) l) in
    record {
      M = suc m;
      j = low f - suc k;
      is = eq_of_mul-eq-mul_right (2 ^ suc k) (pow_pos (suc k)) n (suc m * 2 ^ (low f - suc k))
          (sym a.val.1
          ∙ ring 4 (λ m l p q. (m times l ≼ p :* q) ∷ [] ⊩ m :* con 1 :* l ≈ m :* p :* q) tt (suc m) (2 ^ low f)
          (2 ^ (low f - suc k)) (2 ^ suc k)
          (sym e));
      small = ltb→lt (suc m) (2 ^ prec f) (and_r (eqb (suc m % 2) 1) (ltb (suc m) (2 ^ prec f)) o.0);
    }

-- the largest float is below 2 ^ (emax + 1)
pub is_under : {f : Format} {x : Float} {s : Bool} {n : ℕ} → Is f x s n → n < overflow f
unfolding fits
is_under {x = nan} a = absurd a.val
is_under {x = inf t} a = absurd a.val
is_under {f} {x = fin t zero e} {n = n} a =
    let none : n ≡ 0 =
    eq_of_mul-eq-mul_right (down e) (down_pos e) n 0
    (sym a.val.1 ∙ ring 3 (λ u l d. con 0 :* u :* l ≈ con 0 :* d) tt (up e) (2 ^ low f) (down e)) in
    subst (λ z. z < overflow f) (sym none) (pow_pos (low f + suc (emax f)))
is_under {f} {x = fin t (suc m) e} {n = n} a =
    let q =
    (and₃ (eqb (suc m % 2) 1 && ltb (suc m) (2 ^ prec f)) (leb (down e) (2 ^ low f))
    (ltb (suc m * up e) (2 ^ suc (emax f) * down e)) a.fit).2 in
    let e' : 2 ^ suc (emax f) * 2 ^ low f ≡ overflow f = mul_comm (2 ^ suc (emax f)) (2 ^ low f)
    ∙ sym (pow-add 2 (low f) (suc (emax f))) in
    lt_of_mul-lt-mul_right (down e)
    (lt_of_le_of_lt (le_of_eq (sym a.val.1))
    (lt_of_lt_of_le (mul-lt-mul_of_pos_right (ltb→lt (suc m * up e) (2 ^ suc (emax f) * down e) q) (pow_pos (low f)))
    (le_of_eq (ring 4 (λ b d l o. (d times b :* l ≼ o) ∷ [] ⊩ b :* d :* l ≈ o :* d) tt (2 ^ suc (emax f)) (down e) (2 ^ low f)
    (overflow f) e'))))

pub coarser : {n : ℕ} (g h : ℕ) → h ≤ g → Multiple g n → Multiple h n
coarser g h l a =
    record {
      c = a.c * 2 ^ (g - h);
      is = a.is ∙ ap (λ z. a.c * z) (ap (λ z. 2 ^ z) (sym (back g h l)) ∙ pow-add 2 (g - h) h)
          ∙ sym (mul_assoc a.c (2 ^ (g - h)) (2 ^ h));
    }

-- ---- a multiple of the last place of lo, for a lo that is no more than n
size_mono : (a b : ℕ) → a ≤ b → size a ≤ size b
size_mono a b h = size-le a (size b) (lt_of_le_of_lt h (size-lt b))

pub multiple : {f : Format} {n : ℕ} (lo : ℕ) → Digits f n → lo ≤ n → Multiple (last f lo) n
multiple {f} {n} lo D h =
    let j = D.j in
    let z : size n ≤ prec f + j = size-le n (prec f + j)
    (subst (λ z. z < 2 ^ (prec f + j)) (sym D.is) (shl_lt (prec f) j D.small)) in
    let z' : size lo ≤ size n = size_mono lo n h in
    let g : ℕ = last f lo in
    let l : g ≤ j = omega arith in
    coarser j g l (record { c = D.M; is = D.is })

pub last_grain : {f : Format} {K : Kind} {s : Bool} {m : ℕ} → In K s m → Digits f m → Multiple (last f K.lo) m
last_grain {f} {K} a D = elim
    a.from [ inl x ↦ record { c = 0; is = x.1 ∙ sym (zero-mul (2 ^ last f K.lo)) } | inr l ↦ multiple K.lo D l ]

-- ---- the sum of two multiples of 2 ^ g is zero or no less than that
module _ (f : Format) (s : Bool) (m : ℕ) (t : Bool) (n g : ℕ) (a : Multiple g m) (b : Multiple g n) where
  part : ℕ
  part = add_n s a.c t b.c

  parts : near f (add_n s m t n) 1 ≡ near f part 1 * 2 ^ g
  unfolding part
  parts =
      ap (λ z. near f z 1)
      (sym (mul-one (add_n s m t n))
      ∙ add_n_cross 1 (2 ^ g) m n a.c b.c (zero-lt-suc 0) (pow_pos g) (mul-one m ∙ a.is) (mul-one n ∙ b.is) s t)
      ∙ near_whole f part g

  pub sum_grain : Multiple g (near f (add_n s m t n) 1)
  sum_grain = record { c = near f part 1; is = parts }

  pub sum_from : (near f (add_n s m t n) 1 ≡ 0) ⊎ (2 ^ g ≤ near f (add_n s m t n) 1)
  sum_from =
      elim (eq-zero-or-pos part) [
        | inl z ↦ inl (parts ∙ ap (λ z. near f z 1 * 2 ^ g) z ∙ ap (λ z. z * 2 ^ g) (near_zero_lem f 1 (zero-lt-suc 0))
            ∙ zero-mul (2 ^ g))
        | inr h ↦
            inr (subst (λ z. 2 ^ g ≤ z) (sym parts)
            (le_trans (le_of_eq (sym (one-mul (2 ^ g))))
            (mul-le-mul_right (2 ^ g) (le_trans (le_of_eq (sym one)) (near_le f 1 (zero-lt-suc 0) h)))))
      ]
    where
      one : near f 1 1 ≡ 1
      one = near_exact f 1 0 1 (zero-lt-suc 0) (pow-lt (digits f))
