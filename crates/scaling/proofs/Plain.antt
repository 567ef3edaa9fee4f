-- From statements about floats alone to their units, and back: a float that fits has units, `le` is the order of units, and to be
-- a multiple by a power of two is said of fractions as of units.
use Rattle.std.specs.Prelude.{◌≡◌, refl, ℕ, zero, suc, ◌-◌, ◌*◌, ◌%◌, ◌^◌, ◌≤◌, Bool, true, false, ◌&&◌, ◌||◌, [], ◌∷◌, pos, negsuc, T, ltb, leb, eqb, Float}
use Rattle.std.proofs.Common.{sym, ap, ◌∙◌, subst, inl, inr, le_of_eq, le_of_lt, eq-or-lt_of_le, mul-one, mul-pos, ltb→lt, lt→ltb, leb→le, eqb→eq, pow-add, pow_pos}
use Rattle.std.proofs.Math.Nat.{eq_of_mul-eq-mul_right}
use Rattle.std.specs.Bool.{beq}
use Rattle.std.specs.Float.{nan, inf, fin, Format}
use Rattle.std.specs.Float.Ieee.{prec, emax, low, up, down, lt, eq, le, fits}
use Rattle.std.specs.Float.Ieee.Digits.{back}
use Rattle.std.specs.Float.Ieee.Fits.{and_i, and_l, and_r, eq→eqb}
use Rattle.std.specs.Float.Ieee.Scale.{finite}
use Rattle.std.specs.Float.Ieee.Positive.{num, den, den_pos, positive, positive-finite, between}
use Rattle.algebra.specs.Ring.{con, ◌:*◌, ◌≈◌, ◌⊩◌, ◌times◌≼◌}
use Rattle.algebra.proofs.Ring.{ring}
use Rattle.scaling.specs.Units.{Is, lt_units, eq_units}
use Rattle.scaling.specs.Kind.{Kind, In, last}
use Rattle.scaling.proofs.Kind.{and₃, or_cases, or_l, or_r}
use Rattle.scaling.proofs.Last.{pow_le}
use Rattle.scaling.specs.One.{sign, lit_n, lit_ok}
use Rattle.scaling.proofs.One.{lit_is}
use Rattle.scaling.specs.Plain.{Between, between_k, ends_ok}

-- ---- a finite float that fits has units
pub whole_units_of : (f : Format) (x : Float) → T (fits f x) → T (finite x) → (n : ℕ) × Is f x (sign x) n
unfolding fits
whole_units_of f nan h t = absurd t
whole_units_of f (inf s) h t = absurd t
whole_units_of f (fin s zero e) h
    t = (0, record { fit = h; val = (refl, ring 3 (λ u l d. con 0 :* u :* l ≈ con 0 :* d) tt (up e) (2 ^ low f) (down e)) })
whole_units_of f (fin s (suc m) (pos k)) h
    t = (suc m * 2 ^ k * 2 ^ low f, record { fit = h; val = (refl, sym (mul-one (suc m * 2 ^ k * 2 ^ low f))) })
whole_units_of f (fin s (suc m) (negsuc k)) h t =
    let o = and₃ (eqb (suc m % 2) 1 && ltb (suc m) (2 ^ prec f)) (leb (2 ^ suc k) (2 ^ low f))
    (ltb (suc m * 1) (2 ^ suc (emax f) * 2 ^ suc k)) h in
    let l : suc k ≤ low f = pow_le (suc k) (low f) (leb→le (2 ^ suc k) (2 ^ low f) o.1) in
    let e : 2 ^ (low f - suc k) * 2 ^ suc k ≡ 2 ^ low f =
    sym (pow-add 2 (low f - suc k) (suc k)) ∙ ap (λ (x : ℕ). 2 ^ x) (back (low f) (suc k) l) in (
      suc m * 2 ^ (low f - suc k),
      record {
        fit = h;
        val = (
          refl,
          ring 4 (λ m l p q. (m times l ≼ p :* q) ∷ [] ⊩ m :* con 1 :* l ≈ m :* p :* q) tt (suc m) (2 ^ low f)
              (2 ^ (low f - suc k)) (2 ^ suc k)
              (sym e),
        );
      },
    )

-- units as the fraction num / den
pub cross : {f : Format} {x : Float} {s : Bool} {n : ℕ} → Is f x s n → (num x * 2 ^ low f ≡ n * den x) × (sign x ≡ s)
cross {x = nan} a = absurd a.val
cross {x = inf t} a = absurd a.val
cross {x = fin t m e} a = (a.val.1, a.val.0)

pub is_finite : {f : Format} {x : Float} {s : Bool} {n : ℕ} → Is f x s n → T (finite x)
is_finite {x = nan} a = absurd a.val
is_finite {x = inf t} a = absurd a.val
is_finite {x = fin t m e} a = tt

-- ---- to units and from them
module _ {f : Format} {x y : Float} {s t : Bool} {m n : ℕ} (X : Is f x s m) (Y : Is f y t n) where
  -- y is x times 2 ^ u / 2 ^ d, said of the values as fractions, and said of the units
  pub times_units : (u d : ℕ) → num y * 2 ^ d * den x ≡ num x * 2 ^ u * den y → n * 2 ^ d ≡ m * 2 ^ u
  times_units u d h =
      eq_of_mul-eq-mul_right (den x * den y) (mul-pos (den_pos x) (den_pos y)) (n * 2 ^ d) (m * 2 ^ u)
      (ring 9 (λ n m p q l a b c e.
      (q :* c times n :* e ≼ b :* l) ∷ (l times b :* q :* c ≼ a :* p :* e) ∷ (p :* e times a :* l ≼ m :* c) ∷ []
      ⊩ n :* q :* (c :* e) ≈ m :* p :* (c :* e)) tt
      n m (2 ^ u) (2 ^ d) (2 ^ low f) (num x) (num y) (den x) (den y) (sym (cross Y).0) h (cross X).0)

  pub units_times : (u d : ℕ) → n * 2 ^ d ≡ m * 2 ^ u → num y * 2 ^ d * den x ≡ num x * 2 ^ u * den y
  units_times u d h =
      eq_of_mul-eq-mul_right (2 ^ low f) (pow_pos (low f)) (num y * 2 ^ d * den x) (num x * 2 ^ u * den y)
      (ring 9 (λ n m p q l a b c e.
      (q :* c times b :* l ≼ n :* e) ∷ (c :* e times n :* q ≼ m :* p) ∷ (p :* e times m :* c ≼ a :* l) ∷ []
      ⊩ b :* q :* c :* l ≈ a :* p :* e :* l) tt
      n m (2 ^ u) (2 ^ d) (2 ^ low f) (num x) (num y) (den x) (den y) (cross Y).0 h (sym (cross X).0))

pub le_units : {f : Format} {x y : Float} {m n : ℕ} → Is f x false m → Is f y false n → T (le x y) → m ≤ n
unfolding le
le_units {f} {x} {y} {m} {n} X Y h =
    elim (or_cases (lt x y) (eq x y) h) [
      | inl t ↦ le_of_lt (ltb→lt m n (subst T (lt_units X Y) t))
      | inr t ↦ le_of_eq (eqb→eq m n (and_l (eqb m n) (beq false false || eqb m 0) (subst T (eq_units X Y) t)))
    ]

pub units_le : {f : Format} {x y : Float} {m n : ℕ} → Is f x false m → Is f y false n → m ≤ n → T (le x y)
unfolding le
units_le {f} {x} {y} {m} {n} X Y h =
    elim (eq-or-lt_of_le h) [
      | inl e ↦ or_r (lt x y) (eq x y)
          (subst T (sym (eq_units X Y)) (and_i (eqb m n) (beq false false || eqb m 0) (eq→eqb e) tt))
      | inr l ↦ or_l (lt x y) (eq x y) (subst T (sym (lt_units X Y)) (lt→ltb m n l))
    ]

plus_sign : (x : Float) → T (positive x) → sign x ≡ false
plus_sign nan p = absurd p
plus_sign (inf s) p = absurd p
plus_sign (fin true m e) p = absurd p
plus_sign (fin false m e) p = refl

module _ (f : Format) (a b : Float) (ok : T (ends_ok f a b)) where
  low_end : Is f a false (lit_n f a)
  low_end =
      let o = and₃ (positive a) (positive b) (lit_ok f a && lit_ok f b) ok in
      subst (λ s. Is f a s (lit_n f a)) (plus_sign a o.0) (lit_is f a (and_l (lit_ok f a) (lit_ok f b) o.2))

  high_end : Is f b false (lit_n f b)
  high_end =
      let o = and₃ (positive a) (positive b) (lit_ok f a && lit_ok f b) ok in
      subst (λ s. Is f b s (lit_n f b)) (plus_sign b o.1) (lit_is f b (and_r (lit_ok f a) (lit_ok f b) o.2))

  pub is_between : (u : ℕ) (x : Float) → Between f a b x → (n : ℕ) × Is f x false n × In (between_k f a b u) false n
  is_between u x h =
      let o = and₃ (positive a) (positive b) (lit_ok f a && lit_ok f b) ok in
      let p = between a x b o.0 o.1 h.1 h.2 in
      let r = whole_units_of f x h.0 (positive-finite x p) in
      let X = subst (λ s. Is f x s r.0) (plus_sign x p) r.1 in
      (r.0, X, record { sign = λ t. refl; from = inr (le_units low_end X h.1); to = le_units X high_end h.2 })
