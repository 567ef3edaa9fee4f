-- What is known of a float before it is computed: its `Kind`. It may say that the float is not negative, and it bounds the
-- float's units, zero set apart. Each operation has a kind for its result, which computes, and a test that nothing overflows and
-- that the result is not rounded below the normal range.
use Rattle.std.specs.Prelude.{◌≡◌, ◌⊎◌, ℕ, ◌+◌, ◌-◌, ◌*◌, ◌^◌, ◌≤◌, ◌<◌, min, max, Bool, true, false, not, ◌&&◌, ◌||◌, cond, T, ltb, leb, eqb}
use Rattle.std.proofs.Common.{sym, ap, ap₂, ◌∙◌, inl, inr, zero-le, lt_irrefl, zero-mul, mul-le-mul_right, mul_right_comm, pow_pos}
use Rattle.std.proofs.Math.Nat.{eq_of_mul-eq-mul_right}
use Rattle.std.specs.Float.{Format}
use Rattle.std.specs.Float.Ieee.{prec, low, size}
use Rattle.std.specs.Float.Ieee.Scale.{overflow}
use Rattle.scaling.specs.Near.{near, near_mono, near_same, near_scale, near_zero_lem}
use Rattle.scaling.specs.Kind.{In, Kind, Norm, floor}

pub floor_le : {K : Kind} {s : Bool} {m : ℕ} → In K s m → floor K ≤ m
floor_le {K} {s} {m} a = go K.zer a.from
  where
    go : (z : Bool) → (T z × (m ≡ 0)) ⊎ (K.lo ≤ m) → cond z 0 K.lo ≤ m
    go true h = zero-le
    go false (inl h) = absurd h.0
    go false (inr h) = h

pub solid : {K : Kind} {s : Bool} {m : ℕ} → In K s m → 0 < floor K → (0 < K.lo) × (K.lo ≤ m)
solid {K} {s} {m} a = go K.zer a.from
  where
    go : (z : Bool) → (T z × (m ≡ 0)) ⊎ (K.lo ≤ m) → 0 < cond z 0 K.lo → (0 < K.lo) × (K.lo ≤ m)
    go true h p = absurd (lt_irrefl 0 p)
    go false (inl h) p = absurd h.0
    go false (inr h) p = (p, h)

-- ---- small things
pub and₃ : (a b c : Bool) → T (a && b && c) → T a × T b × T c
and₃ true true true t = (tt, tt, tt)
and₃ true true false t = absurd t
and₃ true false c t = absurd t
and₃ false b c t = absurd t

pub or_cases : (a b : Bool) → T (a || b) → T a ⊎ T b
or_cases true b t = inl tt
or_cases false b t = inr t

pub or_l : (a b : Bool) → T a → T (a || b)
or_l true b t = tt
or_l false b t = absurd t

pub or_r : (a b : Bool) → T b → T (a || b)
or_r true b t = tt
or_r false b t = t

pub nor_l : (a b : Bool) → T (not (a || b)) → T (not a)
nor_l true b t = t
nor_l false b t = tt

pub nor_r : (a b : Bool) → T (not (a || b)) → T (not b)
nor_r true b t = absurd t
nor_r false b t = t

pub near_le : (f : Format) (d : ℕ) {a c : ℕ} → 0 < d → a ≤ c → near f a d ≤ near f c d
near_le f d {a} {c} D h = near_mono f a d c d D D (mul-le-mul_right d h)

near_norm : (f : Format) (P D t : ℕ) → 0 < D → Norm f P D → near f (P * 2 ^ t) D ≡ near f P D * 2 ^ t
near_norm f P D t pos (inl e) =
    ap (λ (z : ℕ). near f z D) (ap (λ (z : ℕ). z * 2 ^ t) e ∙ zero-mul (2 ^ t))
    ∙ near_zero_lem f D pos
    ∙ sym (zero-mul (2 ^ t))
    ∙ ap (λ (z : ℕ). z * 2 ^ t) (sym (ap (λ (z : ℕ). near f z D) e ∙ near_zero_lem f D pos))
near_norm f P D t pos (inr h) = near_scale f P D t pos h

-- Two fractions that differ by powers of two round so, if both are zero or normal. If the powers are the same, the fractions are,
-- and round alike anywhere.
pub near_tie : (f : Format) (P D P' D' t t' : ℕ) → 0 < D → 0 < D' → P' * 2 ^ t' * D ≡ P * 2 ^ t * D'
    → (t ≡ t') ⊎ (Norm f P D × Norm f P' D')
    → near f P' D' * 2 ^ t' ≡ near f P D * 2 ^ t
near_tie f P D P' D' t t' pos pos' e (inl w) =
    ap₂ (λ y z. y * 2 ^ z)
    (near_same f P' D' P D pos' pos
    (eq_of_mul-eq-mul_right (2 ^ t) (pow_pos t) (P' * D) (P * D')
    (mul_right_comm P' D (2 ^ t) ∙ ap (λ z. P' * 2 ^ z * D) w ∙ e ∙ mul_right_comm P (2 ^ t) D')))
    (sym w)
near_tie f P D P' D' t t' pos pos' e (inr h) =
    sym (near_norm f P' D' t' pos' h.1) ∙ near_same f (P' * 2 ^ t') D' (P * 2 ^ t) D pos' pos e ∙ near_norm f P D t pos h.0
