-- What is known of a float before it is computed: its `Kind`. It may say that the float is not negative, and it bounds the
-- float's units, zero set apart. Each operation has a kind for its result, which computes, and a test that nothing overflows and
-- that the result is not rounded below the normal range.
use Rattle.std.specs.Prelude.{◌≡◌, ◌⊎◌, ℕ, ◌+◌, ◌-◌, ◌*◌, ◌^◌, ◌≤◌, ◌<◌, min, max, Bool, true, false, not, ◌&&◌, ◌||◌, cond, T, ltb, leb, eqb}
use Rattle.std.proofs.Common.{sym, ap, ap₂, ◌∙◌, inl, inr, zero-le, lt_irrefl, zero-mul, mul-le-mul_right, mul_right_comm, pow_pos}
use Rattle.std.proofs.Math.Nat.{eq_of_mul-eq-mul_right}
use Rattle.std.specs.Float.{Format}
use Rattle.std.specs.Float.Ieee.{prec, low, size}
use Rattle.std.specs.Float.Ieee.Scale.{overflow}
use Rattle.scaling.specs.Near.{near, near_mono, near_same, near_scale, near_zero_lem}

-- `any`: it may be negative. `zer`: it may be zero. Otherwise it has from `lo` to `hi` units. Either way it has a multiple of 2 ^
-- g units.
-- `u` and `d` are its weight: where the arguments of weight 1 are multiplied by 2 ^ k, it is multiplied by 2 ^ (k * u) / 2 ^ (k *
-- d).
pub record Kind : Type 0 where
  pub any : Bool
  pub zer : Bool
  pub lo : ℕ
  pub hi : ℕ
  pub g : ℕ
  pub u : ℕ
  pub d : ℕ

pub record In (K : Kind) (s : Bool) (m : ℕ) : Type 0 where
  pub sign : T (not K.any) → s ≡ false
  pub from : (T K.zer × (m ≡ 0)) ⊎ (K.lo ≤ m)
  pub to : m ≤ K.hi

-- the least number of units, zero counted
abbrev pub floor : Kind → ℕ
floor K = cond K.zer 0 K.lo

-- ---- a fraction P / D that is zero or in the normal range: there a power of two goes through `near`
abbrev pub Norm : Format → ℕ → ℕ → Type 0
Norm f P D = (P ≡ 0) ⊎ (2 ^ (prec f - 1) * D ≤ P)

-- the last place of a float of n units, as a power of two
abbrev pub last : Format → ℕ → ℕ
last f n = size n - prec f

-- ---- the product
unfoldable pub mul_k : Format → Kind → Kind → Kind
unfolding near
mul_k f A B = record {
  any = A.any || B.any;
  zer = A.zer || B.zer;
  lo = near f (A.lo * B.lo) (2 ^ low f);
  hi = near f (A.hi * B.hi) (2 ^ low f);
  g = last f (near f (A.lo * B.lo) (2 ^ low f));
  u = A.u + B.u;
  d = A.d + B.d;
}

unfoldable pub mul_ok : Format → Kind → Kind → Bool
unfolding mul_k
mul_ok f A B = ltb (mul_k f A B).hi
    (overflow f) && (eqb (A.u + B.u) (A.d + B.d) || leb (2 ^ (prec f - 1) * 2 ^ low f) (A.lo * B.lo))

-- ---- the quotient: the divisor is not zero
unfoldable pub div_k : Format → Kind → Kind → Kind
unfolding near
div_k f A B = record {
  any = A.any || B.any;
  zer = A.zer;
  lo = near f (A.lo * 2 ^ low f) B.hi;
  hi = near f (A.hi * 2 ^ low f) B.lo;
  g = last f (near f (A.lo * 2 ^ low f) B.hi);
  u = A.u + B.d;
  d = A.d + B.u;
}

unfoldable pub div_ok : Format → Kind → Kind → Bool
unfolding div_k
div_ok f A B =
    ltb 0 (floor B) && ltb (div_k f A B).hi
    (overflow f) && (eqb (A.u + B.d) (A.d + B.u) || leb (2 ^ (prec f - 1) * B.hi) (A.lo * 2 ^ low f))

-- ---- the sum of two that are not negative, of one weight
unfoldable pub plus_k : Format → Kind → Kind → Kind
unfolding near
plus_k f A B =
    record {
      any = false;
      zer = false;
      lo = near f (floor A + floor B) 1;
      hi = near f (A.hi + B.hi) 1;
      g = last f
          (near f (floor A + floor B) 1);
      u = A.u;
      d = A.d;
    }

abbrev pub level? : Kind → Kind → Bool
level? A B = eqb A.u B.u && eqb A.d B.d

unfoldable pub plus_ok : Format → Kind → Kind → Bool
unfolding plus_k
plus_ok f A B = level? A B && ltb (plus_k f A B).hi (overflow f) && not (A.any || B.any)

-- ---- the sum of any two of one weight: it may be zero, and otherwise it is no less than the power of two that divides both
unfoldable pub sum_k : Format → Kind → Kind → Kind
unfolding near
sum_k f A B = record {
  any = true;
  zer = true;
  lo = 2 ^ min A.g B.g;
  hi = near f (A.hi + B.hi) 1;
  g = min A.g
      B.g;
  u = A.u;
  d = A.d;
}

unfoldable pub sum_ok : Format → Kind → Kind → Bool
unfolding sum_k
sum_ok f A B = level? A B && ltb (sum_k f A B).hi (overflow f)

-- ---- the sum of one above zero and of another that is smaller, of either sign
unfoldable pub nudge_k : Format → Kind → Kind → Kind
unfolding near
nudge_k f A B =
    record {
      any = false;
      zer = false;
      lo = near f (A.lo - B.hi) 1;
      hi = near f (A.hi + B.hi) 1;
      g = last f
          (near f (A.lo - B.hi) 1);
      u = A.u;
      d = A.d;
    }

unfoldable pub nudge_ok : Format → Kind → Kind → Bool
unfolding nudge_k
nudge_ok f A B = level? A B && ltb (nudge_k f A B).hi (overflow f) && (not A.any && ltb B.hi (floor A))

-- ---- a wider kind: more is allowed, and the weight is the same power
abbrev pub allows : Kind → Kind → Bool
allows A B = (not A.any || B.any) && (not A.zer || B.zer) && (leb B.lo A.lo && leb A.hi B.hi)

unfoldable pub within : Kind → Kind → Bool
unfolding size
within A B = allows A B && leb B.g A.g && eqb (A.u + B.d) (B.u + A.d)

-- ---- the negative, the size, the larger of two that are not negative
abbrev pub neg_k : Kind → Kind
neg_k A = record { any = true; zer = A.zer; lo = A.lo; hi = A.hi; g = A.g; u = A.u; d = A.d }

abbrev pub abs_k : Kind → Kind
abs_k A = record { any = false; zer = A.zer; lo = A.lo; hi = A.hi; g = A.g; u = A.u; d = A.d }

abbrev pub max_k : Kind → Kind → Kind
max_k A B = record {
  any = false;
  zer = false;
  lo = max (floor A) (floor B);
  hi = max A.hi B.hi;
  g = min A.g
      B.g;
  u = A.u;
  d = A.d;
}

abbrev pub max_ok : Kind → Kind → Bool
max_ok A B = level? A B && not (A.any || B.any)

-- ---- a constant of n units
abbrev pub same_k : Format → Bool → ℕ → Kind
same_k f s n = record { any = s; zer = false; lo = n; hi = n; g = last f n; u = 0; d = 0 }
