-- What the parts of a fraction round to is the whole number nearest to it, half to even; and how large they are. Assumes nothing.
use Rattle.std.specs.Prelude.{◌≡◌, ℕ, ◌+◌, ◌-◌, ◌*◌, ◌/◌, ◌%◌, ◌^◌, ◌<◌, ◌≤◌, Bool, true, false, ◌&&◌, T, [], ◌∷◌, nat_le, nat_lt, to_bits, Float}
use Prim.Native.Nat.{compare, Ordering}
use Rattle.std.proofs.Math.Path.{refl, ap}
use Rattle.std.proofs.Common.{◌∙◌, subst, inl, inr, mod-eq_of_lt, eq-zero-or-pos, le_of_eq, lt_of_mul-lt-mul_right, div-lt_iff_lt-mul, eq-eqb, ne_eqb}
use Rattle.std.proofs.Math.Nat.{add-zero}
use Rattle.std.proofs.Math.Numerals.{add-one}
use native.Mathlib.Omega.{arith}
use Rattle.std.proofs.Math.Dec.{ltb→lt, leb→le}
use Rattle.std.specs.Float.Ieee.{binary64, fits, nearest}
use Rattle.std.specs.Float.Ieee.Fits.{and_l, and_r}
use Rattle.std.specs.Float.Ieee.Nearest.{closest}
use Rattle.std.specs.Float.Ieee.Positive.{num, den, den_pos}
use Rattle.algebra.specs.Ring.{con, nxt, ◌:*◌, ◌≈◌, ◌⊩◌, ◌times◌≼◌}
use Rattle.algebra.proofs.Ring.{below}
use Rattle.algebra.specs.Order.{lt_compare}
use Rattle.rounding.specs.Cut.{value}
use Rattle.rounding.proofs.Value.{value_lt}
use Rattle.parted.specs.Parts.{side_of, part_of, parts_of, measured, parted_of, step_of, rounded_of}
use Rattle.parted.specs.Sizes.{size_is}

-- ---- rounding
module _ (q : ℕ) where
  nothing : q + step_of (record { whole = q; part = 0 }) ≡ q
  unfolding step_of
  nothing = add-zero q

  something : (o : Ordering) → q + step_of (record { whole = q; part = side_of o }) ≡ nearest q o
  unfolding step_of
  something Ordering.lt = add-zero q
  something Ordering.eq = refl
  something Ordering.gt = add-one q

pub step_is : (n d : ℕ) → 0 < d → n / d + step_of (parts_of n d) ≡ closest n d
unfolding parts_of part_of
step_is n d D = elim (eq-zero-or-pos (n % d)) [
  | inl z ↦
      let e : n % d * 2 < d = omega arith in
      rw (eq-eqb (n % d) 0 z, lt_compare (n % d * 2) d e) (nothing (n / d))
  | inr z ↦ rw (ne_eqb (n % d) 0 (λ e. omega arith)) (something (n / d) (compare (n % d * 2) d))
]

pub rounded_is : (n d : ℕ) → 0 < d → closest n d < 2 ^ 64 → rounded_of (parts_of n d) ≡ closest n d
rounded_is n d D h = whole_first ∙ mod-eq_of_lt h
  where
    whole_first : rounded_of (parts_of n d) ≡ closest n d % 2 ^ 64
    whole_first = unfold rounded_of in ap (λ (z : ℕ). z % 2 ^ 64) (unfold parts_of in step_is n d D)

-- it is the whole part or one more
pub closest_most : (n d : ℕ) → closest n d ≤ n / d + 1
closest_most n d = up (n / d) (compare (n % d * 2) d)
  where
    up : (q : ℕ) (o : Ordering) → nearest q o ≤ q + 1
    up q Ordering.lt = omega arith
    up q Ordering.eq = omega arith
    up q Ordering.gt = omega arith

-- ---- a value below 2 ^ 20 is fewer than 2 ^ 60 units
module _ (x : Float) (unit : ℕ) (fit : T (fits binary64 x)) (t : T (measured x unit)) where
  size_small : to_bits binary64 x % 2 ^ 63 < 1043 * 2 ^ 52
  unfolding measured
  size_small = ltb→lt _ _ (and_l (nat_lt (to_bits binary64 x % 2 ^ 63) (1043 * 2 ^ 52)) (nat_le 1 unit && nat_le unit 1000000000000) t)

  unit_small : unit ≤ 1000000000000
  unfolding measured
  unit_small =
      leb→le _ _ (and_r (nat_le 1 unit) (nat_le unit 1000000000000)
      (and_r (nat_lt (to_bits binary64 x % 2 ^ 63) (1043 * 2 ^ 52)) (nat_le 1 unit && nat_le unit 1000000000000) t))

  border : value (1043 * 2 ^ 52) ≡ 2 ^ 1094
  border = unfold value in refl

  high : (N v d U : ℕ) → N * 2 ^ 1074 ≤ v * d → v < 2 ^ 1094 → U ≤ 1000000000000 → 1 ≤ d
      → N * U * 2 ^ 1074 < 2 ^ 60 * d * 2 ^ 1074
  high = below 4 (λ N v d U. (U times N :* con (2 ^ 1074) ≼ v :* d) ∷ (U :* d times nxt v ≼ con (2 ^ 1094))
      ∷ (con (2 ^ 1094) :* d times U ≼ con 1000000000000)
      ∷ (con (2 ^ 60 * 2 ^ 1074 - 1000000000000 * 2 ^ 1094) times con 1 ≼ d) ∷ []
      ⊩ nxt (N :* U :* con (2 ^ 1074)) ≈ con (2 ^ 60) :* d :* con (2 ^ 1074)) tt

  pub few : num x * unit / den x < 2 ^ 60
  few =
      let n = to_bits binary64 x % 2 ^ 63 in
      let v : value n < 2 ^ 1094 = subst (λ (k : ℕ). value n < k) border (value_lt n (1043 * 2 ^ 52) size_small) in
      (div-lt_iff_lt-mul {k = den x} {x = num x * unit} {y = 2 ^ 60} (den_pos x)).1
      (lt_of_mul-lt-mul_right (2 ^ 1074)
      (high (num x) (value n) (den x) unit (le_of_eq (size_is x fit n refl (inside n size_small))) v unit_small (den_pos x)))
    where
      inside : (n : ℕ) → n < 1043 * 2 ^ 52 → n < 2047 * 2 ^ 52
      inside n h = omega arith

  -- THE LAW: rounded, it is the value in such units to the nearest, half to even
  pub nearest_units : rounded_of (parted_of x unit) ≡ closest (num x * unit) (den x)
  unfolding parted_of
  nearest_units =
      let e : measured x unit ≡ true = is_true (measured x unit) t in
      rw e (rounded_is (num x * unit) (den x) (den_pos x) (less few (closest_most (num x * unit) (den x))))
    where
      less : {n m : ℕ} → n < 2 ^ 60 → m ≤ n + 1 → m < 2 ^ 64
      less h k = omega arith

      is_true : (b : Bool) → T b → b ≡ true
      is_true true t = refl
      is_true false t = absurd t
