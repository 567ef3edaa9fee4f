-- No argument in range is rescaled (document 01, Rescaling): the largest size is zero, or lies from 2 ^ -64 to 2 ^ 64, far
-- inside the limits. For one run; it is the same in the other.
use Rattle.std.specs.Prelude.{◌≡◌, refl, ◌⊎◌, ℕ, ◌^◌, ◌≤◌, max, Bool, true, false, ◌&&◌, ◌||◌, Float}
use Rattle.std.proofs.Common.{ap₂, ◌∙◌, inl, inr, le_of_eq, le_trans, arith, true≢false, le-ltb, lit≤}
use Rattle.std.proofs.Math.Nat.{le-max_left, le-max_right}
use Rattle.std.specs.Float.{binary64}
use Rattle.std.specs.Float.Ieee.{lt}
use Rattle.std.specs.Float.Ieee.Scale.{finite}
use Rattle.binary64.specs.Leaves.{absolute, maximum}
use Rattle.scaling.specs.Units.{Is, lt_units}
use Rattle.scaling.specs.Kind.{In}
use Rattle.scaling.specs.Two.{Two}
use Rattle.scaling.specs.One.{lit_ok}
use Rattle.scaling.proofs.One.{lit_is, abs_units, maximum_units}
use Rattle.scaling.proofs.Tests.{zero_is}
use Rattle.derived.specs.Limits.{limit, reciprocal}
use Rattle.carlson.specs.Constants.{zero}
use Rattle.carlson_arguments.specs.Rescaling.{scale_of2, scale_of3, scale_of4, beyond_limits, rescaling2, rescaling3}
use Rattle.units.specs.Kinds.{argument_k}

-- a size: zero, or from 2 ^ -64 to 2 ^ 64
pub record Size (x : Float) : Type 0 where
  pub n : ℕ
  pub is : Is binary64 x false n
  pub from : (n ≡ 0) ⊎ (2 ^ 1010 ≤ n)
  pub to : n ≤ 2 ^ 1138

size_of : {x : Float} {s : Bool} {n : ℕ} → Is binary64 x s n → In argument_k s n → Size (absolute x)
size_of {n = n} X i = record { n = n; is = abs_units X; from = elim i.from [ inl z ↦ inl z.1 | inr l ↦ inr l ]; to = i.to }

pub first_size : {k : ℕ} {x y : Float} → Two binary64 k argument_k x y → Size (absolute x)
first_size a = size_of a.first a.in_first

pub second_size : {k : ℕ} {x y : Float} → Two binary64 k argument_k x y → Size (absolute y)
second_size a = size_of a.second a.in_second

pub larger_size : {x y : Float} → Size x → Size y → Size (maximum x y)
larger_size a b = record {
  n = max a.n b.n;
  is = maximum_units a.is b.is;
  from = go a.from b.from;
  to =
      most_of_lem a.to b.to;
}
  where
    most_of_lem : {m n h : ℕ} → m ≤ h → n ≤ h → max m n ≤ h
    most_of_lem p q = omega arith

    go : (a.n ≡ 0) ⊎ (2 ^ 1010 ≤ a.n) → (b.n ≡ 0) ⊎ (2 ^ 1010 ≤ b.n)
        → (max a.n b.n ≡ 0) ⊎ (2 ^ 1010 ≤ max a.n b.n)
    go (inl p) (inl q) = inl (ap₂ max p q)
    go (inl p) (inr q) = inr (le_trans q (le-max_right a.n b.n))
    go (inr p) q = inr (le_trans p (le-max_left a.n b.n))

-- ---- it is not beyond the limits
none : (a b c d : Bool) → b ≡ false → a && (b && (c || d)) ≡ false
none true true c d e = absurd (true≢false e)
none false true c d e = refl
none true false c d e = refl
none false false c d e = refl

neither : (a b c d : Bool) → c ≡ false → d ≡ false → a && (b && (c || d)) ≡ false
neither a b true d e f = absurd (true≢false e)
neither a b false true e f = absurd (true≢false f)
neither true true false false e f = refl
neither true false false false e f = refl
neither false b false false e f = refl

pub within_limits : {s : Float} → Size s → beyond_limits s ≡ false
unfolding lit_ok
within_limits {s} z =
    elim z.from [
      | inl e ↦ none (finite s) (lt zero s) (lt limit s) (lt s reciprocal)
          (lt_units (zero_is binary64) z.is ∙ le-ltb 0 z.n (le_of_eq e))
      | inr l ↦ neither (finite s) (lt zero s) (lt limit s) (lt s reciprocal)
          (lt_units (lit_is binary64 limit tt) z.is ∙ le-ltb _ z.n (le_trans z.to (lit≤ tt)))
          (lt_units z.is (lit_is binary64 reciprocal tt) ∙ le-ltb z.n _ (le_trans (lit≤ tt) l))
    ]

pub within2 : (x y : Float) → Size (absolute x) → Size (absolute y) → beyond_limits (scale_of2 x y) ≡ false
within2 x y a b = within_limits (larger_size a b)

pub within3 : (x y z : Float) → Size (absolute x) → Size (absolute y) → Size (absolute z) → beyond_limits (scale_of3 x y z) ≡ false
within3 x y z a b c = within_limits (larger_size (larger_size a b) c)

-- so the steps are made at the arguments themselves
pub unscaled2 : {A : Type 0} (back : A → Float → A) (steps : Float → Float → A) (x y : Float) → Size (absolute x)
    → Size (absolute y)
    → rescaling2 back steps x y ≡ steps x y
unfolding rescaling2
unscaled2 back steps x y a b = rw (within2 x y a b)

pub unscaled3 : {A : Type 0} (back : A → Float → A) (steps : Float → Float → Float → A) (x y z : Float) → Size (absolute x)
    → Size (absolute y)
    → Size (absolute z) → rescaling3 back steps x y z ≡ steps x y z
unfolding rescaling3
unscaled3 back steps x y z a b c = rw (within3 x y z a b c)

pub within4 : (x y z p : Float) → Size (absolute x) → Size (absolute y) → Size (absolute z) → Size (absolute p)
    → beyond_limits (scale_of4 x y z p) ≡ false
within4 x y z p a b c d = within_limits (larger_size (larger_size (larger_size a b) c) d)
