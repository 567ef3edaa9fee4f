-- A float that may be a zero of either sign, in two runs: sums and products of such floats, none below zero. Which of them are
-- zero is a Boolean that computes from those of the parts, so that one proof serves whichever argument is the zero.
use Rattle.std.specs.Prelude.{◌≡◌, ℕ, ◌+◌, ◌-◌, ◌*◌, ◌^◌, ◌≤◌, ◌<◌, Bool, true, not, ◌&&◌, ◌||◌, T, ltb, leb, Float}
use Rattle.std.proofs.Math.Path.{refl}
use Rattle.std.proofs.Common.{sym, ap, ◌∙◌, zero-le, le_trans, le_of_eq, le-add_right, le-add_left, mul-le-mul, zero-mul, mul-zero, zero-lt-suc, arith, pow_pos}
use Rattle.std.proofs.Math.Bool.{false}
use Rattle.std.proofs.Math.Dec.{leb→le}
use Rattle.std.specs.Float.{Format}
use Rattle.std.specs.Float.Ieee.{prec, low, add, mul}
use Rattle.std.specs.Float.Ieee.Fits.{and_l, and_r}
use Rattle.std.specs.Float.Ieee.Scale.{overflow}
use Rattle.scaling.specs.Near.{near}
use Rattle.scaling.specs.Cross.{add_n}
use Rattle.scaling.specs.Half.{half_less, half_more, whole_more}
use Rattle.scaling.specs.Kind.{Kind, floor, level?, mul_k, mul_ok, plus_k, plus_ok, within}
use Rattle.scaling.specs.Last.{Digits}
use Rattle.scaling.specs.Two.{Two}
use Rattle.scaling.specs.Nothing.{Nothing}

pub data Maybe (f : Format) (k : ℕ) (K : Kind) (x x' : Float) : Type 0 where
  none : Nothing f x x' → Maybe f k K x x'
  some : Two f k K x x' → Maybe f k K x x'

abbrev pub some? : {f : Format} {k : ℕ} {K : Kind} {x x' : Float} → Maybe f k K x x' → Bool
some? (none z) = false
some? (some a) = true

-- the units of either run
abbrev pub units : {f : Format} {k : ℕ} {K : Kind} {x x' : Float} → Maybe f k K x x' → ℕ
units (none z) = 0
units (some a) = a.m

abbrev pub units' : {f : Format} {k : ℕ} {K : Kind} {x x' : Float} → Maybe f k K x x' → ℕ
units' (none z) = 0
units' (some a) = a.n

-- above zero, and small enough for a sum with a zero
unfoldable pub solid? : Format → Kind → Bool
solid? f K = not K.any && ltb 0 (floor K) && ltb K.hi (overflow f)

-- ---- how large they are: up to a factor of two what they would be exactly
abbrev pub Sum : ℕ → ℕ → ℕ → Type 0
Sum a b c = (a ≤ c) × (b ≤ c) × (c ≤ 2 * (a + b))

-- a product, in units: c * l is a * b up to a factor of two
abbrev pub Product : ℕ → ℕ → ℕ → ℕ → Type 0
Product l a b c = (c * l ≤ 2 * (a * b)) × (a * b ≤ 2 * (c * l))

-- both are of a size that makes the product normal
unfoldable pub normal? : Format → Kind → Kind → Bool
normal? f A B = leb (2 ^ (prec f - 1) * 2 ^ low f) (floor A * floor B)
