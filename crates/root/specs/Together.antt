-- Several f64s of which none is NaN, by one test of their sum; and what the test of a guess says of the f64s. Assumes nothing.
use Rattle.std.specs.Prelude.{◌≡◌, ℕ, Bool, not, T, from_bits, to_bits, Float}
use Rattle.std.specs.Float.{binary64}
use Rattle.std.specs.Float.Ieee.{is_nan, eq}
use Rattle.binary64.specs.Operators.{◌⊕◌}
use Rattle.root.specs.Root.{root}

-- a sum that is a number has numbers as its parts: whether it is itself
unfoldable pub numbers3 : Float → Float → Float → Bool
numbers3 x y z = eq (x ⊕ y ⊕ z) (x ⊕ y ⊕ z)

unfoldable pub numbers4 : Float → Float → Float → Float → Bool
numbers4 x y z p = eq (x ⊕ y ⊕ z ⊕ p) (x ⊕ y ⊕ z ⊕ p)

-- ---- the law
-- what reading an f64's bits asks
abbrev pub Number : Float → Type 0
Number x = T (not (is_nan x))

pub record Numbers3 (x y z : Float) : Type 0 where
  pub one : Number x
  pub two : Number y
  pub three : Number z

pub record Numbers4 (x y z p : Float) : Type 0 where
  pub one : Number x
  pub two : Number y
  pub three : Number z
  pub four : Number p

-- what `certain` tells of a number's pattern and a root's
abbrev pub Rooted : ℕ → ℕ → Type 0
Rooted b s = from_bits binary64 s ≡ root (from_bits binary64 b)

-- and of three numbers' patterns and three f64s
abbrev pub Rooted3 : ℕ → ℕ → ℕ → Float → Float → Float → Type 0
Rooted3 a b c x y z = Rooted a (to_bits binary64 x) × (Rooted b (to_bits binary64 y) × Rooted c (to_bits binary64 z))
