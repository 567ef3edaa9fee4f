-- What another order of three values leaves as it is, and that three in order stand in one order only, where `<` tells any two
-- of them apart. Assumes nothing.
use Rattle.std.specs.Prelude.{ℕ, ◌+◌, ◌≡◌, refl, Bool, true, false, ◌&&◌, ◌||◌, ltb, Float}
use Rattle.std.proofs.Common.{sym, ap, ap₂, ◌∙◌, true≢false, add_comm, add_assoc}
use Rattle.std.proofs.Math.Bool.{and_comm, or_comm}
use Rattle.std.specs.Float.Ieee.{is_nan, lt}
use Rattle.sorting.specs.declared.Triple.{Triple}
use Rattle.sorting.specs.Sorting.{three, Permuted, as_it_is, first_two, last_two, and_then}
use Rattle.sorting.specs.Order.{lt_once, not_below_through}

-- ---- what another order leaves as it is
-- what holds of each of the three
pub record Each (P : Float → Type 0) (t : Triple) : Type 0 where
  pub x : P t.x
  pub y : P t.y
  pub z : P t.z

-- an order of the three is one of what a function gives for each
abbrev pub mapped : (Float → Float) → Triple → Triple
mapped f t = three (f t.x) (f t.y) (f t.z)

-- ---- none is below the one before it
pub record Rises (a b c : Float) : Type 0 where
  pub second : lt b a ≡ false
  pub third : lt c b ≡ false

-- from the smallest to the largest
abbrev pub Upward : Triple → Type 0
Upward t = Rises t.x t.y t.z

-- of two such values one is below the other, or they are the same
pub record ToldApart (P : Float → Type 0) : Type 0 where
  pub number : {a : Float} → P a → is_nan a ≡ false
  pub apart : {a b : Float} → P a → P b → lt a b ≡ false → lt b a ≡ false → a ≡ b
