-- What is claimed of the bench profile (document 02, 2026-14), over calls, whose answer is `profile_of`: two calls that differ in
-- the order of the sorted arguments, two calls that differ in the unit, and the size check. cel is no call of the profile, and
-- the first two have no case for it. Definitions only.
use Rattle.std.specs.Prelude.{ℕ, T}
use Rattle.sorting.specs.Sorting.{three, Permuted}
use Rattle.calls.specs.declared.Call.{Call}
use Rattle.calls.specs.declared.Call.TheVariants.{Rc, Rf, Rd, Rg, Rj, Cel}
use Rattle.answers.specs.Answers.{number}
use Rattle.units.specs.Statement.{TimesFour}
use Rattle.profile_arguments.specs.Arguments.{sized2, sized3, sized4}

-- two calls that differ in the order of the sorted arguments alone: x, y, z of RF, RG and RJ, x and y of RD, none of RC
pub data Reordered : Call → Call → Type 0 where
  rc : {x y : ℕ} → Reordered (Rc x y) (Rc x y)
  rf : {x y z x' y' z' : ℕ} → Permuted (three (number x) (number y) (number z)) (three (number x') (number y') (number z'))
      → Reordered (Rf x y z) (Rf x' y' z')
  rd : {x y z : ℕ} → Reordered (Rd x y z) (Rd y x z)
  rg : {x y z x' y' z' : ℕ} → Permuted (three (number x) (number y) (number z)) (three (number x') (number y') (number z'))
      → Reordered (Rg x y z) (Rg x' y' z')
  rj : {x y z x' y' z' p : ℕ} → Permuted (three (number x) (number y) (number z)) (three (number x') (number y') (number z'))
      → Reordered (Rj x y z p) (Rj x' y' z' p)

-- the second argument is the first times 4 ^ u / 4 ^ d, whatever their size
abbrev pub Factor : ℕ → ℕ → ℕ → ℕ → Type 0
Factor u d x x' = TimesFour u d (number x) (number x')

-- two calls of one function, all arguments of the second being those of the first times 4 ^ u / 4 ^ d
pub data InUnits (u d : ℕ) : Call → Call → Type 0 where
  rc : {x x' y y' : ℕ} → Factor u d x x' → Factor u d y y' → InUnits u d (Rc x y) (Rc x' y')
  rf : {x x' y y' z z' : ℕ} → Factor u d x x' → Factor u d y y' → Factor u d z z' → InUnits u d (Rf x y z) (Rf x' y' z')
  rd : {x x' y y' z z' : ℕ} → Factor u d x x' → Factor u d y y' → Factor u d z z' → InUnits u d (Rd x y z) (Rd x' y' z')
  rg : {x x' y y' z z' : ℕ} → Factor u d x x' → Factor u d y y' → Factor u d z z' → InUnits u d (Rg x y z) (Rg x' y' z')
  rj : {x x' y y' z z' p p' : ℕ} → Factor u d x x' → Factor u d y y' → Factor u d z z' → Factor u d p p'
      → InUnits u d (Rj x y z p) (Rj x' y' z' p')

-- the call passes the profile's size check; of cel there is none
abbrev pub Passes : Call → Type 0
Passes (Rc x y) = T (sized2 (number x) (number y))
Passes (Rf x y z) = T (sized3 (number x) (number y) (number z))
Passes (Rd x y z) = T (sized3 (number x) (number y) (number z))
Passes (Rg x y z) = T (sized3 (number x) (number y) (number z))
Passes (Rj x y z p) = T (sized4 (number x) (number y) (number z) (number p))
Passes (Cel kc p a b) = Unit {0}
