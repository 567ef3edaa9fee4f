-- What is said of a call: its name, its arguments, its function's number. Definitions only.
use Rattle.std.specs.Prelude.{ℕ, List, [], ◌∷◌, length}
use Rattle.calls.specs.declared.Call.{Call}
use Rattle.calls.specs.declared.Call.TheVariants.{Rc, Rf, Rd, Rg, Rj, Cel}

-- the bytes of the name that the listing has (document 01)
unfoldable pub name_of : Call → List ℕ
name_of (Rc x y) = 82 ∷ 67 ∷ []
name_of (Rf x y z) = 82 ∷ 70 ∷ []
name_of (Rd x y z) = 82 ∷ 68 ∷ []
name_of (Rg x y z) = 82 ∷ 71 ∷ []
name_of (Rj x y z p) = 82 ∷ 74 ∷ []
-- "the listing calls it CEL" (document 02, 2026-09)
name_of (Cel kc p a b) = 67 ∷ 69 ∷ 76 ∷ []

-- no name is longer
abbrev pub longest_name : ℕ
longest_name = 3

-- the patterns of its arguments, in the order in which they are written
unfoldable pub arguments_of : Call → List ℕ
arguments_of (Rc x y) = x ∷ y ∷ []
arguments_of (Rf x y z) = x ∷ y ∷ z ∷ []
arguments_of (Rd x y z) = x ∷ y ∷ z ∷ []
arguments_of (Rg x y z) = x ∷ y ∷ z ∷ []
arguments_of (Rj x y z p) = x ∷ y ∷ z ∷ p ∷ []
arguments_of (Cel kc p a b) = kc ∷ p ∷ a ∷ b ∷ []

abbrev pub arity_of : Call → ℕ
arity_of c = length (arguments_of c)

-- document 02, 2026-03: "a function number (RF 1, RC 2, RD 3, RG 4, RJ 5)"
unfoldable pub number_of : Call → ℕ
number_of (Rc x y) = 2
number_of (Rf x y z) = 1
number_of (Rd x y z) = 3
number_of (Rg x y z) = 4
number_of (Rj x y z p) = 5
-- document 02, 2026-09: "Work lists number it 6"
number_of (Cel kc p a b) = 6
