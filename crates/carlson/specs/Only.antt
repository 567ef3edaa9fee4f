-- Demand 1 (document 01): the only answers are a finite value, or one number out of a list. And how that, or any other property
-- of what may be answered, goes through the steps that the entries share. Assumes nothing.
use Rattle.std.specs.Prelude.{◌≡◌, ℕ, Bool, true, false, cond, ◌&&◌, ◌||◌, T, List, [], ◌∷◌, ◌==◌, refl, Ok, Err}
use Rattle.std.proofs.Common.{sym, subst, eqb-true}
use Rattle.std.specs.Float.Ieee.{of_bits}
use Rattle.std.specs.Float.Ieee.Fits.{and_l, and_r}
use Rattle.std.specs.Float.Ieee.Scale.{finite}
use Rattle.refusals.specs.Numbers.{refusal_number}
use Rattle.refusals.specs.declared.Refusal.{Refusal}
use Rattle.carlson.specs.Answer.{infinite_at, settled, settled_late}
use Rattle.carlson.specs.declared.answer.Found.{Found}
use Rattle.carlson.specs.Answer.{Answer}

-- ---- the statement
-- whether a number is in the list
abbrev pub among : ℕ → List ℕ → Bool
among n [] = false
among n (m ∷ ms) = n == m || among n ms

-- whether all of the first are in the second
abbrev pub part : List ℕ → List ℕ → Bool
part [] ms = true
part (n ∷ ns) ms = among n ms && part ns ms

-- a value of which P holds, or one of the numbers
pub data Only (P : Found → Type 0) (numbers : List ℕ) : Answer → Type 0 where
  value : {f : Found} → P f → Only P numbers (Ok f)
  refused : {r : Refusal} → T (among (refusal_number r) numbers) → Only P numbers (Err r)

-- "a finite value": no NaN, no infinity
abbrev pub Finite : Found → Type 0
Finite f = finite f.value ≡ true

-- between the inner parts the value may be any f64
abbrev pub Any : Found → Type 0
Any f = Unit {0}
