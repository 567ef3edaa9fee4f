-- Demand 1's two steps for a caller who has its refusal as a bare number, any that is in its list: what `settle` and
-- `settle_late` hand out then is a finite value or a number of the list. Assumes nothing.
use Rattle.std.specs.Prelude.{◌≡◌, ℕ, Bool, true, false, cond, T, List, Result, Ok, Err, refl}
use Rattle.std.specs.Float.Ieee.{of_bits}
use Rattle.std.specs.Float.Ieee.Scale.{finite}
use Rattle.refusals.specs.declared.Refusal.TheVariants.{NanGiven}
use Rattle.refusals.specs.Numbers.{refusal_number}
use Rattle.carlson.specs.Answer.{infinite_at, settled, settled_told}
use Rattle.carlson.specs.declared.answer.Found.{Found}
use Rattle.carlson.specs.Only.{among, Finite}
use Rattle.carlson.proofs.Only.{chosen}

pub data OnlyNumber (P : Found → Type 0) (numbers : List ℕ) : Result Found ℕ → Type 0 where
  found : {f : Found} → P f → OnlyNumber P numbers (Ok f)
  number : {n : ℕ} → T (among n numbers) → OnlyNumber P numbers (Err n)

-- a value that is handed out is finite; else what stands in its place
number_or : {numbers : List ℕ} (f : Found) {a : Result Found ℕ} → OnlyNumber Finite numbers a
    → OnlyNumber Finite numbers (cond (finite f.value) (Ok f) a)
number_or {numbers} f {a} h = go (finite f.value) refl
  where
    go : (b : Bool) → finite f.value ≡ b → OnlyNumber Finite numbers (cond b (Ok f) a)
    go true e = found e
    go false e = h

pub settled_only_number : (numbers : List ℕ) (f : Found) (n : ℕ) → T (among n numbers) → OnlyNumber Finite numbers (settled f n)
unfolding settled
settled_only_number numbers f n h = number_or f (number h)

pub late_only_number : (numbers : List ℕ) (f : Found) (nan unbounded : Bool) (n : ℕ) → T (among (refusal_number NanGiven) numbers)
    → T (among n numbers) → OnlyNumber Finite numbers (settled_told refusal_number f nan unbounded n)
unfolding settled_told infinite_at of_bits
late_only_number numbers f nan unbounded n g h =
    let Q = OnlyNumber Finite numbers in
    number_or f (chosen Q nan (number g) (chosen Q unbounded (found refl) (number h)))
