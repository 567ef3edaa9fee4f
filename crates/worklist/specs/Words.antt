-- A job as five words in a row, and a place that moves only past a job: what C sees of a work list. Definitions only.
use Rattle.std.specs.Prelude.{ℕ, List, Some, None, Result, Ok, Err, [], ◌∷◌, ◌≡◌, length, get_or}
use Rattle.packed.specs.Writing.{write_at, bytes_after}
use Rattle.packed.specs.declared.jobs.Job.{Job}
use Rattle.packed.specs.Reading.{Read}
use Rattle.refusals.specs.Numbers.{refusal_number}
use Rattle.refusals.specs.declared.Refusal.{Refusal}

-- the function's number, then the arguments
unfoldable pub job_of : List ℕ → Job
job_of w = record { function = get_or w 0 0; a = get_or w 1 0; b = get_or w 2 0; c = get_or w 3 0; d = get_or w 4 0 }

unfoldable pub words_of : Job → List ℕ
words_of j = j.function ∷ j.a ∷ j.b ∷ j.c ∷ j.d ∷ []

-- ---- after a write: its number, and the place with what it was before
unfoldable pub written_number : Result ℕ Refusal → ℕ
written_number (Ok next) = 0
written_number (Err r) = refusal_number r

unfoldable pub written_place : Result ℕ Refusal → ℕ → ℕ
written_place (Ok next) before = next
written_place (Err r) before = before

-- ---- after a read: its number, the place and the words with what they were before
-- GATEWREN_NOTHING_LEFT
abbrev pub nothing_left : ℕ
nothing_left = 4294967295

unfoldable pub read_number : Read → ℕ
read_number (Ok (Some got)) = 0
read_number (Ok None) = nothing_left
read_number (Err r) = refusal_number r

unfoldable pub read_place : Read → ℕ → ℕ
read_place (Ok (Some got)) before = got.next
read_place (Ok None) before = before
read_place (Err r) before = before

unfoldable pub read_words : Read → List ℕ → List ℕ
read_words (Ok (Some got)) before = words_of got.job
read_words (Ok None) before = before
read_words (Err r) before = before

-- ---- both at once
pub record WroteAs (w : Result ℕ Refusal) (before : List ℕ) (place : ℕ) (j : Job) (bytes : List ℕ) (next number : ℕ)
    : Type 0 where
  pub number_is : number ≡ written_number w
  pub place_is : next ≡ written_place w place
  pub bytes_are : bytes ≡ bytes_after w before place j

-- what `packed` writes of the job that the words are
abbrev pub WriteWords : List ℕ → ℕ → List ℕ → List ℕ → ℕ → ℕ → Type 0
WriteWords before place words bytes next number =
    WroteAs (write_at (length before) place (job_of words)) before place (job_of words) bytes next number

-- what `packed` reads, as words
pub record ReadWords (r : Read) (place : ℕ) (before : List ℕ) (next : ℕ) (words : List ℕ) (number : ℕ) : Type 0 where
  pub number_is : number ≡ read_number r
  pub place_is : next ≡ read_place r place
  pub words_are : words ≡ read_words r before
