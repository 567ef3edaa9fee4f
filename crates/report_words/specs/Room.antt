-- "18 more than 2 ^ 32 - 1 calls in all, in a list or a join" (document 02, 2026-05). Definitions only.
use Rattle.std.specs.Prelude.{ℕ, ◌+◌, Bool, cond, List, Result, Ok, Err, leb}
use Rattle.refusals.specs.declared.Refusal.{Refusal}
use Rattle.refusals.specs.declared.Refusal.TheVariants.{TooMany}
use Rattle.report_words.specs.Words.{calls_in_all, words_joined}

abbrev pub most_calls : ℕ
most_calls = 4294967295

-- so many calls more are not too many
unfoldable pub room_for : List ℕ → ℕ → Bool
room_for ws n = leb (calls_in_all ws + n) most_calls

-- "Refusals: the work list's own, then 18"
unfoldable pub list_judged : List ℕ → Result ℕ Refusal → Result (Unit {0}) Refusal
list_judged ws (Ok n) = cond (room_for ws n) (Ok tt) (Err TooMany)
list_judged ws (Err r) = Err r

-- ---- of two reports
unfoldable pub room_both : List ℕ → List ℕ → Bool
room_both ws os = leb (calls_in_all ws + calls_in_all os) most_calls

unfoldable pub join_judged : List ℕ → List ℕ → Result (Unit {0}) Refusal
join_judged ws os = cond (room_both ws os) (Ok tt) (Err TooMany)

-- "each leaves the report unchanged"
unfoldable pub join_after : List ℕ → List ℕ → List ℕ
join_after ws os = cond (room_both ws os) (words_joined ws os) ws
