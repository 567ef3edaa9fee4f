-- A verdict and a decrement as C sees them: 0 with the places written, or the number with none of them touched. Definitions only.
use Rattle.std.specs.Prelude.{ℕ, Bool, cond, Float, Result, Ok, Err}
use Rattle.refusals.specs.declared.Refusal.{Refusal}
use Rattle.refusals.specs.Numbers.{refusal_number}
use Rattle.drag.specs.declared.nanoseconds.Verdict.{Verdict}

-- 1 passes, 2 drags
unfoldable pub word_of : Bool → ℕ
word_of passes = cond passes 1 2

-- 1 where the excess is below zero
unfoldable pub minus_of : Bool → ℕ
minus_of quicker = cond quicker 1 0

unfoldable pub judged_number : Result Verdict Refusal → ℕ
judged_number (Ok v) = 0
judged_number (Err r) = refusal_number r

-- what stands in each place afterwards, and what stood there before
unfoldable pub verdict_after : Result Verdict Refusal → ℕ → ℕ
verdict_after (Ok v) before = word_of v.passes
verdict_after (Err r) before = before

unfoldable pub minus_after : Result Verdict Refusal → ℕ → ℕ
minus_after (Ok v) before = minus_of v.quicker
minus_after (Err r) before = before

unfoldable pub excess_after : Result Verdict Refusal → ℕ → ℕ
excess_after (Ok v) before = v.excess
excess_after (Err r) before = before

unfoldable pub period_after : Result Verdict Refusal → Float → Float
period_after (Ok v) before = v.period
period_after (Err r) before = before

unfoldable pub decay_number : Result Float Refusal → ℕ
decay_number (Ok x) = 0
decay_number (Err r) = refusal_number r

unfoldable pub decrement_after : Result Float Refusal → Float → Float
decrement_after (Ok x) before = x
decrement_after (Err r) before = before
