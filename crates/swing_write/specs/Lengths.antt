-- How long the texts are. Assumes nothing.
use Rattle.std.specs.Prelude.{ℕ, ◌/◌, ◌≤◌, length, Result, Ok, Err}
use Rattle.std.proofs.Common.{length-append, arith}
use Rattle.refusals.specs.Numbers.{refusal_number}
use Rattle.digits.proofs.DigitLaws.{digits_length}
use Rattle.writing.specs.Decimal.{decimal}
use Rattle.writing.specs.Places.{places_most}
use Rattle.carlson.specs.declared.answer.Found.{Found}
use Rattle.carlson.specs.Answer.{Answer}
use Rattle.refusals.specs.declared.Refusal.{Refusal}
use Rattle.refusals.specs.Numbers.{refusal_number}
use Rattle.swing_write.specs.Replies.{ticks_of, number_text, seconds_text, period_text, refused_text, swing_text, total_text}
use Rattle.swing_write.specs.Replies.{
  longest_number,
  longest_seconds,
  longest_period,
  longest_refused,
  longest_swing,
  longest_total,
}

pub number_length : (n end : ℕ) → length (number_text n end) ≤ longest_number
unfolding number_text decimal
number_length n end = rw (length-append, digits_length) (omega (arith, places_most 19 n))

pub seconds_length : (t : ℕ) → length (seconds_text t) ≤ longest_seconds
unfolding seconds_text
seconds_length t = rw (length-append, digits_length) (omega (arith, number_length (t / 1000000000000) 46))

pub period_length : (f : Found) → length (period_text f) ≤ longest_period
unfolding period_text
period_length f = rw (length-append, length-append, digits_length, length-append)
    (omega (arith, seconds_length (ticks_of f.value)))

pub refused_length : (n : ℕ) → length (refused_text n) ≤ longest_refused
unfolding refused_text
refused_length n = omega (arith, number_length n 10)

pub swing_length : (a : Answer) → length (swing_text a) ≤ longest_swing
unfolding swing_text
swing_length (Ok f) = period_length f
swing_length (Err r) = omega (arith, refused_length (refusal_number r))

pub total_length : (s : Result ℕ Refusal) → length (total_text s) ≤ longest_total
unfolding total_text
total_length (Ok t) = omega (arith, number_length t 10)
total_length (Err r) = refused_length (refusal_number r)
