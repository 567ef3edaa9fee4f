-- The logarithmic decrement of two whole amplitudes, successive peaks. Definitions only.
use Rattle.std.specs.Prelude.{ℕ, ◌^◌, ◌&&◌, cond, Float, Result, Ok, Err}
use Rattle.series.specs.Ln.{ln}
use Rattle.swing.specs.Period.{within, ratio}
use Rattle.refusals.specs.declared.Refusal.{Refusal}
use Rattle.refusals.specs.declared.Refusal.TheVariants.{Amplitude}

-- "the quotient rounded once and 2026-02's ln", and "a number of its own for B or A out of range, 24"
unfoldable pub decay_of : ℕ → ℕ → Result Float Refusal
decay_of a b = cond (within a (2 ^ 53) && within b (2 ^ 53)) (Ok (ln (ratio a b))) (Err Amplitude)
