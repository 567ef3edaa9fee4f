-- What a verdict cannot do: a slower knee never passes where a quicker one drags, nor does a knee drag by a wider limit that
-- passes by a narrower one. `drag_of` is a function of the five numbers, so that a verdict hangs on nothing else. Assumes nothing.
use Rattle.std.specs.Prelude.{ℕ, T, Result, Ok, Err}
use Rattle.refusals.specs.declared.Refusal.{Refusal}
use Rattle.drag.specs.declared.nanoseconds.Verdict.{Verdict}

-- the knee was judged and passes
abbrev pub Passing : Result Verdict Refusal → Type 0
Passing (Ok v) = T v.passes
Passing (Err n) = ⊥
