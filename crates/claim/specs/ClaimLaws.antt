-- What it is to meet our answer. Assumes nothing.
use Rattle.std.specs.Prelude.{ℕ, ◌≤◌, ◌≡◌, true, Ok, Err}
use Rattle.std.specs.Float.{binary64}
use Rattle.std.specs.Float.Ieee.{to_bits}
use Rattle.refusals.specs.Numbers.{refusal_number}
use Rattle.distance.specs.Steps.{apart_of, finite_pattern}
use Rattle.carlson.specs.Answer.{Answer}
use Rattle.claim.specs.declared.meeting.Claim.{Claim}

-- "each claim is the same refusal or a finite value within the tolerance of ours"
abbrev pub Meets : ℕ → Answer → Claim → Type 0
Meets t (Ok f) c = (c.kind ≡ 0) × (finite_pattern c.word ≡ true) × (apart_of (to_bits binary64 f.value) c.word ≤ t)
Meets t (Err r) c = (c.kind ≡ 1) × (c.word ≡ refusal_number r)

-- a value's pattern is that of a finite f64
abbrev pub Finite : Answer → Type 0
Finite (Ok f) = finite_pattern (to_bits binary64 f.value) ≡ true
Finite (Err r) = Unit {0}
