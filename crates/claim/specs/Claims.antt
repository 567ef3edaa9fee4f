-- Whether a claim meets our answer (document 02, 2026-11). Definitions only.
use Rattle.std.specs.Prelude.{ℕ, Bool, ◌&&◌, eqb, leb, Ok, Err}
use Rattle.std.specs.Float.{binary64}
use Rattle.std.specs.Float.Ieee.{to_bits}
use Rattle.refusals.specs.Numbers.{refusal_number}
use Rattle.distance.specs.Steps.{apart_of, finite_pattern}
use Rattle.carlson.specs.Answer.{Answer}
use Rattle.claim.specs.declared.meeting.Claim.{Claim}

-- "a finite value within the tolerance of ours"
unfoldable pub value_meets : ℕ → ℕ → Claim → Bool
value_meets tolerance ours c = eqb c.kind 0 && (finite_pattern c.word && leb (apart_of ours c.word) tolerance)

-- "the same refusal"
unfoldable pub refusal_meets : ℕ → Claim → Bool
refusal_meets n c = eqb c.kind 1 && eqb c.word n

unfoldable pub meets_of : ℕ → Answer → Claim → Bool
meets_of tolerance (Ok f) c = value_meets tolerance (to_bits binary64 f.value) c
meets_of tolerance (Err r) c = refusal_meets (refusal_number r) c

-- what we say ourselves, as a claim
unfoldable pub own_claim : Answer → Claim
own_claim (Ok f) = record { kind = 0; word = to_bits binary64 f.value }
own_claim (Err r) = record { kind = 1; word = refusal_number r }
