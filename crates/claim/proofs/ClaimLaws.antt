-- What it is to meet our answer. Assumes nothing.
use Rattle.std.specs.Prelude.{ℕ, ◌≤◌, ◌≡◌, refl, true, ◌&&◌, eqb, leb}
use Rattle.std.proofs.Common.{arith, eq-eqb, eqb-true, le-leb, leb-true, Ok, Err}
use Rattle.std.specs.Float.{binary64}
use Rattle.std.specs.Float.Ieee.{to_bits}
use Rattle.refusals.specs.Numbers.{refusal_number}
use Rattle.distance.specs.Steps.{apart_of, finite_pattern}
use Rattle.distance.proofs.StepLaws.{apart_self}
use Rattle.carlson_arguments.proofs.DoorLaws.{both_true}
use Rattle.carlson.specs.Answer.{Answer}
use Rattle.claim.specs.Claims.{value_meets, refusal_meets, meets_of, own_claim}
use Rattle.claim.specs.declared.meeting.Claim.{Claim}
use Rattle.claim.specs.ClaimLaws.{Finite, Meets}

-- exactly that is tested
pub meets_is : (t : ℕ) (a : Answer) (c : Claim) → meets_of t a c ≡ true → Meets t a c
unfolding meets_of value_meets refusal_meets
meets_is t (Ok f) c e =
    let n = apart_of (to_bits binary64 f.value) c.word in
    let p = both_true (eqb c.kind 0) (finite_pattern c.word && leb n t) e in
    let q = both_true (finite_pattern c.word) (leb n t) p.1 in
    (eqb-true c.kind 0 p.0, q.0, leb-true n t q.1)
meets_is t (Err r) c e =
    let n = refusal_number r in
    let p = both_true (eqb c.kind 1) (eqb c.word n) e in (eqb-true c.kind 1 p.0, eqb-true c.word n p.1)

pub is_meets : (t : ℕ) (a : Answer) (c : Claim) → Meets t a c → meets_of t a c ≡ true
unfolding meets_of value_meets refusal_meets
is_meets t (Ok f) c m = rw (eq-eqb c.kind 0 m.0, m.1, le-leb (apart_of (to_bits binary64 f.value) c.word) t m.2)
is_meets t (Err r) c m = rw (eq-eqb c.kind 1 m.0, eq-eqb c.word (refusal_number r) m.1)

-- a wider tolerance accepts what a narrower one did
pub meets_wider : (t wide : ℕ) → t ≤ wide → (a : Answer) (c : Claim) → meets_of t a c ≡ true → meets_of wide a c ≡ true
meets_wider t wide h a c e = is_meets wide a c (go a (meets_is t a c e))
  where
    go : (a : Answer) → Meets t a c → Meets wide a c
    go (Ok f) m = (m.0, m.1, omega (arith, m.2))
    go (Err r) m = m

-- our answer meets itself, with no tolerance
pub own_meets : (a : Answer) → Finite a → meets_of 0 a (own_claim a) ≡ true
unfolding own_claim
own_meets (Ok f) h = is_meets 0 (Ok f) _ (refl, h, omega (arith, apart_self (to_bits binary64 f.value)))
own_meets (Err r) h = is_meets 0 (Err r) _ (refl, refl)
