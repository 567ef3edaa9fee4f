-- A reduction adds the rounds of one RF and three rescalings at most (document 02, 2026-12), so that the code's sums are plain.
-- Assumes nothing.
use Rattle.std.specs.Prelude.{ℕ, ◌+◌, ◌^◌, ◌<◌, ◌≡◌, refl, Ok, Err}
use Rattle.std.proofs.Common.{ap, ◌∙◌, arith}
use Rattle.carlson.specs.Answer.{both_ways, wrapped_ways, reduction_at}
use Rattle.carlson.specs.Ways.{Within, Few}
use Rattle.carlson.proofs.Ways.{wider, both_within, within_ways}
use Rattle.carlson.specs.declared.answer.Way.{Way}
use Rattle.carlson.specs.Answer.{Answer}
use Rattle.elliprc.specs.Few.{rc_within}
use Rattle.rf_duplicate.specs.Duplicate.{rf_cap}
use Rattle.elliprf.specs.Rf.{rf_unchecked}
use Rattle.elliprf.proofs.Few.{rf_within}
use Rattle.rj_negative.specs.declared.reduction.Reduced.{Reduced}
use Rattle.rj_negative.specs.Reduction.{reduced_rc, reduced_value, reduced_found, reduced_answer, wrapped_found, wrapped_answer}

-- RC counts no round, wherever the reduction asks for it
pub reduced_rc_within : (r : Reduced) → Within 0 1 (reduced_rc r).way
unfolding reduced_rc
reduced_rc_within r = rc_within _ _

pub reduced_few : (m k : ℕ) (r : Reduced) (a : Answer) → Few m k a → Few (m + rf_cap) (k + 3) (reduced_answer r a)
unfolding reduced_answer reduced_found reduction_at
reduced_few m k r (Ok rj) h =
    wider (omega arith) (omega arith) (both_within (both_within h (rf_within r.x r.y r.z)) (reduced_rc_within r))
reduced_few m k r (Err n) h = tt

-- the ways of all three, added in u32
ways_plain : (m k : ℕ) {rj rf rc : Way} → m + rf_cap < 2 ^ 32 → k + 3 < 2 ^ 32 → Within m k rj → Within rf_cap 2 rf → Within 0 1 rc
    → wrapped_ways (wrapped_ways rj rf) rc ≡ both_ways (both_ways rj rf) rc
ways_plain m k {rj} {rf} {rc} h g a b c =
    ap (λ (w : Way). wrapped_ways w rc) (within_ways (omega arith) (omega arith) a b)
    ∙ within_ways (omega arith) (omega arith) (both_within a b) c

pub carried_plain : (m k : ℕ) → m + rf_cap < 2 ^ 32 → k + 3 < 2 ^ 32 → (r : Reduced) (a : Answer) → Few m k a
    → wrapped_answer r a ≡ reduced_answer r a
unfolding wrapped_answer wrapped_found reduced_answer reduced_found
carried_plain m k h g r (Ok rj) a =
    let rf = rf_unchecked r.x r.y r.z in
    let rc = reduced_rc r in
    ap (λ (w : Way). Ok (reduction_at (reduced_value r rj.value rf.value rc.value) w))
    (ways_plain m k h g a (rf_within r.x r.y r.z) (reduced_rc_within r))
carried_plain m k h g r (Err n) a = refl
