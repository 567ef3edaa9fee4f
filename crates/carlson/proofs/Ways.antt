-- How many rounds and rescalings a way has (document 02, 2026-12), so that the sums of u32 in code are plain. Assumes nothing.
use Rattle.std.specs.Prelude.{◌≡◌, ℕ, ◌+◌, ◌%◌, ◌^◌, ◌<◌, ◌≤◌, Float}
use Rattle.std.proofs.Common.{arith, Ok, Err}
use Rattle.carlson.specs.Answer.{way_of, both_ways, wrapped_ways, rescaled_at}
use Rattle.carlson.specs.declared.answer.Way.{Way}
use Rattle.carlson.specs.declared.answer.Found.{Found}
use Rattle.carlson.specs.Answer.{Answer}
use Rattle.carlson.specs.Ways.{Few, Within}

-- ---- through the steps
pub counted : {m k : ℕ} (n : ℕ) → n ≤ m → Within m k (way_of n)
counted n h = record { begun = h; scaled = omega arith }

pub wider : {m k m' k' : ℕ} {w : Way} → m ≤ m' → k ≤ k' → Within m k w → Within m' k' w
wider h g r = record { begun = omega (arith, r.begun); scaled = omega (arith, r.scaled) }

pub few_wider : {m k m' k' : ℕ} → m ≤ m' → k ≤ k' → (a : Answer) → Few m k a → Few m' k' a
few_wider h g (Ok f) r = wider h g r
few_wider h g (Err n) r = tt

-- a rescaling more
pub rescaled_within : {m k : ℕ} (f : Found) (v : Float) → Within m k f.way → Within m (k + 1) (rescaled_at f v).way
unfolding rescaled_at
rescaled_within f v r = record { begun = r.begun; scaled = omega (arith, r.scaled) }

-- two ways
pub both_within : {m k m' k' : ℕ} {a b : Way} → Within m k a → Within m' k' b → Within (m + m') (k + k') (both_ways a b)
unfolding both_ways
both_within r s = record { begun = omega (arith, r.begun, s.begun); scaled = omega (arith, r.scaled, s.scaled) }

-- ---- no modulus acts where the counts are few
pub few_ways : (a b : Way) → a.rounds + b.rounds < 2 ^ 32 → a.rescalings + b.rescalings < 2 ^ 32
    → wrapped_ways a b ≡ both_ways a b
unfolding wrapped_ways both_ways
few_ways a b h g =
    let e : (a.rounds + b.rounds) % 2 ^ 32 ≡ a.rounds + b.rounds = omega arith in
    let f : (a.rescalings + b.rescalings) % 2 ^ 32 ≡ a.rescalings + b.rescalings = omega arith in
    rw (e, f)

pub within_ways : {m k m' k' : ℕ} {a b : Way} → m + m' < 2 ^ 32 → k + k' < 2 ^ 32 → Within m k a → Within m' k' b
    → wrapped_ways a b ≡ both_ways a b
within_ways {a = a} {b = b} h g r s =
    few_ways a b (omega (arith, r.begun, s.begun)) (omega (arith, r.scaled, s.scaled))

-- nor where a rescaling is counted
pub rescaled_plain : (f : Found) (v : Float) → f.way.rescalings + 1 < 2 ^ 32
    → (rescaled_at f v).way.rescalings ≡ f.way.rescalings + 1
unfolding rescaled_at
rescaled_plain f v h = omega arith
