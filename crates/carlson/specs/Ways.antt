-- How many rounds and rescalings a way has (document 02, 2026-12), so that the sums of u32 in code are plain. Assumes nothing.
use Rattle.std.specs.Prelude.{◌≡◌, ℕ, ◌+◌, ◌%◌, ◌^◌, ◌<◌, ◌≤◌, Float, Ok, Err}
use Rattle.std.proofs.Common.{arith}
use Rattle.carlson.specs.Answer.{way_of, both_ways, wrapped_ways, rescaled_at}
use Rattle.carlson.specs.declared.answer.Way.{Way}
use Rattle.carlson.specs.declared.answer.Found.{Found}
use Rattle.carlson.specs.Answer.{Answer}

-- ---- the statement: at most m rounds and k rescalings
pub record Within (m k : ℕ) (w : Way) : Type 0 where
  pub begun : w.rounds ≤ m
  pub scaled : w.rescalings ≤ k

-- of an answer's value; a refusal carries no way
abbrev pub Few : ℕ → ℕ → Answer → Type 0
Few m k (Ok f) = Within m k f.way
Few m k (Err n) = Unit {0}
