-- Two runs of steps that may also refuse: both do with one number, or what they find is the same. And what an entry settles of
-- them.
use Rattle.std.specs.Prelude.{ℕ, T, Ok, Err}
use Rattle.refusals.specs.declared.Refusal.{Refusal}
use Rattle.scaling.specs.Kind.{Kind, within}
use Rattle.scaling.proofs.One.{widen_two}
use Rattle.carlson.specs.declared.answer.Found.{Found}
use Rattle.carlson.specs.Answer.{Answer}
use Rattle.units.specs.Runs.{Same, both, lost}

pub data Ran (k : ℕ) (K : Kind) : Answer → Answer → Type 0 where
  refusal : {r : Refusal} → Ran k K (Err r) (Err r)
  result : {f g : Found} → Same k K f g → Ran k K (Ok f) (Ok g)

pub wider_same : {k : ℕ} {K L : Kind} {f g : Found} → Same k K f g → T (within K L) → Same k L f g
wider_same (both a) ok = both (widen_two a ok)
wider_same lost ok = lost
