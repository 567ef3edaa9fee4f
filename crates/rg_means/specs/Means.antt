-- RG with one zero, by the compensated arithmetic-geometric mean (elliprg.rs; document 01, Rounds). Definitions only.
use Rattle.std.specs.Prelude.{ℕ, Bool, not, Float, Ok, Err}
use Rattle.std.specs.Float.Ieee.{neg}
use Rattle.refusals.specs.declared.Refusal.TheVariants.{AgmSpent}
use Rattle.binary64.specs.Operators.{◌⊕◌, ◌⊖◌, ◌⊗◌, ◌⊘◌, bits}
use Rattle.root.specs.Root.{root}
use Rattle.fused.specs.Fused.{fused}
use Rattle.carlson.specs.Constants.{two, pi}
use Rattle.carlson.specs.Common.{mean_cap, apart}
use Rattle.carlson.specs.Loop.{capped}
use Rattle.carlson.specs.Answer.{agm_at}
use Rattle.carlson.specs.Answer.{Answer}
use Rattle.rg_means.specs.declared.means.Sums.{Sums}

-- the square of the mean, and what its rounding lost: the fused step is exact there
-- by its bits: 0.25
unfoldable pub rg_begin : Float → Float → Sums
rg_begin xn yn =
    let mean = (xn ⊕ yn) ⊘ two in
    let rg = mean ⊗ mean in
    record { xn = xn; yn = yn; rg = rg; lost = fused mean mean (neg rg); sumpow = bits 0x3FD0_0000_0000_0000 }

-- one pass, with t the root of the product of the means
unfoldable pub rg_moved : Sums → Float → Sums
rg_moved s t =
    let xn = (s.xn ⊕ s.yn) ⊘ two in
    let p = s.sumpow ⊗ two in
    let correction = p ⊗ (xn ⊖ t) ⊗ (xn ⊖ t) ⊖ s.lost in
    let next = s.rg ⊖ correction in
    record { xn = xn; yn = t; rg = next; lost = (s.rg ⊖ next) ⊖ correction; sumpow = p }

unfoldable pub rg_next : Sums → Sums
rg_next s = rg_moved s (root (s.xn ⊗ s.yn))

unfoldable pub rg_mean_value : Sums → Float
rg_mean_value s = s.rg ⊗ (pi ⊘ (s.xn ⊕ s.yn)) ⊘ two

abbrev pub rg_together : Sums → Bool
rg_together s = not (apart s.xn s.yn)

abbrev pub rg_agm_found : Sums → ℕ → Answer
rg_agm_found s n = Ok (agm_at (rg_mean_value s) n)

abbrev pub rg_agm_spent : Sums → ℕ → Answer
rg_agm_spent s n = Err AgmSpent

-- document 01, Rounds: with the added cap spent it is refused with 9, if the test still says go on
unfoldable pub rg_agm_of : Float → Float → Answer
rg_agm_of x z =
    let s = rg_begin (root x) (root z) in
    capped rg_next rg_together rg_agm_found rg_agm_spent mean_cap (rg_together s) s 0
