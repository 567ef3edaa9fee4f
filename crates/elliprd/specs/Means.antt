-- RD(0, y, z) by the arithmetic-geometric mean (elliprd.rs; document 01, Rounds). Definitions only.
use Rattle.std.specs.Prelude.{ℕ, Bool, not, Float, Ok, Err}
use Rattle.refusals.specs.declared.Refusal.TheVariants.{AgmSpent}
use Rattle.binary64.specs.Operators.{◌⊕◌, ◌⊖◌, ◌⊗◌, ◌⊘◌, bits}
use Rattle.root.specs.Root.{root}
use Rattle.carlson.specs.Constants.{zero, two, three, four, pi}
use Rattle.carlson.specs.Common.{mean_cap, apart}
use Rattle.carlson.specs.Loop.{capped}
use Rattle.carlson.specs.Answer.{agm_at}
use Rattle.carlson.specs.Answer.{Answer}
use Rattle.elliprd.specs.declared.means.Sums.{Sums}

-- one pass: the means, and the sum of their squared differences, each times the next power of two
unfoldable pub sums_of : Sums → Sums
sums_of s =
    let t = root (s.xn ⊗ s.yn) in
    let x = (s.xn ⊕ s.yn) ⊘ two in
    let p = s.sumpow ⊗ two in
    record { xn = x; yn = t; sum = s.sum ⊕ p ⊗ (x ⊖ t) ⊗ (x ⊖ t); sumpow = p }

unfoldable pub rd_mean_value : Float → Float → Float → Float → Sums → Float
rd_mean_value x0 y0 y z s =
    ((x0 ⊕ three ⊗ y0) ⊘ (four ⊗ z ⊗ (x0 ⊕ y0)) ⊖ s.sum ⊘ (z ⊗ (y ⊖ z))) ⊗ (pi ⊘ (s.xn ⊕ s.yn)) ⊗ three

-- by its bits: 0.25
unfoldable pub rd_agm_start : Float → Float → Sums
rd_agm_start y z = record { xn = root y; yn = root z; sum = zero; sumpow = bits 0x3FD0_0000_0000_0000 }

abbrev pub rd_together : Sums → Bool
rd_together s = not (apart s.xn s.yn)

abbrev pub rd_agm_found : Float → Float → Float → Float → Sums → ℕ → Answer
rd_agm_found x0 y0 y z s n = Ok (agm_at (rd_mean_value x0 y0 y z s) n)

abbrev pub rd_agm_spent : Sums → ℕ → Answer
rd_agm_spent s n = Err AgmSpent

-- document 01, Rounds: with the added cap spent it is refused with 9, if the test still says go on
unfoldable pub rd_agm_of : Float → Float → Answer
rd_agm_of y z =
    capped sums_of rd_together (rd_agm_found (root y) (root z) y z) rd_agm_spent mean_cap (rd_together (rd_agm_start y z))
    (rd_agm_start y z) 0
