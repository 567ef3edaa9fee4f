-- RG with one zero, by the compensated arithmetic-geometric mean, in two runs. The sums may have any sign and cancel to zero,
-- but all are multiples of one power of two, so no step is rounded below the normal range; a pass makes them at most 16 times
-- as large. Assumes nothing.
use Rattle.std.specs.Prelude.{◌≡◌, ℕ, suc, ◌+◌, ◌-◌, ◌*◌, ◌^◌, ◌≤◌, ◌<◌, Bool, true, not, ◌&&◌, T, Float}
use Rattle.std.proofs.Common.{ap, subst, le_refl, arith, inr}
use Rattle.std.specs.Float.{binary64}
use Rattle.std.specs.Float.Ieee.{of_bits}
use Rattle.std.specs.Float.Ieee.Fits.{and_l, and_r}
use Rattle.binary64.specs.Operators.{◌⊕◌, ◌⊖◌, ◌⊗◌, ◌⊘◌, bits}
use Rattle.root.specs.Root.{root}
use Rattle.carlson.specs.Constants.{two, pi}
use Rattle.carlson.specs.Loop.{capped}
use Rattle.rg_means.specs.Means.{rg_begin, rg_moved, rg_next, rg_mean_value, rg_together, rg_agm_found, rg_agm_spent, rg_agm_of}
use Rattle.rg_means.specs.declared.means.Sums.{Sums}
use Rattle.scaling.specs.Kind.{Kind, mul_k, mul_ok, div_k, div_ok, plus_k, plus_ok, sum_k, sum_ok, neg_k, within}
use Rattle.scaling.specs.Two.{Two}
use Rattle.scaling.proofs.Two.{mul_two, div_two, plus_two}
use Rattle.scaling.specs.One.{lit_ok}
use Rattle.scaling.proofs.One.{neg_two, sub_two}
use Rattle.scaling.proofs.One.{lit_two, widen_two}
use Rattle.scaling.specs.Fused.{fused_k, fused_ok}
use Rattle.scaling.proofs.Fused.{fused_two}
use Rattle.scaling.specs.Every.{all, every}
use Rattle.units.specs.Kinds.{mean_k}
use Rattle.units.specs.Runs.{mean, loop_two}
use Rattle.units.specs.Ran.{Ran, refusal, result}
use Rattle.units_rd.specs.Means.{side_k, double_k, square_k, any_double, double_two, side_two, half_two, middle_two, apart_two}
use Rattle.units_rd.specs.Means.{square_two}

-- the value: it may cancel to zero
abbrev pub value_k : Kind
value_k = record { any = true; zer = true; lo = 2 ^ 500; hi = 2 ^ 1420; g = 400; u = 1; d = 0 }
