-- RD's series in two runs: its corrections are the same in both and at most an eighth, so its factor lies between a half and
-- two, and the value is divided by 2 ^ 3k. Assumes nothing.
use Rattle.std.specs.Prelude.{◌≡◌, refl, ℕ, ◌+◌, ◌*◌, ◌^◌, ◌≤◌, ◌<◌, Bool, true, false, T, Float}
use Rattle.std.proofs.Common.{◌∙◌, subst, le_trans, lt_of_lt_of_le, lit≤, lit<, pow_mono}
use Rattle.std.specs.Float.{binary64}
use Rattle.std.specs.Float.Ieee.{sub, lt, low, of_bits}
use Rattle.binary64.specs.Operators.{◌⊖◌, bits}
use Rattle.carlson.specs.Constants.{one, three}
use Rattle.carlson.specs.Common.{third_kind}
use Rattle.rd_duplicate.specs.Duplicate.{rd_correction, rd_factor, rd_series}
use Rattle.scaling.specs.Units.{lt_units}
use Rattle.scaling.specs.Kind.{Kind, last, mul_k, mul_ok, div_k, div_ok, plus_k, plus_ok, sum_k, sum_ok, nudge_k, nudge_ok, neg_k}
use Rattle.scaling.proofs.Kind.{floor_le}
use Rattle.scaling.specs.Kind.{within}
use Rattle.scaling.proofs.Last.{digits_of}
use Rattle.scaling.specs.Two.{Two}
use Rattle.scaling.proofs.Two.{mul_two, div_two, plus_two, sum_two, nudge_two, lt_two}
use Rattle.scaling.specs.One.{lit_ok, clip_k}
use Rattle.scaling.proofs.One.{neg_two, sub_two}
use Rattle.scaling.proofs.One.{lit_two, widen_two, clip_two}
use Rattle.scaling.specs.Power.{power_k, power_ok}
use Rattle.scaling.proofs.Power.{power_two}
use Rattle.scaling.specs.Every.{all, every}
use Rattle.scaling.specs.Signed.{above}
use Rattle.scaling.proofs.Signed.{passed}
use Rattle.units_rd.specs.Lead.{ends_small}
use Rattle.units_rd.specs.Mean.{mean_k, gap_k}
use Rattle.units_rd.specs.Step.{bound_k, fourth_k, any_fourth_k, sums_k, any_fourth}

-- ---- kinds: a correction, the factor, the value
abbrev pub small_k : Kind
small_k = record { any = true; zer = true; lo = 0; hi = 2 ^ 1071; g = 0; u = 0; d = 0 }

abbrev pub factor_k : Kind
factor_k = record { any = false; zer = false; lo = 2 ^ 1073; hi = 2 ^ 1075; g = last binary64 (2 ^ 1073); u = 0; d = 0 }

abbrev pub value_k : Kind
value_k = record { any = false; zer = false; lo = 2 ^ 850; hi = 2 ^ 1260; g = last binary64 (2 ^ 850); u = 0; d = 3 }
