-- Units drop out of RC: every argument in range before and after all are multiplied by 4 ^ k, both calls refuse alike, or the
-- second value is the first times 2 ^ -k. y may be negative.
use Rattle.std.specs.Prelude.{◌≡◌, refl, ℕ, zero, ◌+◌, ◌-◌, ◌*◌, ◌^◌, ◌<◌, Bool, true, not, ◌&&◌, cond, T, ltb, Float}
use Rattle.std.proofs.Common.{sym, ◌∙◌, lt_of_lt_of_le, arith, T_not, lt→ltb, lit<}
use Rattle.std.proofs.Math.Path.{ap, subst, subst₂}
use Rattle.std.proofs.Math.Nat.{zero-mul}
use Rattle.std.proofs.Math.Bool.{false}
use Rattle.std.specs.Bool.{beq}
use Rattle.std.specs.Float.Ieee.{binary64, low, add, sub, eq, lt, neg}
use Rattle.std.specs.Float.Ieee.Scale.{overflow}
use Rattle.binary64.specs.Leaves.{absolute}
use Rattle.binary64.specs.Operators.{◌⊖◌, ◌⊘◌}
use Rattle.root.specs.Root.{root}
use Rattle.scaling.specs.Near.{near, near_zero_lem}
use Rattle.scaling.specs.Cross.{add_n}
use Rattle.scaling.specs.Units.{Is, unique, add_units, neg_units}
use Rattle.scaling.specs.Kind.{Kind, last, mul_k, mul_ok, div_k, div_ok, plus_k, plus_ok, within}
use Rattle.scaling.proofs.Kind.{floor_le}
use Rattle.scaling.proofs.Last.{digits_of, is_under}
use Rattle.scaling.specs.Two.{Two}
use Rattle.scaling.proofs.Two.{mul_two, div_two, plus_two}
use Rattle.scaling.specs.One.{lit_ok}
use Rattle.scaling.proofs.One.{lit_two, widen_two}
use Rattle.scaling.proofs.Tests.{zero_two, no_units}
use Rattle.scaling.proofs.Lead.{on_grid}
use Rattle.scaling.proofs.Nothing.{root_itself}
use Rattle.scaling.specs.Root.{root_k, root_ok}
use Rattle.scaling.proofs.Root.{root_two}
use Rattle.scaling.proofs.Signs.{lt_zero_two, minus, above_two, opposite_two}
use Rattle.scaling.proofs.Pick.{choose}
use Rattle.carlson.specs.Constants as constant
use Rattle.carlson.specs.Answer.{settled_late}
use Rattle.carlson_arguments.specs.Checks.{any_nan2, any_infinite2}
use Rattle.carlson.specs.Answer.{Answer}
use Rattle.elliprc.specs.Rc.{rc_found, over_root, rc_unchecked, rc}
use Rattle.rc_cases.specs.Cases.{rc_cases, rc_steps}
use Rattle.units.specs.Statement.{InRange, TimesFour, Alike}
use Rattle.units.specs.Kinds.{argument_k, mean_k}
use Rattle.units.specs.Arguments.{Argument}
use Rattle.units.proofs.Arguments.{no_units_of, argument, above}
use Rattle.units.proofs.Checks.{numbers2, finite2}
use Rattle.units.specs.Limits.{Size, first_size, second_size, unscaled2}
use Rattle.units.specs.Runs.{Fair, Same, fair, wider_fair, value_fair}
use Rattle.units.specs.Answers.{Pair, no}
use Rattle.units.proofs.Answers.{late_same, alike_of, alike_back, onward, backward, either_way}
use Rattle.units_rf.specs.Cases.{wide_k, Carries, cases_fair}

-- the result for y above zero: from 2 ^ -174 to 2 ^ 126, and divided by 2 ^ k
abbrev pub result_k : Kind
result_k = record { any = false; zer = false; lo = 2 ^ 900; hi = 2 ^ 1200; g = last binary64 (2 ^ 900); u = 0; d = 1 }

-- the result for any y
abbrev pub rc_k : Kind
rc_k = record { any = true; zer = true; lo = 2 ^ 800; hi = 2 ^ 1280; g = last binary64 (2 ^ 800); u = 0; d = 1 }
