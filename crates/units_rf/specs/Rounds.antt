-- RF's duplication in two runs, the second with x, y and z multiplied by 4 ^ k: the same number of passes, and the second
-- result is the first divided by 2 ^ k. What a pass keeps: all means from 2 ^ -64 to 2 ^ 64, and the bound q times the power of
-- four ahead of the first differences. The kinds allow fifty passes, as RG's joint loop does, which makes the same steps.
use Rattle.std.specs.Prelude.{◌≡◌, Bool, ◌&&◌, Float}
use Rattle.std.proofs.Math.Path.{refl, ap}
use Rattle.std.proofs.Common.{◌∙◌, subst, le_of_lt, lt_of_lt_of_le, mul-le-mul_left, mul-le-mul_right, inr, lit≤, lit<, pow_mono}
use Prim.Native.Nat.{ℕ, suc, ◌+◌, ◌-◌, ◌*◌, ◌^◌, ◌≤◌, ◌<◌, max}
use Rattle.std.proofs.Math.Nat.{le_trans, le-max_left, le-max_right}
use native.Mathlib.Omega.{arith}
use Rattle.std.proofs.Math.Bool.{false}
use Rattle.std.proofs.Math.Dec.{T, ltb→lt}
use Rattle.std.specs.Float.Ieee.{binary64, low, lt, below}
use Rattle.std.specs.Float.Ieee.Fits.{and_l, and_r}
use Rattle.binary64.specs.Leaves.{absolute}
use Rattle.binary64.specs.Operators.{◌⊖◌, bits}
use Rattle.scaling.specs.Units.{lt_units}
use Rattle.scaling.proofs.Last.{digits_of}
use Rattle.scaling.specs.Kind.{Kind, last, mul_k, mul_ok, div_k, div_ok, sum_k, sum_ok, within, neg_k, same_k}
use Rattle.scaling.proofs.Kind.{floor_le}
use Rattle.scaling.specs.Two.{Two}
use Rattle.scaling.proofs.Two.{mul_two, div_two, lt_two}
use Rattle.scaling.specs.One.{lit_ok, lit_n, clip_k}
use Rattle.scaling.proofs.One.{sub_two}
use Rattle.scaling.proofs.One.{abs_two, max_two, lit_two, widen_two, clip_two}
use Rattle.scaling.specs.Root.{root_k, root_ok}
use Rattle.scaling.proofs.Root.{root_two}
use Rattle.scaling.specs.Lead.{Ahead}
use Rattle.scaling.proofs.Lead.{ahead_start, ahead_step, ahead_end}
use Rattle.scaling.specs.Every.{all, every}
use Rattle.carlson.specs.Constants.{one, four}
use Rattle.rf_duplicate.specs.declared.duplicate.Round.{Round}
use Rattle.rf_duplicate.specs.Duplicate.{mean_of, rf_start, rf_begin, rf_moved, rf_step}
use Rattle.rf_duplicate.specs.Duplicate.{rf_close, rf_correction, rf_series, rf_found, rf_spent}
use Rattle.rf_duplicate.specs.Duplicate.{rf_duplication}
use Rattle.units.specs.Kinds.{mean_k}
use Rattle.units.specs.Runs.{Same, duplicated, neither, loop_two}
use Rattle.units_rf.specs.Rc.{result_k}
use Rattle.units_rf.specs.Series.{small_k, lambda_two, quarter_two, mean_two, factor_two}

-- the bound q and the power of four with j passes left: q is divided by four in a pass, and the power multiplied
abbrev pub bound_k : ℕ → Kind
bound_k j = record {
  any = false;
  zer = false;
  lo = 2 ^ (900 + 2 * j);
  hi = 2 ^ 1200;
  g = last binary64 (2 ^ (900 + 2 * j));
  u =
      2;
  d = 0;
}

abbrev pub power_k : ℕ → Kind
power_k j = record { any = false; zer = false; lo = 2 ^ 1074; hi = 2 ^ (1174 - 2 * j); g = last binary64 (2 ^ 1074); u = 0; d = 0 }

-- a first difference
unfoldable pub gap_k : Kind
gap_k = sum_k binary64 mean_k (neg_k mean_k)

-- ---- what a pass finds, D and D' being the larger of the first differences, in units
pub record Inv (k D D' j : ℕ) (s t : Round) : Type 0 where
  pub an : Two binary64 k mean_k s.an t.an
  pub xn : Two binary64 k mean_k s.xn t.xn
  pub yn : Two binary64 k mean_k s.yn t.yn
  pub zn : Two binary64 k mean_k s.zn t.zn
  pub q : Two binary64 k (bound_k j) s.q t.q
  pub fnval : Two binary64 k (power_k j) s.fnval t.fnval
  pub ahead : Ahead binary64 D q.m fnval.m
  pub ahead' : Ahead binary64 D' q.n fnval.n
