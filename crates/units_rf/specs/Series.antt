-- RF's steps in two runs: its mean, lambda, the quarter of a sum, and the series, which lies between a half and two because it
-- is taken at small corrections only. Each proof has the shape of the step.
use Rattle.std.specs.Prelude.{ℕ, ◌*◌, ◌^◌, true, false, Float}
use Rattle.std.specs.Float.{binary64}
use Rattle.binary64.specs.Operators.{◌⊕◌, ◌⊘◌, bits}
use Rattle.root.specs.Root.{root}
use Rattle.scaling.specs.Kind.{Kind, last, mul_k, mul_ok, div_k, div_ok, plus_k, plus_ok, sum_k, sum_ok, nudge_k, nudge_ok, within}
use Rattle.scaling.specs.Two.{Two}
use Rattle.scaling.proofs.Two.{mul_two, div_two, plus_two, sum_two, nudge_two}
use Rattle.scaling.specs.One.{lit_ok}
use Rattle.scaling.proofs.One.{neg_two, sub_two}
use Rattle.scaling.proofs.One.{lit_two, widen_two}
use Rattle.scaling.specs.Root.{root_k, root_ok}
use Rattle.scaling.proofs.Root.{root_two}
use Rattle.carlson.specs.Constants.{one, three, four}
use Rattle.carlson.specs.Common.{lambda_of}
use Rattle.rf_duplicate.specs.Duplicate.{mean_of, rf_factor}
use Rattle.units.specs.Kinds.{mean_k}

-- a correction: up to 2 ^ -6 in size, and the same in both runs
abbrev pub small_k : Kind
small_k = record { any = true; zer = true; lo = 0; hi = 2 ^ 1068; g = 0; u = 0; d = 0 }

-- the series: from a half to two, and the same in both runs
abbrev pub factor_k : Kind
factor_k = record { any = false; zer = false; lo = 2 ^ 1073; hi = 2 ^ 1075; g = last binary64 (2 ^ 1073); u = 0; d = 0 }

-- lambda: up to three times an argument
abbrev pub lambda_k : Kind
lambda_k = record {
  any = false;
  zer = false;
  lo = 3 * 2 ^ 1010;
  hi = 3 * 2 ^ 1138;
  g = last binary64 (3 * 2 ^ 1010);
  u = 2;
  d =
      0;
}

module _ {k : ℕ} where
  pub factor_two : {x y x' y' : Float} → Two binary64 k small_k x x' → Two binary64 k small_k y y'
      → Two binary64 k factor_k (rf_factor x y) (rf_factor x' y')
  unfolding rf_factor mul_k mul_ok div_k div_ok sum_k sum_ok nudge_k nudge_ok within lit_ok
  factor_two x y =
      let z = sub_two (neg_two x) y tt in
      let e2 = sub_two (mul_two x y tt) (mul_two z z tt) tt in
      let e3 = mul_two (mul_two x y tt) z tt in
      let threefold = mul_two (lit_two three tt) e3 tt in
      let a =
      sum_two (div_two (lit_two one tt) (lit_two (bits 0x402C_0000_0000_0000) tt) tt)
      (div_two threefold (lit_two (bits 0x405A_0000_0000_0000) tt) tt) tt in
      let b = sum_two (neg_two (lit_two (bits 0x3FB9_9999_9999_999A) tt))
      (div_two e2 (lit_two (bits 0x4038_0000_0000_0000) tt) tt) tt in
      let c = sub_two b (div_two threefold (lit_two (bits 0x4046_0000_0000_0000) tt) tt) tt in
      let five = mul_two (mul_two (lit_two (bits 0x4014_0000_0000_0000) tt) e2 tt) e2 tt in
      let d = sub_two c (div_two five (lit_two (bits 0x406A_0000_0000_0000) tt) tt) tt in
      let e = sum_two d (div_two (mul_two e2 e3 tt) (lit_two (bits 0x4030_0000_0000_0000) tt) tt) tt in
      widen_two (nudge_two (nudge_two (lit_two one tt) (mul_two e3 a tt) tt) (mul_two e2 e tt) tt) tt

  pub lambda_two : {x y z x' y' z' : Float} → Two binary64 k mean_k x x' → Two binary64 k mean_k y y' → Two binary64 k mean_k z z'
      → Two binary64 k lambda_k (lambda_of (root x) (root y) (root z)) (lambda_of (root x') (root y') (root z'))
  unfolding lambda_of root_k root_ok mul_k mul_ok plus_k plus_ok within
  lambda_two x y z =
      let rx = root_two x tt in
      let ry = root_two y tt in
      let rz = root_two z tt in
      widen_two (plus_two (plus_two (mul_two rx ry tt) (mul_two rx rz tt) tt) (mul_two ry rz tt) tt) tt

  pub quarter_two : {x l x' l' : Float} → Two binary64 k mean_k x x' → Two binary64 k lambda_k l l'
      → Two binary64 k mean_k ((x ⊕ l) ⊘ four) ((x' ⊕ l') ⊘ four)
  unfolding div_k div_ok plus_k plus_ok within lit_ok
  quarter_two x l = widen_two (div_two (plus_two x l tt) (lit_two four tt) tt) tt

  pub mean_two : {x y z x' y' z' : Float} → Two binary64 k mean_k x x' → Two binary64 k mean_k y y' → Two binary64 k mean_k z z'
      → Two binary64 k mean_k (mean_of x y z) (mean_of x' y' z')
  unfolding mean_of div_k div_ok plus_k plus_ok within lit_ok
  mean_two x y z = widen_two (div_two (plus_two (plus_two x y tt) z tt) (lit_two three tt) tt) tt
