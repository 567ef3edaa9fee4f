-- RF's arithmetic-geometric mean in two runs. At the cap it answers with the means it has.
use Rattle.std.specs.Prelude.{◌≡◌, ℕ, suc, ◌^◌, false, Float}
use Rattle.std.proofs.Math.Path.{ap, subst}
use Rattle.std.proofs.Math.Bool.{not}
use Rattle.std.proofs.Common.{inr, lit≤}
use Rattle.std.specs.Float.{binary64}
use Rattle.binary64.specs.Operators.{bits}
use Rattle.root.specs.Root.{root}
use Rattle.scaling.specs.Kind.{Kind, last, mul_k, mul_ok, div_k, div_ok, plus_k, plus_ok, sum_k, sum_ok, within}
use Rattle.scaling.specs.Two.{Two}
use Rattle.scaling.proofs.Two.{mul_two, div_two, plus_two}
use Rattle.scaling.specs.One.{lit_ok}
use Rattle.scaling.proofs.One.{sub_two}
use Rattle.scaling.proofs.One.{abs_two, lit_two, widen_two}
use Rattle.scaling.proofs.Tests.{le_two}
use Rattle.scaling.specs.Root.{root_k, root_ok}
use Rattle.scaling.proofs.Root.{root_two}
use Rattle.carlson.specs.Constants.{two, pi, epsilon}
use Rattle.carlson.specs.Common.{apart}
use Rattle.carlson.specs.Loop.{capped}
use Rattle.elliprf.specs.declared.means.Means.{Means}
use Rattle.elliprf.specs.Means.{rf_means_of, rf_agm_value, rf_agm_start, rf_agm_count, rf_together, rf_agm_of}
use Rattle.units.specs.Kinds.{mean_k}
use Rattle.units.specs.Runs.{Same, mean, loop_two}
use Rattle.units_rf.specs.Rc.{result_k}

-- a mean of roots: from 2 ^ -32 to 2 ^ 32, and multiplied by 2 ^ k
abbrev side_k : Kind
side_k = record { any = false; zer = false; lo = 2 ^ 1042; hi = 2 ^ 1106; g = last binary64 (2 ^ 1042); u = 1; d = 0 }

record Inv (k j : ℕ) (s t : Means) : Type 0 where
  xn : Two binary64 k side_k s.xn t.xn
  yn : Two binary64 k side_k s.yn t.yn

module _ {k : ℕ} where
  side_two : {x x' : Float} → Two binary64 k mean_k x x' → Two binary64 k side_k (root x) (root x')
  unfolding root_k root_ok within
  side_two x = widen_two (root_two x tt) tt

  value_two : (j : ℕ) (s t : Means) → Inv k j s t → Two binary64 k result_k (rf_agm_value s) (rf_agm_value t)
  unfolding rf_agm_value div_k div_ok plus_k plus_ok within lit_ok
  value_two j s t i = widen_two (div_two (lit_two pi tt) (plus_two i.xn i.yn tt) tt) tt

  pass : (j : ℕ) (s t : Means) → Inv k (suc j) s t → Inv k j (rf_means_of s) (rf_means_of t)
  unfolding rf_means_of div_k div_ok plus_k plus_ok mul_k mul_ok root_k root_ok within lit_ok
  pass j s t i = record {
    xn = widen_two (div_two (plus_two i.xn i.yn tt) (lit_two two tt) tt) tt;
    yn = widen_two (root_two (mul_two i.xn i.yn tt) tt) tt;
  }

  test : (j : ℕ) (s t : Means) → Inv k j s t → rf_together s ≡ rf_together t
  unfolding apart mul_k mul_ok sum_k sum_ok lit_ok
  test j s t i =
      ap not
      (le_two (mul_two (mul_two (lit_two (bits 0x4005_9999_9999_999A) tt) (lit_two epsilon tt) tt) (abs_two i.xn) tt)
      (abs_two (sub_two i.xn i.yn tt)) tt)

  pub agm_same : {x y x' y' : Float} → Two binary64 k mean_k x x' → Two binary64 k mean_k y y'
      → Same k result_k (rf_agm_of x y) (rf_agm_of x' y')
  unfolding rf_agm_of rf_agm_start
  agm_same {x} {y} {x'} {y'} X Y =
      let s = rf_agm_start x y in
      let t = rf_agm_start x' y' in
      let i : Inv k 11 s t = record { xn = side_two X; yn = side_two Y } in
      subst (λ b. Same k result_k (capped rf_means_of rf_together rf_agm_count rf_agm_count 11 (rf_together s) s 0)
      (capped rf_means_of rf_together rf_agm_count rf_agm_count 11 b t 0))
      (test 11 s t i)
      (loop_two rf_means_of rf_together rf_agm_count rf_agm_count rf_agm_count rf_agm_count (Same k result_k) (Inv k) 11
      (λ j s t h i. pass j s t i)
      (λ j s t h i. test j s t i)
      (λ j s t n h i p. mean n (inr (value_two j s t i))) (λ s t n i. mean n (inr (value_two 0 s t i))) 11 (rf_together s) s t 0
      (lit≤ tt) (λ p. p) i)
