-- RD's duplication whole, in two runs: as many passes, and the second value is the first divided by 2 ^ 3k. Assumes nothing.
use Rattle.std.specs.Prelude.{◌≡◌, ℕ, suc, ◌+◌, ◌*◌, ◌^◌, ◌≤◌, ◌<◌, Bool, ◌||◌, T, Float}
use Rattle.std.proofs.Math.Path.{subst}
use Rattle.std.proofs.Math.Nat.{le_trans}
use Rattle.std.proofs.Common.{le_refl, mul-le-mul_right, inr}
use native.Mathlib.Omega.{arith}
use Rattle.std.specs.Float.{binary64}
use Rattle.std.specs.Float.Ieee.{low}
use Rattle.carlson.specs.Loop.{capped}
use Rattle.rd_duplicate.specs.Duplicate.{rd_mean, rd_begin, rd_step, rd_close, rd_series, rd_found, rd_spent, rd_duplication}
use Rattle.rd_duplicate.specs.declared.duplicate.Round.{Round}
use Rattle.scaling.specs.Two.{Two}
use Rattle.scaling.specs.Signed.{above}
use Rattle.units.specs.Runs.{Same, duplicated, neither, loop_two}
use Rattle.units_rd.specs.Mean.{arg_k, Arg, some?, units, units'}
use Rattle.units_rd.specs.Gaps.{bounded, turned}
use Rattle.units_rd.specs.Step.{Inv, step_inv}
use Rattle.units_rd.specs.Start.{m, gx, gy, gz, xy, xyz, largest, largest', started}
use Rattle.units_rd.specs.Series.{value_k}
use Rattle.units_rd.proofs.Series.{test_two, ended, correction_two, series_two}

module _ {k : ℕ} {x x' y y' z z' : Float} (a : Arg k x x') (b : Arg k y y') (c : Two binary64 k arg_k z z')
    (h : T (some? a || some? b)) where
  abbrev pub I : ℕ → Round → Round → Type 0
  I j s t = Inv k j (largest a b c h) (largest' a b c h) (m a b c h).two.m (m a b c h).two.n s t

  -- ---- the first differences of x and y are little more than the largest above zero
  abbrev pub A : ℕ
  A = (m a b c h).two.m

  abbrev pub A' : ℕ
  A' = (m a b c h).two.n

  x_above : above (gx a b c h).two.s (gx a b c h).two.m ≤ largest a b c h
  x_above = le_trans (xy a b c h).left (xyz a b c h).left

  y_above : above (gy a b c h).two.s (gy a b c h).two.m ≤ largest a b c h
  y_above = le_trans (xy a b c h).right (xyz a b c h).left

  x_above' : above (gx a b c h).two.s (gx a b c h).two.n ≤ largest' a b c h
  x_above' = le_trans (xy a b c h).left_second (xyz a b c h).left_second

  y_above' : above (gy a b c h).two.s (gy a b c h).two.n ≤ largest' a b c h
  y_above' = le_trans (xy a b c h).right_second (xyz a b c h).left_second

  x_bound : 2 ^ 40 * (gx a b c h).two.m ≤ 6 * 2 ^ 40 * largest a b c h + A
  x_bound = bounded A (units a) (units b) c.m (largest a b c h) _ _ _ _ _ _ (m a b c h).first (gx a b c h).first
      (gy a b c h).first
      (gz a b c h).first x_above y_above (xyz a b c h).right

  x_bound' : 2 ^ 40 * (gx a b c h).two.n ≤ 6 * 2 ^ 40 * largest' a b c h + A'
  x_bound' = bounded A' (units' a) (units' b) c.n (largest' a b c h) _ _ _ _ _ _ (m a b c h).second (gx a b c h).second
      (gy a b c h).second
      (gz a b c h).second x_above' y_above' (xyz a b c h).right_second

  y_bound : 2 ^ 40 * (gy a b c h).two.m ≤ 6 * 2 ^ 40 * largest a b c h + A
  y_bound = bounded A (units b) (units a) c.m (largest a b c h) _ _ _ _ _ _
      (turned (units a) (units b) c.m A (m a b c h).first)
      (gy a b c h).first (gx a b c h).first (gz a b c h).first y_above x_above (xyz a b c h).right

  y_bound' : 2 ^ 40 * (gy a b c h).two.n ≤ 6 * 2 ^ 40 * largest' a b c h + A'
  y_bound' = bounded A' (units' b) (units' a) c.n (largest' a b c h) _ _ _ _ _ _
      (turned (units' a) (units' b) c.n A' (m a b c h).second)
      (gy a b c h).second (gx a b c h).second (gz a b c h).second y_above' x_above' (xyz a b c h).right_second

  -- ---- where it ends
  pub value_two : (j : ℕ) (s t : Round) → j ≤ 50 → I j s t → T (rd_close s)
      → Two binary64 k value_k (rd_series x y (rd_mean x y z) s.an s.fnval s.sum)
      (rd_series x' y' (rd_mean x' y' z') t.an t.fnval t.sum)
  unfolding rd_close
  value_two j s t l i close =
      let K = i.kept in
      let e = ended j K.a K.q close in
      let f : j < 51 = omega arith in
      let lead = le_trans K.lead (mul-le-mul_right (2 ^ low binary64) e.0) in
      let lead' = le_trans K.lead' (mul-le-mul_right (2 ^ low binary64) e.1) in
      let X =
      correction_two j (rd_mean x y z) (rd_mean x' y' z') x x' f K.a K.w (gx a b c h).two (largest a b c h)
      (largest' a b c h) A A'
      x_bound x_bound' lead lead' K.base K.base' in
      let Y =
      correction_two j (rd_mean x y z) (rd_mean x' y' z') y y' f K.a K.w (gy a b c h).two (largest a b c h)
      (largest' a b c h) A A'
      y_bound y_bound' lead lead' K.base K.base' in
      series_two j x x' y y' (rd_mean x y z) (rd_mean x' y' z') f K.a K.w K.sum X Y

  ends : (j : ℕ) (s t : Round) (n : ℕ) → j ≤ 49 → I j s t → T (rd_close s)
      → Same k value_k (rd_found x y (rd_mean x y z) s n) (rd_found x' y' (rd_mean x' y' z') t n)
  ends j s t n l i close = duplicated n (inr (value_two j s t (let r : j ≤ 50 = omega arith in r) i close))

  pub same_test : (j : ℕ) (s t : Round) → I j s t → rd_close s ≡ rd_close t
  unfolding rd_close
  same_test j s t i = test_two j i.kept.a i.kept.q

  pass : (j : ℕ) (s t : Round) → j < 49 → I (suc j) s t → I j (rd_step s) (rd_step t)
  pass j s t l i = step_inv (let r : j < 50 = omega arith in r) i

  pub duplication_two : Same k value_k (rd_duplication x y z) (rd_duplication x' y' z')
  unfolding rd_duplication capped rd_begin
  duplication_two =
      let s = rd_step (rd_begin x y z) in
      let t = rd_step (rd_begin x' y' z') in
      let i = started a b c h in
      subst (λ (b : Bool). Same k value_k (rd_duplication x y z)
      (capped rd_step rd_close (rd_found x' y' (rd_mean x' y' z')) rd_spent 49 b t 1))
      (same_test 49 s t i)
      (loop_two rd_step rd_close (rd_found x y (rd_mean x y z)) rd_spent (rd_found x' y' (rd_mean x' y' z')) rd_spent (Same k value_k)
      I 49 pass
      (λ j s t l i. same_test j s t i) ends (λ s t n i. duplicated n neither) 49 (rd_close s) s t 1 (le_refl 49) (λ q. q) i)
