-- RJ's duplication whole, in two runs: as many passes, and the second value is the first divided by 2 ^ 3k, or neither is a
-- number. Assumes nothing.
use Rattle.std.specs.Prelude.{◌≡◌, ℕ, suc, ◌≤◌, ◌<◌, Bool, T, Float}
use Rattle.std.proofs.Math.Path.{subst}
use Rattle.std.proofs.Common.{le_refl, lit<}
use native.Mathlib.Omega.{arith}
use Rattle.std.specs.Float.{binary64}
use Rattle.carlson.specs.Loop.{capped}
use Rattle.rj_positive.specs.Duplicate.{rj_mean, rj_start, rj_begin, rj_step, rj_close, rj_found, rj_spent, rj_duplication}
use Rattle.rj_positive.specs.declared.duplicate.Round.{Round}
use Rattle.scaling.specs.Two.{Two}
use Rattle.units.specs.Runs.{Same, duplicated_over, neither, loops_two}
use Rattle.units_rd.specs.Mean.{arg_k, Arg, some, some?}
use Rattle.units_rd.specs.Gaps.{gap}
use Rattle.units_rj.specs.Step.{Whole, step_whole}
use Rattle.units_rj.specs.Start.{at_most_one, mean, started}
use Rattle.units_rj.specs.Series.{value_k, Start, start_two, test_two, ended, correction_two, series_fair}

module _ {k : ℕ} {x x' y y' z z' p p' : Float} (a : Arg k x x') (b : Arg k y y') (c : Arg k z z') (P : Two binary64 k arg_k p p')
    (t : T (at_most_one (some? a) (some? b) (some? c))) where
  abbrev A₀ : Float
  A₀ = rj_mean x y z p

  abbrev A₀' : Float
  A₀' = rj_mean x' y' z' p'

  abbrev S : Start k x x' y y' z z' p p' A₀ A₀' (gap (mean a b c P t) a).two.m (gap (mean a b c P t) a).two.n
      (gap (mean a b c P t) b).two.m (gap (mean a b c P t) b).two.n
      (gap (mean a b c P t) c).two.m (gap (mean a b c P t) c).two.n
  S = start_two x x' y y' z z' p p' A₀ A₀' (gap (mean a b c P t) a).two (gap (mean a b c P t) b).two
      (gap (mean a b c P t) c).two
      (gap (mean a b c P t) (some P)).two

  abbrev q : Float
  q = rj_start A₀ x y z p

  abbrev q' : Float
  q' = rj_start A₀' x' y' z' p'

  same_test : (j : ℕ) (s s' : Round) → j < 101 → Whole k j s s' → rj_close q s ≡ rj_close q' s'
  unfolding rj_close
  same_test j s s' h w = test_two j h w.inv.a w.inv.w S.q

  ends : (j : ℕ) (s s' : Round) (n : ℕ) → j ≤ 99 → Whole k j s s' → T (rj_close q s)
      → Same k value_k (rj_found x y z A₀ s n) (rj_found x' y' z' A₀' s' n)
  unfolding rj_close
  ends j s s' n l w close =
      let i = w.inv in
      let h : j < 101 = omega arith in
      let e = ended j h i.a i.w S.q S.M S.M' S.lead S.lead' close in
      let X = correction_two j A₀ A₀' x x' h i.a i.w (gap (mean a b c P t) a).two S.M S.M' S.first S.first'
      e.0 e.1 in
      let Y = correction_two j A₀ A₀' y y' h i.a i.w (gap (mean a b c P t) b).two S.M S.M' S.second S.second'
      e.0 e.1 in
      let Z = correction_two j A₀ A₀' z z' h i.a i.w (gap (mean a b c P t) c).two S.M S.M' S.third S.third'
      e.0 e.1 in
      duplicated_over n i.rescalings (series_fair j s s' x x' y y' z z' A₀ A₀' h i.a i.w i.sum X Y Z)

  pass : (j : ℕ) (s s' : Round) → j < 99 → Whole k (suc j) s s' → Whole k j (rj_step s) (rj_step s')
  pass j s s' l w = step_whole (let r : j < 100 = omega arith in r) w

  pub duplication_two : Same k value_k (rj_duplication x y z p) (rj_duplication x' y' z' p')
  unfolding rj_duplication capped rj_begin
  duplication_two =
      let s = rj_step (rj_begin x y z p) in
      let s' = rj_step (rj_begin x' y' z' p') in
      let i = started a b c P t in
      subst (λ (b : Bool). Same k value_k (rj_duplication x y z p)
      (capped rj_step (rj_close q') (rj_found x' y' z' A₀') rj_spent 99 b s' 1))
      (same_test 99 s s' (lit< tt) i)
      (loops_two rj_step rj_step (rj_close q) (rj_close q') (rj_found x y z A₀) rj_spent (rj_found x' y' z' A₀') rj_spent
      (Same k value_k) (Whole k) 99 pass
      (λ j s s' l w. same_test j s s' (let r : j < 101 = omega arith in r) w) ends
      (λ s s' n w. duplicated_over n w.inv.rescalings neither) 99
      (rj_close q s) s s' 1
      (le_refl 99) (λ u. u) i)
