-- RF's duplication in two runs, the second with x, y and z multiplied by 4 ^ k: the same number of passes, and the second
-- result is the first divided by 2 ^ k. What a pass keeps: all means from 2 ^ -64 to 2 ^ 64, and the bound q times the power of
-- four ahead of the first differences. The kinds allow fifty passes, as RG's joint loop does, which makes the same steps.
use Rattle.std.specs.Prelude.{◌≡◌, Bool, ◌&&◌, Float}
use Rattle.std.proofs.Math.Path.{refl, ap}
use Rattle.std.proofs.Common.{◌∙◌, subst, le_of_lt, lt_of_lt_of_le, mul-le-mul_left, mul-le-mul_right, inr, lit≤, lit<, pow_mono}
use Prim.Native.Nat.{ℕ, suc, ◌+◌, ◌-◌, ◌*◌, ◌^◌, ◌≤◌, ◌<◌, max}
use Rattle.std.proofs.Math.Nat.{le_trans, le-max_left, le-max_right}
use native.Mathlib.Omega.{arith}
use Rattle.std.proofs.Math.Bool.{false}
use Rattle.std.proofs.Math.Dec.{T, ltb→lt}
use Rattle.std.specs.Float.Ieee.{binary64, low, lt, below}
use Rattle.std.specs.Float.Ieee.Fits.{and_l, and_r}
use Rattle.binary64.specs.Leaves.{absolute}
use Rattle.binary64.specs.Operators.{◌⊖◌, bits}
use Rattle.scaling.specs.Units.{lt_units}
use Rattle.scaling.proofs.Last.{digits_of}
use Rattle.scaling.specs.Kind.{Kind, last, mul_k, mul_ok, div_k, div_ok, sum_k, sum_ok, within, neg_k, same_k}
use Rattle.scaling.proofs.Kind.{floor_le}
use Rattle.scaling.specs.Two.{Two}
use Rattle.scaling.proofs.Two.{mul_two, div_two, lt_two}
use Rattle.scaling.specs.One.{lit_ok, lit_n, clip_k}
use Rattle.scaling.proofs.One.{sub_two}
use Rattle.scaling.proofs.One.{abs_two, max_two, lit_two, widen_two, clip_two}
use Rattle.scaling.specs.Root.{root_k, root_ok}
use Rattle.scaling.proofs.Root.{root_two}
use Rattle.scaling.specs.Lead.{Ahead}
use Rattle.scaling.proofs.Lead.{ahead_start, ahead_step, ahead_end}
use Rattle.scaling.specs.Every.{all, every}
use Rattle.carlson.specs.Constants.{one, four}
use Rattle.rf_duplicate.specs.declared.duplicate.Round.{Round}
use Rattle.rf_duplicate.specs.Duplicate.{mean_of, rf_start, rf_begin, rf_moved, rf_step}
use Rattle.rf_duplicate.specs.Duplicate.{rf_close, rf_correction, rf_series, rf_found, rf_spent}
use Rattle.rf_duplicate.specs.Duplicate.{rf_duplication}
use Rattle.units.specs.Kinds.{mean_k}
use Rattle.units.specs.Runs.{Same, duplicated, neither, loop_two}
use Rattle.units_rf.specs.Rc.{result_k}
use Rattle.units_rf.specs.Series.{small_k, lambda_two, quarter_two, mean_two, factor_two}
use Rattle.units_rf.specs.Rounds.{Inv, bound_k, gap_k, power_k}

-- ---- the tests that depend on the pass, for all passes at once
four_k : Kind
four_k = same_k binary64 false (2 ^ 1076)

quarter_ok : ℕ → Bool
unfolding four_k div_k div_ok within
quarter_ok j = div_ok binary64 (bound_k (suc j)) four_k && within (div_k binary64 (bound_k (suc j)) four_k) (bound_k j)

power_ok : ℕ → Bool
unfolding four_k mul_k mul_ok within
power_ok j = mul_ok binary64 (power_k (suc j)) four_k && within (mul_k binary64 (power_k (suc j)) four_k) (power_k j)

quarters : (j : ℕ) → j < 50 → T (quarter_ok j)
unfolding all quarter_ok
quarters = every 50 quarter_ok tt

fours : (j : ℕ) → j < 50 → T (power_ok j)
unfolding all power_ok
fours = every 50 power_ok tt

powers : (j : ℕ) → j < 51 → T (within (power_k j) (power_k 0))
unfolding all within
powers = every 51 (λ j. within (power_k j) (power_k 0)) tt

-- a start with fewer passes allowed; RG allows fifty
start_ok : ℕ → Bool
unfolding within
start_ok j = within (bound_k 50) (bound_k j) && within (power_k 50) (power_k j)

starts : (j : ℕ) → j < 51 → T (start_ok j)
unfolding all start_ok
starts = every 51 start_ok tt

-- what is ahead of the larger of two is ahead of each
ahead_of : (D E Q W : ℕ) → D ≤ E → Ahead binary64 E Q W → Ahead binary64 D Q W
ahead_of D E Q W h a = le_trans (mul-le-mul_right (2 ^ low binary64) (mul-le-mul_left 64 h)) a

module _ {k : ℕ} where
  four_two : Two binary64 k four_k four four
  unfolding four_k lit_ok
  four_two = lit_two four tt

  -- ---- a pass
  pub pass : {D D' : ℕ} (j : ℕ) (s t : Round) → j < 50 → Inv k D D' (suc j) s t → Inv k D D' j (rf_step s) (rf_step t)
  unfolding rf_step rf_moved four_k quarter_ok power_ok lit_ok widen_two mul_two div_two four_two lit_two
  pass {D} {D'} j s t h i =
      let l = lambda_two i.xn i.yn i.zn in
      let c = quarters j h in
      let e = fours j h in
      let A = div_ok binary64 (bound_k (suc j)) four_k in
      let B = mul_ok binary64 (power_k (suc j)) four_k in
      let big : (n : ℕ) → 2 ^ (900 + 2 * suc j) ≤ n → 2 ^ 55 ≤ n =
      λ n g. le_trans (pow_mono (let r : 55 ≤ 900 + 2 * suc j = omega arith in r)) g in
      record {
        an = quarter_two i.an l;
        xn = quarter_two i.xn l;
        yn = quarter_two i.yn l;
        zn = quarter_two i.zn l;
        q = widen_two (div_two i.q four_two (and_l A _ c)) (and_r A _ c);
        fnval = widen_two (mul_two i.fnval four_two (and_l B _ e)) (and_r B _ e);
        ahead =
            ahead_step binary64 D i.q.m i.fnval.m (digits_of i.q.first) (digits_of i.fnval.first)
            (big i.q.m (floor_le i.q.in_first)) i.ahead;
        ahead' =
            ahead_step binary64 D' i.q.n i.fnval.n (digits_of i.q.second) (digits_of i.fnval.second)
            (big i.q.n (floor_le i.q.in_second)) i.ahead';
      }

  -- ---- the test at a pass's end says the same in both runs, and what it says
  pub test : (j : ℕ) {a q a' q' : Float} → Two binary64 k mean_k a a' → Two binary64 k (bound_k j) q q'
      → lt q (absolute a) ≡ lt q' (absolute a')
  test j A Q = lt_two Q (abs_two A) tt

  closer : (j : ℕ) {a q a' q' : Float} (A : Two binary64 k mean_k a a') (Q : Two binary64 k (bound_k j) q q')
      → T (lt q (absolute a))
      → (Q.m < A.m) × (Q.n < A.n)
  unfolding abs_two
  closer j A Q t =
      let s : Q.s ≡ false = Q.in_first.sign tt in (
        ltb→lt Q.m A.m (subst T (lt_units Q.first (abs_two A).first ∙ ap (λ s. below s Q.m false A.m) s) t),
        ltb→lt Q.n A.n (subst T (test j A Q ∙ lt_units Q.second (abs_two A).second
            ∙ ap (λ s. below s Q.n false A.n) s) t),
      )

  -- ---- a correction: a first difference over the mean times the power is the same in both runs, and small
  correction_two : (j : ℕ) (a₀ x a₀' x' : Float) {a q w a' q' w' : Float} → j < 51 → (A : Two binary64 k mean_k a a')
      (Q : Two binary64 k (bound_k j) q q') (W : Two binary64 k (power_k j) w w') (G : Two binary64 k gap_k (a₀ ⊖ x) (a₀' ⊖ x'))
      → Ahead binary64 G.m Q.m W.m → Ahead binary64 G.n Q.n W.n → T (lt q (absolute a))
      → Two binary64 k small_k (rf_correction a₀ x a w) (rf_correction a₀' x' a' w')
  unfolding rf_correction gap_k sum_k mul_k mul_ok div_k div_ok within clip_k widen_two mul_two div_two
  correction_two j a₀ x a₀' x' h A Q W G e e' t =
      let E = mul_two A (widen_two {B = power_k 0} W (powers j h)) tt in
      let r = closer j A Q t in
      widen_two
      (clip_two (2 ^ 1068) (div_two G E tt)
      (ahead_end binary64 G.m Q.m W.m A.m 1068 (digits_of G.first) refl e (le_of_lt r.0)
      (lt_of_lt_of_le (lit< tt) (floor_le E.in_first)))
      (ahead_end binary64 G.n Q.n W.n A.n 1068 (digits_of G.second) refl e' (le_of_lt r.1)
      (lt_of_lt_of_le (lit< tt) (floor_le E.in_second))))
      tt

  pub series_two : (j : ℕ) (a₀ x y a₀' x' y' : Float) (s t : Round) (G : Two binary64 k gap_k (a₀ ⊖ x) (a₀' ⊖ x'))
      (H : Two binary64 k gap_k (a₀ ⊖ y) (a₀' ⊖ y'))
      → j < 51 → Inv k (max G.m H.m) (max G.n H.n) j s t → T (rf_close s)
      → Two binary64 k result_k (rf_series x y a₀ s.an s.fnval) (rf_series x' y' a₀' t.an t.fnval)
  unfolding rf_series rf_close root_k root_ok div_k div_ok within
  series_two j a₀ x y a₀' x' y' s t G H h i p =
      let D = max G.m H.m in
      let D' = max G.n H.n in
      let q = i.q in
      let w = i.fnval in
      let X =
      correction_two j a₀ x a₀' x' h i.an q w G (ahead_of G.m D q.m w.m (le-max_left _ _) i.ahead)
      (ahead_of G.n D' q.n w.n (le-max_left _ _) i.ahead') p in
      let Y =
      correction_two j a₀ y a₀' y' h i.an q w H (ahead_of H.m D q.m w.m (le-max_right _ _) i.ahead)
      (ahead_of H.n D' q.n w.n (le-max_right _ _) i.ahead') p in
      widen_two (div_two (factor_two X Y) (root_two i.an tt) tt) tt

  -- ---- the start, and the whole
  pub begin : (j : ℕ) {x y z x' y' z' : Float} → j < 51
      → (X : Two binary64 k mean_k x x') (Y : Two binary64 k mean_k y y') (Z : Two binary64 k mean_k z z')
      → (G : Two binary64 k gap_k (mean_of x y z ⊖ x) (mean_of x' y' z' ⊖ x'))
      (H : Two binary64 k gap_k (mean_of x y z ⊖ y) (mean_of x' y' z' ⊖ y'))
      → Inv k (max G.m H.m) (max G.n H.n) j (rf_begin x y z) (rf_begin x' y' z')
  unfolding rf_begin rf_start start_ok gap_k sum_k sum_ok mul_k mul_ok within lit_ok abs_two max_two mul_two lit_two widen_two
  begin j h X Y Z G H =
      let A = mean_two X Y Z in
      let M = max_two (max_two (max_two (abs_two A) (abs_two G) tt) (abs_two H) tt) (abs_two (sub_two A Z tt)) tt in
      let factor = bits 0x4053_B957_8EB0_BF54 in
      let o = starts j h in
      let P = within (bound_k 50) (bound_k j) in
      record {
        an = A;
        xn = X;
        yn = Y;
        zn = Z;
        q = widen_two (widen_two {B = bound_k 50} (mul_two (lit_two factor tt) M tt) tt) (and_l P _ o);
        fnval = widen_two (widen_two {B = power_k 50} (lit_two one tt) tt) (and_r P _ o);
        ahead =
            ahead_start binary64 (lit_n binary64 factor) M.m (max G.m H.m) (digits_of M.first)
            (within_max A.m G.m H.m _)
            (lit≤ tt);
        ahead' =
            ahead_start binary64 (lit_n binary64 factor) M.n (max G.n H.n) (digits_of M.second)
            (within_max A.n G.n H.n _)
            (lit≤ tt);
      }
    where
      within_max : (a g h z : ℕ) → max g h ≤ max (max (max a g) h) z
      within_max a g h z = omega arith

  pub duplication_same : {x y z x' y' z' : Float} → Two binary64 k mean_k x x' → Two binary64 k mean_k y y'
      → Two binary64 k mean_k z z'
      → Same k result_k (rf_duplication x y z) (rf_duplication x' y' z')
  unfolding rf_duplication rf_begin gap_k sum_k sum_ok
  duplication_same {x} {y} {z} {x'} {y'} {z'} X Y Z =
      let A = mean_two X Y Z in
      let G = sub_two A X tt in
      let H = sub_two A Y tt in
      let a₀ = mean_of x y z in
      let a₀' = mean_of x' y' z' in
      loop_two rf_step rf_close (rf_found x y a₀) rf_spent (rf_found x' y' a₀') rf_spent (Same k result_k)
      (Inv k (max G.m H.m) (max G.n H.n)) 11
      (λ j s t h. pass j s t (fifty j h)) closes
      (λ j s t n h i p. duplicated n (inr (series_two j a₀ x y a₀' x' y' s t G H (more j h) i p)))
      (λ s t n i. duplicated n neither)
      11 false (rf_begin x y z) (rf_begin x' y' z') 0 (lit≤ tt) (λ p. absurd p) (begin 11 (lit< tt) X Y Z G H)
    where
      more : (j : ℕ) → j ≤ 11 → j < 51
      more j h = omega arith

      fifty : (j : ℕ) → j < 11 → j < 50
      fifty j h = omega arith

      closes : {D D' : ℕ} (j : ℕ) (s t : Round) → j < 11 → Inv k D D' j s t → rf_close s ≡ rf_close t
      closes j s t h i = unfold rf_close in test j i.an i.q
