-- RC(1, b) for a b above zero up to 2 ^ 12 that is the same in both runs: no number, or of a bounded size. Only bounds are at
-- stake. Assumes nothing.
use Rattle.std.specs.Prelude.{◌≡◌, ◌⊎◌, ℕ, ◌*◌, ◌^◌, ◌≤◌, ◌<◌, max, true, false, not, eqb, Float}
use Rattle.std.proofs.Math.Path.{refl}
use Rattle.std.proofs.Common.{sym, ap, ◌∙◌, subst, le_trans, le_of_lt, T_not, lt→ltb, nltb→le, lit≤, pow_pos, pow-add, pow_mono}
use Rattle.std.proofs.Math.Logic.{inl, inr}
use Rattle.std.proofs.Math.Nat.{le-max_left}
use native.Mathlib.Omega.{arith}
use Rattle.std.proofs.Math.Dec.{T, ltb→lt}
use Rattle.std.specs.Float.{nan}
use Rattle.std.specs.Float.Ieee.{binary64, low, sub, lt, eq, level, of_bits}
use Rattle.std.proofs.Math.Arith.{lt_of_le-ne}
use Rattle.std.specs.Float.Ieee.Fits.{and_i, eq→eqb}
use Rattle.binary64.specs.Operators.{◌⊖◌, ◌⊗◌, ◌⊘◌}
use Rattle.root.specs.Root.{root}
use Rattle.series.specs.Atan.{atan}
use Rattle.series.specs.Ln.{ln}
use Rattle.carlson.specs.Constants.{zero, one, two, half}
use Rattle.carlson_arguments.specs.Rescaling.{scale_of2, rescaling2}
use Rattle.carlson.specs.Answer.{closed_at}
use Rattle.elliprc.specs.Rc.{rc_found, rc_unchecked}
use Rattle.rc_cases.specs.Cases.{rc_at_equal, rc_by_atan, rc_by_ln1p, rc_by_ln, rc_cases, rc_steps}
use Rattle.algebra.specs.Order.{lt_or_le}
use Rattle.scaling.specs.Kind.{Kind, last, mul_k, mul_ok, div_k, div_ok, plus_k, plus_ok, nudge_k, nudge_ok, within}
use Rattle.scaling.proofs.Kind.{floor_le}
use Rattle.scaling.specs.Units.{Is, lt_units, eq_units}
use Rattle.scaling.specs.Two.{Two}
use Rattle.scaling.proofs.Two.{mul_two, div_two, plus_two, nudge_two}
use Rattle.scaling.proofs.Tests.{zero_is}
use Rattle.scaling.specs.Near.{near}
use Rattle.scaling.specs.One.{lit_ok}
use Rattle.scaling.proofs.One.{constant_two, neg_two}
use Rattle.scaling.proofs.One.{lit_two, lit_is, widen_two, abs_units, maximum_units}
use Rattle.scaling.specs.Leaf.{gap_k, gap_ok}
use Rattle.scaling.proofs.Leaf.{leaf_two, gap_two}
use Rattle.scaling.proofs.Pick.{choose}
use Rattle.scaling.specs.Nan.{mul_nan, nan_div}
use Rattle.scaling.specs.Root.{root_k, root_ok}
use Rattle.scaling.proofs.Root.{root_two}
use Rattle.scaling.proofs.Still.{recast_two}
use Rattle.units.specs.Limits.{Size, within_limits}
use Rattle.units.specs.Runs.{Fair}
use Rattle.units_rf.specs.Leaves.{ratio_k, leaf_k, spread, atan_leaf, ln_leaf, spread_leaf}
use Rattle.units_rf.specs.Above.{three_quarters}
use Rattle.units_rf.specs.Cases.{not_above}
use Rattle.units_rj.specs.Helper.{term_k}

-- ---- kinds
abbrev pub middle_k : Kind
middle_k = record { any = false; zer = false; lo = 2 ^ 870; hi = 2 ^ 1086; g = last binary64 (2 ^ 870); u = 0; d = 0 }

abbrev between_k : ℕ → ℕ → Kind
between_k lo hi = record { any = false; zer = false; lo = lo; hi = hi; g = last binary64 lo; u = 0; d = 0 }

-- a difference of 1 and b, and its root
abbrev difference_k : Kind
difference_k = record { any = false; zer = false; lo = 2 ^ 1020; hi = 2 ^ 1087; g = last binary64 (2 ^ 1020); u = 0; d = 0 }

abbrev rest_k : Kind
rest_k = record { any = false; zer = false; lo = 2 ^ 1072; hi = 2 ^ 1075; g = last binary64 (2 ^ 1072); u = 0; d = 0 }

abbrev side_k : Kind
side_k = record { any = false; zer = false; lo = 2 ^ 1047; hi = 2 ^ 1082; g = last binary64 (2 ^ 1047); u = 0; d = 0 }

abbrev divisor_k : Kind
divisor_k = record { any = false; zer = false; lo = 2 ^ 1047; hi = 2 ^ 1083; g = last binary64 (2 ^ 1047); u = 0; d = 0 }

-- 1 times what a leaf gives, over a divisor
over : {k : ℕ} {v w : Float} → ((v ≡ nan) × (v ≡ nan)) ⊎ Two binary64 k leaf_k v v → Two binary64 k divisor_k w w
    → Fair k term_k (one ⊗ v ⊘ w) (one ⊗ v ⊘ w)
unfolding mul_k mul_ok div_k div_ok within lit_ok of_bits
over {w = w} (inl z) D = let g = ap (λ a. one ⊗ a ⊘ w) z.0 ∙ ap (λ a. a ⊘ w) (mul_nan binary64 one) ∙ nan_div binary64 w in
    inl (g, g)
over (inr F) D = inr (widen_two (div_two (mul_two (lit_two one tt) F tt) D tt) tt)

module _ {k : ℕ} {d : Float} (D : Two binary64 k difference_k d d) where
  side : Two binary64 k side_k (root d) (root d)
  unfolding root_k root_ok within
  side = widen_two (root_two D tt) tt

  divisor : Two binary64 k divisor_k (root d) (root d)
  unfolding within
  divisor = widen_two side tt

  ratio : Two binary64 k ratio_k (root (d ⊘ one)) (root (d ⊘ one))
  unfolding div_k div_ok root_k root_ok within lit_ok of_bits
  ratio = widen_two (root_two (div_two D (lit_two one tt) tt) tt) tt

module _ {k : ℕ} {b : Float} (B : Two binary64 k middle_k b b) where
  abbrev m : ℕ
  m = B.m

  B-is : Is binary64 b false m
  B-is = subst (λ s. Is binary64 b s m) (B.in_first.sign tt) B.first

  one_is : Is binary64 one false (2 ^ 1074)
  unfolding lit_ok of_bits
  one_is = lit_is binary64 one tt

  recast : (lo hi : ℕ) → lo ≤ m → m ≤ hi → Two binary64 k (between_k lo hi) b b
  recast lo hi p q = recast_two (between_k lo hi) B refl refl refl
      (record { sign = λ t. B.in_first.sign tt; from = inr p; to = q })

  -- b above 1
  above_one : T (lt one b) → Two binary64 k difference_k (b ⊖ one) (b ⊖ one)
  unfolding gap_k gap_ok within lit_ok of_bits
  above_one t =
      let l : 2 ^ 1074 < m = ltb→lt (2 ^ 1074) m (subst T (lt_units one_is B-is) t) in
      widen_two (gap_two (lit_two one tt) (recast (2 ^ 1074) (2 ^ 1086) (le_of_lt l) B.in_first.to) t tt tt) tt

  -- b below 1: at least a half, or less
  below_one : T (lt b one) → Two binary64 k difference_k (one ⊖ b) (one ⊖ b)
  unfolding sub gap_k gap_ok nudge_k nudge_ok within lit_ok of_bits
  below_one t =
      let l : m < 2 ^ 1074 = ltb→lt m (2 ^ 1074) (subst T (lt_units B-is one_is) t) in
      elim (lt_or_le m (2 ^ 1073)) [
        | inl h ↦ widen_two (nudge_two (lit_two one tt)
            (neg_two (recast (2 ^ 870) (2 ^ 1073) (floor_le B.in_first) (le_of_lt h))) tt) tt
        | inr h ↦ widen_two (gap_two (recast (2 ^ 1073) (2 ^ 1074) h (le_of_lt l)) (lit_two one tt) t tt tt) tt
      ]

  -- neither equal nor above
  lower : T (not (eq one b)) → T (not (lt one b)) → T (lt b one)
  lower e t =
      let h : m ≤ 2 ^ 1074 = nltb→le (2 ^ 1074) m (subst (λ z. T (not z)) (lt_units one_is B-is) t) in
      let n : 2 ^ 1074 ≡ m → ⊥ = λ q. T_not (level false (2 ^ 1074) false m) (subst (λ z. T (not z)) (eq_units one_is B-is) e)
      (and_i (eqb (2 ^ 1074) m) true (eq→eqb q) tt) in
      subst T (sym (lt_units B-is one_is)) (lt→ltb m (2 ^ 1074) (lt_of_le-ne h (λ q. n (sym q))))

  equal : Fair k term_k (rc_at_equal one one) (rc_at_equal one one)
  unfolding rc_at_equal root_k root_ok div_k div_ok within lit_ok of_bits
  equal = inr (widen_two (div_two (lit_two one tt) (root_two (lit_two one tt) tt) tt) tt)

  by_ln1p_lem : T (lt b one) → Fair k term_k (rc_by_ln1p one one b) (rc_by_ln1p one one b)
  unfolding rc_by_ln1p mul_k mul_ok within lit_ok of_bits
  by_ln1p_lem t = let D = below_one t in over (leaf_two spread spread_leaf refl refl refl (ratio D))
      (widen_two (mul_two (lit_two two tt) (side D) tt) tt)

  -- b, over 1 not above 1/2, is not 3/4
  quarters : T (not (lt half (b ⊘ one))) → m ≤ 3 * 2 ^ 1072
  unfolding lit_ok of_bits div_k div_ok div_two lit_two constant_two
  quarters h =
      let Q = div_two B (lit_two one tt) tt in
      let q : near binary64 (m * 2 ^ low binary64) (2 ^ 1074) ≤ 2 ^ 1073 = not_above Q.first (Q.in_first.sign tt) h in
      fourth m (2 ^ 1072) (2 ^ 1074) (pow-add 2 2 1072) (three_quarters (2 ^ 1074) m (pow_pos 1074) q)
    where
      fourth : (m q p : ℕ) → p ≡ 4 * q → 4 * m < 3 * p → m ≤ 3 * q
      fourth m q p e h = omega arith

  -- so 1 - b is a quarter at least
  rest : T (not (lt half (b ⊘ one))) → Two binary64 k rest_k (one ⊖ b) (one ⊖ b)
  unfolding sub nudge_k nudge_ok within lit_ok of_bits
  rest h = widen_two (nudge_two (lit_two one tt)
      (neg_two (recast (2 ^ 870) (3 * 2 ^ 1072) (floor_le B.in_first) (quarters h))) tt) tt

  by_ln : T (not (lt half (b ⊘ one))) → Fair k term_k (rc_by_ln one one b) (rc_by_ln one one b)
  unfolding rc_by_ln plus_k plus_ok div_k div_ok root_k root_ok within lit_ok of_bits
  by_ln h =
      let D = rest h in
      let Q = recast (2 ^ 870) (3 * 2 ^ 1072) (floor_le B.in_first) (quarters h) in
      over (leaf_two ln ln_leaf refl refl refl
      (widen_two (div_two (plus_two (root_two (lit_two one tt) tt) (root_two D tt) tt) (root_two Q tt) tt) tt))
      (divisor (widen_two D tt))

  by_atan : T (lt one b) → Fair k term_k (rc_by_atan one one b) (rc_by_atan one one b)
  unfolding rc_by_atan
  by_atan t = let D = above_one t in over (leaf_two atan atan_leaf refl refl refl (ratio D)) (divisor D)

  -- ---- which of them
  cases : Fair k term_k (rc_cases one one b) (rc_cases one one b)
  unfolding rc_cases
  cases =
      choose (Fair k term_k) (eq one zero) (eq one zero) refl (λ t. absurd (T_not (eq one zero) not_zero t))
      (λ t. choose (Fair k term_k) (eq one b) (eq one b) refl (λ e. equal)
      (λ e. choose (Fair k term_k) (lt one b) (lt one b) refl by_atan
      (λ l. choose (Fair k term_k) (lt half (b ⊘ one)) (lt half (b ⊘ one)) refl (λ h. by_ln1p_lem (lower e l)) by_ln)))
    where
      not_zero : T (not (eq one zero))
      not_zero = unfold eq of_bits in tt

  steps : Fair k term_k (rc_steps one b) (rc_steps one b)
  unfolding rc_steps
  steps =
      choose (Fair k term_k) (lt b zero) (lt b zero) refl
      (λ t. absurd (let h = ltb→lt m 0 (subst T (lt_units B-is (zero_is binary64)) t) in let r : ⊥ = omega arith in r))
      (λ t. cases)

  size : Size (scale_of2 one b)
  size = record {
    n = max (2 ^ 1074) m;
    is = maximum_units (abs_units one_is) (abs_units B-is);
    from = inr (le_trans (pow_mono {i = 1010} {j = 1074} (lit≤ tt)) (le-max_left (2 ^ 1074) m));
    to = both (2 ^ 1074) m (2 ^ 1138) (pow_mono {i = 1074} {j = 1138} (lit≤ tt))
        (le_trans B.in_first.to (pow_mono {i = 1086} {j = 1138} (lit≤ tt)));
  }
    where
      both : (a b c : ℕ) → a ≤ c → b ≤ c → max a b ≤ c
      both a b c h i = omega arith

  unscaled : (rc_unchecked one b).value ≡ rc_steps one b
  unfolding rc_unchecked rescaling2 rc_found closed_at
  unscaled = rw (within_limits size)

  pub middle_fair : Fair k term_k (rc_unchecked one b).value (rc_unchecked one b).value
  middle_fair = subst (λ v. Fair k term_k v v) (sym unscaled) steps
