-- RC(1, 1 + y) as RJ asks for it, of a y that is the same in both runs: no number, or between 2 ^ -190 and 2 ^ 130. Only bounds
-- are at stake. RJ asks for it outside -3/2 < y < -1/2 only. Assumes nothing.
use Rattle.std.specs.Prelude.{◌≡◌, ◌⊎◌, ℕ, ◌*◌, ◌^◌, ◌≤◌, ◌<◌, Bool, false, Float}
use Rattle.std.proofs.Math.Path.{refl, ap, subst}
use Rattle.std.proofs.Common.{sym, ◌∙◌, inl, pow_mono, lt_of_le_of_lt, lt_of_lt_of_le, le_of_lt, arith, ltb→lt, lt→ltb, lit≤, lit<}
use Rattle.std.proofs.Math.Logic.{inr}
use Rattle.std.proofs.Math.Nat.{le_trans}
use Rattle.std.proofs.Math.Bool.{true, not}
use Rattle.std.proofs.Math.Dec.{T, not_T, nltb→le}
use Rattle.std.specs.Float.{nan}
use Rattle.std.specs.Float.Ieee.{binary64, neg, add, sub, div, lt, le, eq, below, of_bits}
use Rattle.std.specs.Float.Ieee.Fits.{and_i, and_r}
use Rattle.binary64.specs.Leaves.{absolute}
use Rattle.binary64.specs.Operators.{◌⊕◌, ◌⊗◌, ◌⊘◌}
use Rattle.root.specs.Root.{root}
use Rattle.series.specs.Atan.{atan}
use Rattle.series.specs.Ln.{ln}
use Rattle.carlson.specs.Constants.{zero, one, two, half}
use Rattle.carlson.specs.Answer.{closed_at, carried_at}
use Rattle.carlson.specs.declared.answer.Found.{Found}
use Rattle.elliprc.specs.Rc.{rc_unchecked}
use Rattle.polynomial.specs.Polynomial.{horner}
use Rattle.rj_term.specs.Helper.{hundredth, three_halves, Outside, AtHalf, by_atan1p, by_logs1p, by_rc1p, by_ln1p, rc1p}
use Rattle.rj_term.specs.Borders.{past, to_atan, to_logs}
use Rattle.rj_term.proofs.Borders.{atan_reached, logs_reached, ln_reached_from_rj}
use Rattle.scaling.specs.Kind.{Kind, last, mul_k, mul_ok, div_k, div_ok, plus_k, plus_ok, nudge_k, nudge_ok, within}
use Rattle.scaling.proofs.Kind.{floor_le}
use Rattle.scaling.specs.Units.{Is, lt_units}
use Rattle.scaling.specs.Two.{Two}
use Rattle.scaling.proofs.Two.{mul_two, div_two, plus_two}
use Rattle.scaling.proofs.Tests.{zero_is}
use Rattle.scaling.specs.One.{lit_ok, clip_k}
use Rattle.scaling.proofs.One.{neg_two}
use Rattle.scaling.proofs.One.{lit_two, lit_is, widen_two, clip_two, abs_units}
use Rattle.scaling.proofs.Leaf.{leaf_two}
use Rattle.scaling.specs.Root.{root_k, root_ok}
use Rattle.scaling.proofs.Root.{root_two}
use Rattle.scaling.specs.Still.{flat_two}
use Rattle.scaling.proofs.Still.{still_two, recast_two}
use Rattle.scaling.specs.Nan.{mul_nan}
use Rattle.scaling.proofs.Swap.{nudge_last_two}
use Rattle.scaling.proofs.Pick.{choose}
use Rattle.scaling.proofs.Plain.{le_units}
use Rattle.units.specs.Runs.{Fair}
use Rattle.units.specs.Arguments.{Argument}
use Rattle.units.proofs.Arguments.{no_units_of}
use Rattle.units_rf.specs.Leaves.{ratio_k, leaf_k, spread, atan_leaf, ln_leaf, spread_leaf}
use Rattle.units_rf.proofs.Rc.{unchecked_fair}
use Rattle.units_rj.specs.Polynomial.{tiny_k, horner_two}

-- ---- kinds: y, and what comes of it
abbrev pub ratio_of_k : Kind
ratio_of_k = record { any = true; zer = true; lo = 0; hi = 2 ^ 1090; g = 0; u = 0; d = 0 }

abbrev pub term_k : Kind
term_k = record { any = false; zer = false; lo = 2 ^ 884; hi = 2 ^ 1230; g = last binary64 (2 ^ 884); u = 0; d = 0 }

-- what two terms found, by their values
abbrev pub FairTerm : ℕ → Found → Found → Type 0
FairTerm k f g = Fair k term_k f.value g.value

-- a size from 1/128 to 2 ^ 16
abbrev size_k : Kind
size_k = record { any = false; zer = false; lo = 2 ^ 1067; hi = 2 ^ 1090; g = last binary64 (2 ^ 1067); u = 0; d = 0 }

-- what a leaf gives, over a divisor
abbrev divisor_k : Kind
divisor_k = record { any = false; zer = false; lo = 2 ^ 1060; hi = 2 ^ 1100; g = 0; u = 0; d = 0 }

abbrev side_k : Kind
side_k = record { any = false; zer = false; lo = 2 ^ 1061; hi = 2 ^ 1099; g = 0; u = 0; d = 0 }

over : {k : ℕ} {v w : Float} → ((v ≡ nan) × (v ≡ nan)) ⊎ Two binary64 k leaf_k v v → Two binary64 k divisor_k w w
    → Fair k term_k (v ⊘ w) (v ⊘ w)
unfolding div div_k div_ok within
over {w = w} (inl z) D = inl (ap (λ a. a ⊘ w) z.0, ap (λ a. a ⊘ w) z.0)
over (inr F) D = inr (widen_two (div_two F D tt) tt)

module _ {k : ℕ} {y : Float} (Y : Two binary64 k size_k y y) where
  roots : Two binary64 k side_k (root y) (root y)
  unfolding root_k root_ok within
  roots = widen_two (root_two Y tt) tt

  ratio : Two binary64 k ratio_k (root y) (root y)
  unfolding root_k root_ok within
  ratio = widen_two (root_two Y tt) tt

-- for y above zero
by_atan : {k : ℕ} {y : Float} → Two binary64 k size_k y y → Fair k term_k (by_atan1p y) (by_atan1p y)
unfolding by_atan1p within
by_atan Y = over (leaf_two atan atan_leaf refl refl refl (ratio Y)) (widen_two (roots Y) tt)

-- for y from -1/2 to 0
by_logs : {k : ℕ} (y : Float) → Two binary64 k size_k (neg y) (neg y) → Fair k term_k (by_logs1p y) (by_logs1p y)
unfolding by_logs1p mul_k mul_ok within lit_ok of_bits
by_logs y N = over (leaf_two spread spread_leaf refl refl refl (ratio N)) (widen_two (mul_two (lit_two two tt) (roots N) tt) tt)

-- ---- an argument of RC that is the same in both runs
abbrev plain_k : Kind
plain_k = record { any = false; zer = false; lo = 2 ^ 1010; hi = 2 ^ 1138; g = last binary64 (2 ^ 1010); u = 0; d = 0 }

not_below : {v : Float} {m : ℕ} → Is binary64 v false m → T (not (lt v zero))
not_below {v} {m} a = not_T (lt v zero) (λ t. let h = ltb→lt m 0 (subst T (lt_units a (zero_is binary64)) t) in
    let r : ⊥ = omega arith in r)

not_zero : {v : Float} {s : Bool} {m : ℕ} → Is binary64 v s m → 0 < m → T (not (eq v zero))
not_zero {v} {s} {m} a h = not_T (eq v zero) (λ t. let e = no_units_of a t in let r : ⊥ = omega arith in r)

module _ {k : ℕ} {v : Float} (a : Two binary64 k plain_k v v) where
  plain : Is binary64 v false a.m
  plain = subst (λ (s : Bool). Is binary64 v s a.m) (a.in_first.sign tt) a.first

  argument : Argument 0 v v
  unfolding within
  argument = record { two = widen_two (still_two 2 0 a) tt; plus = not_below plain }

  some : 0 < a.m
  some = lt_of_lt_of_le (lit< tt) (floor_le a.in_first)

-- RC's value, the same in both runs
abbrev pub rc_flat_k : Kind
rc_flat_k = record { any = false; zer = false; lo = 2 ^ 900; hi = 2 ^ 1200; g = last binary64 (2 ^ 900); u = 0; d = 0 }

pub rc_flat : {k : ℕ} {x y : Float} → Two binary64 k plain_k x x → Two binary64 k plain_k y y →
    Fair k rc_flat_k (rc_unchecked x y).value (rc_unchecked x y).value
rc_flat {k} X Y =
    elim (unchecked_fair (argument X) (argument Y) (not_zero (plain Y) (some Y))) [
      | inl e ↦ inl e
      | inr v ↦ inr (flat_two k v)
    ]

-- for y up to -3/2
abbrev large_k : Kind
large_k = record { any = false; zer = false; lo = 3 * 2 ^ 1073; hi = 2 ^ 1090; g = last binary64 (3 * 2 ^ 1073); u = 0; d = 0 }

by_root : {k : ℕ} {r v : Float} → Two binary64 k divisor_k r r → Fair k rc_flat_k v v → Fair k term_k (r ⊗ v) (r ⊗ v)
unfolding mul_k mul_ok within
by_root {r = r} R (inl e) = let g = ap (λ a. r ⊗ a) e.0 ∙ mul_nan binary64 r in inl (g, g)
by_root R (inr v) = inr (widen_two (mul_two R v tt) tt)

by_rc : {k : ℕ} (y : Float) → Two binary64 k large_k (neg y) (neg y) → Fair k term_k (by_rc1p y).value (by_rc1p y).value
unfolding by_rc1p carried_at sub div_k div_ok root_k root_ok nudge_k nudge_ok within lit_ok of_bits
by_rc y N =
    let r = root_two (div_two (lit_two one tt) N tt) tt in
    let q = nudge_last_two (neg_two (lit_two one tt)) N tt in
    by_root (widen_two r tt) (rc_flat (widen_two N tt) (widen_two q tt))

-- at -1/2
abbrev half_k : Kind
half_k = record { any = false; zer = false; lo = 2 ^ 1073; hi = 2 ^ 1073; g = last binary64 (2 ^ 1073); u = 0; d = 0 }

by_ln : {k : ℕ} (y : Float) → Two binary64 k half_k (neg y) (neg y) → Two binary64 k half_k (one ⊕ y) (one ⊕ y)
    → Fair k term_k (by_ln1p y) (by_ln1p y)
unfolding by_ln1p div_k div_ok plus_k plus_ok root_k root_ok within lit_ok of_bits
by_ln y N O =
    let r = root_two N tt in
    over (leaf_two ln ln_leaf refl refl refl (widen_two (div_two (plus_two (lit_two one tt) r tt) (root_two O tt) tt) tt))
    (widen_two r tt)

-- ---- which of them
module _ {k : ℕ} {y : Float} (Y : Two binary64 k ratio_of_k y y) where
  abbrev m : ℕ
  m = Y.m

  recast : (lo hi : ℕ) {v : Float}
      (a : Two binary64 k (record { any = true; zer = true; lo = 0; hi = 2 ^ 1090; g = 0; u = 0; d = 0 }) v v)
      → a.s ≡ false → lo ≤ a.m → a.m ≤ hi
      → Two binary64 k (record { any = false; zer = false; lo = lo; hi = hi; g = last binary64 lo; u = 0; d = 0 }) v v
  recast lo hi a e p q = recast_two (record { any = false; zer = false; lo = lo; hi = hi; g = last binary64 lo; u = 0; d = 0 })
      a refl refl refl
      (record { sign = λ t. e; from = inr p; to = q })

  near_zero_lem : T (le (absolute y) hundredth) → Fair k term_k (horner y) (horner y)
  unfolding within clip_k lit_ok of_bits flat_two
  near_zero_lem t =
      let h : m ≤ 2 ^ 1068 = le_trans (le_units (abs_units Y.first) (lit_is binary64 hundredth tt) t) (lit≤ tt) in
      inr (widen_two (horner_two (recast_tiny h)) tt)
    where
      recast_tiny : m ≤ 2 ^ 1068 → Two binary64 k tiny_k y y
      recast_tiny h = widen_two (clip_two (2 ^ 1068) (flat_two k Y) h h) tt

  -- the sign and the size, by a test against a constant
  above_units : {c : Float} {n : ℕ} → Is binary64 c false n → T (lt c y) → (Y.s ≡ false) × (n < m)
  above_units {n = n} C t = go Y.s (subst T (lt_units C Y.first) t)
    where
      go : (s : Bool) → T (below false n s m) → (s ≡ false) × (n < m)
      go false h = (refl, ltb→lt n m h)
      go true h = absurd h

  below_units : {c : Float} {n : ℕ} → Is binary64 c true n → T (lt y c) → (Y.s ≡ true) × (n < m)
  below_units {n = n} C t = go Y.s (subst T (lt_units Y.first C) t)
    where
      go : (s : Bool) → T (below s m true n) → (s ≡ true) × (n < m)
      go true h = (refl, ltb→lt n m h)
      go false h = absurd h

  above_zero : T (to_atan y) → Fair k term_k (by_atan1p y) (by_atan1p y)
  unfolding lit_ok of_bits
  above_zero t =
      let r = above_units (lit_is binary64 hundredth tt) (subst T (atan_reached y) t) in
      by_atan (recast (2 ^ 1067) (2 ^ 1090) Y r.0 (le_trans (lit≤ tt) (le_of_lt r.1)) Y.in_first.to)

  module _ (minus : Y.s ≡ true) where
    N : Two binary64 k (record { any = true; zer = true; lo = 0; hi = 2 ^ 1090; g = 0; u = 0; d = 0 }) (neg y) (neg y)
    unfolding neg_two
    N = neg_two Y

    N-plus : N.s ≡ false
    unfolding N neg_two
    N-plus = ap not minus

    N-units : N.m ≡ m
    unfolding N neg_two
    N-units = refl

    sized : (lo hi : ℕ) → lo ≤ m → m ≤ hi → Two binary64 k
        (record { any = false; zer = false; lo = lo; hi = hi; g = last binary64 lo; u = 0; d = 0 }) (neg y) (neg y)
    sized lo hi p q = recast lo hi N N-plus (subst (λ n. lo ≤ n) (sym N-units) p) (subst (λ n. n ≤ hi) (sym N-units) q)

  above_half : T (to_logs y) → Fair k term_k (by_logs1p y) (by_logs1p y)
  unfolding lit_ok of_bits neg
  above_half t =
      let h = and_r (lt (neg half) y) (lt y (neg hundredth)) (subst T (logs_reached y) t) in
      let r = below_units (lit_is binary64 (neg hundredth) tt) h in
      by_logs y (sized r.0 (2 ^ 1067) (2 ^ 1090) (le_trans (lit≤ tt) (le_of_lt r.1)) Y.in_first.to)

  below_one : T (lt y (neg one)) → Outside y → Fair k term_k (by_rc1p y).value (by_rc1p y).value
  unfolding lit_ok of_bits neg
  below_one t o =
      let r = below_units (lit_is binary64 (neg one) tt) t in
      let Y-is : Is binary64 y true m = subst (λ s. Is binary64 y s m) r.0 Y.first in
      let g : T (lt y (neg half)) = subst T (sym (lt_units Y-is (lit_is binary64 (neg half) tt)))
      (lt→ltb (2 ^ 1073) m (lt_of_le_of_lt (pow_mono {i = 1073} {j = 1074} (lit≤ tt)) r.1)) in
      let q : 3 * 2 ^ 1073 ≤ m = nltb→le m (3 * 2 ^ 1073)
      (subst (λ b. T (not b)) (lt_units (lit_is binary64 (neg three_halves) tt) Y-is) (o g)) in
      by_rc y (sized r.0 (3 * 2 ^ 1073) (2 ^ 1090) q Y.in_first.to)

  at_half : AtHalf y → Fair k term_k (by_ln1p y) (by_ln1p y)
  unfolding lit_ok of_bits neg add within
  at_half (inl e) =
      subst (λ v. Fair k term_k (by_ln1p v) (by_ln1p v)) (sym e)
      (by_ln (neg half) (widen_two (lit_two half tt) tt) (widen_two (lit_two half tt) tt))
  at_half (inr e) = absurd (subst (λ v. Is binary64 v Y.s m) e Y.first).val

  pub rc1p_fair : Outside y → Fair k term_k (rc1p y).value (rc1p y).value
  unfolding rc1p closed_at
  rc1p_fair o =
      choose (FairTerm k) (le (absolute y) hundredth) (le (absolute y) hundredth) refl near_zero_lem
      (λ far. choose (FairTerm k) (lt zero y) (lt zero y) refl (λ t. above_zero (and_i (past y) (lt zero y) far t))
      (λ low. choose (FairTerm k) (lt (neg half) y) (lt (neg half) y) refl
      (λ t. above_half (and_i (past y) _ far (and_i (not (lt zero y)) (lt (neg half) y) low t)))
      (λ t. choose (FairTerm k) (lt y (neg one)) (lt y (neg one)) refl (λ u. below_one u o)
      (λ u. at_half (ln_reached_from_rj y Y.first.fit o
      (and_i (past y) _ far (and_i (not (lt zero y)) _ low (and_i (not (lt (neg half) y)) (not (lt y (neg one))) t u))))))))
