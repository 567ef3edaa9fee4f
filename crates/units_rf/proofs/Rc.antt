-- Units drop out of RC: every argument in range before and after all are multiplied by 4 ^ k, both calls refuse alike, or the
-- second value is the first times 2 ^ -k. y may be negative.
use Rattle.std.specs.Prelude.{◌≡◌, refl, ℕ, zero, ◌+◌, ◌-◌, ◌*◌, ◌^◌, ◌<◌, Bool, true, not, ◌&&◌, cond, T, ltb, Float}
use Rattle.std.proofs.Common.{sym, ◌∙◌, lt_of_lt_of_le, arith, T_not, lt→ltb, lit<}
use Rattle.std.proofs.Math.Path.{ap, subst, subst₂}
use Rattle.std.proofs.Math.Nat.{zero-mul}
use Rattle.std.proofs.Math.Bool.{false}
use Rattle.std.specs.Bool.{beq}
use Rattle.std.specs.Float.Ieee.{binary64, low, add, sub, eq, lt, neg}
use Rattle.std.specs.Float.Ieee.Scale.{overflow}
use Rattle.refusals.specs.declared.Refusal.TheVariants.{RcNoResult}
use Rattle.binary64.specs.Leaves.{absolute}
use Rattle.binary64.specs.Operators.{◌⊖◌, ◌⊘◌}
use Rattle.root.specs.Root.{root}
use Rattle.scaling.specs.Near.{near, near_zero_lem}
use Rattle.scaling.specs.Cross.{add_n}
use Rattle.scaling.specs.Units.{Is, unique, add_units, neg_units}
use Rattle.scaling.specs.Kind.{Kind, last, mul_k, mul_ok, div_k, div_ok, plus_k, plus_ok, within}
use Rattle.scaling.proofs.Kind.{floor_le}
use Rattle.scaling.proofs.Last.{digits_of, is_under}
use Rattle.scaling.specs.Two.{Two}
use Rattle.scaling.proofs.Two.{mul_two, div_two, plus_two}
use Rattle.scaling.specs.One.{lit_ok}
use Rattle.scaling.proofs.One.{lit_two, widen_two}
use Rattle.scaling.proofs.Tests.{zero_two, no_units}
use Rattle.scaling.proofs.Lead.{on_grid}
use Rattle.scaling.proofs.Nothing.{root_itself}
use Rattle.scaling.specs.Root.{root_k, root_ok}
use Rattle.scaling.proofs.Root.{root_two}
use Rattle.scaling.proofs.Signs.{lt_zero_two, minus, above_two, opposite_two}
use Rattle.scaling.proofs.Pick.{choose}
use Rattle.carlson.specs.Constants as constant
use Rattle.carlson.specs.Answer.{settled_late}
use Rattle.carlson_arguments.specs.Checks.{any_nan2, any_infinite2}
use Rattle.carlson.specs.Answer.{Answer}
use Rattle.elliprc.specs.Rc.{rc_found, over_root, rc_unchecked, rc}
use Rattle.rc_cases.specs.Cases.{rc_cases, rc_steps}
use Rattle.units.specs.Statement.{InRange, TimesFour, Alike}
use Rattle.units.specs.Kinds.{argument_k, mean_k}
use Rattle.units.specs.Arguments.{Argument}
use Rattle.units.proofs.Arguments.{no_units_of, argument, above}
use Rattle.units.proofs.Checks.{numbers2, finite2}
use Rattle.units.specs.Limits.{Size, first_size, second_size, unscaled2}
use Rattle.units.specs.Runs.{Fair, Same, fair, wider_fair, value_fair}
use Rattle.units.specs.Answers.{Pair, no}
use Rattle.units.proofs.Answers.{late_same, alike_of, alike_back, onward, backward, either_way}
use Rattle.units_rf.specs.Cases.{wide_k, Carries, cases_fair}
use Rattle.units_rf.specs.Rc.{rc_k, result_k}

-- ---- the kinds of the prefix and of the result
abbrev one_k : Kind
one_k = record { any = false; zer = false; lo = 2 ^ 1074; hi = 2 ^ 1074; g = last binary64 (2 ^ 1074); u = 0; d = 0 }

-- the prefix for y below zero: the root of x / (x - y), or that quotient itself where it is zero
abbrev prefix_k : Kind
prefix_k = record { any = false; zer = false; lo = 2 ^ 1009; hi = 2 ^ 1138; g = last binary64 (2 ^ 1009); u = 0; d = 0 }

abbrev nothing_k : Kind
nothing_k = record { any = true; zer = true; lo = 2 ^ 944; hi = 2 ^ 1202; g = last binary64 (2 ^ 944); u = 0; d = 0 }

module _ (k : ℕ) where
  carries_one : Carries k one_k result_k
  unfolding mul_k mul_ok div_k div_ok within
  carries_one = record {
    over = λ p v w. widen_two (div_two (mul_two p v tt) w tt) tt;
    alone =
        λ p w. widen_two (div_two p w tt) tt;
  }

  carries_prefix : Carries k prefix_k rc_k
  unfolding mul_k mul_ok div_k div_ok within
  carries_prefix = record {
    over = λ p v w. widen_two (div_two (mul_two p v tt) w tt) tt;
    alone =
        λ p w. widen_two (div_two p w tt) tt;
  }

  carries_nothing : Carries k nothing_k rc_k
  unfolding mul_k mul_ok div_k div_ok within
  carries_nothing = record {
    over = λ p v w. widen_two (div_two (mul_two p v tt) w tt) tt;
    alone =
        λ p w. widen_two (div_two p w tt) tt;
  }

-- ---- a zero x, and a y below zero
from_zero : {x y : Float} {s : Bool} {n : ℕ} → Is binary64 x s 0 → Is binary64 y true n → 0 < n → x ⊖ y ≡ neg y
unfolding sub
from_zero {x} {y} {s} {n} X Y h =
    let N = neg_units Y in
    let e : near binary64 (add_n s 0 false n) 1 ≡ n = ap (λ z. near binary64 z 1) (size_is s) ∙ on_grid (digits_of Y) in
    let A = add_units X N (subst (λ z. z < overflow binary64) (sym e) (is_under Y)) in
    unique (subst₂ (λ t z. Is binary64 (add binary64 x (neg y)) t z) (sign_is s (ltb 0 n) (lt→ltb 0 n h)) e A) N
  where
    sign_is : (s b : Bool) → T b → cond (beq s false) s (cond b false (s && ltb n 0)) ≡ false
    sign_is false b t = refl
    sign_is true true t = refl
    sign_is true false t = absurd t

    size_is : (s : Bool) → add_n s 0 false n ≡ n
    size_is false = let r : 0 + n ≡ n = omega arith in r
    size_is true = go (ltb 0 n) (lt→ltb 0 n h)
      where
        go : (b : Bool) → T b → cond b (n - 0) (0 - n) ≡ n
        go true t = let r : n - 0 ≡ n = omega arith in r
        go false t = absurd t

-- ---- past the checks, and not rescaled
abbrev late : Float → Float → Bool → Bool → Answer
late x y a b = settled_late (rc_unchecked x y) a b RcNoResult

pub unscaled : (x y : Float) → Size (absolute x) → Size (absolute y) → rc_unchecked x y ≡ rc_found x y
unfolding rc_unchecked
unscaled x y a b = unscaled2 over_root rc_found x y a b

module _ {k : ℕ} where
  -- ---- y above zero
  pub above_fair : {x y x' y' : Float} → Two binary64 k argument_k x x' → T (not (lt x constant.zero)) → Two binary64 k mean_k y y'
      → Fair k result_k (rc_cases constant.one x y) (rc_cases constant.one x' y')
  unfolding lit_ok within
  above_fair X t Y =
      cases_fair (carries_one k) (widen_two (lit_two constant.one tt) tt) (zero_two X) (λ z. widen_two (above_two X t z) tt)
      (widen_two Y tt)

  -- ---- y below zero, x above: the prefix is a root that the runs share
  proper_fair : {x x' : Float} (y y' : Float) → Two binary64 k mean_k x x' → Two binary64 k mean_k (neg y) (neg y')
      → Fair k rc_k (rc_cases (root (x ⊘ (x ⊖ y))) (x ⊖ y) (neg y)) (rc_cases (root (x' ⊘ (x' ⊖ y'))) (x' ⊖ y') (neg y'))
  unfolding sub plus_k plus_ok div_k div_ok root_k root_ok within
  proper_fair {x} {x'} y y' X N =
      let S : Two binary64 k wide_k (x ⊖ y) (x' ⊖ y') = widen_two (plus_two X N tt) tt in
      cases_fair (carries_prefix k) (widen_two (root_two (div_two X S tt) tt) tt) (zero_two S) (λ z. S) (widen_two N tt)

  -- ---- y below zero, x zero: the prefix is zero, and the arguments are one
  empty_fair : {x y x' y' : Float} (X : Two binary64 k argument_k x x') (Y : Two binary64 k argument_k y y') → X.m ≡ 0 → X.n ≡ 0
      → Two binary64 k mean_k (neg y) (neg y') → Y.s ≡ true → 0 < Y.m → 0 < Y.n
      → Fair k rc_k (rc_cases (root (x ⊘ (x ⊖ y))) (x ⊖ y) (neg y)) (rc_cases (root (x' ⊘ (x' ⊖ y'))) (x' ⊖ y') (neg y'))
  unfolding div_k div_ok within div_two
  empty_fair {x} {y} {x'} {y'} X Y z z' N s h h' =
      let X₀ = subst (Is binary64 x X.s) z X.first in
      let X₀' = subst (Is binary64 x' X.s) z' X.second in
      let e = from_zero X₀ (subst (λ t. Is binary64 y t Y.m) s Y.first) h in
      let e' = from_zero X₀' (subst (λ t. Is binary64 y' t Y.n) s Y.second) h' in
      let Q : Two binary64 k nothing_k (x ⊘ neg y) (x' ⊘ neg y') = widen_two (div_two X N tt) tt in
      let none : (m w : ℕ) → 0 < w → m ≡ 0 → near binary64 (m * 2 ^ low binary64) w ≡ 0 =
      λ m w W i. ap (λ a. near binary64 a w) (ap (λ a. a * 2 ^ low binary64) i ∙ zero-mul (2 ^ low binary64))
      ∙ near_zero_lem binary64 w W in
      let D = div_two X N tt in
      let r =
      root_itself (subst (Is binary64 (x ⊘ neg y) D.s)
      (none X.m N.m (lt_of_lt_of_le (lit< tt) (floor_le N.in_first)) z) D.first) in
      let r' =
      root_itself (subst (Is binary64 (x' ⊘ neg y') D.s)
      (none X.n N.n (lt_of_lt_of_le (lit< tt) (floor_le N.in_second)) z')
      D.second) in
      let W : Two binary64 k wide_k (neg y) (neg y') = widen_two N tt in
      subst₂ (λ a b. Fair k rc_k (rc_cases (root (x ⊘ a)) a (neg y)) (rc_cases (root (x' ⊘ b)) b (neg y'))) (sym e) (sym e')
      (subst₂ (λ a b. Fair k rc_k (rc_cases a (neg y) (neg y)) (rc_cases b (neg y') (neg y'))) (sym r) (sym r')
      (cases_fair (carries_nothing k) Q (zero_two W) (λ i. W) W))

  below_fair : {x y x' y' : Float} → Two binary64 k argument_k x x' → T (not (lt x constant.zero)) → Two binary64 k argument_k y y'
      → T (lt y constant.zero) → T (not (eq y constant.zero))
      → Fair k rc_k (rc_cases (root (x ⊘ (x ⊖ y))) (x ⊖ y) (neg y)) (rc_cases (root (x' ⊘ (x' ⊖ y'))) (x' ⊖ y') (neg y'))
  below_fair {x} {y} {x'} {y'} X t Y b z =
      let N = opposite_two Y b z in
      let n = no_units Y z in
      split (eq x constant.zero)
      (λ e. empty_fair X Y (no_units_of X.first e) (no_units_of X.second (subst T (zero_two X) e)) N (minus Y b)
      (some Y.m n.0)
      (some Y.n n.1))
      (λ e. proper_fair y y' (above_two X t e) N)
    where
      some : (m : ℕ) → (m ≡ 0 → ⊥) → 0 < m
      some m h = omega arith

      split : {A : Type 0} (b : Bool) → (T b → A) → (T (not b) → A) → A
      split true f g = f tt
      split false f g = g tt

  pub steps_fair : {x y x' y' : Float} → Two binary64 k argument_k x x' → T (not (lt x constant.zero))
      → Two binary64 k argument_k y y'
      → T (not (eq y constant.zero)) → Fair k rc_k (rc_steps x y) (rc_steps x' y')
  unfolding rc_steps within
  steps_fair {x} {y} {x'} {y'} X t Y z =
      choose (Fair k rc_k) (lt y constant.zero) (lt y' constant.zero) (lt_zero_two Y) (λ b. below_fair X t Y b z)
      (λ b. wider_fair (above_fair X t (above_two Y b z)) tt)

  -- ---- RC as RF, RG and RJ call it, with y above zero
  pub rc_same : {x y x' y' : Float} → Argument k x x' → Argument k y y' → T (not (eq y constant.zero))
      → Same k result_k (rc_unchecked x y) (rc_unchecked x' y')
  unfolding rc_steps rc_found
  rc_same {x} {y} {x'} {y'} X Y z =
      subst₂ (Same k result_k) (sym (unscaled x y (first_size X.two) (first_size Y.two)))
      (sym (unscaled x' y' (second_size X.two) (second_size Y.two)))
      (fair (choose (Fair k result_k) (lt y constant.zero) (lt y' constant.zero) (lt_zero_two Y.two)
      (λ t. absurd (T_not (lt y constant.zero) Y.plus t))
      (λ t. above_fair X.two X.plus (above Y z))))

  -- its value alone
  pub unchecked_fair : {x y x' y' : Float} → Argument k x x' → Argument k y y' → T (not (eq y constant.zero))
      → Fair k result_k (rc_unchecked x y).value (rc_unchecked x' y').value
  unchecked_fair X Y z = value_fair (rc_same X Y z)

  -- ---- the entry
  pub rc_pair : {x y x' y' : Float} → Two binary64 k argument_k x x' → Two binary64 k argument_k y y'
      → Pair k rc_k (rc x y) (rc x' y')
  unfolding rc rc_found
  rc_pair {x} {y} {x'} {y'} X Y =
      choose (Pair k rc_k) (lt x constant.zero) (lt x' constant.zero) (lt_zero_two X) (λ t. no)
      (λ t.
      choose (Pair k rc_k) (eq y constant.zero) (eq y' constant.zero) (zero_two Y) (λ z. no)
      (λ z.
      subst₂ (λ a b. Pair k rc_k (late x y a b) (late x' y' (any_nan2 x' y') (any_infinite2 x' y')))
      (sym (numbers2 X.first Y.first))
      (sym (finite2 X.first Y.first))
      (subst₂ (λ a b. Pair k rc_k (late x y false false) (late x' y' a b)) (sym (numbers2 X.second Y.second))
      (sym (finite2 X.second Y.second))
      (late_same RcNoResult (subst₂ (Same k rc_k) (sym (unscaled x y (first_size X) (first_size Y)))
      (sym (unscaled x' y' (second_size X) (second_size Y))) (fair (steps_fair X t Y z)))))))

upward : (k d : ℕ) (x y x' y' : Float) → InRange x → InRange y → InRange x' → InRange y' → TimesFour (k + d) d x x'
    → TimesFour (k + d) d y y'
    → Alike d (k + d) (rc x y) (rc x' y')
upward k d x y x' y' X Y X' Y' s t =
    alike_of d (k + d) d (let r : d ≡ k * 0 + d = omega arith in r) (let r : k + d ≡ k * 1 + d = omega arith in r)
    (rc_pair (argument k d X X' s) (argument k d Y Y' t))

-- THE CLAIM FOR RC: its weight is 2 ^ -k
pub rc_scales : (u d : ℕ) (x y x' y' : Float) → InRange x → InRange y → InRange x' → InRange y' → TimesFour u d x x'
    → TimesFour u d y y'
    → Alike d u (rc x y) (rc x' y')
rc_scales u d x y x' y' X Y X' Y' s t =
    either_way u d
    (λ k e. subst (λ i. Alike d i (rc x y) (rc x' y')) (sym e) (upward k d x y x' y' X Y X' Y' (onward k d e s) (onward k d e t)))
    (λ k e. subst (λ i. Alike i u (rc x y) (rc x' y')) (sym e)
    (alike_back (upward k u x' y' x y X' Y' X Y (backward k u e s) (backward k u e t))))
