-- RC's closed forms in two runs, for a prefix of any kind: RC with y above zero has the prefix one, RC with y below zero a root
-- that the two runs share. Of atan and the logarithms only bounds are used.
use Rattle.std.specs.Prelude.{◌≡◌, ◌⊎◌, ℕ, ◌+◌, ◌-◌, ◌*◌, ◌^◌, ◌≤◌, Bool, true, not, eqb, Float}
use Rattle.std.proofs.Math.Path.{refl, subst}
use Rattle.std.proofs.Common.{sym, ap, ap₂, ◌∙◌, inl, le_refl, le_of_lt, lt_of_lt_of_le, T_not, lt→ltb, nltb→le, lit<}
use Rattle.std.proofs.Math.Logic.{inr}
use Rattle.std.proofs.Math.Bool.{false}
use Rattle.std.proofs.Math.Dec.{T}
use Rattle.std.proofs.Math.Arith.{lt_of_le-ne}
use Rattle.std.specs.Float.{nan, inf, fin}
use Rattle.std.specs.Float.Ieee.{binary64, low, mul, div, eq, lt, below, level, of_bits}
use Rattle.std.specs.Float.Ieee.Fits.{eq→eqb, and_i}
use Rattle.binary64.specs.Operators.{◌⊕◌, ◌⊖◌, ◌⊗◌, ◌⊘◌}
use Rattle.root.specs.Root.{root}
use Rattle.series.specs.Atan.{atan}
use Rattle.series.specs.Ln.{ln}
use Rattle.scaling.specs.Near.{near}
use Rattle.scaling.specs.Cross.{add_n}
use Rattle.scaling.specs.Units.{Is, lt_units, eq_units}
use Rattle.scaling.specs.Kind.{Kind, last, mul_k, mul_ok, div_k, div_ok, plus_k, plus_ok, within}
use Rattle.scaling.proofs.Kind.{floor_le}
use Rattle.scaling.proofs.Last.{digits_of}
use Rattle.scaling.specs.Two.{Two}
use Rattle.scaling.proofs.Two.{mul_two, div_two, plus_two, summed, lt_two}
use Rattle.scaling.specs.One.{lit_ok}
use Rattle.scaling.proofs.One.{lit_is, lit_two, widen_two}
use Rattle.scaling.proofs.Tests.{eq_two}
use Rattle.scaling.specs.Leaf.{gap_k, gap_ok}
use Rattle.scaling.proofs.Leaf.{gap_two, gap_units, leaf_two}
use Rattle.scaling.specs.Root.{root_k, root_ok}
use Rattle.scaling.proofs.Root.{root_two}
use Rattle.scaling.specs.Gap.{raise_k}
use Rattle.scaling.proofs.Gap.{raise_two, ratio_least}
use Rattle.scaling.proofs.Pick.{choose}
use Rattle.carlson.specs.Constants.{zero, two, half, half_pi}
use Rattle.rc_cases.specs.Cases.{rc_at_zero, rc_at_equal, rc_by_atan, rc_by_ln1p, rc_by_ln, rc_cases}
use Rattle.units.specs.Runs.{Fair}
use Rattle.units_rf.specs.Leaves.{spread, atan_leaf, ln_leaf, spread_leaf, ratio_k, above_k, leaf_k}
use Rattle.units_rf.specs.Above.{argument_least}

-- ---- kinds
-- an argument above zero, or the sum of two
abbrev pub wide_k : Kind
wide_k = record { any = false; zer = false; lo = 2 ^ 1010; hi = 2 ^ 1140; g = last binary64 (2 ^ 1010); u = 2; d = 0 }

-- what is divided by: a root, or twice one
abbrev pub divisor_k : Kind
divisor_k = record { any = false; zer = false; lo = 2 ^ 1016; hi = 2 ^ 1110; g = last binary64 (2 ^ 1016); u = 1; d = 0 }

-- the root of a difference
abbrev gap_root_k : Kind
gap_root_k = record { any = false; zer = false; lo = 2 ^ 1016; hi = 2 ^ 1108; g = last binary64 (2 ^ 1016); u = 1; d = 0 }

-- a quotient that is the same in both runs
abbrev free_k : Kind
free_k = record { any = false; zer = false; lo = 2 ^ 940; hi = 2 ^ 1210; g = last binary64 (2 ^ 940); u = 0; d = 0 }

-- a prefix of the kind P, times a leaf's value or not, over a divisor is of the kind R
pub record Carries (k : ℕ) (P R : Kind) : Type 0 where
  pub over : {p v w p' v' w' : Float} → Two binary64 k P p p' → Two binary64 k leaf_k v v' → Two binary64 k divisor_k w w'
      → Two binary64 k R (p ⊗ v ⊘ w) (p' ⊗ v' ⊘ w')
  pub alone : {p w p' w' : Float} → Two binary64 k P p p' → Two binary64 k divisor_k w w' → Two binary64 k R (p ⊘ w) (p' ⊘ w')

-- ---- what is no number stays none
mul_nan : (p : Float) → p ⊗ nan ≡ nan
unfolding mul
mul_nan nan = refl
mul_nan (inf s) = refl
mul_nan (fin s m e) = refl

div_nan : (w : Float) → nan ⊘ w ≡ nan
unfolding div
div_nan w = refl

-- of two numbers above zero that are neither equal nor in order, the second is below
flip : {k : ℕ} {x y x' y' : Float} → Two binary64 k wide_k x x' → Two binary64 k wide_k y y' → T (not (eq x y)) → T (not (lt x y))
    → T (lt y x)
flip {x = x} {y} a b e l =
    let S : a.s ≡ false = a.in_first.sign tt in
    let S' : b.s ≡ false = b.in_first.sign tt in
    let h = nltb→le a.m b.m (subst (λ z. T (not z))
    (lt_units a.first b.first ∙ ap₂ (λ s t. below s a.m t b.m) S S') l) in
    let g = subst (λ z. T (not z)) (eq_units a.first b.first ∙ ap₂ (λ s t. level s a.m t b.m) S S') e in
    let n : b.m ≡ a.m → ⊥ = λ p. T_not (level false a.m false b.m) g
    (and_i (eqb a.m b.m) true (eq→eqb (sym p)) tt) in
    subst T (sym (lt_units b.first a.first ∙ ap₂ (λ s t. below s b.m t a.m) S' S))
    (lt→ltb b.m a.m (lt_of_le-ne h n))

-- ---- floats of no sign, and a sum of two
half_is : Is binary64 half false (2 ^ 1073)
unfolding lit_ok of_bits
half_is = lit_is binary64 half tt

pub not_above : {v : Float} {s : Bool} {m : ℕ} → Is binary64 v s m → s ≡ false → T (not (lt half v)) → m ≤ 2 ^ 1073
not_above {m = m} i e h =
    nltb→le (2 ^ 1073) m (subst (λ b. T (not b)) (lt_units half_is i ∙ ap (λ s. below false (2 ^ 1073) s m) e) h)

plain : {v : Float} {s : Bool} {m : ℕ} → Is binary64 v s m → s ≡ false → Is binary64 v false m
plain {v} {m = m} i e = subst (λ s. Is binary64 v s m) e i

added : (s t : Bool) (m n r : ℕ) → s ≡ false → t ≡ false
    → 9 * 2 ^ 1071 ≤ near binary64 (near binary64 (m + n) 1 * 2 ^ low binary64) r
    → 9 * 2 ^ 1071 ≤ near binary64 (near binary64 (add_n s m t n) 1 * 2 ^ low binary64) r
added s t m n r e f = subst (λ z. 9 * 2 ^ 1071 ≤ near binary64 (near binary64 z 1 * 2 ^ low binary64) r)
    (sym (ap₂ (λ s t. add_n s m t n) e f))

module _ {k : ℕ} where
  root_wide : {x x' : Float} → Two binary64 k wide_k x x' → Two binary64 k divisor_k (root x) (root x')
  unfolding root_k root_ok within
  root_wide x = widen_two (root_two x tt) tt

  gap_root : {x y x' y' : Float} → Two binary64 k wide_k x x' → Two binary64 k wide_k y y' → T (lt x y)
      → Two binary64 k gap_root_k (root (y ⊖ x)) (root (y' ⊖ x'))
  unfolding gap_k gap_ok root_k root_ok within
  gap_root x y t = widen_two (root_two (gap_two x y t tt tt) tt) tt

  divides : {x x' : Float} → Two binary64 k gap_root_k x x' → Two binary64 k divisor_k x x'
  unfolding within
  divides x = widen_two x tt

  -- the root of (y - x) / z, the same in both runs: floats that differ do so by a part in 2 ^ 55
  ratio_root : {x y z x' y' z' : Float} (X : Two binary64 k wide_k x x') (Y : Two binary64 k wide_k y y')
      (Z : Two binary64 k wide_k z z') → T (lt x y)
      → Z.m ≤ Y.m → Z.n ≤ Y.n → Two binary64 k ratio_k (root ((y ⊖ x) ⊘ z)) (root ((y' ⊖ x') ⊘ z'))
  unfolding gap_k gap_ok div_k div_ok root_k root_ok raise_k within div_two
  ratio_root X Y Z t p q =
      let G = gap_two X Y t tt tt in
      let g = gap_units X Y t tt tt in
      let D = div_two G Z tt in
      let at : (d d' w : ℕ) → d ≡ d' → 2 ^ 1019 ≤ near binary64 (d' * 2 ^ low binary64) w
      → 2 ^ 1019 ≤ near binary64 (d * 2 ^ low binary64) w =
      λ d d' w e. subst (λ z. 2 ^ 1019 ≤ near binary64 (z * 2 ^ low binary64) w) (sym e) in
      widen_two
      (root_two
      (raise_two (2 ^ 1019) D
      (at G.m (near binary64 (Y.m - X.m) 1) Z.m g.2
      (ratio_least binary64 Y.m X.m Z.m 1019 (digits_of Y.first) (digits_of X.first) g.0
      (lt_of_lt_of_le (lit< tt) (floor_le Z.in_first)) p refl))
      (at G.n (near binary64 (Y.n - X.n) 1) Z.n g.3
      (ratio_least binary64 Y.n X.n Z.n 1019 (digits_of Y.second) (digits_of X.second) g.1
      (lt_of_lt_of_le (lit< tt) (floor_le Z.in_second)) q refl)))
      tt)
      tt

  -- ---- the test of y / x, and what ln is taken of after it
  free : {x y x' y' : Float} → Two binary64 k wide_k x x' → Two binary64 k wide_k y y' → lt half (y ⊘ x) ≡ lt half (y' ⊘ x')
  unfolding lit_ok div_k div_ok within
  free X Y = lt_two (lit_two half tt) (widen_two {B = free_k} (div_two Y X tt) tt) tt

  module _ {x y x' y' : Float} (X : Two binary64 k wide_k x x') (Y : Two binary64 k wide_k y y') (t : T (lt y x)) where
    argument_of_ln : T (not (lt half (y ⊘ x))) → T (not (lt half (y' ⊘ x')))
        → Two binary64 k above_k ((root x ⊕ root (x ⊖ y)) ⊘ root y) ((root x' ⊕ root (x' ⊖ y')) ⊘ root y')
    unfolding div_k div_ok plus_k plus_ok root_k root_ok gap_k gap_ok raise_k within div_two plus_two summed widen_two
    argument_of_ln h h' =
        let A = root_two X tt in
        let B = gap_root Y X t in
        let R = root_two Y tt in
        let G = gap_two Y X t tt tt in
        let g = gap_units Y X t tt tt in
        let Q = div_two Y X tt in
        let S = X.in_first.sign tt in
        let S' = Y.in_first.sign tt in
        let Z = G.in_first.sign tt in
        let first = argument_least (plain X.first S) (plain Y.first S') A.first
        (subst (λ n. Is binary64 (x ⊖ y) false n) g.2 (plain G.first Z)) B.first R.first
        g.0 (floor_le Y.in_first) X.in_first.to (not_above Q.first (Q.in_first.sign tt) h) in
        let second = argument_least (plain X.second S) (plain Y.second S') A.second
        (subst (λ n. Is binary64 (x' ⊖ y') false n) g.3 (plain G.second Z)) B.second R.second
        g.1 (floor_le Y.in_second) X.in_second.to (not_above Q.second (Q.in_first.sign tt) h') in
        let W = div_two (plus_two A B tt) R tt in
        widen_two
        (raise_two (9 * 2 ^ 1071) W
        (added A.s B.s A.m B.m R.m (A.in_first.sign tt) (B.in_first.sign tt) first)
        (added A.s B.s A.n B.n R.n (A.in_first.sign tt) (B.in_first.sign tt) second))
        tt

  module _ {P R : Kind} (C : Carries k P R) {p p' : Float} (pre : Two binary64 k P p p') where
    -- what a leaf gives, over a divisor
    over_fair : {v w v' w' : Float} → ((v ≡ nan) × (v' ≡ nan)) ⊎ Two binary64 k leaf_k v v' → Two binary64 k divisor_k w w'
        → Fair k R (p ⊗ v ⊘ w) (p' ⊗ v' ⊘ w')
    over_fair {w = w} {w' = w'} (inl z) D =
        inl (
          ap (λ a. p ⊗ a ⊘ w) z.0 ∙ ap (λ a. a ⊘ w) (mul_nan p) ∙ div_nan w,
          ap (λ a. p' ⊗ a ⊘ w') z.1 ∙ ap (λ a. a ⊘ w') (mul_nan p')
              ∙ div_nan w',
        )
    over_fair (inr F) D = inr (C.over pre F D)

    at_zero : {y y' : Float} → Two binary64 k wide_k y y' → Fair k R (rc_at_zero p y) (rc_at_zero p' y')
    unfolding rc_at_zero lit_ok within
    at_zero Y = inr (C.over pre (widen_two (lit_two half_pi tt) tt) (root_wide Y))

    at_equal : {x x' : Float} → Two binary64 k wide_k x x' → Fair k R (rc_at_equal p x) (rc_at_equal p' x')
    unfolding rc_at_equal
    at_equal X = inr (C.alone pre (root_wide X))

    by_atan : {x y x' y' : Float} → Two binary64 k wide_k x x' → Two binary64 k wide_k y y' → T (lt x y)
        → Fair k R (rc_by_atan p x y) (rc_by_atan p' x' y')
    unfolding rc_by_atan gap_ok
    by_atan X Y t =
        let g = gap_units X Y t tt tt in
        over_fair (leaf_two atan atan_leaf refl refl refl (ratio_root X Y X t (le_of_lt g.0) (le_of_lt g.1)))
        (divides (gap_root X Y t))

    by_ln_1p : {x y x' y' : Float} → Two binary64 k wide_k x x' → Two binary64 k wide_k y y' → T (lt y x)
        → Fair k R (rc_by_ln1p p x y) (rc_by_ln1p p' x' y')
    unfolding rc_by_ln1p mul_k mul_ok lit_ok within
    by_ln_1p X Y t =
        over_fair (leaf_two spread spread_leaf refl refl refl (ratio_root Y X X t (le_refl _) (le_refl _)))
        (widen_two (mul_two (lit_two two tt) (gap_root Y X t) tt) tt)

    by_ln : {x y x' y' : Float} → Two binary64 k wide_k x x' → Two binary64 k wide_k y y' → T (lt y x)
        → T (not (lt half (y ⊘ x))) → T (not (lt half (y' ⊘ x'))) → Fair k R (rc_by_ln p x y) (rc_by_ln p' x' y')
    unfolding rc_by_ln raise_k within
    by_ln X Y t h h' =
        over_fair
        (leaf_two ln ln_leaf refl refl refl (argument_of_ln X Y t h h'))
        (divides (gap_root Y X t))

    pub cases_fair : {x y x' y' : Float} → eq x zero ≡ eq x' zero → (T (not (eq x zero)) → Two binary64 k wide_k x x')
        → Two binary64 k wide_k y y'
        → Fair k R (rc_cases p x y) (rc_cases p' x' y')
    unfolding rc_cases
    cases_fair {x} {y} {x'} {y'} e X Y =
        choose (Fair k R) (eq x zero) (eq x' zero) e (λ z. at_zero Y)
        (λ z.
        let X⁺ = X z in
        choose (Fair k R) (eq x y) (eq x' y') (eq_two X⁺ Y tt) (λ q. at_equal X⁺)
        (λ q.
        choose (Fair k R) (lt x y) (lt x' y') (lt_two X⁺ Y tt) (λ t. by_atan X⁺ Y t)
        (λ t.
        choose (Fair k R) (lt half (y ⊘ x)) (lt half (y' ⊘ x')) (free X⁺ Y)
        (λ h. by_ln_1p X⁺ Y (flip X⁺ Y q t))
        (λ h. by_ln X⁺ Y (flip X⁺ Y q t) h (subst (λ b. T (not b)) (free X⁺ Y) h)))))
