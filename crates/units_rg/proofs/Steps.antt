-- RG's steps in two runs: the special cases, and which road is taken. Assumes nothing.
use Rattle.std.specs.Prelude.{◌≡◌, ℕ, ◌^◌, Bool, not, T, Float}
use Rattle.std.proofs.Common.{sym, ◌∙◌, subst, subst₂, T_not}
use Rattle.std.proofs.Math.Path.{ap}
use Rattle.std.proofs.Math.Logic.{inl, inr}
use Rattle.std.proofs.Math.Bool.{true, false}
use Rattle.std.proofs.Math.Dec.{not_T}
use Rattle.std.specs.Float.Ieee.{nan, binary64, eq, level, of_bits}
use Rattle.binary64.specs.Operators.{◌⊕◌, ◌⊗◌, ◌⊘◌}
use Rattle.root.specs.Root.{root}
use Rattle.carlson.specs.Constants.{zero, two, four, pi}
use Rattle.elliprc.specs.Rc.{rc_unchecked}
use Rattle.sorting.specs.Sorting.{largest_first}
use Rattle.elliprg.specs.Rg.{rg_equal, rg_zero, rg_two, rg_alone, rg_top, rg_low, rg_sorted, rg_steps}
use Rattle.sorting.specs.declared.Triple.{Triple}
use Rattle.scaling.specs.Kind.{Kind, last, mul_k, mul_ok, div_k, div_ok, plus_k, plus_ok, within}
use Rattle.scaling.specs.Units.{Is, eq_units}
use Rattle.scaling.specs.Two.{Two}
use Rattle.scaling.proofs.Two.{mul_two, div_two, plus_two}
use Rattle.scaling.specs.One.{lit_ok}
use Rattle.scaling.proofs.One.{lit_two, widen_two}
use Rattle.scaling.specs.Root.{root_k, root_ok}
use Rattle.scaling.proofs.Root.{root_two}
use Rattle.scaling.proofs.Tests.{eq_two, zero_two}
use Rattle.scaling.proofs.Pick.{choose}
use Rattle.scaling.specs.Nan.{mul_nan, nan_add, nan_div}
use Rattle.scaling.proofs.Nothing.{root_nothing, signed_nothing_two}
use Rattle.units.specs.Kinds.{mean_k}
use Rattle.units.specs.Arguments.{Argument}
use Rattle.units.proofs.Arguments.{above, no_units_of}
use Rattle.units.specs.Runs.{Fair, closed, carried, value_fair, same_way}
use Rattle.units.specs.Ran.{Ran, result}
use Rattle.units_rf.specs.Rc.{result_k}
use Rattle.units_rf.proofs.Rc.{rc_same}
use Rattle.units_rd.proofs.Steps.{nothing, equal_zero}
use Rattle.units_rg.specs.Sorting.{Sorted, sorted_two}
use Rattle.units_rg.specs.Means.{value_k}
use Rattle.units_rg.proofs.Means.{agm_two}
use Rattle.units_rg.proofs.Joint.{rg_joint_two}

-- ---- zeros: two of them are equal, whatever their signs
zeros_equal : {x y : Float} {s t : Bool} {m n : ℕ} → Is binary64 x s m → Is binary64 y t n → T (eq x zero) → T (eq y zero)
    → T (eq x y)
zeros_equal {s = s} {t} {m} {n} X Y a b =
    subst T (sym (eq_units X Y)) (subst₂ (λ i j. T (level s i t j)) (sym (no_units_of X a)) (sym (no_units_of Y b)) (at s t))
  where
    at : (s t : Bool) → T (level s 0 t 0)
    at true true = tt
    at true false = tt
    at false true = tt
    at false false = tt

-- so what differs from a zero is none
other_some : {k : ℕ} {x y x' y' : Float} → Argument k x x' → Argument k y y' → T (not (eq x y)) → T (eq x zero)
    → T (not (eq y zero))
other_some {x = x} {y} X Y n z = not_T (eq y zero) (λ t. T_not (eq x y) n (zeros_equal X.two.first Y.two.first z t))

one_some : {k : ℕ} {x y x' y' : Float} → Argument k x x' → Argument k y y' → T (not (eq x y)) → T (eq y zero)
    → T (not (eq x zero))
one_some {x = x} {y} X Y n z = not_T (eq x zero) (λ t. T_not (eq x y) n (zeros_equal X.two.first Y.two.first t z))

-- ---- closed forms
-- a root, of the weight that RG has
abbrev side_k : Kind
side_k = record { any = false; zer = false; lo = 2 ^ 800; hi = 2 ^ 1300; g = last binary64 (2 ^ 800); u = 1; d = 0 }

module _ {k : ℕ} where
  -- the three may be zeros
  equal_two : {x x' : Float} → Argument k x x' → Ran k value_k (rg_equal x) (rg_equal x')
  unfolding rg_equal root_k root_ok within
  equal_two {x} {x'} X = result (closed (split (eq x zero)
      (λ z. signed_nothing_two value_k (root_nothing (nothing X.two z)) tt tt)
      (λ z. widen_two (root_two (above X z) tt) tt)))
    where
      split : {A : Type 0} (b : Bool) → (T b → A) → (T (not b) → A) → A
      split true f g = f tt
      split false f g = g tt

  zero_form_two : {y y' : Float} → Two binary64 k mean_k y y' → Ran k value_k (rg_zero y) (rg_zero y')
  unfolding rg_zero mul_k mul_ok div_k div_ok root_k root_ok within lit_ok of_bits
  zero_form_two y = result (closed (widen_two (div_two (mul_two (lit_two pi tt) (root_two y tt) tt) (lit_two four tt) tt) tt))

  alone_two : {x x' : Float} → Two binary64 k mean_k x x' → Ran k value_k (rg_alone x) (rg_alone x')
  unfolding rg_alone div_k div_ok root_k root_ok within lit_ok of_bits
  alone_two x = result (closed (widen_two (div_two (root_two x tt) (lit_two two tt) tt) tt))

  -- with RC's value, which may be NaN
  with_rc : {x x' y y' : Float} (v v' : Float) → Two binary64 k mean_k x x' → Two binary64 k mean_k y y' → Fair k result_k v v'
      → Fair k value_k ((y ⊗ v ⊕ root x) ⊘ two) ((y' ⊗ v' ⊕ root x') ⊘ two)
  unfolding mul_k mul_ok div_k div_ok plus_k plus_ok root_k root_ok within lit_ok of_bits
  with_rc {x} {x'} {y} {y'} v v' X Y (inl e) = inl (none x y v e.0, none x' y' v' e.1)
    where
      none : (x y v : Float) → v ≡ nan → (y ⊗ v ⊕ root x) ⊘ two ≡ nan
      none x y v e =
          ap (λ a. (y ⊗ a ⊕ root x) ⊘ two) e ∙ ap (λ a. (a ⊕ root x) ⊘ two) (mul_nan binary64 y)
          ∙ ap (λ a. a ⊘ two) (nan_add binary64 (root x))
          ∙ nan_div binary64 two
  with_rc v v' X Y (inr c) =
      let s = plus_two (widen_two {B = side_k} (mul_two Y c tt) tt) (widen_two {B = side_k} (root_two X tt) tt) tt in
      inr (widen_two (div_two s (lit_two two tt) tt) tt)

  two_equal : {x x' y y' : Float} → Argument k x x' → Argument k y y' → T (not (eq x zero)) → T (not (eq y zero))
      → Ran k value_k (rg_two x y) (rg_two x' y')
  unfolding rg_two
  two_equal {x} {x'} {y} {y'} X Y p q =
      let S = rc_same X Y q in
      result (carried (same_way S) (with_rc (rc_unchecked x y).value (rc_unchecked x' y').value (above X p) (above Y q)
      (value_fair S)))

  -- ---- which road
  module _ (t t' : Triple) (S : Sorted k t t') where
    top_two : T (eq t.x t.z) → Ran k value_k (rg_top t.x t.y t.z) (rg_top t'.x t'.y t'.z)
    unfolding rg_top
    top_two e =
        choose (Ran k value_k) (eq t.y t.z) (eq t'.y t'.z) (eq_two S.y.two S.z.two tt) (λ q. equal_two S.x)
        (λ q.
        choose (Ran k value_k) (eq t.y zero) (eq t'.y zero) (zero_two S.y.two)
        (λ n. zero_form_two (above S.x (S.xz (other_some S.y S.z q n))))
        (λ n. two_equal S.y S.x n (S.xz (S.zy n))))

    low_two : T (not (eq t.x t.z)) → T (eq t.y t.z) → Ran k value_k (rg_low t.x t.y) (rg_low t'.x t'.y)
    unfolding rg_low
    low_two p q =
        choose (Ran k value_k) (eq t.y zero) (eq t'.y zero) (zero_two S.y.two)
        (λ n. alone_two (above S.x (one_some S.x S.z p (equal_zero S.y.two.first S.z.two.first q n))))
        (λ n. two_equal S.x S.y (S.xz (S.zy n)) n)

    pub sorted_steps : Ran k value_k (rg_sorted t.x t.y t.z) (rg_sorted t'.x t'.y t'.z)
    unfolding rg_sorted
    sorted_steps =
        choose (Ran k value_k) (eq t.x t.z) (eq t'.x t'.z) (eq_two S.x.two S.z.two tt) top_two
        (λ p.
        choose (Ran k value_k) (eq t.y t.z) (eq t'.y t'.z) (eq_two S.y.two S.z.two tt) (low_two p)
        (λ q.
        choose (Ran k value_k) (eq t.y zero) (eq t'.y zero) (zero_two S.y.two)
        (λ n. let z = other_some S.y S.z q n in agm_two (above S.x (S.xz z)) (above S.z z))
        (λ n. result (rg_joint_two (above S.x (S.xz (S.zy n))) (above S.y n) (above S.z (S.zy n))))))

  pub steps_two : {x x' y y' z z' : Float} → Argument k x x' → Argument k y y' → Argument k z z'
      → Ran k value_k (rg_steps x y z) (rg_steps x' y' z')
  unfolding rg_steps
  steps_two {x} {x'} {y} {y'} {z} {z'} X Y Z =
      let t : Triple = record { x = x; y = y; z = z } in
      let t' : Triple = record { x = x'; y = y'; z = z' } in
      sorted_steps (largest_first t) (largest_first t') (sorted_two t t' X Y Z)
