-- RD's steps in two runs: the special cases, and which road is taken. Assumes nothing.
use Rattle.std.specs.Prelude.{◌≡◌, refl, ℕ, Bool, true, false, not, ◌&&◌, ◌||◌, T, eqb, Float}
use Rattle.std.proofs.Common.{sym, ap₂, ◌∙◌, subst, eqb→eq, Ok}
use Rattle.std.specs.Bool.{beq}
use Rattle.std.proofs.Math.Dec.{T_not, not_T}
use Rattle.std.specs.Float.{binary64}
use Rattle.std.specs.Float.Ieee.{eq, le, lt, level, of_bits}
use Rattle.std.specs.Float.Ieee.Fits.{and_l}
use Rattle.binary64.specs.Operators.{◌⊗◌, bits}
use Rattle.carlson.specs.Constants.{zero, one, three, four, pi}
use Rattle.rd_duplicate.specs.Duplicate.{rd_duplication}
use Rattle.elliprd.specs.Rd.{rd_equal, rd_zero, rd_general, rd_ordered, rd_steps}
use Rattle.scaling.specs.Kind.{mul_k, mul_ok, div_k, div_ok, within}
use Rattle.scaling.specs.Units.{Is, eq_units}
use Rattle.scaling.specs.Two.{Two}
use Rattle.scaling.proofs.Two.{mul_two, div_two}
use Rattle.scaling.proofs.Tests.{eq_two, le_two, zero_two, zero_is}
use Rattle.scaling.specs.One.{lit_ok}
use Rattle.scaling.proofs.One.{lit_two, widen_two}
use Rattle.scaling.proofs.Pick.{choose}
use Rattle.scaling.proofs.Signs.{above_two}
use Rattle.scaling.specs.Root.{root_k, root_ok}
use Rattle.scaling.proofs.Root.{root_two}
use Rattle.scaling.specs.Nothing.{Nothing}
use Rattle.units.specs.Kinds.{argument_k}
use Rattle.units.proofs.Arguments.{no_units_of}
use Rattle.units.specs.Runs.{closed}
use Rattle.units.specs.Ran.{Ran, result, wider_same}
use Rattle.units_rd.specs.Mean.{arg_k, Arg, none, some, some?}
use Rattle.units_rd.specs.Means.{agm_k, agm_two}
use Rattle.units_rd.proofs.Loop.{duplication_two}

-- ---- an argument that is not below zero is a zero of either sign or above it
pub nothing : {k : ℕ} {x x' : Float} → Two binary64 k argument_k x x' → T (eq x zero) → Nothing binary64 x x'
nothing {k} {x} {x'} a h = record {
  s = a.s;
  first = subst (Is binary64 x a.s) (no_units_of a.first h) a.first;
  second = subst (Is binary64 x' a.s) (no_units_of a.second (subst T (zero_two a) h)) a.second;
}

arg_at : {k : ℕ} {x x' : Float} → Two binary64 k argument_k x x' → T (not (lt x zero)) → (b : Bool) → (T b → T (eq x zero))
    → (T (not b) → T (not (eq x zero))) → Arg k x x'
arg_at a h true p q = none (nothing a (p tt))
arg_at a h false p q = some (above_two a h (q tt))

some_at : {k : ℕ} {x x' : Float} (a : Two binary64 k argument_k x x') (h : T (not (lt x zero))) (b : Bool) (p : T b
    → T (eq x zero))
    (q : T (not b) → T (not (eq x zero)))
    → some? (arg_at a h b p q) ≡ not b
unfolding arg_at
some_at a h true p q = refl
some_at a h false p q = refl

pub arg_of : {k : ℕ} {x x' : Float} → Two binary64 k argument_k x x' → T (not (lt x zero)) → Arg k x x'
arg_of {x = x} a h = arg_at a h (eq x zero) (λ t. t) (λ t. t)

pub arg_some : {k : ℕ} {x x' : Float} (a : Two binary64 k argument_k x x') (h : T (not (lt x zero)))
    → some? (arg_of a h) ≡ not (eq x zero)
unfolding arg_of
arg_some {x = x} a h = some_at a h (eq x zero) (λ t. t) (λ t. t)

pub some_of : {k : ℕ} {x x' y y' : Float} (a : Two binary64 k argument_k x x') (h : T (not (lt x zero)))
    (b : Two binary64 k argument_k y y')
    (g : T (not (lt y zero)))
    → T (not (eq x zero && eq y zero)) → T (some? (arg_of a h) || some? (arg_of b g))
unfolding arg_of
some_of {x = x} {y = y} a h b g n =
    subst T (ap₂ ◌||◌ (sym (some_at a h (eq x zero) (λ t. t) (λ t. t))) (sym (some_at b g (eq y zero) (λ t. t) (λ t. t))))
    (turned (eq x zero) (eq y zero) n)
  where
    turned : (b c : Bool) → T (not (b && c)) → T (not b || not c)
    turned true true t = t
    turned true false t = tt
    turned false c t = tt

-- ---- closed forms
equal_two : {k : ℕ} {x x' : Float} → Two binary64 k arg_k x x' → Ran k agm_k (rd_equal x) (rd_equal x')
unfolding rd_equal mul_k mul_ok div_k div_ok root_k root_ok within lit_ok of_bits
equal_two x = result (closed (widen_two (div_two (lit_two one tt) (mul_two x (root_two x tt) tt) tt) tt))

zero_form_two : {k : ℕ} {y y' : Float} → Two binary64 k arg_k y y' → Ran k agm_k (rd_zero y) (rd_zero y')
unfolding rd_zero mul_k mul_ok div_k div_ok root_k root_ok within lit_ok of_bits
zero_form_two y =
    result (closed (widen_two (div_two (mul_two (lit_two three tt) (lit_two pi tt) tt)
    (mul_two (mul_two (lit_two four tt) y tt) (root_two y tt) tt) tt) tt))

-- ---- which road
no_second : (b c : Bool) → T (not (b && c)) → T b → T (not c)
no_second true c t h = t
no_second false c t h = absurd h

swapped : (b c : Bool) → T (not (b && c)) → T (not (c && b))
swapped true true t = t
swapped true false t = tt
swapped false true t = tt
swapped false false t = tt

both_zero : (s t : Bool) (m n : ℕ) → T (level s m t n) → m ≡ 0 → T (level t n false 0)
both_zero s t m n h e =
    let f : n ≡ 0 = sym (eqb→eq m n (and_l (eqb m n) (beq s t || eqb m 0) h)) ∙ e in
    subst (λ (i : ℕ). T (level t i false 0)) (sym f) (at t)
  where
    at : (t : Bool) → T (level t 0 false 0)
    at true = tt
    at false = tt

-- an equal of a zero is one
pub equal_zero : {x y : Float} {s t : Bool} {m n : ℕ} → Is binary64 x s m → Is binary64 y t n → T (eq x y) → T (eq x zero)
    → T (eq y zero)
equal_zero {x} {y} {s} {t} {m} {n} X Y e z = subst T (sym (eq_units Y (zero_is binary64)))
    (both_zero s t m n (subst T (eq_units X Y) e) (no_units_of X z))

module _ {k : ℕ} {z z' : Float} (Z : Two binary64 k arg_k z z') where
  module _ {x x' y y' : Float} (X : Two binary64 k argument_k x x') (Y : Two binary64 k argument_k y y') (hx : T (not (lt x zero)))
      (hy : T (not (lt y zero)))
      (some : T (not (eq x zero && eq y zero))) where
    duplicate_two : Ran k agm_k (Ok (rd_duplication x y z)) (Ok (rd_duplication x' y' z'))
    unfolding within
    duplicate_two = result (wider_same (duplication_two (arg_of X hx) (arg_of Y hy) Z (some_of X hx Y hy some)) tt)

    general_two : (T (eq x zero) → T (not (eq y z))) → Ran k agm_k (rd_general x y z) (rd_general x' y' z')
    unfolding rd_general mul_k mul_ok lit_ok of_bits
    general_two apart =
        choose (Ran k agm_k) (eq x zero) (eq x' zero) (zero_two X)
        (λ t. choose (Ran k agm_k) (le y (bits 0x4030_0000_0000_0000 ⊗ z)) (le y' (bits 0x4030_0000_0000_0000 ⊗ z'))
        (le_two Y (mul_two (lit_two (bits 0x4030_0000_0000_0000) tt) Z tt) tt)
        (λ l. agm_two (above_two Y hy (no_second (eq x zero) (eq y zero) some t)) Z (apart t)) (λ l. duplicate_two))
        (λ t. duplicate_two)

    pub ordered_two : Ran k agm_k (rd_ordered x y z) (rd_ordered x' y' z')
    unfolding rd_ordered
    ordered_two =
        choose (Ran k agm_k) (eq y z) (eq y' z') (eq_two Y Z tt)
        (λ e. choose (Ran k agm_k) (eq x y) (eq x' y') (eq_two X Y tt)
        (λ f. equal_two (above_two X hx (not_T (eq x zero)
        (λ t. T_not (eq y zero) (no_second (eq x zero) (eq y zero) some t) (equal_zero X.first Y.first f t)))))
        (λ f. choose (Ran k agm_k) (eq x zero) (eq x' zero) (zero_two X)
        (λ t. zero_form_two (above_two Y hy (no_second (eq x zero) (eq y zero) some t)))
        (λ t. general_two (λ q. absurd (T_not (eq x zero) t q)))))
        (λ e. general_two (λ q. e))

  pub steps_two : {x x' y y' : Float} (X : Two binary64 k argument_k x x') (Y : Two binary64 k argument_k y y')
      → T (not (lt x zero))
      → T (not (lt y zero))
      → T (not (eq x zero && eq y zero)) → Ran k agm_k (rd_steps x y z) (rd_steps x' y' z')
  unfolding rd_steps
  steps_two {x} {x'} {y} {y'} X Y hx hy nz =
      choose (Ran k agm_k) (eq x z) (eq x' z') (eq_two X Z tt) (λ e. ordered_two Y X hy hx (swapped (eq x zero) (eq y zero) nz))
      (λ e. ordered_two X Y hx hy nz)
