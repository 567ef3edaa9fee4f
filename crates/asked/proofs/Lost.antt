-- What is no finite number stays none through the steps that lead to a logarithm's argument, and there both logarithms may be
-- asked. Assumes nothing.
use Rattle.std.specs.Prelude.{◌≡◌, Bool, true, false, cond, ℕ, zero, suc, ◌*◌, ◌^◌, ◌<◌, eqb, ℤ, Float}
use Rattle.std.proofs.Math.Path.{refl}
use Rattle.std.proofs.Common.{sym, ap, ◌∙◌, subst, true≢false, lt_irrefl, mul-pos, zero-mul, zero-lt-suc, pow_pos}
use Rattle.std.specs.Bool.{beq}
use Rattle.std.specs.Float.{nan, inf, fin, binary64}
use Rattle.std.specs.Float.Ieee.{low, up, down, unlike, neg, add, sub, div}
use Rattle.std.specs.Float.Ieee.Fits.{up_pos}
use Rattle.std.specs.Float.Ieee.Scale.{finite}
use Rattle.binary64.specs.Operators.{◌⊕◌, ◌⊖◌, ◌⊘◌}
use Rattle.root.specs.Root.{root}
use Rattle.scaling.specs.Units.{Is, form}
use Rattle.asked.specs.With.{FromTwo, Within}
use Rattle.asked.specs.Lost.{Lost}

-- a float is finite or not
pub split : (x : Float) {A : Type 0} → (Lost x → A) → (finite x ≡ true → A) → A
split nan f g = f refl
split (inf s) f g = f refl
split (fin s m e) f g = g refl

no_more : (x : Float) → Lost x → finite x ≡ true → ⊥
no_more x l h = true≢false (sym h ∙ l)

neither : (b s : Bool) → Lost (cond b nan (inf s))
neither true s = refl
neither false s = refl

one_of : (b s : Bool) → Lost (cond b (inf s) nan)
one_of true s = refl
one_of false s = refl

pub neg_lost : (x : Float) → Lost x → Lost (neg x)
unfolding neg
neg_lost nan l = refl
neg_lost (inf s) l = refl
neg_lost (fin s m e) l = absurd (true≢false l)

pub root_lost : (x : Float) → Lost x → Lost (root x)
unfolding root
root_lost nan l = refl
root_lost (inf true) l = refl
root_lost (inf false) l = refl
root_lost (fin s m e) l = absurd (true≢false l)

pub sum_lost : (x y : Float) → Lost x → Lost (x ⊕ y)
unfolding add
sum_lost nan y l = refl
sum_lost (inf s) nan l = refl
sum_lost (inf s) (inf t) l = one_of (beq s t) s
sum_lost (inf s) (fin t n d) l = refl
sum_lost (fin s m e) y l = absurd (true≢false l)

pub sum_lost_last : (x y : Float) → Lost y → Lost (x ⊕ y)
unfolding add
sum_lost_last nan y l = refl
sum_lost_last (inf s) nan l = refl
sum_lost_last (inf s) (inf t) l = one_of (beq s t) s
sum_lost_last (inf s) (fin t n d) l = refl
sum_lost_last (fin s m e) nan l = refl
sum_lost_last (fin s m e) (inf t) l = refl
sum_lost_last (fin s m e) (fin t n d) l = absurd (true≢false l)

pub less_lost : (x y : Float) → Lost x → Lost (x ⊖ y)
unfolding sub
less_lost x y l = sum_lost x (neg y) l

pub less_lost_last : (x y : Float) → Lost y → Lost (x ⊖ y)
unfolding sub
less_lost_last x y l = sum_lost_last x (neg y) (neg_lost y l)

pub over_lost : (x y : Float) → Lost x → Lost (x ⊘ y)
unfolding div
over_lost nan y l = refl
over_lost (inf s) nan l = refl
over_lost (inf s) (inf t) l = refl
over_lost (inf s) (fin t n d) l = refl
over_lost (fin s m e) y l = absurd (true≢false l)

pub over_nan : (x : Float) → Lost (x ⊘ nan)
unfolding div
over_nan nan = refl
over_nan (inf s) = refl
over_nan (fin s m e) = refl

-- a quotient by a zero of either sign
pub over_nothing : (x : Float) {y : Float} {t : Bool} → Is binary64 y t 0 → Lost (x ⊘ y)
over_nothing x {y} {t} Y = let r = form Y in go r.m r.e r.is r.units
  where
    by_zero : (x : Float) (d : ℤ) → Lost (x ⊘ fin t 0 d)
    by_zero nan d = unfold div in refl
    by_zero (inf s) d = unfold div in refl
    by_zero (fin s m e) d = unfold div in neither (eqb m 0) (unlike s t)

    go : (m : ℕ) (e : ℤ) → y ≡ fin t m e → m * up e * 2 ^ low binary64 ≡ 0 * down e → Lost (x ⊘ y)
    go zero e i u = ap (λ z. finite (x ⊘ z)) i ∙ by_zero x e
    go (suc m) e i u =
        absurd (lt_irrefl 0 (subst (λ (n : ℕ). 0 < n) (u ∙ zero-mul (down e))
        (mul-pos (mul-pos (zero-lt-suc m) (up_pos e)) (pow_pos (low binary64)))))

-- ---- asked there
pub lost_two : (a : Float) → Lost a → FromTwo a
lost_two a l f = absurd (no_more a l f)

-- ln_1p is asked at a root and at its negative
pub lost_within : (v : Float) → Lost v → Within (root v) × Within (neg (root v))
lost_within v l = (
  λ f. absurd (no_more (root v) (root_lost v l) f),
  λ f. absurd (no_more (neg (root v)) (neg_lost (root v) (root_lost v l)) f),
)
