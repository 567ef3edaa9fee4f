-- Where RC asks: ln at what is 2 or more or not finite, and ln_1p at what is between -3/4 and 3/4 or not finite. Assumes nothing.
use Rattle.std.proofs.Math.Path.{◌≡◌, refl, ap, ap₂}
use Rattle.std.proofs.Common.{sym, ◌∙◌, subst, inl, inr, zero-mul, arith, T_not, ltb→lt}
use Rattle.std.specs.Prelude.{Bool, true, false, not, ℕ, ◌*◌, T, ltb, Float}
use Rattle.std.proofs.Math.Dec.{not_T}
use Rattle.std.specs.Float.{nan, inf, fin, binary64}
use Rattle.std.specs.Float.Ieee.{up, down, neg, lt, eq, fits, of_bits}
use Rattle.std.specs.Float.Ieee.Scale.{finite}
use Rattle.binary64.specs.Operators.{◌⊕◌, ◌⊖◌, ◌⊗◌, ◌⊘◌}
use Rattle.root.specs.Root.{root}
use Rattle.scaling.specs.Units.{Is}
use Rattle.scaling.proofs.Nothing.{root_itself}
use Rattle.scaling.proofs.Pick.{choose}
use Rattle.carlson.specs.Constants.{zero, two, half}
use Rattle.rc_cases.specs.Cases.{rc_by_ln1p, rc_by_ln, rc_cases}
use Rattle.asked.specs.With.{FromTwo, Within, Agrees, Agrees1p}
use Rattle.asked.specs.With.{by_ln1p_with, by_ln_with, rc_cases_with}
use Rattle.asked.specs.Lost.{Lost}
use Rattle.asked.proofs.Lost.{split, root_lost, sum_lost, less_lost, less_lost_last, over_lost, over_nan, over_nothing}
use Rattle.asked.proofs.Lost.{lost_two, lost_within}
use Rattle.asked.proofs.Arguments.{ln_least, ratio_most, root_within}
use Rattle.asked.specs.Reached.{Tested}
use Rattle.asked.proofs.Reached.{ordered, not_above, over_half}

abbrev ln_of : Float → Float → Float
ln_of x y = (root x ⊕ root (x ⊖ y)) ⊘ root y

abbrev ln1p_of : Float → Float → Float
ln1p_of x y = root ((x ⊖ y) ⊘ x)

ln_asked : (x y : Float) → Tested x y → T (not (lt half (y ⊘ x))) → FromTwo (ln_of x y)
ln_asked x y h k =
    let sum = root x ⊕ root (x ⊖ y) in
    split x (λ l. lost_two (ln_of x y) (over_lost sum (root y) (sum_lost (root x) _ (root_lost x l))))
    (λ fx. elim (ordered x y h fx) [
      | inl e ↦ lost_two (ln_of x y) (ap (λ z. finite (sum ⊘ root z)) e ∙ by_nan sum)
      | inr o ↦ elim (not_above o k) [
        | inl z ↦ lost_two (ln_of x y) (over_nothing sum (zero_root (subst (Is binary64 y o.t) z o.y_is)))
        | inr r ↦ ln_least o.x_is (subst (λ b. Is binary64 y b o.Y) r.0 o.y_is) r.1 r.2
      ]
    ])
  where
    by_nan : (v : Float) → Lost (v ⊘ root nan)
    by_nan v = unfold root in over_nan v

    zero_root : {y : Float} {t : Bool} → Is binary64 y t 0 → Is binary64 (root y) t 0
    zero_root {y} {t} Z = subst (λ v. Is binary64 v t 0) (sym (root_itself Z)) Z

ln1p_asked : (x y : Float) → Tested x y → T (lt half (y ⊘ x)) → Within (ln1p_of x y) × Within (neg (ln1p_of x y))
ln1p_asked x y h k =
    split x (λ l. lost_within ((x ⊖ y) ⊘ x) (over_lost (x ⊖ y) x (less_lost x y l)))
    (λ fx. elim (ordered x y h fx) [
      | inl e ↦ lost_within ((x ⊖ y) ⊘ x) (over_lost (x ⊖ y) x (less_lost_last x y (ap finite e)))
      | inr o ↦
          let r = over_half o k in
          let q = ratio_most o.x_is (subst (λ b. Is binary64 y b o.Y) r.0 o.y_is) o.pos o.most r.1 in
          root_within q.1 q.2
    ])

-- the negative of what is below zero is not
none_below : (a b : ℕ) → b ≡ 0 → T (not (ltb a b))
none_below a b e = not_T (ltb a b) (λ t. let l = ltb→lt a b t in let r : ⊥ = omega arith in r)

pub turned : (y : Float) → T (lt y zero) → T (not (lt (neg y) zero))
unfolding neg lt of_bits
turned nan t = absurd t
turned (inf true) t = tt
turned (inf false) t = absurd t
turned (fin true m e) t = none_below (m * up e * 1) (0 * 1 * down e) (zero-mul (down e))
turned (fin false m e) t = absurd (T_not (ltb (m * up e * 1) (0 * 1 * down e)) (none_below _ _ (zero-mul (down e))) t)

module _ (log log1p : Float → Float) (A : Agrees log) (B : Agrees1p log1p) where
  pub cases_ask : (prefix x y : Float) → T (fits binary64 x) → T (fits binary64 y) → T (not (lt y zero))
      → rc_cases_with log log1p prefix x y ≡ rc_cases prefix x y
  unfolding rc_cases_with rc_cases by_ln_with by_ln1p_with rc_by_ln rc_by_ln1p
  cases_ask prefix x y F G N =
      choose ◌≡◌ (eq x zero) (eq x zero) refl (λ z. refl)
      (λ z.
      choose ◌≡◌ (eq x y) (eq x y) refl (λ q. refl)
      (λ q.
      choose ◌≡◌ (lt x y) (lt x y) refl (λ l. refl)
      (λ l.
      let h : Tested x y = record { fit_x = F; fit_y = G; not_zero = z; not_less = l; y_above = N } in
      choose ◌≡◌ (lt half (y ⊘ x)) (lt half (y ⊘ x)) refl
      (λ k.
      let w = ln1p_asked x y h k in
      ap₂ (λ u v. prefix ⊗ (u ⊖ v) ⊘ (two ⊗ root (x ⊖ y))) (B (ln1p_of x y) w.0) (B (neg (ln1p_of x y)) w.1))
      (λ k. ap (λ v. prefix ⊗ v ⊘ root (x ⊖ y)) (A (ln_of x y) (ln_asked x y h k))))))
