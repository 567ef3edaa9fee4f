-- RF's mean of 1 and y stays between powers of two, so that pi over it is a finite f64. Assumes nothing.
use Prim.Native.Nat.{ℕ, zero, suc, ◌*◌, ◌^◌}
use Rattle.std.specs.Prelude.{◌≡◌, Bool, [], T, leb, Float}
use Rattle.std.proofs.Math.Path.{refl}
use Rattle.std.proofs.Common.{sym, ap, ◌∙◌, subst}
use Rattle.std.proofs.Math.Bool.{true, false}
use Rattle.rounding.specs.Cut.{value}
use Rattle.binary64.specs.Operators.{◌⊘◌}
use Rattle.carlson.specs.Constants.{one, two, pi}
use Rattle.carlson.specs.Answer.{agm_at}
use Rattle.carlson.specs.Loop.{capped}
use Rattle.carlson.specs.declared.answer.Found.{Found}
use Rattle.elliprf.specs.declared.means.Means.{Means}
use Rattle.elliprf.specs.Means.{rf_means_of, rf_agm_value, rf_agm_start, rf_agm_count, rf_together, rf_agm_of}
use Rattle.between.specs.Between.{solid, Between}
use Rattle.between.proofs.Between.{sum_between, product_between, quotient_between, root_between, constant}
use Rattle.swing.specs.Ratios.{power, below_one}
use Rattle.swing.specs.Mean.{Answered}

-- ---- the mean's passes keep its two numbers up to 1, and from 2 ^ -4 on after the second
abbrev Kept : ℕ → Means → Type 0
Kept zero m = Between (power 1023) (power 1023) m.xn × Between (power 1010) (power 1023) m.yn
Kept (suc zero) m = Between (power 1022) (power 1023) m.xn × Between (power 1016) (power 1023) m.yn
Kept (suc (suc k)) m = Between (power 1019) (power 1023) m.xn × Between (power 1019) (power 1023) m.yn

halved : {lo hi : ℕ} {x : Float} → Between lo hi x → (p q : ℕ) → T (solid p q)
    → T (leb (value p * value (power 1024)) (value lo * 2 ^ 1074))
    → T (leb (value hi * 2 ^ 1074) (value q * value (power 1024))) → Between p q (x ⊘ two)
halved X p q o s t = quotient_between X (constant (power 1024) tt) p q o s t

kept : (k : ℕ) (m : Means) → Kept k m → Kept (suc k) (rf_means_of m)
unfolding value rf_means_of
kept zero m K = (
  halved (sum_between K.0 K.1 (power 1023) (power 1024) tt tt tt) (power 1022) (power 1023) tt tt tt,
  root_between (product_between K.0 K.1 (power 1010) (power 1023) tt tt tt) (power 1016) (power 1023) tt tt tt,
)
kept (suc zero) m K = (
  halved (sum_between K.0 K.1 (power 1022) (power 1024) tt tt tt) (power 1019) (power 1023) tt tt tt,
  root_between (product_between K.0 K.1 (power 1015) (power 1023) tt tt tt) (power 1019) (power 1023) tt tt tt,
)
kept (suc (suc k)) m K = (
  halved (sum_between K.0 K.1 (power 1020) (power 1024) tt tt tt) (power 1019) (power 1023) tt tt tt,
  root_between (product_between K.0 K.1 (power 1015) (power 1023) tt tt tt) (power 1019) (power 1023) tt tt tt,
)

pi_over : {lo : ℕ} {x : Float} → Between lo (power 1024) x
    → T (leb (value 0x4009_21FB_5444_2D18 * 2 ^ 1074) (value (power 1028) * value lo))
    → Answered (pi ⊘ x)
unfolding value
pi_over X t = quotient_between (constant 0x4009_21FB_5444_2D18 tt) X (power 1023) (power 1028) tt tt t

answered : (k : ℕ) (m : Means) → Kept k m → Answered (rf_agm_value m)
unfolding value rf_agm_value
answered zero m K = pi_over (sum_between K.0 K.1 (power 1023) (power 1024) tt tt tt) tt
answered (suc zero) m K = pi_over (sum_between K.0 K.1 (power 1022) (power 1024) tt tt tt) tt
answered (suc (suc k)) m K = pi_over (sum_between K.0 K.1 (power 1020) (power 1024) tt tt tt) tt

-- what a capped loop ends with, found or spent, was made of a state that the passes kept
record Ended {S A : Type 0} (found : S → ℕ → A) (Good : ℕ → S → Type 0) (r : A) : Type 0 where
  passes : ℕ
  state : S
  count : ℕ
  good : Good passes state
  is : r ≡ found state count

module _ {S A : Type 0} (step : S → S) (stop : S → Bool) (found : S → ℕ → A) (Good : ℕ → S → Type 0)
    (next : (k : ℕ) (s : S) → Good k s → Good (suc k) (step s)) where
  ended : (left : ℕ) (b : Bool) (s : S) (n k : ℕ) → Good k s → Ended found Good (capped step stop found found left b s n)
  unfolding capped
  ended zero true s n k g = record { passes = k; state = s; count = n; good = g; is = refl }
  ended zero false s n k g = record { passes = k; state = s; count = n; good = g; is = refl }
  ended (suc left) true s n k g = record { passes = k; state = s; count = n; good = g; is = refl }
  ended (suc left) false s n k g = ended left (stop (step s)) (step s) (suc n) (suc k) (next k s g)

-- RF's mean of 1 and y
pub mean : (y : Float) → Between (power 998) below_one y → Answered (rf_agm_of one y).value
unfolding rf_agm_of
mean y Y =
    let r = ended rf_means_of rf_together rf_agm_count Kept kept 11 (rf_together (rf_agm_start one y)) (rf_agm_start one y) 0 0 started in
    subst Answered (sym (ap (λ (f : Found). f.value) r.is ∙ counted (rf_agm_value r.state) r.count))
    (answered r.passes r.state r.good)
  where
    started : Kept 0 (rf_agm_start one y)
    started = unfold value rf_agm_start in (
      root_between (constant (power 1023) tt) (power 1023) (power 1023) tt tt tt,
      root_between Y (power 1010) (power 1023) tt tt tt,
    )

    counted : (v : Float) (n : ℕ) → (agm_at v n).value ≡ v
    counted v n = unfold agm_at in refl
