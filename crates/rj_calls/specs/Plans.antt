-- What holds of whatever a plan can be, for any property. Assumes nothing.
use Rattle.std.specs.Prelude.{◌≡◌, true, false, Float, Ok, Option, Some, None}
use Rattle.std.proofs.Common.{sym, ◌∙◌, true≢false}
use Rattle.std.specs.Float.Ieee.{neg, le}
use Rattle.binary64.specs.Operators.{◌⊘◌}
use Rattle.carlson.specs.Constants.{zero as zero_above}
use Rattle.carlson_arguments.specs.Rescaling.{scale_of4, rescales4}
use Rattle.carlson.specs.Answer.{taylor_at}
use Rattle.carlson.proofs.Only.{asked}
use Rattle.carlson.specs.Answer.{Answer}
use Rattle.sorting.specs.Sorting.{rising}
use Rattle.rj_positive.specs.Positive.{rj_positive}
use Rattle.rj_negative.specs.declared.reduction.Reduced.{Reduced}
use Rattle.rj_near_zero.specs.NearZero.{near_zero}
use Rattle.rj_negative.specs.Reduction.{reduce_of}
use Rattle.rj_calls.specs.declared.plan.Plan.{Plan}
use Rattle.rj_calls.specs.declared.plan.Rescaled.{Rescaled}
use Rattle.rj_calls.specs.declared.plan.Plan.TheVariants.{Done, Rescale, Reduce}
use Rattle.rj_calls.specs.Run.{plan_unscaled, plan_scaled, plan_near, plan_of}

-- ---- A of what a call is done with, C of the rescaled arguments, R of the reduction's
abbrev pub Plans : (Answer → Type 0) → (Rescaled → Type 0) → (Reduced → Type 0) → Plan → Type 0
Plans A C R (Done a) = A a
Plans A C R (Rescale c) = C c
Plans A C R (Reduce r) = R r

-- the arguments divided by their scale
abbrev pub divided_of : Float → Float → Float → Float → Rescaled
divided_of x y z p = let s = scale_of4 x y z p in record { x = x ⊘ s; y = y ⊘ s; z = z ⊘ s; p = p ⊘ s; scale = s }

-- p at most zero: the expansion, a rescaling or the reduction. Else RJ for p above zero, or a rescaling.
module _ (A : Answer → Type 0) (C : Rescaled → Type 0) (R : Reduced → Type 0) (p : Float)
    (near : le p zero_above ≡ true → (v : Float) → A (Ok (taylor_at v)))
    (scaled : (x y z : Float) → rescales4 x y z p (scale_of4 x y z p) ≡ true → C (divided_of x y z p))
    (reduced : le p zero_above ≡ true → (x y z : Float) → R (reduce_of x y z (neg p))) where
  scaled_holds : (x y z : Float) → (le p zero_above ≡ false → A (rj_positive x y z p)) → Plans A C R (plan_scaled x y z p)
  unfolding plan_scaled plan_unscaled
  scaled_holds x y z positive =
      asked (Plans A C R) (rescales4 x y z p (scale_of4 x y z p)) (scaled x y z)
      (λ e. asked (Plans A C R) (le p zero_above) (λ h. reduced h x y z) positive)

  near_holds : le p zero_above ≡ true → (n : Option Float) (x y z : Float) → Plans A C R (plan_near n x y z p)
  unfolding plan_near
  near_holds h (Some v) x y z = near h v
  near_holds h None x y z = scaled_holds x y z (λ e. absurd (true≢false (sym h ∙ e)))

  pub plan_holds : (x y z : Float) → (le p zero_above ≡ false → A (rj_positive x y z p)) → Plans A C R (plan_of x y z p)
  unfolding plan_of
  plan_holds x y z positive =
      let t = rising (record { x = x; y = y; z = z }) in
      asked (Plans A C R) (le p zero_above) (λ h. near_holds h (near_zero t.x t.y t.z (neg p)) t.x t.y t.z)
      (λ h. scaled_holds x y z positive)
