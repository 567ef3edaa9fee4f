-- Within the door no test of RC's definition says yes. Assumes nothing.
use Rattle.refusals.specs.declared.Refusal.TheVariants.{RcNoResult}
use mathlib.Core.Path.{◌≡◌, refl, ap, ◌∙◌}
use mathlib.Core.Bool.{true}
use lib.Ieee.{Float}
use Rattle.carlson.specs.Constants.{one}
use Rattle.carlson.specs.Answer.{closed_at, settled, settled_told}
use Rattle.carlson_arguments.specs.Door.{moderate, moderate2}
use Rattle.carlson_arguments.proofs.DoorLaws.{Moderate, moderate_told, inside2}
use Rattle.carlson_arguments.proofs.DoorLaws.{not_below, not_zero, no_nan2, none_infinite2, unscaled2}
use Rattle.elliprc.specs.Rc.{rc_found, over_root, rc_unchecked, rc}
use Rattle.rc_cases.specs.Cases.{rc_cases, rc_steps}

pub within : (x y : Float) → moderate2 x y ≡ true → settled (rc_found x y) RcNoResult ≡ rc x y
unfolding rc rc_unchecked settled settled_told
within x y h =
    let i = inside2 x y h in
    rw (not_below i, not_zero i, no_nan2 i, none_infinite2 i, unscaled2 i over_root rc_found)

-- both arguments moderate, and so above zero
pub above : (x y v : Float) → moderate x ≡ true → moderate y ≡ true → v ≡ rc_cases one x y
    → settled (closed_at v) RcNoResult ≡ rc x y
above x y v p q e =
    let m = moderate_told y q in
    ap (λ (w : Float). settled (closed_at w) RcNoResult) (e ∙ steps m) ∙ found ∙ within x y (door m)
  where
    steps : Moderate y → rc_cases one x y ≡ rc_steps x y
    steps m = unfold rc_steps in rw m.not_below

    found : settled (closed_at (rc_steps x y)) RcNoResult ≡ settled (rc_found x y) RcNoResult
    found = unfold rc_found in refl

    door : Moderate y → moderate2 x y ≡ true
    door m = unfold moderate2 in rw (p, m.size, q)
