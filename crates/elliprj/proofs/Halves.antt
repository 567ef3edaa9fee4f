-- The two entries are the halves of RJ (document 02, 2026-10): "on its own sign each equals the old RJ". Assumes nothing.
use Rattle.std.specs.Prelude.{◌≡◌, refl, Bool, true, false, cond, Float}
use Rattle.std.specs.Float.Ieee.{lt}
use Rattle.sorting.specs.Order.{lt_once}
use Rattle.carlson.specs.Constants.{zero}
use Rattle.elliprj.specs.Rj.{rj, rj_of_positive, rj_of_negative}

module _ (x y z p : Float) where
  pub rj_positive_is : lt p zero ≡ false → rj_of_positive x y z p ≡ rj x y z p
  unfolding rj_of_positive rj
  rj_positive_is e = rw e

  pub rj_negative_is : lt zero p ≡ false → rj_of_negative x y z p ≡ rj x y z p
  unfolding rj_of_negative rj
  rj_negative_is e = rw e

  -- so RJ is the one or the other, by p's sign; a zero and a NaN are not below zero
  pub rj_by_sign : cond (lt p zero) (rj_of_negative x y z p) (rj_of_positive x y z p) ≡ rj x y z p
  rj_by_sign = go (lt p zero) refl
    where
      go : (b : Bool) → lt p zero ≡ b → cond b (rj_of_negative x y z p) (rj_of_positive x y z p) ≡ rj x y z p
      go true e = rj_negative_is (lt_once p zero e)
      go false e = rj_positive_is e

  -- "a NaN or zero p is refused alike by both": where p has no sign both are RJ
  pub alike : lt p zero ≡ false → lt zero p ≡ false → rj_of_positive x y z p ≡ rj_of_negative x y z p
  unfolding rj_of_positive rj_of_negative
  alike e f = rw (e, f)
