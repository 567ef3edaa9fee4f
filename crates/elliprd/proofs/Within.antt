-- Within the door no test of RD's definition says yes. Assumes nothing.
use Rattle.std.proofs.Common.{Ok}
use mathlib.Core.Path.{◌≡◌, refl, sym, ap, ◌∙◌}
use mathlib.Core.Bool.{Bool, true, false, not, ◌&&◌, true≢false}
use lib.Ieee.{Float, eq, ne}
use lib.Ieee.Scale.{finite}
use Rattle.carlson.specs.Answer.{settled_told}
use Rattle.carlson.specs.Answer.{Answer}
use Rattle.carlson.specs.declared.answer.Found.{Found}
use Rattle.carlson_arguments.specs.Door.{moderate, moderate3}
use Rattle.carlson_arguments.proofs.DoorLaws.{moderate_told, inside3}
use Rattle.carlson_arguments.proofs.DoorLaws.{not_le_zero, none_below2, no_zeros2, no_nan3}
use Rattle.carlson_arguments.proofs.DoorLaws.{none_infinite3, unscaled3}
use Rattle.rd_duplicate.specs.Duplicate.{rd_duplication}
use Rattle.elliprd.specs.Rd.{rd_general, rd_ordered, rd_steps, over_scale, rd_unchecked, rd_settled, rd}

pub within : (x y z : Float) → moderate3 x y z ≡ true → rd_settled (rd_steps x y z) false false ≡ rd x y z
unfolding rd rd_unchecked
within x y z h =
    let i = inside3 x y z h in
    rw (
      none_below2 i,
      no_zeros2 i,
      not_le_zero i.three,
      no_nan3 i,
      none_infinite3 i,
      unscaled3 i over_scale rd_steps,
    )

-- what the tests of `elliprd` told
pub record Apart (x y z : Float) : Type 0 where
  pub one : moderate x ≡ true
  pub two : moderate y ≡ true
  pub three : moderate z ≡ true
  pub first : eq x z ≡ false
  pub second : eq y z ≡ false

-- such arguments are duplicated, and a finite value stands
pub duplicates : (x y z : Float) → Apart x y z → rd_steps x y z ≡ Ok (rd_duplication x y z)
unfolding rd_steps rd_ordered rd_general
duplicates x y z a = rw (a.first, a.second, (moderate_told x a.one).not_zero)

pub stands : (x y z : Float) (f : Found) → Apart x y z → f ≡ rd_duplication x y z → finite f.value ≡ true → Ok f ≡ rd x y z
stands x y z f a e h = settles ∙ ap (λ (g : Found). rd_settled (Ok g) false false) e
    ∙ ap (λ (g : Answer). rd_settled g false false) (sym (duplicates x y z a)) ∙ within x y z door
  where
    settles : Ok f ≡ rd_settled (Ok f) false false
    settles = unfold rd_settled settled_told in rw h

    door : moderate3 x y z ≡ true
    door = unfold moderate3 in rw (a.one, a.two, a.three)
