-- The bench profile (document 02, 2026-14): five entries beside the old ones, whose arguments may stand in any order and in any
-- unit by powers of four. Definitions only.
use Rattle.std.specs.Prelude.{ℕ, ◌&&◌, cond, Float, Err}
use Rattle.std.specs.Float.Ieee.{lt, le, eq}
use Rattle.refusals.specs.declared.Refusal.TheVariants.{BelowZero, NanGiven, OutsideProfile, ZNotAbove, ZeroGiven, Zeros}
use Rattle.binary64.specs.Leaves.{minimum}
use Rattle.carlson.specs.Constants.{zero}
use Rattle.carlson_arguments.specs.Checks.{any_nan2, any_nan3, any_nan4, below3, zeros_of3}
use Rattle.carlson.specs.Answer.{Answer}
use Rattle.sorting.specs.Sorting.{rise_xy, rising, three}
use Rattle.profile_arguments.specs.Arguments.{plus_zero, sized2, sized3, sized4}
use Rattle.elliprc.specs.Rc.{rc}
use Rattle.elliprf.specs.Rf.{rf}
use Rattle.elliprd.specs.Rd.{rd}
use Rattle.elliprg.specs.Rg.{rg}
use Rattle.elliprj.specs.Rj.{rj_of_positive}

-- ---- "23 size outside the profile, infinities included"; past the zeros' signs: "the base ones first where they rest on arguments alone (1 to 5, in the base order, 1 where NaN is
-- present and none came earlier), then 23", then the base entry, at the arguments in order
-- RC: 2, 4, 1, 23
unfoldable pub rc_plain : Float → Float → Answer
rc_plain x y =
    cond (lt x zero) (Err BelowZero)
    (cond (eq y zero) (Err ZeroGiven)
    (cond (any_nan2 x y) (Err NanGiven)
    (cond (sized2 x y) (rc x y) (Err OutsideProfile))))

-- "RF and RJ sort x, y, z upward"
unfoldable pub rf_upward : Float → Float → Float → Answer
rf_upward x y z = let t = rising (three x y z) in rf t.x t.y t.z

-- RF: 1, 2, 3, 23
unfoldable pub rf_plain : Float → Float → Float → Answer
rf_plain x y z =
    cond (any_nan3 x y z) (Err NanGiven)
    (cond (below3 x y z) (Err BelowZero)
    (cond (zeros_of3 x y z) (Err Zeros)
    (cond (sized3 x y z) (rf_upward x y z) (Err OutsideProfile))))

-- "and RD sorts x and y"
unfoldable pub rd_upward : Float → Float → Float → Answer
rd_upward x y z = let t = rise_xy (three x y z) in rd t.x t.y t.z

-- RD: 2, 3, 5, 1, 23
unfoldable pub rd_plain : Float → Float → Float → Answer
rd_plain x y z =
    cond (lt (minimum x y) zero) (Err BelowZero)
    (cond (eq x zero && eq y zero) (Err Zeros)
    (cond (le z zero) (Err ZNotAbove)
    (cond (any_nan3 x y z) (Err NanGiven)
    (cond (sized3 x y z) (rd_upward x y z) (Err OutsideProfile)))))

-- RG: 2, 1, 23; it sorts for itself
unfoldable pub rg_plain : Float → Float → Float → Answer
rg_plain x y z =
    cond (below3 x y z) (Err BelowZero)
    (cond (any_nan3 x y z) (Err NanGiven)
    (cond (sized3 x y z) (rg x y z) (Err OutsideProfile)))

unfoldable pub rj_upward : Float → Float → Float → Float → Answer
rj_upward x y z p = let t = rising (three x y z) in rj_of_positive t.x t.y t.z p

-- RJ: 1, 4, 2, 3, 23; "then 21 for a negative p", which is the base entry's own
unfoldable pub rj_plain : Float → Float → Float → Float → Answer
rj_plain x y z p =
    cond (any_nan4 x y z p) (Err NanGiven)
    (cond (eq p zero) (Err ZeroGiven)
    (cond (below3 x y z) (Err BelowZero)
    (cond (zeros_of3 x y z) (Err Zeros)
    (cond (sized4 x y z p) (rj_upward x y z p) (Err OutsideProfile)))))

-- ---- the entries
unfoldable pub profile_rc : Float → Float → Answer
profile_rc x y = rc_plain (plus_zero x) (plus_zero y)

unfoldable pub profile_rf : Float → Float → Float → Answer
profile_rf x y z = rf_plain (plus_zero x) (plus_zero y) (plus_zero z)

unfoldable pub profile_rd : Float → Float → Float → Answer
profile_rd x y z = rd_plain (plus_zero x) (plus_zero y) (plus_zero z)

unfoldable pub profile_rg : Float → Float → Float → Answer
profile_rg x y z = rg_plain (plus_zero x) (plus_zero y) (plus_zero z)

unfoldable pub profile_rj : Float → Float → Float → Float → Answer
profile_rj x y z p = rj_plain (plus_zero x) (plus_zero y) (plus_zero z) (plus_zero p)
