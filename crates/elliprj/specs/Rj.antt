-- RJ's checks in document 01's order, with its numbers, around the steps of elliprj.rs (`rj_calls`). Definitions only.
use Rattle.std.specs.Prelude.{ℕ, Bool, false, cond, Float, Ok, Err}
use Rattle.std.specs.Float.Ieee.{lt, eq}
use Rattle.refusals.specs.declared.Refusal.TheVariants.{BelowZero, NanGiven, NoResult, WrongSign, ZeroGiven, Zeros}
use Rattle.carlson.specs.Constants.{zero as zero_above}
use Rattle.carlson_arguments.specs.Checks.{any_nan4, any_infinite4, below3, zeros_of3}
use Rattle.carlson.specs.Answer.{infinite_at, settled}
use Rattle.carlson.specs.Answer.{Answer}
use Rattle.rj_calls.specs.Run.{rj_unchecked}

-- ---- the checks in their order: 1, 4, 2, 3, +infinity gives 0 and an infinite p, steps with 9 and 10, then 6
unfoldable pub rj_settled : Answer → Answer
rj_settled (Ok f) = settled f NoResult
rj_settled (Err n) = Err n

-- past those on p: from 2 on
unfoldable pub rj_rest : Float → Float → Float → Float → Answer
rj_rest x y z p =
    cond (below3 x y z) (Err BelowZero)
    (cond (zeros_of3 x y z) (Err Zeros)
    (cond (any_infinite4 x y z p) infinite_at (rj_settled (rj_unchecked x y z p))))

-- ---- document 02, 2026-10: "each makes the old checks in the old order, p of the wrong sign being refused straight after 4"
unfoldable pub rj_signed : Bool → Float → Float → Float → Float → Answer
rj_signed wrong x y z p =
    cond (any_nan4 x y z p) (Err NanGiven)
    (cond (eq p zero_above) (Err ZeroGiven)
    (cond wrong (Err WrongSign) (rj_rest x y z p)))

-- "one for p above zero, one for p below"
unfoldable pub rj_of_positive : Float → Float → Float → Float → Answer
rj_of_positive x y z p = rj_signed (lt p zero_above) x y z p

unfoldable pub rj_of_negative : Float → Float → Float → Float → Answer
rj_of_negative x y z p = rj_signed (lt zero_above p) x y z p

-- the old RJ (document 01), to which neither sign is wrong; no function is it any more (Halves)
unfoldable pub rj : Float → Float → Float → Float → Answer
rj x y z p = rj_signed false x y z p
