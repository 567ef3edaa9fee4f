-- RD as the steps of elliprd.rs, each rounded once, with document 01's rescaling, numbers and order. Definitions only.
use Rattle.std.specs.Prelude.{Bool, ◌&&◌, cond, Float, Ok, Err}
use Rattle.std.specs.Float.Ieee.{lt, le, eq}
use Rattle.refusals.specs.declared.Refusal.TheVariants.{BelowZero, NoResult, ZNotAbove, Zeros}
use Rattle.binary64.specs.Leaves.{minimum}
use Rattle.binary64.specs.Operators.{◌⊗◌, ◌⊘◌, bits}
use Rattle.root.specs.Root.{root}
use Rattle.carlson.specs.Constants.{zero, one, three, four, pi}
use Rattle.carlson_arguments.specs.Rescaling.{rescaling3}
use Rattle.carlson_arguments.specs.Checks.{any_nan3, any_infinite3}
use Rattle.carlson.specs.Answer.{closed_at, rescaled_at, settled_late}
use Rattle.carlson.specs.Answer.{Answer}
use Rattle.elliprd.specs.Means.{rd_agm_of}
use Rattle.rd_duplicate.specs.Duplicate.{rd_duplication}

-- ---- special cases (DLMF 19.20(iv))
-- RD(x, x, x)
unfoldable pub rd_equal : Float → Answer
rd_equal x = Ok (closed_at (one ⊘ (x ⊗ root x)))

-- RD(0, y, y)
unfoldable pub rd_zero : Float → Answer
rd_zero y = Ok (closed_at (three ⊗ pi ⊘ (four ⊗ y ⊗ root y)))

-- the mean where x = 0 and y <= 16z, else duplication
unfoldable pub rd_general : Float → Float → Float → Answer
rd_general x y z =
    cond (eq x zero) (cond (le y (bits 0x4030_0000_0000_0000 ⊗ z)) (rd_agm_of y z) (Ok (rd_duplication x y z)))
    (Ok (rd_duplication x y z))

unfoldable pub rd_ordered : Float → Float → Float → Answer
rd_ordered x y z = cond (eq y z) (cond (eq x y) (rd_equal x) (cond (eq x zero) (rd_zero y) (rd_general x y z))) (rd_general x y z)

-- x and y are exchanged where x = z
unfoldable pub rd_steps : Float → Float → Float → Answer
rd_steps x y z = cond (eq x z) (rd_ordered y x z) (rd_ordered x y z)

-- ---- rescaling: "by the scale and then its root"
unfoldable pub over_scale : Answer → Float → Answer
over_scale (Ok f) s = Ok (rescaled_at f (f.value ⊘ s ⊘ root s))
over_scale (Err n) s = Err n

unfoldable pub rd_unchecked : Float → Float → Float → Answer
rd_unchecked = rescaling3 over_scale rd_steps

-- ---- the entry: 2 (the smaller of x and y, NaN passed over), 3, 5, steps with 9; finite stands; else 1, +infinity gives 0, 6
unfoldable pub rd_settled : Answer → Bool → Bool → Answer
rd_settled (Ok f) nan unbounded = settled_late f nan unbounded NoResult
rd_settled (Err n) nan unbounded = Err n

unfoldable pub rd : Float → Float → Float → Answer
rd x y z =
    cond (lt (minimum x y) zero) (Err BelowZero)
    (cond (eq x zero && eq y zero) (Err Zeros)
    (cond (le z zero) (Err ZNotAbove)
    (rd_settled (rd_unchecked x y z) (any_nan3 x y z) (any_infinite3 x y z))))
