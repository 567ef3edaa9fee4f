-- RJ for p above zero: the special cases in the Rust's order (elliprj.rs; DLMF 19.20(iii)). Definitions only.
use Rattle.std.specs.Prelude.{Bool, cond, Float, Ok}
use Rattle.std.specs.Float.Ieee.{lt, le, eq}
use Rattle.binary64.specs.Leaves.{maximum, minimum}
use Rattle.binary64.specs.Operators.{◌⊖◌, ◌⊗◌, ◌⊘◌, bits}
use Rattle.root.specs.Root.{root}
use Rattle.carlson.specs.Constants.{one, three}
use Rattle.carlson.specs.Answer.{both_ways, closed_at, carried_at}
use Rattle.carlson.specs.Answer.{Answer}
use Rattle.elliprc.specs.Rc.{rc_unchecked}
use Rattle.elliprd.specs.Rd.{rd_unchecked}
use Rattle.rj_positive.specs.Duplicate.{rj_duplication}

-- the larger over the smaller is above 1.2
unfoldable pub well_apart : Float → Float → Bool
well_apart p x = lt (bits 0x3FF3_3333_3333_3333) (maximum p x ⊘ minimum p x)

-- RJ(x, x, x, x)
unfoldable pub rj_all : Float → Answer
rj_all x = Ok (closed_at (one ⊘ (x ⊗ root x)))

-- RJ(x, x, x, p)
unfoldable pub rj_three : Float → Float → Answer
rj_three x p = let rc = rc_unchecked x p in Ok (carried_at (three ⊘ (x ⊖ p) ⊗ (rc.value ⊖ one ⊘ root x)) rc.way)

-- RJ(x, y, y, p)
unfoldable pub rj_two : Float → Float → Float → Answer
rj_two x y p =
    let first = rc_unchecked x y in
    let second = rc_unchecked x p in
    Ok (carried_at (three ⊗ (first.value ⊖ second.value) ⊘ (p ⊖ y)) (both_ways first.way second.way))

-- RJ(x, y, z, z) is RD(x, y, z); else duplication
unfoldable pub rj_last : Float → Float → Float → Float → Answer
rj_last x y z p = cond (eq z p) (rd_unchecked x y z) (Ok (rj_duplication x y z p))

-- y = z
unfoldable pub rj_pair : Float → Float → Float → Float → Answer
rj_pair x y z p =
    cond (eq y p) (rd_unchecked x y y)
    (cond (well_apart p y) (cond (le x (maximum y p)) (rj_two x y p) (rj_last x y z p)) (rj_last x y z p))

unfoldable pub rj_cases : Float → Float → Float → Float → Answer
rj_cases x y z p = cond (eq y z) (rj_pair x y z p) (rj_last x y z p)

-- x = y: all three, or x and z exchanged
unfoldable pub rj_positive : Float → Float → Float → Float → Answer
rj_positive x y z p =
    cond (eq x y)
    (cond (eq x z) (cond (eq x p) (rj_all x) (cond (well_apart p x) (rj_three x p) (rj_cases x y z p))) (rj_cases z y x p))
    (rj_cases x y z p)
