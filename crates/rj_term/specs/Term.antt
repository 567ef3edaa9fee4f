-- A term of RJ's sum, in the Rust's steps (elliprj.rs). Definitions only.
use Rattle.std.specs.Prelude.{ℕ, ◌+◌, ◌%◌, ◌^◌, cond, Float}
use Rattle.std.specs.Float.Ieee.{neg, lt}
use Rattle.binary64.specs.Operators.{◌⊕◌, ◌⊗◌, ◌⊘◌}
use Rattle.carlson.specs.Constants.{one, two, half}
use Rattle.carlson.specs.declared.answer.Found.{Found}
use Rattle.elliprc.specs.Rc.{rc_unchecked}
use Rattle.rj_term.specs.Helper.{three_halves, rc1p}
use Rattle.rj_term.specs.declared.term.Roots.{Roots}

unfoldable pub rj_middle : Float → Roots → Float → Float
rj_middle pn r dn = two ⊗ r.p ⊗ (pn ⊕ r.x ⊗ (r.y ⊕ r.z) ⊕ r.y ⊗ r.z) ⊘ dn

-- between -3/2 and -1/2 RC itself, at an argument that keeps its digits
unfoldable pub rj_term : Float → Roots → Float → Float → Found
rj_term pn r dn en =
    cond (lt en (neg half)) (cond (lt (neg three_halves) en) (rc_unchecked one (rj_middle pn r dn))
    (rc1p en)) (rc1p en)

-- "the number of rescalings over the call and all it calls": those of the terms before, and of this one
unfoldable pub rj_rescalings : ℕ → Found → ℕ
rj_rescalings before rc = (before + rc.way.rescalings) % 2 ^ 32
