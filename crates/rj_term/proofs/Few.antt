-- A term of RJ's sum begins no round and has at most one rescaling, RC's (document 02, 2026-12). Assumes nothing.
use Rattle.std.proofs.Common.{arith}
use Rattle.std.specs.Prelude.{Float}
use Rattle.std.specs.Float.Ieee.{neg, lt, le}
use Rattle.binary64.specs.Leaves.{absolute}
use Rattle.carlson.specs.Constants.{one, half}
use Rattle.carlson.specs.Constants.{zero as +0}
use Rattle.carlson.specs.Answer.{closed_at, carried_at}
use Rattle.carlson.proofs.Only.{chosen}
use Rattle.carlson.specs.Ways.{Within}
use Rattle.carlson.proofs.Ways.{counted}
use Rattle.carlson.specs.declared.answer.Found.{Found}
use Rattle.elliprc.specs.Few.{rc_within}
use Rattle.rj_term.specs.Helper.{hundredth, three_halves, by_rc1p, rc1p}
use Rattle.rj_term.specs.Term.{rj_term}
use Rattle.rj_term.specs.declared.term.Roots.{Roots}
use Rattle.rj_term.specs.Few.{Term}

helper_few : (y : Float) → Term (rc1p y)
unfolding rc1p closed_at by_rc1p carried_at
helper_few y =
    chosen Term (le (absolute y) hundredth) (counted 0 (omega arith))
    (chosen Term (lt +0 y) (counted 0 (omega arith))
    (chosen Term (lt (neg half) y) (counted 0 (omega arith))
    (chosen Term (lt y (neg one)) (rc_within _ _) (counted 0 (omega arith)))))

pub term_few : (pn : Float) (r : Roots) (dn en : Float) → Term (rj_term pn r dn en)
unfolding rj_term
term_few pn r dn en =
    chosen Term (lt en (neg half)) (chosen Term (lt (neg three_halves) en) (rc_within _ _) (helper_few en)) (helper_few en)
