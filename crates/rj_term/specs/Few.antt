-- A term of RJ's sum begins no round and has at most one rescaling, RC's (document 02, 2026-12). Assumes nothing.
use Rattle.std.proofs.Common.{arith}
use Rattle.std.specs.Prelude.{Float}
use Rattle.std.specs.Float.Ieee.{neg, lt, le}
use Rattle.binary64.specs.Leaves.{absolute}
use Rattle.carlson.specs.Constants.{one, half}
use Rattle.carlson.specs.Constants.{zero as +0}
use Rattle.carlson.specs.Answer.{closed_at, carried_at}
use Rattle.carlson.proofs.Only.{chosen}
use Rattle.carlson.specs.Ways.{Within}
use Rattle.carlson.proofs.Ways.{counted}
use Rattle.carlson.specs.declared.answer.Found.{Found}
use Rattle.elliprc.specs.Few.{rc_within}
use Rattle.rj_term.specs.Helper.{hundredth, three_halves, by_rc1p, rc1p}
use Rattle.rj_term.specs.Term.{rj_term}
use Rattle.rj_term.specs.declared.term.Roots.{Roots}

-- ---- a term of the sum is RC's, or one like it
abbrev pub Term : Found → Type 0
Term f = Within 0 1 f.way
