-- What is answered to a call: its entry's answer. Definitions only.
use Rattle.std.specs.Prelude.{ℕ, Float}
use Rattle.std.specs.Float.{binary64}
use Rattle.std.specs.Float.Ieee.{of_bits}
use Rattle.carlson.specs.Answer.{Answer}
use Rattle.elliprc.specs.Rc.{rc}
use Rattle.elliprf.specs.Rf.{rf}
use Rattle.elliprd.specs.Rd.{rd}
use Rattle.elliprg.specs.Rg.{rg}
use Rattle.elliprj.specs.Rj.{rj}
use Rattle.cel.specs.Cel.{cel}
use Rattle.calls.specs.declared.Call.{Call}
use Rattle.calls.specs.declared.Call.TheVariants.{Rc, Rf, Rd, Rg, Rj, Cel}

-- the f64 of a pattern
abbrev pub number : ℕ → Float
number b = of_bits binary64 b

-- document 01, the listing: the entry of the call's name, at the f64s of its patterns
unfoldable pub answer_of : Call → Answer
answer_of (Rc x y) = rc (number x) (number y)
answer_of (Rf x y z) = rf (number x) (number y) (number z)
answer_of (Rd x y z) = rd (number x) (number y) (number z)
answer_of (Rg x y z) = rg (number x) (number y) (number z)
-- the entry of p's sign (document 02, 2026-10), and so RJ
answer_of (Rj x y z p) = rj (number x) (number y) (number z) (number p)
answer_of (Cel kc p a b) = cel (number kc) (number p) (number a) (number b)
