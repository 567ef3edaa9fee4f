-- DEMAND 3 (document 01): what two calls are answered, every argument of the second being that of the first times 4 ^ u / 4 ^
-- d, and all of them zero or of size from 2 ^ -64 to 2 ^ 64, RJ's p above zero. With k = u - d: refused alike, or found on one
-- way, with one round count, and the second value is the first times exactly 2 ^ -k (RC, RF), 2 ^ -3k (RD, RJ) or 2 ^ k (RG).
-- What a function answers is, by its contract, the definition's answer; `Statement`, in the crate `units`, says what `InRange`,
-- `TimesFour` and `Alike` mean. Assumes nothing.
use Rattle.std.specs.Prelude.{ℕ, ◌*◌, ◌≡◌, T}
use Rattle.std.proofs.Common.{sym, subst₂}
use Rattle.std.specs.Float.Ieee.{lt}
use Rattle.carlson.specs.Constants.{zero}
use Rattle.carlson.specs.Answer.{Answer}
use Rattle.calls.specs.declared.Call.{Call}
use Rattle.calls.specs.declared.Call.TheVariants.{Rc, Rf, Rd, Rg, Rj, Cel}
use Rattle.answers.specs.Answers.{number, answer_of}
use Rattle.units.specs.Statement.{InRange, TimesFour, Alike}
use Rattle.units_rf.proofs.Rc.{rc_scales}
use Rattle.units_rf.proofs.Rf.{rf_scales}
use Rattle.units_rd.proofs.Rd.{rd_scales}
use Rattle.units_rg.proofs.Rg.{rg_scales}
use Rattle.units_rj.proofs.Rj.{rj_scales}
use Rattle.demands.specs.Units.{Scaled, down, rc, rd, rf, rg, rj, up}

-- ---- THE THEOREM
pub units_drop_out : (u d : ℕ) (c c' : Call) → Scaled u d c c' → Alike (up c u d) (down c u d) (answer_of c) (answer_of c')
unfolding answer_of
units_drop_out u d (Rc x y) (Rc x' y') (rc X Y) =
    rc_scales u d (number x) (number y) (number x') (number y') X.first Y.first X.second Y.second X.factor
    Y.factor
units_drop_out u d (Rf x y z) (Rf x' y' z') (rf X Y Z) =
    rf_scales u d (number x) (number y) (number z) (number x') (number y') (number z') X.first Y.first Z.first
    X.second Y.second
    Z.second X.factor Y.factor Z.factor
units_drop_out u d (Rd x y z) (Rd x' y' z') (rd X Y Z) =
    rd_scales u d X.first Y.first Z.first X.second Y.second Z.second X.factor Y.factor Z.factor
units_drop_out u d (Rg x y z) (Rg x' y' z') (rg X Y Z) =
    rg_scales u d X.first Y.first Z.first X.second Y.second Z.second X.factor Y.factor Z.factor
units_drop_out u d (Rj x y z p) (Rj x' y' z' p') (rj X Y Z P plus) =
    rj_scales u d (number x) (number y) (number z) (number p) (number x') (number y') (number z') (number p') X.first
    Y.first Z.first
    P.first X.second Y.second Z.second P.second plus X.factor Y.factor Z.factor P.factor
units_drop_out u d (Rc x y) c' h = elim h [ ]
units_drop_out u d (Rf x y z) c' h = elim h [ ]
units_drop_out u d (Rd x y z) c' h = elim h [ ]
units_drop_out u d (Rg x y z) c' h = elim h [ ]
units_drop_out u d (Rj x y z p) c' h = elim h [ ]
units_drop_out u d (Cel kc p a b) c' h = elim h [ ]

-- and of the functions: whatever two calls of `answer_of` answer, whose contract is r ≡ answer_of c
pub called : (u d : ℕ) (c c' : Call) (r r' : Answer) → r ≡ answer_of c → r' ≡ answer_of c' → Scaled u d c c'
    → Alike (up c u d) (down c u d) r r'
called u d c c' r r' e e' s = subst₂ (Alike (up c u d) (down c u d)) (sym e) (sym e') (units_drop_out u d c c' s)
