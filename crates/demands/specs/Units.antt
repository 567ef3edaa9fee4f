-- DEMAND 3 (document 01): what two calls are answered, every argument of the second being that of the first times 4 ^ u / 4 ^
-- d, and all of them zero or of size from 2 ^ -64 to 2 ^ 64, RJ's p above zero. With k = u - d: refused alike, or found on one
-- way, with one round count, and the second value is the first times exactly 2 ^ -k (RC, RF), 2 ^ -3k (RD, RJ) or 2 ^ k (RG).
-- What a function answers is, by its contract, the definition's answer; `Statement`, in the crate `units`, says what `InRange`,
-- `TimesFour` and `Alike` mean. Assumes nothing.
use Rattle.std.specs.Prelude.{ℕ, ◌*◌, ◌≡◌, T}
use Rattle.std.proofs.Common.{sym, subst₂}
use Rattle.std.specs.Float.Ieee.{lt}
use Rattle.carlson.specs.Constants.{zero}
use Rattle.carlson.specs.Answer.{Answer}
use Rattle.calls.specs.declared.Call.{Call}
use Rattle.calls.specs.declared.Call.TheVariants.{Rc, Rf, Rd, Rg, Rj, Cel}
use Rattle.answers.specs.Answers.{number, answer_of}
use Rattle.units.specs.Statement.{InRange, TimesFour, Alike}
use Rattle.units_rf.proofs.Rc.{rc_scales}
use Rattle.units_rf.proofs.Rf.{rf_scales}
use Rattle.units_rd.proofs.Rd.{rd_scales}
use Rattle.units_rg.proofs.Rg.{rg_scales}
use Rattle.units_rj.proofs.Rj.{rj_scales}

-- ---- the statement
-- two arguments that belong together, by their patterns: both in range, and the second the first times 4 ^ u / 4 ^ d
pub record Argument (u d x x' : ℕ) : Type 0 where
  pub first : InRange (number x)
  pub second : InRange (number x')
  pub factor : TimesFour u d (number x) (number x')

-- two calls that belong together: of one function, all their arguments, and RJ's p above zero
pub data Scaled (u d : ℕ) : Call → Call → Type 0 where
  rc : {x x' y y' : ℕ} → Argument u d x x' → Argument u d y y' → Scaled u d (Rc x y) (Rc x' y')
  rf : {x x' y y' z z' : ℕ} → Argument u d x x' → Argument u d y y' → Argument u d z z' → Scaled u d (Rf x y z) (Rf x' y' z')
  rd : {x x' y y' z z' : ℕ} → Argument u d x x' → Argument u d y y' → Argument u d z z' → Scaled u d (Rd x y z) (Rd x' y' z')
  rg : {x x' y y' z z' : ℕ} → Argument u d x x' → Argument u d y y' → Argument u d z z' → Scaled u d (Rg x y z) (Rg x' y' z')
  rj : {x x' y y' z z' p p' : ℕ} → Argument u d x x' → Argument u d y y' → Argument u d z z' → Argument u d p p'
      → T (lt zero (number p))
      → Scaled u d (Rj x y z p) (Rj x' y' z' p')

-- by which power of two the value is multiplied, 2 ^ up / 2 ^ down (cel has none: "Demand 1 covers it; demand 3 doesn't")
abbrev pub up : Call → ℕ → ℕ → ℕ
up (Rc x y) u d = d
up (Rf x y z) u d = d
up (Rd x y z) u d = 3 * d
up (Rg x y z) u d = u
up (Rj x y z p) u d = 3 * d
up (Cel kc p a b) u d = 0

abbrev pub down : Call → ℕ → ℕ → ℕ
down (Rc x y) u d = u
down (Rf x y z) u d = u
down (Rd x y z) u d = 3 * u
down (Rg x y z) u d = d
down (Rj x y z p) u d = 3 * u
down (Cel kc p a b) u d = 0
