-- The verdict on a knee: the f64 period as the fraction num / den that it is, against whole nanoseconds. Definitions only.
use Rattle.std.specs.Prelude.{ℕ, ◌+◌, ◌-◌, ◌*◌, Bool, ◌||◌, ◌&&◌, cond, eqb, ltb, leb, Float, Result, Ok, Err}
use Rattle.std.specs.Float.Ieee.Nearest.{closest}
use Rattle.std.specs.Float.Ieee.Positive.{num, den}
use Rattle.refusals.specs.declared.Refusal.{Refusal}
use Rattle.parted.specs.declared.parts.Parts.{Parts}
use Rattle.carlson.specs.Answer.{Answer}
use Rattle.swing.specs.Period.{period_of}
use Rattle.drag.specs.declared.nanoseconds.Verdict.{Verdict}

-- THE VERDICT: "the f64 period as the fraction that it is, times 10^9, against T - LIMIT in whole numbers; on the limit passes"
unfoldable pub passes : Float → ℕ → ℕ → Bool
passes v time limit = leb (time * den v) (num v * 1000000000 + limit * den v)

-- the excess T - ideal: whether it is below zero, and its size in nanoseconds, "the exact difference rounded half to even"
unfoldable pub quicker : Float → ℕ → Bool
quicker v time = ltb (time * den v) (num v * 1000000000)

abbrev pub between : ℕ → ℕ → ℕ
between a b = (a - b) + (b - a)

unfoldable pub excess : Float → ℕ → ℕ
excess v time = closest (between (time * den v) (num v * 1000000000)) (den v)

unfoldable pub weighed : Float → ℕ → ℕ → Verdict
weighed v time limit = record { passes = passes v time limit; quicker = quicker v time; excess = excess v time; period = v }

-- a refusal of the swing's goes through
unfoldable pub judged_of : Answer → ℕ → ℕ → Result Verdict Refusal
judged_of (Ok f) time limit = Ok (weighed f.value time limit)
judged_of (Err r) time limit = Err r

-- of the five numbers: the swing's three, the time, the limit
unfoldable pub drag_of : ℕ → ℕ → ℕ → ℕ → ℕ → Result Verdict Refusal
drag_of length height gravity time limit = judged_of (period_of length height gravity) time limit

-- ---- how it is done: by the parts of the ideal period in nanoseconds
unfoldable pub ahead_of : Parts → ℕ → Bool
ahead_of p time = ltb time p.whole || (eqb time p.whole && ltb 0 p.part)

-- what is left of one where that part of it is taken off
unfoldable pub other_of : ℕ → ℕ
other_of part = cond (eqb part 1) 3 (cond (eqb part 2) 2 1)

unfoldable pub apart_of : Parts → ℕ → Parts
apart_of p time =
    cond (leb time p.whole) (record { whole = p.whole - time; part = p.part })
    (cond (eqb p.part 0) (record { whole = time - p.whole; part = 0 })
    (record { whole = time - p.whole - 1; part = other_of p.part }))
