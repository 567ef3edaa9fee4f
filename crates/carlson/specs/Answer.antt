-- What an answer holds, and how an entry settles it (document 01, "Rounds" and "Numbers for no"; document 02, 2026-04).
-- Definitions only.
use Rattle.std.specs.Prelude.{ℕ, ◌+◌, ◌%◌, ◌^◌, Bool, cond, Float, Result, Ok, Err}
use Rattle.std.specs.Float.Ieee.Scale.{finite}
use Rattle.refusals.specs.declared.Refusal.TheVariants.{NanGiven}
use Rattle.carlson.specs.Constants.{zero}
use Rattle.carlson.specs.declared.answer.Way.{Way}
use Rattle.carlson.specs.declared.answer.Found.{Found}
use Rattle.refusals.specs.declared.Refusal.{Refusal}
use Rattle.carlson.specs.declared.answer.Road.{Road}
use Rattle.carlson.specs.declared.answer.Road.TheVariants.{Closed, Infinite, Agm, Duplication, Joint, Taylor, Reduction}
use Rattle.carlson.specs.declared.answer.Road.TheVariants.{Loop}

-- ---- a value with its road and way, or the refusal that stands in its place
abbrev pub Answer : Type 0
Answer = Result Found Refusal

-- ---- the way to a value: "the round count is the number of duplication or joint passes begun, plus AGM passes that replaced
-- the means"
abbrev pub way_of : ℕ → Way
way_of n = record { rounds = n; rescalings = 0 }

-- ".. over the call and all it calls", and so "the number of rescalings" (document 02, 2026-04)
unfoldable pub both_ways : Way → Way → Way
both_ways a b = record { rounds = a.rounds + b.rounds; rescalings = a.rescalings + b.rescalings }

-- what adding two u32 that may wrap makes of it; of the ways of a call it is the plain sum (Ways, `few_ways`)
unfoldable pub wrapped_ways : Way → Way → Way
wrapped_ways a b = record {
  rounds = (a.rounds + b.rounds) % 2 ^ 32;
  rescalings = (a.rescalings + b.rescalings) % 2 ^ 32;
}

-- ---- the roads' numbers for other programs, in the order in which document 02 names them
abbrev pub road_number : Road → ℕ
road_number Closed = 1
road_number Infinite = 2
road_number Agm = 3
road_number Duplication = 4
road_number Joint = 5
road_number Taylor = 6
road_number Reduction = 7
road_number Loop = 8

-- ---- a value, by the road to it (document 02, 2026-04)
-- a closed form counts no round
unfoldable pub closed_at : Float → Found
closed_at v = record { value = v; road = Closed; way = way_of 0 }

-- a formula put together of what other functions found is closed, and carries their way
unfoldable pub carried_at : Float → Way → Found
carried_at v w = record { value = v; road = Closed; way = w }

-- the zero for an infinite argument is +0 and counts none: "rescalings are then 0"
abbrev pub infinite_found : Found
infinite_found = record { value = zero; road = Infinite; way = way_of 0 }

unfoldable pub infinite_at : {R : Type 0} → Result Found R
infinite_at = Ok infinite_found

-- the mean counts the passes that replaced it
unfoldable pub agm_at : Float → ℕ → Found
agm_at v n = record { value = v; road = Agm; way = way_of n }

-- duplication counts the passes begun, and so does the joint one
unfoldable pub duplication_at : Float → ℕ → Found
duplication_at v n = record { value = v; road = Duplication; way = way_of n }

-- RJ's passes call RC, whose rescalings it counts too
unfoldable pub duplication_over : Float → ℕ → ℕ → Found
duplication_over v n m = record { value = v; road = Duplication; way = record { rounds = n; rescalings = m } }

unfoldable pub joint_at : Float → ℕ → Found
joint_at v n = record { value = v; road = Joint; way = way_of n }

-- the expansion near RJ's zero counts none
unfoldable pub taylor_at : Float → Found
taylor_at v = record { value = v; road = Taylor; way = way_of 0 }

-- the reduction of a negative p counts what it called
unfoldable pub reduction_at : Float → Way → Found
reduction_at v w = record { value = v; road = Reduction; way = w }

-- cel's loop counts the passes begun (document 02, 2026-09: "its road is loop or infinite, its rescalings 0")
unfoldable pub loop_at : Float → ℕ → Found
loop_at v n = record { value = v; road = Loop; way = way_of n }

-- what was found at rescaled arguments, with the value that this gives: "a call that rescales takes that one's road"
unfoldable pub rescaled_at : Found → Float → Found
rescaled_at f v = record {
  value = v;
  road = f.road;
  way = record { rounds = f.way.rounds; rescalings = (f.way.rescalings + 1) % 2 ^ 32 };
}

-- ".. or hands its whole answer to another function": all but the value is what that one found
unfoldable pub handed_at : Found → Float → Found
handed_at f v = record { value = v; road = f.road; way = f.way }

-- ---- how an entry settles it
-- "steps, then 6": a finite value stands, else the refusal, in whatever form the caller has it
unfoldable pub settled : {R : Type 0} → Found → R → Result Found R
settled f r = cond (finite f.value) (Ok f) (Err r)

-- "a finite result stands; else 1, then +infinity gives 0, then" the refusal; `told` brings the 1 into the caller's form
unfoldable pub settled_told : {R : Type 0} → (Refusal → R) → Found → Bool → Bool → R → Result Found R
settled_told told f nan unbounded r = cond (finite f.value) (Ok f)
    (cond nan (Err (told NanGiven)) (cond unbounded infinite_at (Err r)))

-- the entries have a refusal as it is
abbrev pub settled_late : Found → Bool → Bool → Refusal → Answer
settled_late f nan unbounded r = settled_told (λ s. s) f nan unbounded r
