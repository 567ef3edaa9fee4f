-- An answer as C sees it: 0 with the four places written, or the number with none of them touched. Definitions only.
use Rattle.std.specs.Prelude.{ℕ, Float, Ok, Err}
use Rattle.refusals.specs.Numbers.{refusal_number}
use Rattle.carlson.specs.Answer.{road_number}
use Rattle.carlson.specs.Answer.{Answer}

unfoldable pub number_of : Answer → ℕ
number_of (Ok f) = 0
number_of (Err r) = refusal_number r

-- what stands in the value's place afterwards, and what stood there before
unfoldable pub value_after : Answer → Float → Float
value_after (Ok f) before = f.value
value_after (Err r) before = before

unfoldable pub rounds_after : Answer → ℕ → ℕ
rounds_after (Ok f) before = f.way.rounds
rounds_after (Err r) before = before

unfoldable pub road_after : Answer → ℕ → ℕ
road_after (Ok f) before = road_number f.road
road_after (Err r) before = before

unfoldable pub rescalings_after : Answer → ℕ → ℕ
rescalings_after (Ok f) before = f.way.rescalings
rescalings_after (Err r) before = before
