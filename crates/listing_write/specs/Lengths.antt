-- How long the texts are. Assumes nothing.
use Rattle.std.specs.Prelude.{ℕ, ◌≤◌, length, Ok, Err}
use Rattle.std.proofs.Common.{arith, length-append}
use Rattle.refusals.specs.Numbers.{refusal_number}
use Rattle.carlson.specs.Answer.{Answer}
use Rattle.writing.specs.Decimal.{decimal}
use Rattle.writing.specs.Places.{places_most}
use Rattle.digits.proofs.DigitLaws.{digits_length, word_length}
use Rattle.calls.specs.CallLaws.{name_length}
use Rattle.calls.specs.declared.Call.{Call}
use Rattle.carlson.specs.declared.answer.Found.{Found}
use Rattle.carlson.specs.declared.answer.Road.{Road}
use Rattle.carlson.specs.declared.answer.Road.TheVariants.{Closed, Infinite, Agm, Duplication, Joint, Taylor, Reduction, Loop}
use Rattle.listing_write.specs.Text.{count_text, road_text, way_text, value_text, refusal_text, after_name, text_of}
use Rattle.listing_write.specs.Text.{longest_count, longest_road, longest_way, longest_value, longest_reply}

pub count_length : (n after : ℕ) → length (count_text n after) ≤ longest_count
unfolding count_text decimal
count_length n after = rw (length-append, digits_length) (omega (arith, places_most 9 n))

pub road_length : (r : Road) → length (road_text r) ≤ longest_road
unfolding road_text
road_length Closed = omega arith
road_length Infinite = omega arith
road_length Agm = omega arith
road_length Duplication = omega arith
road_length Joint = omega arith
road_length Taylor = omega arith
road_length Reduction = omega arith
road_length Loop = omega arith

way_length : (f : Found) → length (way_text f) ≤ longest_way
unfolding way_text
way_length f =
    rw (length-append, length-append)
    (omega (arith, count_length f.way.rounds 32, road_length f.road, count_length f.way.rescalings 10))

answer_length : (a : Answer) → length (after_name a) ≤ longest_value
unfolding after_name value_text refusal_text
answer_length (Ok f) = rw (length-append, word_length) (omega (arith, way_length f))
answer_length (Err r) = omega (arith, count_length (refusal_number r) 10)

pub text_length : (c : Call) (a : Answer) → length (text_of c a) ≤ longest_reply
unfolding text_of
text_length c a = rw length-append (omega (arith, name_length c, answer_length a))
