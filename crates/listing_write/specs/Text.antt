-- The text of an answer (document 01, the listing; document 02, 2026-04): the call's name, then the value's sixteen digits, the
-- round count in decimal, the road and the rescalings, or the number of the refusal. Definitions only.
use Rattle.std.specs.Prelude.{ℕ, ◌+◌, Bool, true, false, List, [], ◌∷◌, ◌++◌, Ok, Err}
use Rattle.std.specs.Float.{binary64}
use Rattle.std.specs.Float.Ieee.{to_bits}
use Rattle.refusals.specs.Numbers.{refusal_number}
use Rattle.carlson.specs.declared.answer.Found.{Found}
use Rattle.carlson.specs.Answer.{Answer}
use Rattle.carlson.specs.declared.answer.Road.{Road}
use Rattle.carlson.specs.declared.answer.Road.TheVariants.{Closed, Infinite, Agm, Duplication, Joint, Taylor, Reduction, Loop}
use Rattle.writing.specs.Decimal.{decimal}
use Rattle.digits.specs.Digits.{word_text}
use Rattle.calls.specs.Calls.{name_of, longest_name}
use Rattle.calls.specs.declared.Call.{Call}
use Rattle.calls.specs.declared.Call.TheVariants.{Rc, Rf, Rd, Rg, Rj, Cel}

-- the one call whose name is not an R and a letter
unfoldable pub is_cel : Call → Bool
is_cel (Rc x y) = false
is_cel (Rf x y z) = false
is_cel (Rd x y z) = false
is_cel (Rg x y z) = false
is_cel (Rj x y z p) = false
is_cel (Cel kc p a b) = true

-- in decimal, and a byte after it
unfoldable pub count_text : ℕ → ℕ → List ℕ
count_text n after = decimal 9 n ++ after ∷ []

-- the words of document 02, 2026-04, each with a blank: "closed", "infinite", "agm", "duplication", "joint", "taylor",
-- "reduction", and "loop" (2026-09)
unfoldable pub road_text : Road → List ℕ
road_text Closed = 99 ∷ 108 ∷ 111 ∷ 115 ∷ 101 ∷ 100 ∷ 32 ∷ []
road_text Infinite = 105 ∷ 110 ∷ 102 ∷ 105 ∷ 110 ∷ 105 ∷ 116 ∷ 101 ∷ 32 ∷ []
road_text Agm = 97 ∷ 103 ∷ 109 ∷ 32 ∷ []
road_text Duplication = 100 ∷ 117 ∷ 112 ∷ 108 ∷ 105 ∷ 99 ∷ 97 ∷ 116 ∷ 105 ∷ 111 ∷ 110 ∷ 32 ∷ []
road_text Joint = 106 ∷ 111 ∷ 105 ∷ 110 ∷ 116 ∷ 32 ∷ []
road_text Taylor = 116 ∷ 97 ∷ 121 ∷ 108 ∷ 111 ∷ 114 ∷ 32 ∷ []
road_text Reduction = 114 ∷ 101 ∷ 100 ∷ 117 ∷ 99 ∷ 116 ∷ 105 ∷ 111 ∷ 110 ∷ 32 ∷ []
road_text Loop = 108 ∷ 111 ∷ 111 ∷ 112 ∷ 32 ∷ []

-- the rounds; "each value line gains road and rescalings at its end"
unfoldable pub way_text : Found → List ℕ
way_text f = count_text f.way.rounds 32 ++ (road_text f.road ++ count_text f.way.rescalings 10)

unfoldable pub value_text : Found → List ℕ
value_text f = word_text (to_bits binary64 f.value) ++ (32 ∷ way_text f)

-- " refused ", and the number
unfoldable pub refusal_text : ℕ → List ℕ
refusal_text n = (32 ∷ 114 ∷ 101 ∷ 102 ∷ 117 ∷ 115 ∷ 101 ∷ 100 ∷ 32 ∷ []) ++ count_text n 10

unfoldable pub after_name : Answer → List ℕ
after_name (Ok f) = value_text f
after_name (Err r) = refusal_text (refusal_number r)

unfoldable pub text_of : Call → Answer → List ℕ
text_of c a = name_of c ++ after_name a

-- ---- how long each is at most
-- ten digits, and a byte
abbrev pub longest_count : ℕ
longest_count = 11

abbrev pub longest_road : ℕ
longest_road = 12

abbrev pub longest_way : ℕ
longest_way = longest_count + longest_road + longest_count

abbrev pub longest_value : ℕ
longest_value = 18 + longest_way

abbrev pub longest_refusal : ℕ
longest_refusal = 9 + longest_count

abbrev pub longest_reply : ℕ
longest_reply = longest_name + longest_value
