-- What is answered to a line (document 01, the listing): its call's answer, or that it is none. The flag says who answers: the
-- bench profile's entries (document 02, 2026-14) if it is true, the base's if it is false. Definitions only.
use Rattle.std.specs.Prelude.{ℕ, Bool, ◌&&◌, cond, List, Option, Some, None}
use Rattle.carlson.specs.Answer.{Answer}
use Rattle.calls.specs.declared.Call.{Call}
use Rattle.listing_read.specs.Lines.{call_of}
use Rattle.answers.specs.Answers.{answer_of}
use Rattle.profile_answers.specs.ProfileAnswers.{profile_of}
use Rattle.writing.specs.Bad.{bad_text}
use Rattle.listing_write.specs.Text.{is_cel, text_of}

-- "a set of entries beside the old ones": which of the two answers
unfoldable pub answer_by : Bool → Call → Answer
answer_by profile c = cond profile (profile_of c) (answer_of c)

-- cel is no call of the profile, so a line that asks for it is none of its lines
unfoldable pub admitted : Bool → Option Call → Option Call
admitted profile (Some c) = cond (profile && is_cel c) None (Some c)
admitted profile None = None

-- document 01: "an answer a line", and `bad line` to what is no call
unfoldable pub reply_to : Bool → Option Call → List ℕ
reply_to profile (Some c) = text_of c (answer_by profile c)
reply_to profile None = bad_text

unfoldable pub reply_of : Bool → List ℕ → List ℕ
reply_of profile l = reply_to profile (admitted profile (call_of l))
