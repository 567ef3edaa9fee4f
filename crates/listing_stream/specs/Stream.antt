-- The listing as its input comes, a byte after the other; the flag says whether the bench profile answers. Definitions only.
use Rattle.std.specs.Prelude.{ℕ, ◌+◌, Bool, false, cond, List, [], ◌∷◌, ◌++◌, eqb, take}
use Rattle.listing_read.specs.Lines.{longest_line}
use Rattle.listing_stream.specs.Replies.{reply_of}
use Rattle.writing.specs.Input.{last_line, lines_from}
use Rattle.writing.specs.Fed.{Ran, quiet, Fed, run}
use Rattle.listing_stream.specs.declared.stream.Progress.{Progress}

-- ---- what is right: a header, and a reply to each line of the input
-- "carlson 2" (document 02, 2026-04), and the line's end
abbrev pub carlson_text : List ℕ
carlson_text = 99 ∷ 97 ∷ 114 ∷ 108 ∷ 115 ∷ 111 ∷ 110 ∷ 32 ∷ 50 ∷ 10 ∷ []

-- "profile 1" (document 02, 2026-14), and the line's end
abbrev pub profile_text : List ℕ
profile_text = 112 ∷ 114 ∷ 111 ∷ 102 ∷ 105 ∷ 108 ∷ 101 ∷ 32 ∷ 49 ∷ 10 ∷ []

abbrev pub header_text : Bool → List ℕ
header_text profile = cond profile profile_text carlson_text

unfoldable pub replies_to : Bool → List (List ℕ) → List ℕ
replies_to profile [] = []
replies_to profile (l ∷ ls) = reply_of profile l ++ replies_to profile ls

unfoldable pub listing_of : Bool → List ℕ → List ℕ
listing_of profile input = header_text profile ++ replies_to profile (lines_from [] input)

-- ---- how it is done: of a line that has not ended so many bytes are held, one more than the longest good line has
abbrev pub held_length : ℕ
held_length = longest_line + 1

-- a byte more: a newline ends the line, which is answered; any other is held. Nothing is counted
unfoldable pub listing_byte : Bool → List ℕ → ℕ → Ran (List ℕ)
listing_byte profile held b =
    cond (eqb b 10) (record { said = reply_of profile held; count = 0; left = [] }) (quiet (take held_length (held ++ b ∷ [])))

-- some bytes, whatever they are
abbrev pub listing_from : Bool → List ℕ → List ℕ → Ran (List ℕ)
listing_from profile = run (listing_byte profile) (λ held. false)

-- what is said at the input's end
unfoldable pub said_last : Bool → List ℕ → List ℕ
said_last profile held = replies_to profile (last_line held)

-- so many bytes are read at once: the replies to them fit, if each ends a line
abbrev pub block_length : ℕ
block_length = 1024

-- ---- what a function that is fed some bytes does: some of the bytes in `after` are held, and what is said was put into `out`
abbrev pub Lists : Ran (List ℕ) → List ℕ → List ℕ → ℕ → List ℕ → Progress → Type 0
Lists p after before at out r = Fed p (take r.held after) before at out r.used 0
