-- What a line of a listing claims (document 02, 2026-11): "a claim for each job (value bits or a refusal number)". Definitions
-- only.
use Rattle.std.specs.Prelude.{ℕ, ◌+◌, cond, List, [], ◌∷◌, eqb, ltb, length, drop, Option, Some, None}
use Rattle.digits.specs.Digits.{number_from}
use Rattle.listing_read.specs.Lines.{same}
use Rattle.claim.specs.declared.meeting.Claim.{Claim}

-- ---- fields, with one blank between two
-- the bytes before the first blank
unfoldable pub field_of : List ℕ → List ℕ
field_of [] = []
field_of (b ∷ bs) = cond (eqb b 32) [] (b ∷ field_of bs)

-- what follows it and the blank
unfoldable pub after_field : List ℕ → List ℕ
after_field l = drop (length (field_of l) + 1) l

-- a value's pattern: sixteen upper-case hex digits
unfoldable pub value_of : List ℕ → Option ℕ
value_of f = cond (eqb (length f) 16) (number_from 16 0 f) None

-- a refusal's number: one to ten decimal digits, as many as a u32 has
unfoldable pub count_of : List ℕ → Option ℕ
count_of f = cond (eqb (length f) 0) None (cond (ltb 10 (length f)) None (number_from 10 0 f))

-- ---- a line
-- a line of another form claims what meets nothing
abbrev pub no_claim : Claim
no_claim = record { kind = 2; word = 0 }

unfoldable pub count_claim : Option ℕ → Claim
count_claim (Some n) = record { kind = 1; word = n }
count_claim None = no_claim

-- "refused"
abbrev pub refused_word : List ℕ
refused_word = 114 ∷ 101 ∷ 102 ∷ 117 ∷ 115 ∷ 101 ∷ 100 ∷ []

unfoldable pub refusal_said : List ℕ → Claim
refusal_said l = cond (same (field_of l) refused_word) (count_claim (count_of (field_of (after_field l)))) no_claim

unfoldable pub value_claim : Option ℕ → List ℕ → Claim
value_claim (Some w) l = record { kind = 0; word = w }
value_claim None l = refusal_said l

-- after the name; "what follows the value on a line is passed over"
unfoldable pub said : List ℕ → Claim
said l = value_claim (value_of (field_of l)) l

-- the name is part of what a line says: another than the job's makes the row bad
unfoldable pub claim_of : List ℕ → List ℕ → Claim
claim_of name l = cond (same (field_of l) name) (said (after_field l)) no_claim
