-- A line whose first two numbers may be in millimetres, byte by byte (docs/DECISIONS.md, "Millimetres"). Definitions only.
use Rattle.std.specs.Prelude.{ℕ, Bool, true, false, ◌&&◌, cond, List, [], ◌∷◌, eqb, Option, Some, None}
use Rattle.std.specs.Option.{option_and_then, is_some}
use Rattle.swing_read.specs.Reading.{start_of, figure_of, longer_after, byte_after, line_of, at_start}
use Rattle.swing_read.specs.declared.Ended.{Ended}
use Rattle.swing_read.specs.declared.Ended.TheVariants.{NoneYet, First, Second}
use Rattle.swing_read.specs.declared.Reading.{Reading}
use Rattle.swing_read.specs.declared.Line.{Line}
use Rattle.millimetres.specs.declared.Places.{Places}
use Rattle.millimetres.specs.declared.Places.TheVariants.{Point, One, Two, Three}
use Rattle.millimetres.specs.declared.Part.{Part}
use Rattle.millimetres.specs.declared.Part.TheVariants.{Figures, Held, Behind, Unit, Half, Done, Plain}
use Rattle.millimetres.specs.declared.Measured.{Measured}

-- The parts: nothing or a whole number's figures, a blank held back behind it, the point with the places behind it, the blank
-- behind these, one letter of `mm`, and both; a line without lengths is of one part.
abbrev pub told : Part → Option Reading → Measured
told part r = record { part = part; reading = r }

unfoldable pub lengths_from : Measured
lengths_from = told Figures (Some start_of)

unfoldable pub plain_from : Measured
plain_from = told Plain (Some start_of)

-- the line is bad, whatever comes
unfoldable pub bad_of : Measured
bad_of = told Figures None

-- a figure behind the point is one more of the number, with no rule of a zero in front
unfoldable pub place_after : Option Reading → ℕ → Option Reading
place_after None b = None
place_after (Some r) b = option_and_then (longer_after r) (figure_of b)

-- whole millimetres in micrometres
unfoldable pub thousand_of : Option Reading → Option Reading
thousand_of r = place_after (place_after (place_after r 48) 48) 48

-- the first two numbers of a line are lengths
unfoldable pub early : Ended → Bool
early NoneYet = true
early (First a) = true
early (Second a b) = false

unfoldable pub may_be_length : Option Reading → Bool
may_be_length None = false
may_be_length (Some r) = is_some r.value && early r.ended

-- behind a length's figures a blank (32) is held back, and a point (46) may come
unfoldable pub length_after : Option Reading → ℕ → Measured
length_after r b = cond (eqb b 32) (told Held r) (cond (eqb b 46) (told (Behind Point) r) (told Figures (byte_after r b)))

unfoldable pub whole_after : Option Reading → ℕ → Measured
whole_after r b = cond (may_be_length r) (length_after r b) (told Figures (byte_after r b))

-- behind the held blank an m (109) says that these were millimetres; with anything else the blank counts as it would have
unfoldable pub held_after : Option Reading → ℕ → Measured
held_after r b = cond (eqb b 109) (told Half (thousand_of r)) (told Figures (byte_after (byte_after r 32) b))

-- a blank ends the places, of which there is one at least; those that three lack are zeros
unfoldable pub places_end : Places → Option Reading → Measured
places_end Point r = bad_of
places_end One r = told Unit (place_after (place_after r 48) 48)
places_end Two r = told Unit (place_after r 48)
places_end Three r = told Unit r

-- "anything finer is a bad line": behind three places only zeros (48)
unfoldable pub place_more : Places → Option Reading → ℕ → Measured
place_more Point r b = told (Behind One) (place_after r b)
place_more One r b = told (Behind Two) (place_after r b)
place_more Two r b = told (Behind Three) (place_after r b)
place_more Three r b = cond (eqb b 48) (told (Behind Three) r) bad_of

unfoldable pub places_after : Places → Option Reading → ℕ → Measured
places_after places r b = cond (eqb b 32) (places_end places r) (place_more places r b)

-- `mm`, letter by letter
unfoldable pub letter_after : Part → Option Reading → ℕ → Measured
letter_after next r b = cond (eqb b 109) (told next r) bad_of

-- and then a blank if another number comes
unfoldable pub done_after : Option Reading → ℕ → Measured
done_after r b = cond (eqb b 32) (told Figures (byte_after r 32)) bad_of

unfoldable pub byte_behind : Part → Option Reading → ℕ → Measured
byte_behind Figures r b = whole_after r b
byte_behind Held r b = held_after r b
byte_behind (Behind places) r b = places_after places r b
byte_behind Unit r b = letter_after Half r b
byte_behind Half r b = letter_after Done r b
byte_behind Done r b = done_after r b
byte_behind Plain r b = told Plain (byte_after r b)

unfoldable pub byte_measured : Measured → ℕ → Measured
byte_measured m b = byte_behind m.part m.reading b

unfoldable pub bytes_measured : Measured → List ℕ → Measured
bytes_measured m [] = m
bytes_measured m (b ∷ bs) = bytes_measured (byte_measured m b) bs

-- where the line ends no number is open, but a whole one or one with its `mm`
unfoldable pub end_behind : Part → Option Reading → Option Reading
end_behind Figures r = r
end_behind Held r = None
end_behind (Behind places) r = None
end_behind Unit r = None
end_behind Half r = None
end_behind Done r = r
end_behind Plain r = r

unfoldable pub at_end : Measured → Option Reading
at_end m = end_behind m.part m.reading

-- the third number has a figure
unfoldable pub third : Ended → Bool
third NoneYet = false
third (First a) = false
third (Second a b) = true

unfoldable pub third_begun : Option Reading → Bool
third_begun None = false
third_begun (Some r) = is_some r.value && third r.ended

unfoldable pub last_begun : Measured → Bool
last_begun m = third_begun m.reading

-- nothing has come of the line
unfoldable pub unread_behind : Part → Option Reading → Bool
unread_behind Figures r = at_start r
unread_behind Held r = false
unread_behind (Behind places) r = false
unread_behind Unit r = false
unread_behind Half r = false
unread_behind Done r = false
unread_behind Plain r = at_start r

unfoldable pub unread : Measured → Bool
unread m = unread_behind m.part m.reading

-- the line that these bytes are, with lengths or without
unfoldable pub measured_line : Measured → List ℕ → Option Line
measured_line from l = line_of (at_end (bytes_measured from l))
