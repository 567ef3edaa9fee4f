-- A line of the bench, byte by byte (docs/DECISIONS.md, "From the light gate to a verdict"). Definitions only.
use Rattle.std.specs.Prelude.{ℕ, Bool, true, false, not, ◌&&◌, cond, eqb, ltb, leb, Option, Some, None}
use Rattle.swing_read.specs.Reading.{line_of}
use Rattle.swing_read.specs.declared.Ended.{Ended}
use Rattle.swing_read.specs.declared.Ended.TheVariants.{NoneYet, First, Second}
use Rattle.swing_read.specs.declared.Reading.{Reading}
use Rattle.swing_read.specs.declared.Line.{Line}
use Rattle.swing_read.specs.declared.Line.TheVariants.{One, Three}
use Rattle.millimetres.specs.Measured.{lengths_from, plain_from, byte_measured, at_end, last_begun}
use Rattle.millimetres.specs.declared.Measured.{Measured}
use Rattle.bench_read.specs.declared.rows.Stage.{Stage}
use Rattle.bench_read.specs.declared.rows.Stage.TheVariants.{NothingYet, Begun, Returned, Spoilt}
use Rattle.bench_read.specs.declared.rows.Field.{Field}
use Rattle.bench_read.specs.declared.rows.Field.TheVariants.{Name, Swing, Times}
use Rattle.bench_read.specs.declared.rows.Row.{Row}
use Rattle.bench_read.specs.declared.ends.Knee.{Knee}
use Rattle.bench_read.specs.declared.ends.Peaks.{Peaks}

-- nothing has come of the line
unfoldable pub fresh_at : Stage → Bool
fresh_at NothingYet = true
fresh_at Begun = false
fresh_at Returned = false
fresh_at Spoilt = false

-- no carriage return has come
unfoldable pub open_at : Stage → Bool
open_at NothingYet = true
open_at Begun = true
open_at Returned = false
open_at Spoilt = false

-- nothing has come after one
unfoldable pub good_at : Stage → Bool
good_at NothingYet = true
good_at Begun = true
good_at Returned = true
good_at Spoilt = false

-- a knee's last two numbers are times, two peaks are lengths, which may be in millimetres as the swing's may
unfoldable pub times_from : Field → Measured
times_from Name = plain_from
times_from Swing = lengths_from
times_from Times = lengths_from

-- nothing has come: a knee begins in its name, before the swing and what is behind it; two peaks begin there
unfoldable pub row_from : Field → Row
row_from field = record { stage = NothingYet; field = field; swing = lengths_from; times = times_from field }

unfoldable pub in_name : Field → Bool
in_name Name = true
in_name Swing = false
in_name Times = false

-- a byte of the name: what comes before the first blank (32), and no carriage return (13)
unfoldable pub named : Row → ℕ → Bool
named r b = in_name r.field && (open_at r.stage && (not (eqb b 13) && not (eqb b 32)))

unfoldable pub staged_of : Row → Stage → Row
staged_of r stage = record { stage = stage; field = r.field; swing = r.swing; times = r.times }

unfoldable pub field_at : Row → Field → Row
field_at r field = record { stage = Begun; field = field; swing = r.swing; times = r.times }

unfoldable pub swing_fed : Row → ℕ → Row
swing_fed r b = record { stage = Begun; field = r.field; swing = byte_measured r.swing b; times = r.times }

unfoldable pub times_fed : Row → ℕ → Row
times_fed r b = record { stage = Begun; field = r.field; swing = r.swing; times = byte_measured r.times b }

-- the swing ends at the blank (32) behind its third number, which is no length; the blanks before are its reader's
unfoldable pub swing_blank : Row → Row
swing_blank r = cond (last_begun r.swing) (field_at r Times) (swing_fed r 32)

-- the first blank ends the name
unfoldable pub blank_in : Field → Row → Row
blank_in Name r = field_at r Swing
blank_in Swing r = swing_blank r
blank_in Times r = times_fed r 32

unfoldable pub blank_after : Row → Row
blank_after r = blank_in r.field r

unfoldable pub other_in : Field → Row → ℕ → Row
other_in Name r b = field_at r Name
other_in Swing r b = swing_fed r b
other_in Times r b = times_fed r b

unfoldable pub other_after : Row → ℕ → Row
other_after r b = other_in r.field r b

-- a carriage return (13) may come last; what comes after it makes the line bad
unfoldable pub row_after : Row → ℕ → Row
row_after r b =
    cond (open_at r.stage) (cond (eqb b 13) (staged_of r Returned) (cond (eqb b 32) (blank_after r) (other_after r b)))
    (staged_of r Spoilt)

-- ---- where the line ends
-- two numbers
unfoldable pub paired : Option ℕ → Ended → Option Peaks
paired None numbers = None
paired (Some n) NoneYet = None
paired (Some n) (First a) = Some (record { first = a; second = n })
paired (Some n) (Second a b) = None

unfoldable pub pair_of : Option Reading → Option Peaks
pair_of None = None
pair_of (Some r) = paired r.value r.ended

unfoldable pub with_times : ℕ → ℕ → ℕ → Option Peaks → Option Knee
with_times length height gravity None = None
with_times length height gravity (Some times) = Some (record {
  length = length;
  height = height;
  gravity = gravity;
  time = times.first;
  limit = times.second;
})

unfoldable pub with_swing : Option Line → Option Peaks → Option Knee
with_swing None times = None
with_swing (Some (One n)) times = None
with_swing (Some (Three length height gravity)) times = with_times length height gravity times

-- "any run of bytes without a blank, at most 32"
unfoldable pub well_named : ℕ → Bool
well_named name = ltb 0 name && leb name 32

unfoldable pub knee_of : Row → ℕ → Option Knee
knee_of r name =
    cond (good_at r.stage && well_named name) (with_swing (line_of (at_end r.swing)) (pair_of (at_end r.times))) None

unfoldable pub peaks_of : Row → Option Peaks
peaks_of r = cond (good_at r.stage) (pair_of (at_end r.times)) None
