-- How a line of the bench was read before lengths could be in millimetres: by the swing's reader alone, with its blanks counted.
-- Definitions only.
use Rattle.std.specs.Prelude.{ℕ, ◌+◌, Bool, true, not, ◌&&◌, cond, List, [], ◌∷◌, eqb, ltb, Option, Some, None}
use Rattle.swing_read.specs.Reading.{start_of, byte_after, line_of}
use Rattle.swing_read.specs.declared.Reading.{Reading}
use Rattle.millimetres.specs.MeasuredLaws.{whole_text}
use Rattle.bench_read.specs.Rows.{open_at, good_at, row_after, pair_of, with_swing, well_named}
use Rattle.bench_read.specs.declared.rows.Stage.{Stage}
use Rattle.bench_read.specs.declared.rows.Stage.TheVariants.{NothingYet, Begun, Returned, Spoilt}
use Rattle.bench_read.specs.declared.rows.Row.{Row}
use Rattle.bench_read.specs.declared.ends.Knee.{Knee}
use Rattle.bench_read.specs.declared.ends.Peaks.{Peaks}

-- the same four, but for the fields that have ended: none of a knee's at its start, four of the peaks'
pub record Was : Type 0 where
  pub stage : Stage
  pub ended : ℕ
  pub swing : Option Reading
  pub times : Option Reading

abbrev pub was : Stage → ℕ → Option Reading → Option Reading → Was
was stage ended swing times = record { stage = stage; ended = ended; swing = swing; times = times }

unfoldable pub was_from : ℕ → Was
was_from ended = was NothingYet ended (Some start_of) (Some start_of)

-- the first blank (32) ended the name and the fourth the swing; the others were the readers'
unfoldable pub was_blank : ℕ → Option Reading → Option Reading → Was
was_blank ended swing times =
    cond (eqb ended 0) (was Begun 1 swing times)
    (cond (eqb ended 3) (was Begun 4 swing times)
    (cond (ltb ended 3) (was Begun (ended + 1) (byte_after swing 32) times) (was Begun ended swing (byte_after times 32))))

unfoldable pub was_other : ℕ → Option Reading → Option Reading → ℕ → Was
was_other ended swing times b =
    cond (eqb ended 0) (was Begun 0 swing times)
    (cond (ltb ended 4) (was Begun ended (byte_after swing b) times) (was Begun ended swing (byte_after times b)))

-- a carriage return (13) as now
unfoldable pub was_after : Was → ℕ → Was
was_after o b =
    cond (open_at o.stage)
    (cond (eqb b 13) (was Returned o.ended o.swing o.times)
    (cond (eqb b 32) (was_blank o.ended o.swing o.times) (was_other o.ended o.swing o.times b)))
    (was Spoilt o.ended o.swing o.times)

-- a byte of the name
unfoldable pub named_then : Was → ℕ → Bool
named_then o b = eqb o.ended 0 && (open_at o.stage && (not (eqb b 13) && not (eqb b 32)))

unfoldable pub knee_then : Was → ℕ → Option Knee
knee_then o name = cond (good_at o.stage && well_named name) (with_swing (line_of o.swing) (pair_of o.times)) None

unfoldable pub peaks_then : Was → Option Peaks
peaks_then o = cond (good_at o.stage) (pair_of o.times) None

-- ---- a line's bytes, now and then
unfoldable pub rows_after : Row → List ℕ → Row
rows_after r [] = r
rows_after r (b ∷ l) = rows_after (row_after r b) l

unfoldable pub were_after : Was → List ℕ → Was
were_after o [] = o
were_after o (b ∷ l) = were_after (was_after o b) l

-- behind its name, which may have any, a line has no point and no m
unfoldable pub whole_behind : List ℕ → Bool
whole_behind [] = true
whole_behind (b ∷ l) = cond (eqb b 32) (whole_text l) (whole_behind l)
