-- A line of the bench without millimetres is read as before there were any. Assumes nothing.
use Rattle.std.specs.Prelude.{ℕ, ◌+◌, ◌<◌, ◌≡◌, Bool, ◌&&◌, cond, ltb, Option, Some, None}
use Rattle.std.specs.Option.{option_and_then, is_some}
use Rattle.std.proofs.Math.Path.{refl}
use Rattle.std.proofs.Common.{sym, ap, subst, ◌∙◌, true≢false, arith, lt-ltb, ne_eqb}
use Rattle.std.proofs.Math.Bool.{true, false}
use mathlib.Core.List.{List, [], ◌∷◌}
use Rattle.std.proofs.Math.Dec.{eqb}
use Rattle.swing_read.specs.Reading.{start_of, ending, blank_after as blankRead, figure_of, longer_value, longer_after}
use Rattle.swing_read.specs.Reading.{zero_alone}
use Rattle.swing_read.specs.Reading.{digit_after, byte_after, line_of}
use Rattle.swing_read.specs.ReadingLaws.{at}
use Rattle.swing_read.specs.declared.Ended.{Ended}
use Rattle.swing_read.specs.declared.Ended.TheVariants.{NoneYet, First, Second}
use Rattle.swing_read.specs.declared.Reading.{Reading}
use Rattle.swing_read.specs.declared.Line.{Line}
use Rattle.swing_read.specs.declared.Line.TheVariants.{One, Three}
use Rattle.millimetres.specs.Measured.{told, lengths_from, plain_from, byte_behind, byte_measured, end_behind, at_end, third}
use Rattle.millimetres.specs.Measured.{third_begun}
use Rattle.millimetres.specs.MeasuredLaws.{whole_text, begun, Whole}
use Rattle.millimetres.proofs.MeasuredLaws.{whole_head, whole_byte, whole_end, whole_last, start_whole, no_line}
use Rattle.millimetres.specs.declared.Part.TheVariants.{Plain}
use Rattle.millimetres.specs.declared.Measured.{Measured}
use Rattle.bench_read.specs.Rows.{open_at, row_from, times_from, in_name as named_in, named, staged_of, field_at, swing_fed}
use Rattle.bench_read.specs.Rows.{times_fed, swing_blank, blank_in, blank_after, other_in, other_after, row_after, paired}
use Rattle.bench_read.specs.Rows.{pair_of}
use Rattle.bench_read.specs.Rows.{with_times, with_swing, knee_of, peaks_of}
use Rattle.bench_read.specs.Before.{Was, was, was_from, was_blank, was_other, was_after, named_then, knee_then, peaks_then}
use Rattle.bench_read.specs.Before.{rows_after, were_after, whole_behind}
use Rattle.bench_read.specs.declared.rows.Stage.{Stage}
use Rattle.bench_read.specs.declared.rows.Stage.TheVariants.{NothingYet, Begun, Returned, Spoilt}
use Rattle.bench_read.specs.declared.rows.Field.{Field}
use Rattle.bench_read.specs.declared.rows.Field.TheVariants.{Name, Swing, Times}
use Rattle.bench_read.specs.declared.rows.Row.{Row}

-- ---- what a byte that is neither a point nor an m keeps, all such bytes keep
module _ (Alike : Row → Was → Type 0)
    (byte : (r : Row) (o : Was) (b : ℕ) → eqb b 46 ≡ false → eqb b 109 ≡ false → Alike r o
    → Alike (row_after r b) (was_after o b))
  where
    line_keeps : (l : List ℕ) (r : Row) (o : Was) → whole_text l ≡ true → Alike r o → Alike (rows_after r l) (were_after o l)
    unfolding rows_after were_after
    line_keeps [] r o e h = h
    line_keeps (b ∷ l) r o e h =
        let k = whole_head b l e in
        line_keeps l (row_after r b) (was_after o b) k.1.1 (byte r o b k.0 k.1.0 h)

abbrev row : Stage → Field → Measured → Measured → Row
row stage field swing times = record { stage = stage; field = field; swing = swing; times = times }

-- the carriage return is as it was: what is left to show is of a blank and of another byte
module _ (Alike : Row → Was → Type 0) (field : Field) (ended : ℕ) (m n : Measured) (s t : Option Reading) (b : ℕ)
    (staged : (stage : Stage) → Alike (row stage field m n) (was stage ended s t))
    (blank : (stage : Stage) → eqb b 32 ≡ true → Alike (blank_after (row stage field m n)) (was_blank ended s t))
    (other : (stage : Stage) → eqb b 32 ≡ false → Alike (other_after (row stage field m n) b) (was_other ended s t b))
  where
    byte_keeps : (stage : Stage) → Alike (row_after (row stage field m n) b) (was_after (was stage ended s t) b)
    unfolding row_after was_after staged_of
    byte_keeps stage = go (open_at stage) (eqb b 13) (eqb b 32) refl
      where
        go : (x y z : Bool) → eqb b 32 ≡ z → Alike
            (cond x (cond y (row Returned field m n)
            (cond z (blank_after (row stage field m n)) (other_after (row stage field m n) b)))
            (row Spoilt field m n))
            (cond x (cond y (was Returned ended s t)
            (cond z (was_blank ended s t) (was_other ended s t b))) (was Spoilt ended s t))
        go false y z e = staged Spoilt
        go true true z e = staged Returned
        go true false true e = blank stage e
        go true false false e = other stage e

-- ---- two peaks
data Pair (r : Row) (o : Was) : Type 0 where
  pair : (stage : Stage) (m n : Measured) (s t : Option Reading) → Whole n t → r ≡ row stage Times m n → o ≡ was stage 4 s t
      → Pair r o

pair_byte : (r : Row) (o : Was) (b : ℕ) → eqb b 46 ≡ false → eqb b 109 ≡ false → Pair r o → Pair (row_after r b) (was_after o b)
unfolding blank_after blank_in other_after other_in times_fed was_blank was_other
pair_byte r o b p q (pair stage m n s t w e f) =
    rw (e, f) (byte_keeps Pair Times 4 m n s t b (λ stage. pair stage m n s t w refl refl)
    (λ stage _. pair Begun m (byte_measured n 32) s (byte_after t 32) (whole_byte n t 32 refl refl w) refl refl)
    (λ stage _. pair Begun m (byte_measured n b) s (byte_after t b) (whole_byte n t b p q w) refl refl) stage)

paired_none : (v : Option ℕ) (e : Ended) → is_some v ≡ false → paired v e ≡ None
unfolding paired
paired_none None e h = refl
paired_none (Some n) e h = absurd (true≢false h)

no_pair : (s : Option Reading) → begun s ≡ false → pair_of s ≡ None
unfolding pair_of begun
no_pair None e = refl
no_pair (Some r) e = paired_none r.value r.ended e

-- THE LAW: a line of two peaks without a point and without an m
pub peaks_whole : (l : List ℕ) → whole_text l ≡ true
    → peaks_of (rows_after (row_from Times) l) ≡ peaks_then (were_after (was_from 4) l)
unfolding row_from was_from times_from
peaks_whole l e =
    go (line_keeps Pair pair_byte l (row_from Times) (was_from 4) e
    (pair NothingYet lengths_from lengths_from (Some start_of) (Some start_of) start_whole refl refl))
  where
    go : {r : Row} {o : Was} → Pair r o → peaks_of r ≡ peaks_then o
    go (pair stage m n s t w e f) = unfold peaks_of peaks_then in rw (e, f, whole_end pair_of None no_pair w) refl

-- ---- a knee
-- another byte than a blank ends no number
data Stays (e : Ended) (r : Option Reading) : Type 0 where
  goes_on : (v : Option ℕ) → r ≡ at e v → Stays e r
  spoils : r ≡ None → Stays e r

other_byte : (e : Ended) (v : Option ℕ) (b : ℕ) → eqb b 32 ≡ false → Stays e (byte_after (at e v) b)
unfolding byte_after
other_byte e v b h = rw h (go (figure_of b))
  where
    figures : (t : Bool) (n : Option ℕ)
        → Stays e (cond t None (option_and_then (λ n. Some (record { ended = e; value = Some n })) n))
    figures true n = spoils refl
    figures false None = spoils refl
    figures false (Some n) = goes_on (Some n) refl

    go : (d : Option ℕ) → Stays e (option_and_then (digit_after (record { ended = e; value = v })) d)
    go None = spoils refl
    go (Some d) = unfold digit_after longer_after in figures (zero_alone v) (longer_value v d)

spoilt_stays : (b : ℕ) → byte_after None b ≡ None
unfolding byte_after
spoilt_stays b = refl

-- how many numbers have ended
count : Ended → ℕ
count NoneYet = 0
count (First a) = 1
count (Second a b) = 2

-- then: the swing is bad, and stays so
data Lost (ended : ℕ) (swing : Option Reading) : Type 0 where
  spoilt : swing ≡ None → 0 < ended → Lost ended swing
  past : ended ≡ 4 → line_of swing ≡ None → Lost ended swing

-- then, beside what the swing's reader has of all that came since the name: the same, and its blanks counted; or both are bad
data Beside (s : Option Reading) (ended : ℕ) (swing times : Option Reading) : Type 0 where
  live : (e : Ended) (v : Option ℕ) → s ≡ at e v → swing ≡ at e v → ended ≡ count e + 1 → times ≡ Some start_of
      → Beside s ended swing times
  lost : s ≡ None → Lost ended swing → Beside s ended swing times

-- now and then, in the name, in the swing and behind it; of a swing that is lost the bytes may have gone to the times then
data Knees (r : Row) (o : Was) : Type 0 where
  in_name : (stage : Stage) → r ≡ row stage Name lengths_from plain_from → o ≡ was stage 0 (Some start_of) (Some start_of)
      → Knees r o
  in_swing : (stage : Stage) (m : Measured) (s : Option Reading) (ended : ℕ) (swing times : Option Reading) → Whole m s
      → Beside s ended swing times → r ≡ row stage Swing m plain_from → o ≡ was stage ended swing times → Knees r o
  in_times : (stage : Stage) (m : Measured) (swing times : Option Reading) → line_of (at_end m) ≡ line_of swing
      → r ≡ row stage Times m (told Plain times) → o ≡ was stage 4 swing times → Knees r o

name_byte : (stage : Stage) (b : ℕ)
    → Knees (row_after (row stage Name lengths_from plain_from) b) (was_after (was stage 0 (Some start_of) (Some start_of)) b)
unfolding blank_after blank_in other_after other_in field_at was_blank was_other count
name_byte stage b =
    byte_keeps Knees Name 0 lengths_from plain_from (Some start_of) (Some start_of) b (λ stage. in_name stage refl refl)
    (λ stage _. in_swing Begun lengths_from (Some start_of) 1 (Some start_of) (Some start_of) start_whole
    (live NoneYet None (unfold start_of in refl) (unfold start_of in refl) refl refl) refl refl)
    (λ stage _. in_name Begun refl refl) stage

-- then: the fourth blank, one within the swing, and another byte there
was_fourth : (ended : ℕ) (swing times : Option Reading) → ended ≡ 3 → was_blank ended swing times ≡ was Begun 4 swing times
unfolding was_blank
was_fourth ended swing times e = rw e refl

was_within : (ended : ℕ) (swing times : Option Reading) → 0 < ended → ended < 3
    → was_blank ended swing times ≡ was Begun (ended + 1) (byte_after swing 32) times
unfolding was_blank
was_within ended swing times h k =
    rw (ne_eqb ended 0 (λ e. omega arith), ne_eqb ended 3 (λ e. omega arith), lt-ltb ended 3 k) refl

was_swinging : (ended : ℕ) (swing times : Option Reading) (b : ℕ) → 0 < ended → ended < 4
    → was_other ended swing times b ≡ was Begun ended (byte_after swing b) times
unfolding was_other
was_swinging ended swing times b h k = rw (ne_eqb ended 0 (λ e. omega arith), lt-ltb ended 4 k) refl

-- what is lost stays so, whatever comes of it
module _ (m : Measured) (w : Whole m None) where
  -- a row of which the swing's reader has nothing good
  bad_row : (ended : ℕ) (swing times : Option Reading) → Lost ended swing
      → Knees (row Begun Swing m plain_from) (was Begun ended swing times)
  bad_row ended swing times h = in_swing Begun m None ended swing times w (lost refl h) refl refl

  lost_blank : (ended : ℕ) (swing times : Option Reading) → Lost ended swing
      → Knees (row Begun Swing m plain_from) (was_blank ended swing times)
  lost_blank ended swing times (past e l) = unfold was_blank in rw e (bad_row 4 swing (byte_after times 32) (past refl l))
  lost_blank ended swing times (spoilt e h) =
      unfold was_blank in rw (ne_eqb ended 0 (λ f. omega arith)) (go (eqb ended 3) (ltb ended 3))
    where
      go : (t u : Bool) → Knees (row Begun Swing m plain_from) (cond t (was Begun 4 swing times)
          (cond u (was Begun (ended + 1) (byte_after swing 32) times) (was Begun ended swing (byte_after times 32))))
      go true u = bad_row 4 swing times (spoilt e (omega arith))
      go false true =
          bad_row (ended + 1) (byte_after swing 32) times
          (spoilt (ap (λ (r : Option Reading). byte_after r 32) e ∙ spoilt_stays 32) (omega arith))
      go false false = bad_row ended swing (byte_after times 32) (spoilt e h)

  lost_other : (ended : ℕ) (swing times : Option Reading) (b : ℕ) → Lost ended swing
      → Knees (row Begun Swing m plain_from) (was_other ended swing times b)
  lost_other ended swing times b (past e l) = unfold was_other in rw e (bad_row 4 swing (byte_after times b) (past refl l))
  lost_other ended swing times b (spoilt e h) =
      unfold was_other in rw (ne_eqb ended 0 (λ f. omega arith)) (go (ltb ended 4))
    where
      go : (t : Bool) → Knees (row Begun Swing m plain_from)
          (cond t (was Begun ended (byte_after swing b) times) (was Begun ended swing (byte_after times b)))
      go true =
          bad_row ended (byte_after swing b) times
          (spoilt (ap (λ (r : Option Reading). byte_after r b) e ∙ spoilt_stays b) h)
      go false = bad_row ended swing (byte_after times b) (spoilt e h)

blanked : (m : Measured) (s : Option Reading) → Whole m s → (ended : ℕ) (swing times : Option Reading)
    → Beside (byte_after s 32) ended swing times
    → Knees (row Begun Swing (byte_measured m 32) plain_from) (was Begun ended swing times)
blanked m s w ended swing times h =
    in_swing Begun (byte_measured m 32) (byte_after s 32) ended swing times (whole_byte m s 32 refl refl w) h refl refl

-- of a swing that is not bad: the blank behind its third number ends it, one before that a number of it, one too many spoils it
module _ (m : Measured) where
  on_blank : Ended → Option ℕ → Was → Type 0
  on_blank e v o =
      Knees (cond (is_some v && third e) (row Begun Times m plain_from) (row Begun Swing (byte_measured m 32) plain_from)) o

  within : (e : Ended) (v : Option ℕ) → count e < 2 → Whole m (at e v)
      → Beside (byte_after (at e v) 32) (count e + 1 + 1) (byte_after (at e v) 32) (Some start_of)
      → Knees (row Begun Swing (byte_measured m 32) plain_from) (was_blank (count e + 1) (at e v) (Some start_of))
  within e v h w k =
      rw (was_within (count e + 1) (at e v) (Some start_of) (omega arith) (omega arith))
      (blanked m (at e v) w (count e + 1 + 1) (byte_after (at e v) 32) (Some start_of) k)

  live_blank : (e : Ended) (v : Option ℕ) → Whole m (at e v)
      → on_blank e v (was_blank (count e + 1) (at e v) (Some start_of))
  unfolding on_blank third count
  live_blank (Second a b) (Some n) w =
      rw (was_fourth 3 (at (Second a b) (Some n)) (Some start_of) refl)
      (in_times Begun m (at (Second a b) (Some n)) (Some start_of) (whole_end line_of None no_line w)
      (unfold plain_from in refl) refl)
  live_blank (Second a b) None w =
      rw (was_fourth 3 (at (Second a b) None) (Some start_of) refl)
      (blanked m (at (Second a b) None) w 4 (at (Second a b) None) (Some start_of)
      (lost (unfold byte_after blankRead ending in refl) (past refl (no_line (at (Second a b) None) (unfold begun in refl)))))
  live_blank NoneYet (Some n) w =
      within NoneYet (Some n) (omega arith) w
      (live (First n) None (unfold byte_after blankRead ending in refl) (unfold byte_after blankRead ending in refl) refl refl)
  live_blank NoneYet None w =
      within NoneYet None (omega arith) w
      (lost (unfold byte_after blankRead ending in refl)
      (spoilt (unfold byte_after blankRead ending in refl) (omega arith)))
  live_blank (First a) (Some n) w =
      within (First a) (Some n) (omega arith) w
      (live (Second a n) None (unfold byte_after blankRead ending in refl) (unfold byte_after blankRead ending in refl) refl refl)
  live_blank (First a) None w =
      within (First a) None (omega arith) w
      (lost (unfold byte_after blankRead ending in refl)
      (spoilt (unfold byte_after blankRead ending in refl) (omega arith)))

  most : (e : Ended) → count e < 3
  unfolding count
  most NoneYet = omega arith
  most (First a) = omega arith
  most (Second a b) = omega arith

  live_other : (e : Ended) (v : Option ℕ) (b : ℕ) → Whole m (at e v) → eqb b 46 ≡ false → eqb b 109 ≡ false → eqb b 32 ≡ false
      → Knees (row Begun Swing (byte_measured m b) plain_from) (was_other (count e + 1) (at e v) (Some start_of) b)
  live_other e v b w p q h =
      rw (was_swinging (count e + 1) (at e v) (Some start_of) b (omega arith) (omega (arith, most e)))
      (in_swing Begun (byte_measured m b) (byte_after (at e v) b) (count e + 1) (byte_after (at e v) b) (Some start_of)
      (whole_byte m (at e v) b p q w)
      (go (other_byte e v b h)) refl refl)
    where
      go : Stays e (byte_after (at e v) b) → Beside (byte_after (at e v) b) (count e + 1) (byte_after (at e v) b) (Some start_of)
      go (goes_on n f) = live e n f f refl refl
      go (spoils f) = lost f (spoilt f (omega arith))

  bad_whole : (b : ℕ) → eqb b 46 ≡ false → eqb b 109 ≡ false → Whole m None → Whole (byte_measured m b) None
  bad_whole b p q w = subst (λ (r : Option Reading). Whole (byte_measured m b) r) (spoilt_stays b) (whole_byte m None b p q w)

  swing_blank_lem : (stage : Stage) (s : Option Reading) (ended : ℕ) (swing times : Option Reading) → Whole m s
      → Beside s ended swing times
      → Knees (blank_after (row stage Swing m plain_from)) (was_blank ended swing times)
  unfolding blank_after blank_in swing_blank field_at swing_fed on_blank
  swing_blank_lem stage s ended swing times w (live e v i f h g) =
      rw (f, h, g, whole_last w, i)
      (unfold third_begun in live_blank e v (subst (λ (r : Option Reading). Whole m r) i w))
  swing_blank_lem stage s ended swing times w (lost i h) =
      rw (whole_last w, i)
      (unfold third_begun in
      lost_blank (byte_measured m 32)
      (bad_whole 32 refl refl (subst (λ (r : Option Reading). Whole m r) i w)) ended swing times h)

  swing_other : (stage : Stage) (s : Option Reading) (ended : ℕ) (swing times : Option Reading) (b : ℕ) → Whole m s
      → eqb b 46 ≡ false → eqb b 109 ≡ false → eqb b 32 ≡ false
      → Beside s ended swing times → Knees (other_after (row stage Swing m plain_from) b) (was_other ended swing times b)
  unfolding other_after other_in swing_fed
  swing_other stage s ended swing times b w p q z (live e v i f h g) =
      rw (f, h, g) (live_other e v b (subst (λ (r : Option Reading). Whole m r) i w) p q z)
  swing_other stage s ended swing times b w p q z (lost i h) =
      lost_other (byte_measured m b) (bad_whole b p q (subst (λ (r : Option Reading). Whole m r) i w)) ended swing times b h

knee_byte : (r : Row) (o : Was) (b : ℕ) → eqb b 46 ≡ false → eqb b 109 ≡ false → Knees r o → Knees (row_after r b) (was_after o b)
knee_byte r o b p q (in_name stage e f) = rw (e, f) (name_byte stage b)
knee_byte r o b p q (in_swing stage m s ended swing times w h e f) =
    rw (e, f) (byte_keeps Knees Swing ended m plain_from swing times b
    (λ stage. in_swing stage m s ended swing times w h refl refl)
    (λ stage z. swing_blank_lem m stage s ended swing times w h)
    (λ stage z. swing_other m stage s ended swing times b w p q z h) stage)
knee_byte r o b p q (in_times stage m swing times l e f) =
    unfold blank_after blank_in other_after other_in times_fed byte_measured byte_behind was_blank was_other in
    rw (e, f) (byte_keeps Knees Times 4 m (told Plain times) swing times b (λ stage. in_times stage m swing times l refl refl)
    (λ stage z. in_times Begun m swing (byte_after times 32) l refl refl)
    (λ stage z. in_times Begun m swing (byte_after times b) l refl refl) stage)

-- in the name any byte may come
abbrev Behind : List ℕ → Row → Was → Type 0
Behind l r o = Knees (rows_after r l) (were_after o l)

name_line : (l : List ℕ) (stage : Stage) → whole_behind l ≡ true
    → Behind l (row stage Name lengths_from plain_from) (was stage 0 (Some start_of) (Some start_of))
unfolding rows_after were_after whole_behind
name_line [] stage e = in_name stage refl refl
name_line (b ∷ l) stage e = go (eqb b 32) refl e (λ stage e. name_line l stage e)
  where
    go : (t : Bool) → eqb b 32 ≡ t → cond t (whole_text l) (whole_behind l) ≡ true
        → ((stage : Stage) → whole_behind l ≡ true → Behind l (row stage Name lengths_from plain_from)
        (was stage 0 (Some start_of) (Some start_of)))
        → Behind l (row_after (row stage Name lengths_from plain_from) b)
        (was_after (was stage 0 (Some start_of) (Some start_of)) b)
    go true p e rest = line_keeps Knees knee_byte l _ _ e (name_byte stage b)
    go false p e rest =
        byte_keeps (Behind l) Name 0 lengths_from plain_from (Some start_of) (Some start_of) b (λ stage. rest stage e)
        (λ stage q. absurd (true≢false (sym q ∙ p)))
        (λ stage q. unfold other_after other_in field_at was_other in rest Begun e) stage

-- ---- where the line ends
no_times : (l : Option Line) → with_swing l None ≡ None
unfolding with_swing with_times
no_times None = refl
no_times (Some (One n)) = refl
no_times (Some (Three a b c)) = refl

plain_none : pair_of (at_end plain_from) ≡ None
unfolding pair_of paired at_end end_behind plain_from start_of
plain_none = refl

beside_none : {s : Option Reading} {ended : ℕ} {swing times : Option Reading} → Beside s ended swing times
    → with_swing (line_of swing) (pair_of times) ≡ None
beside_none (live e v i f h g) = rw (g, no_pair (Some start_of) (unfold start_of begun in refl)) (no_times _)
beside_none (lost e (spoilt f h)) = rw (f, no_line None (unfold begun in refl)) (unfold with_swing in refl)
beside_none (lost e (past f h)) = rw h (unfold with_swing in refl)

knee_end : {r : Row} {o : Was} (name : ℕ) → Knees r o → knee_of r name ≡ knee_then o name
unfolding knee_of knee_then
knee_end name (in_name stage e f) = rw (e, f) (unfold at_end end_behind lengths_from plain_from in refl)
knee_end name (in_swing stage m s ended swing times w h e f) =
    rw (e, f, plain_none, no_times (line_of (at_end m)), beside_none h) refl
knee_end name (in_times stage m swing times l e f) = rw (e, f, l) (unfold at_end end_behind in refl)

ended_some : {s : Option Reading} {ended : ℕ} {swing times : Option Reading} → Beside s ended swing times → eqb ended 0 ≡ false
ended_some {s} {ended} (live e v i f h g) = ne_eqb ended 0 (λ z. omega arith)
ended_some {s} {ended} (lost e (spoilt f h)) = ne_eqb ended 0 (λ z. omega arith)
ended_some {s} {ended} (lost e (past f h)) = ne_eqb ended 0 (λ z. omega arith)

knee_named : {r : Row} {o : Was} (b : ℕ) → Knees r o → named r b ≡ named_then o b
unfolding named named_in named_then
knee_named b (in_name stage e f) = rw (e, f) refl
knee_named b (in_swing stage m s ended swing times w h e f) = rw (e, f, ended_some h) refl
knee_named b (in_times stage m swing times l e f) = rw (e, f) refl

-- THE LAW: a knee's line without a point and without an m behind its name, whose bytes are those that were
module _ (l : List ℕ) (e : whole_behind l ≡ true) where
  from_start : Knees (rows_after (row_from Name) l) (were_after (was_from 0) l)
  unfolding row_from times_from was_from
  from_start = name_line l NothingYet e

  pub knee_whole : (name : ℕ) → knee_of (rows_after (row_from Name) l) name ≡ knee_then (were_after (was_from 0) l) name
  knee_whole name = knee_end name from_start

  pub name_whole : (b : ℕ) → named (rows_after (row_from Name) l) b ≡ named_then (were_after (was_from 0) l) b
  name_whole b = knee_named b from_start
