-- A length in millimetres is read as the micrometres that it is, one that is finer makes the line bad, and a line without a
-- point and without an m is read as before. Assumes nothing.
use Prim.Native.Nat.{ℕ, zero, suc, ◌+◌, ◌*◌, ◌/◌, ◌%◌, ◌^◌, ◌<◌}
use Rattle.std.specs.Prelude.{◌≡◌, Bool, not, ◌&&◌, List, [], ◌∷◌, ◌++◌, Option, Some, None}
use Rattle.std.specs.Option.{is_some}
use Rattle.std.proofs.Math.Path.{refl, ap}
use Rattle.std.proofs.Common.{sym, ◌∙◌, true≢false}
use Rattle.std.proofs.Math.Bool.{true, false, cond}
use native.Mathlib.Omega.{arith}
use borrow.Author.Tests.{eqb-true, ne_eqb}
use Rattle.std.proofs.Math.Dec.{eqb}
use Rattle.digits.specs.Digits.{glyph_of, digits}
use Rattle.writing.specs.Decimal.{places_of, decimal}
use Rattle.swing_read.specs.Reading.{start_of, ending, blank_after, longer_after, byte_after, bytes_after, closing, line_of}
use Rattle.swing_read.specs.Reading.{read_line}
use Rattle.swing_read.specs.ReadingLaws.{at}
use Rattle.swing_read.proofs.ReadingLaws.{bytes_more, glyph, figure_is, next_room, u64_read}
use Rattle.swing_read.specs.declared.Ended.{Ended}
use Rattle.swing_read.specs.declared.Ended.TheVariants.{NoneYet, First, Second}
use Rattle.swing_read.specs.declared.Reading.{Reading}
use Rattle.millimetres.specs.Measured.{told, lengths_from, plain_from, bad_of, place_after, thousand_of, early, may_be_length}
use Rattle.millimetres.specs.Measured.{length_after, whole_after, held_after, places_end, place_more, places_after, letter_after}
use Rattle.millimetres.specs.Measured.{byte_behind, byte_measured, bytes_measured, end_behind, at_end, third, third_begun}
use Rattle.millimetres.specs.Measured.{last_begun, measured_line}
use Rattle.millimetres.specs.declared.Places.TheVariants.{Point, One, Two, Three}
use Rattle.millimetres.specs.declared.Part.TheVariants.{Figures, Behind, Done, Plain}
use Rattle.millimetres.specs.declared.Measured.{Measured}
use Rattle.millimetres.specs.MeasuredLaws.{Whole, held, same, whole_text, begun}

measured_more : (xs : List ℕ) (m : Measured) (ys : List ℕ) → bytes_measured m (xs ++ ys) ≡ bytes_measured (bytes_measured m xs) ys
unfolding bytes_measured
measured_more [] m ys = refl
measured_more (x ∷ xs) m ys = measured_more xs (byte_measured m x) ys

pub measured_last : (l : List ℕ) (m : Measured) (b : ℕ) → bytes_measured m (l ++ b ∷ []) ≡ byte_measured (bytes_measured m l) b
unfolding bytes_measured
measured_last l m b = measured_more l m (b ∷ [])

-- ---- a line without lengths is read as before
plain_bytes : (l : List ℕ) (r : Option Reading) → bytes_measured (told Plain r) l ≡ told Plain (bytes_after r l)
unfolding bytes_measured byte_measured byte_behind bytes_after
plain_bytes [] r = refl
plain_bytes (b ∷ l) r = plain_bytes l (byte_after r b)

pub plain_line : (l : List ℕ) → measured_line plain_from l ≡ read_line l
unfolding measured_line plain_from read_line at_end end_behind
plain_line l = rw (plain_bytes l (Some start_of))

pub whole_head : (b : ℕ) (l : List ℕ) → whole_text (b ∷ l) ≡ true
    → (eqb b 46 ≡ false) × ((eqb b 109 ≡ false) × (whole_text l ≡ true))
unfolding whole_text
whole_head b l e = go (eqb b 46) (eqb b 109) e
  where
    go : (t u : Bool) → (not t && (not u && whole_text l)) ≡ true → (t ≡ false) × ((u ≡ false) × (whole_text l ≡ true))
    go false false e = (refl, (refl, e))
    go false true e = absurd (true≢false (sym e))
    go true u e = absurd (true≢false (sym e))

pub whole_byte : (m : Measured) (r : Option Reading) (b : ℕ) → eqb b 46 ≡ false → eqb b 109 ≡ false → Whole m r
    → Whole (byte_measured m b) (byte_after r b)
unfolding byte_measured byte_behind
whole_byte m r b p q (same e) = rw e (go (may_be_length r) refl (eqb b 32) refl)
  where
    go : (t : Bool) → may_be_length r ≡ t → (u : Bool) → eqb b 32 ≡ u → Whole (whole_after r b) (byte_after r b)
    go true l true u = unfold whole_after length_after in rw (l, u) (held r l refl (ap (byte_after r) (eqb-true b 32 u)))
    go true l false u = unfold whole_after length_after in rw (l, u, p) (same refl)
    go false l t u = unfold whole_after in rw l (same refl)
whole_byte m r b p q (held s l e f) = rw (e, f) (unfold held_after in rw q (same refl))

pub whole_bytes : (l : List ℕ) (m : Measured) (r : Option Reading) → whole_text l ≡ true → Whole m r
    → Whole (bytes_measured m l) (bytes_after r l)
unfolding bytes_measured bytes_after
whole_bytes [] m r e h = h
whole_bytes (b ∷ l) m r e h =
    let k = whole_head b l e in
    whole_bytes l (byte_measured m b) (byte_after r b) k.1.1 (whole_byte m r b k.0 k.1.0 h)

-- behind a blank no number has begun
ending_last : (v : Option ℕ) (e : Ended) → begun (ending v e) ≡ false
unfolding ending begun
ending_last None e = refl
ending_last (Some n) NoneYet = refl
ending_last (Some n) (First a) = refl
ending_last (Some n) (Second a b) = refl

blank_last : (s : Option Reading) → begun (byte_after s 32) ≡ false
unfolding byte_after blank_after
blank_last None = unfold begun in refl
blank_last (Some r) = ending_last r.value r.ended

-- THE LAW: where the line ends, whatever asks for a number that has begun is told the same, now as then
pub whole_end : {X : Type 0} {m : Measured} {r : Option Reading} (f : Option Reading → X) (x : X)
    → ((s : Option Reading) → begun s ≡ false → f s ≡ x) → Whole m r → f (at_end m) ≡ f r
unfolding at_end end_behind
whole_end f x none (same e) = rw e refl
whole_end f x none (held s l e g) = rw (e, g) (none None (unfold begun in refl) ∙ sym (none (byte_after s 32) (blank_last s)))

-- and the third number has a figure now as then
third_none : (s : Option Reading) → begun s ≡ false → third_begun s ≡ false
unfolding third_begun begun
third_none None e = refl
third_none (Some r) e = rw e

early_third : (v : Bool) (e : Ended) → (v && early e) ≡ true → (v && third e) ≡ false
unfolding early third
early_third true NoneYet h = refl
early_third true (First a) h = refl
early_third true (Second a b) h = absurd (true≢false (sym h))
early_third false e h = refl

third_length : (s : Option Reading) → may_be_length s ≡ true → third_begun s ≡ false
unfolding may_be_length third_begun
third_length None h = refl
third_length (Some r) h = early_third (is_some r.value) r.ended h

pub whole_last : {m : Measured} {r : Option Reading} → Whole m r → last_begun m ≡ third_begun r
unfolding last_begun
whole_last (same e) = rw e refl
whole_last (held s l e g) = rw (e, g, third_none (byte_after s 32) (blank_last s)) (third_length s l)

pub start_whole : Whole lengths_from (Some start_of)
unfolding lengths_from
start_whole = same refl

closing_none : (v : Option ℕ) (e : Ended) → is_some v ≡ false → closing v e ≡ None
unfolding closing
closing_none None e h = refl
closing_none (Some n) e h = absurd (true≢false h)

pub no_line : (s : Option Reading) → begun s ≡ false → line_of s ≡ None
unfolding line_of begun
no_line None e = refl
no_line (Some r) e = closing_none r.value r.ended e

pub whole_line : (l : List ℕ) → whole_text l ≡ true → measured_line lengths_from l ≡ read_line l
unfolding measured_line read_line
whole_line l e = whole_end line_of None no_line (whole_bytes l lengths_from (Some start_of) e start_whole)

-- ---- a length, the (k + 1)-th number of its line
module _ (k : Ended) (K : early k ≡ true) where
  -- a figure behind the point
  placed : (v d : ℕ) → d < 10 → v * 10 + d < 2 ^ 64 → place_after (at k (Some v)) (48 + d) ≡ at k (Some (v * 10 + d))
  unfolding place_after longer_after
  placed v d h u = rw (figure_is d h, next_room k v d u)

  a_length : (v : ℕ) → may_be_length (at k (Some v)) ≡ true
  unfolding may_be_length
  a_length v = K

  pointed : (v : ℕ) → byte_measured (told Figures (at k (Some v))) 46 ≡ told (Behind Point) (at k (Some v))
  unfolding byte_measured byte_behind whole_after length_after
  pointed v = rw (a_length v)

  module _ (v d : ℕ) (h : d < 10) (u : v * 10 + d < 2 ^ 64) where
    first_place : byte_measured (told (Behind Point) (at k (Some v))) (48 + d) ≡ told (Behind One) (at k (Some (v * 10 + d)))
    unfolding byte_measured byte_behind places_after place_more
    first_place = rw (ne_eqb (48 + d) 32 (λ e. omega arith), placed v d h u)

    second_place : byte_measured (told (Behind One) (at k (Some v))) (48 + d) ≡ told (Behind Two) (at k (Some (v * 10 + d)))
    unfolding byte_measured byte_behind places_after place_more
    second_place = rw (ne_eqb (48 + d) 32 (λ e. omega arith), placed v d h u)

    third_place : byte_measured (told (Behind Two) (at k (Some v))) (48 + d) ≡ told (Behind Three) (at k (Some (v * 10 + d)))
    unfolding byte_measured byte_behind places_after place_more
    third_place = rw (ne_eqb (48 + d) 32 (λ e. omega arith), placed v d h u)

  -- the unit
  abbrev unit : List ℕ
  unit = 32 ∷ 109 ∷ 109 ∷ []

  abbrev done : ℕ → Measured
  done n = told Done (at k (Some n))

  zero_more : (v : ℕ) → v * 10 < 2 ^ 64 → place_after (at k (Some v)) 48 ≡ at k (Some (v * 10))
  zero_more v u = placed v 0 (omega arith) (omega arith) ∙ ap (λ (n : ℕ). at k (Some n)) (omega arith)

  no_places : (v : ℕ) → v * 1000 < 2 ^ 64 → bytes_measured (told Figures (at k (Some v))) unit ≡ done (v * 1000)
  unfolding bytes_measured byte_measured byte_behind whole_after length_after held_after thousand_of letter_after
  no_places v u =
      rw (a_length v, zero_more v (omega arith), zero_more (v * 10) (omega arith), zero_more (v * 10 * 10) (omega arith))
      (ap done (omega arith))

  after_one : (n : ℕ) → n * 100 < 2 ^ 64 → bytes_measured (told (Behind One) (at k (Some n))) unit ≡ done (n * 100)
  unfolding bytes_measured byte_measured byte_behind places_after places_end letter_after
  after_one n u = rw (zero_more n (omega arith), zero_more (n * 10) (omega arith)) (ap done (omega arith))

  after_two : (n : ℕ) → n * 10 < 2 ^ 64 → bytes_measured (told (Behind Two) (at k (Some n))) unit ≡ done (n * 10)
  unfolding bytes_measured byte_measured byte_behind places_after places_end letter_after
  after_two n u = rw (zero_more n u)

  after_three : (n : ℕ) → bytes_measured (told (Behind Three) (at k (Some n))) unit ≡ done n
  unfolding bytes_measured byte_measured byte_behind places_after places_end letter_after
  after_three n = refl

  letter_whole : (t : Bool) (s : Option Reading) (x : ℕ) → eqb x 32 ≡ false → eqb x 46 ≡ false
      → cond t (length_after s x) (told Figures (byte_after s x)) ≡ told Figures (byte_after s x)
  letter_whole true s x p q = unfold length_after in rw (p, q)
  letter_whole false s x p q = refl

  figure_whole : (d : ℕ) (s : Option Reading) → d < 10
      → bytes_measured (told Figures s) (glyph_of d ∷ []) ≡ told Figures (bytes_after s (glyph_of d ∷ []))
  figure_whole d s h =
      unfold bytes_measured byte_measured byte_behind whole_after bytes_after in
      rw (glyph d h)
      (letter_whole (may_be_length s) s (48 + d) (ne_eqb (48 + d) 32 (λ e. omega arith)) (ne_eqb (48 + d) 46 (λ e. omega arith)))

  figures_whole : (p n : ℕ) (r : Option Reading)
      → bytes_measured (told Figures r) (digits 10 p n) ≡ told Figures (bytes_after r (digits 10 p n))
  unfolding digits
  figures_whole zero n r = unfold bytes_measured bytes_after in refl
  figures_whole (suc p) n r =
      measured_more (digits 10 p (n / 10)) (told Figures r) (glyph_of (n % 10) ∷ [])
      ∙ ap (λ (m : Measured). bytes_measured m (glyph_of (n % 10) ∷ [])) (figures_whole p (n / 10) r)
      ∙ figure_whole (n % 10) (bytes_after r (digits 10 p (n / 10))) (omega arith)
      ∙ ap (told Figures) (sym (bytes_more (digits 10 p (n / 10)) r (glyph_of (n % 10) ∷ [])))

  whole_part : (v : ℕ) → v < 2 ^ 64 → bytes_measured (told Figures (at k None)) (decimal 19 v) ≡ told Figures (at k (Some v))
  unfolding decimal
  whole_part v u = figures_whole (places_of 19 v) v (at k None) ∙ ap (told Figures) (back u)
    where
      back : v < 2 ^ 64 → bytes_after (at k None) (digits 10 (places_of 19 v) v) ≡ at k (Some v)
      back u = unfold decimal in u64_read k v u

  -- the whole millimetres, and what comes behind them
  behind : (v : ℕ) (rest : List ℕ) (m : Measured) → v < 2 ^ 64 → bytes_measured (told Figures (at k (Some v))) rest ≡ m
      → bytes_measured (told Figures (at k None)) (decimal 19 v ++ rest) ≡ m
  behind v rest m u e = measured_more (decimal 19 v) (told Figures (at k None)) rest
      ∙ ap (λ (n : Measured). bytes_measured n rest) (whole_part v u) ∙ e

  -- THE LAW: `v mm`, and with one, two and three places, is read as so many micrometres
  pub whole_length : (v : ℕ) → v * 1000 < 2 ^ 64
      → bytes_measured (told Figures (at k None)) (decimal 19 v ++ unit) ≡ done (v * 1000)
  whole_length v u = behind v unit (done (v * 1000)) (omega arith) (no_places v u)

  pub one_place : (v d : ℕ) → d < 10 → v * 1000 + d * 100 < 2 ^ 64
      → bytes_measured (told Figures (at k None)) (decimal 19 v ++ (46 ∷ (48 + d) ∷ unit)) ≡ done (v * 1000 + d * 100)
  one_place v d h u = behind v (46 ∷ (48 + d) ∷ unit) (done (v * 1000 + d * 100)) (omega arith)
      (unfold bytes_measured in rw (pointed v, first_place v d h (omega arith))
      (after v d u))
    where
      after : (v d : ℕ) → v * 1000 + d * 100 < 2 ^ 64
          → bytes_measured (told (Behind One) (at k (Some (v * 10 + d)))) unit ≡ done (v * 1000 + d * 100)
      after v d u = after_one (v * 10 + d) (omega arith) ∙ ap done (omega arith)

  pub two_places : (v d e : ℕ) → d < 10 → e < 10 → v * 1000 + d * 100 + e * 10 < 2 ^ 64
      → bytes_measured (told Figures (at k None)) (decimal 19 v ++ (46 ∷ (48 + d) ∷ (48 + e) ∷ unit))
      ≡ done (v * 1000 + d * 100 + e * 10)
  two_places v d e h i u = behind v (46 ∷ (48 + d) ∷ (48 + e) ∷ unit) (done (v * 1000 + d * 100 + e * 10)) (omega arith)
      (unfold bytes_measured in
      rw (pointed v, first_place v d h (omega arith), second_place (v * 10 + d) e i (omega arith))
      (after v d e u))
    where
      after : (v d e : ℕ) → v * 1000 + d * 100 + e * 10 < 2 ^ 64
          → bytes_measured (told (Behind Two) (at k (Some ((v * 10 + d) * 10 + e)))) unit ≡ done (v * 1000 + d * 100 + e * 10)
      after v d e u = after_two ((v * 10 + d) * 10 + e) (omega arith) ∙ ap done (omega arith)

  pub three_places : (v d e f : ℕ) → d < 10 → e < 10 → f < 10 → v * 1000 + d * 100 + e * 10 + f < 2 ^ 64
      → bytes_measured (told Figures (at k None)) (decimal 19 v ++ (46 ∷ (48 + d) ∷ (48 + e) ∷ (48 + f) ∷ unit))
      ≡ done (v * 1000 + d * 100 + e * 10 + f)
  three_places v d e f h i j u =
      behind v (46 ∷ (48 + d) ∷ (48 + e) ∷ (48 + f) ∷ unit) (done (v * 1000 + d * 100 + e * 10 + f)) (omega arith)
      (unfold bytes_measured in
      rw (
        pointed v,
        first_place v d h (omega arith),
        second_place (v * 10 + d) e i (omega arith),
        third_place ((v * 10 + d) * 10 + e) f j (omega arith),
      )
      (after v d e f))
    where
      after : (v d e f : ℕ)
          → bytes_measured (told (Behind Three) (at k (Some (((v * 10 + d) * 10 + e) * 10 + f)))) unit
          ≡ done (v * 1000 + d * 100 + e * 10 + f)
      after v d e f = after_three (((v * 10 + d) * 10 + e) * 10 + f) ∙ ap done (omega arith)

-- ---- what is finer
bad_stays : (l : List ℕ) → bytes_measured bad_of l ≡ bad_of
unfolding bytes_measured
bad_stays [] = refl
bad_stays (x ∷ l) = rw (one x) (bad_stays l)
  where
    one : (x : ℕ) → byte_measured bad_of x ≡ bad_of
    one x = unfold bad_of byte_measured byte_behind whole_after may_be_length byte_after in refl

-- behind three places a byte that is neither a zero nor a blank makes the line bad, whatever comes
pub finer_bad : (r : Option Reading) (x : ℕ) (l : List ℕ) → eqb x 32 ≡ false → eqb x 48 ≡ false
    → line_of (at_end (bytes_measured (told (Behind Three) r) (x ∷ l))) ≡ None
unfolding bytes_measured byte_measured byte_behind places_after place_more
finer_bad r x l p q = rw (p, q, bad_stays l) (unfold bad_of at_end end_behind line_of in refl)
