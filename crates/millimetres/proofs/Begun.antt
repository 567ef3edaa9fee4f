-- A line of which something has come is no longer at its start. Assumes nothing.
use Rattle.std.specs.Prelude.{ℕ, ◌≡◌, Bool, true, false, cond, List, [], ◌∷◌, eqb, Option}
use Rattle.std.proofs.Math.Path.{refl}
use Rattle.swing_read.specs.Reading.{start_of, byte_after, unbegun, at_start}
use Rattle.swing_read.proofs.Begun.{byte_begins}
use Rattle.swing_read.specs.declared.Reading.{Reading}
use Rattle.millimetres.specs.Measured.{told, lengths_from, plain_from, bad_of, thousand_of, may_be_length}
use Rattle.millimetres.specs.Measured.{length_after, whole_after, held_after, places_end, place_more, places_after, letter_after}
use Rattle.millimetres.specs.Measured.{done_after, byte_behind, byte_measured, bytes_measured, unread_behind, unread}
use Rattle.millimetres.specs.declared.Places.{Places}
use Rattle.millimetres.specs.declared.Places.TheVariants.{Point, One, Two, Three}
use Rattle.millimetres.specs.declared.Part.{Part}
use Rattle.millimetres.specs.declared.Part.TheVariants.{Figures, Held, Behind, Unit, Half, Done, Plain}
use Rattle.millimetres.specs.declared.Measured.{Measured}

-- a reading that has begun
begun_whole : (r : Option Reading) → at_start r ≡ false → unread (told Figures r) ≡ false
unfolding unread unread_behind
begun_whole r e = e

bad_begun : unread bad_of ≡ false
unfolding unread unread_behind bad_of at_start
bad_begun = refl

module _ (r : Option Reading) (b : ℕ) where
  whole_begun : unread (whole_after r b) ≡ false
  unfolding whole_after
  whole_begun = go (may_be_length r)
    where
      by : (t u : Bool) → unread (cond t (told Held r) (cond u (told (Behind Point) r) (told Figures (byte_after r b)))) ≡ false
      by true u = unfold unread unread_behind in refl
      by false true = unfold unread unread_behind in refl
      by false false = begun_whole (byte_after r b) (byte_begins r b)

      go : (t : Bool) → unread (cond t (length_after r b) (told Figures (byte_after r b))) ≡ false
      go true = unfold length_after in by (eqb b 32) (eqb b 46)
      go false = begun_whole (byte_after r b) (byte_begins r b)

  held_begun : unread (held_after r b) ≡ false
  unfolding held_after
  held_begun = go (eqb b 109)
    where
      go : (t : Bool) → unread (cond t (told Half (thousand_of r)) (told Figures (byte_after (byte_after r 32) b))) ≡ false
      go true = unfold unread unread_behind in refl
      go false = begun_whole (byte_after (byte_after r 32) b) (byte_begins (byte_after r 32) b)

  end_begun : (p : Places) → unread (places_end p r) ≡ false
  unfolding places_end unread unread_behind
  end_begun Point = bad_begun
  end_begun One = refl
  end_begun Two = refl
  end_begun Three = refl

  more_begun : (p : Places) → unread (place_more p r b) ≡ false
  unfolding place_more unread unread_behind
  more_begun Point = refl
  more_begun One = refl
  more_begun Two = refl
  more_begun Three = go (eqb b 48)
    where
      go : (t : Bool) → unread (cond t (told (Behind Three) r) bad_of) ≡ false
      go true = unfold unread unread_behind in refl
      go false = bad_begun

  places_begun : (p : Places) → unread (places_after p r b) ≡ false
  unfolding places_after
  places_begun p = go (eqb b 32)
    where
      go : (t : Bool) → unread (cond t (places_end p r) (place_more p r b)) ≡ false
      go true = end_begun p
      go false = more_begun p

  letter_begun : (next : Part) → unread (told next r) ≡ false → unread (letter_after next r b) ≡ false
  unfolding letter_after
  letter_begun next e = go (eqb b 109)
    where
      go : (t : Bool) → unread (cond t (told next r) bad_of) ≡ false
      go true = e
      go false = bad_begun

  done_begun : unread (done_after r b) ≡ false
  unfolding done_after
  done_begun = go (eqb b 32)
    where
      go : (t : Bool) → unread (cond t (told Figures (byte_after r 32)) bad_of) ≡ false
      go true = begun_whole (byte_after r 32) (byte_begins r 32)
      go false = bad_begun

  behind_begun : (p : Part) → unread (byte_behind p r b) ≡ false
  unfolding byte_behind
  behind_begun Figures = whole_begun
  behind_begun Held = held_begun
  behind_begun (Behind p) = places_begun p
  behind_begun Unit = letter_begun Half (unfold unread unread_behind in refl)
  behind_begun Half = letter_begun Done (unfold unread unread_behind in refl)
  behind_begun Done = done_begun
  behind_begun Plain = unfold unread unread_behind in byte_begins r b

byte_begun : (m : Measured) (b : ℕ) → unread (byte_measured m b) ≡ false
unfolding byte_measured
byte_begun m b = behind_begun m.reading b m.part

pub line_measured : (l : List ℕ) (b : ℕ) (m : Measured) → unread (bytes_measured m (b ∷ l)) ≡ false
unfolding bytes_measured
line_measured [] b m = byte_begun m b
line_measured (x ∷ l) b m = line_measured l x (byte_measured m b)

pub lengths_unread : unread (bytes_measured lengths_from []) ≡ true
unfolding unread unread_behind bytes_measured lengths_from at_start unbegun start_of
lengths_unread = refl

pub plain_unread : unread (bytes_measured plain_from []) ≡ true
unfolding unread unread_behind bytes_measured plain_from at_start unbegun start_of
plain_unread = refl
