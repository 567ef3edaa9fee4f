-- Exactly the lines of one or three decimal numbers are read: numbers that are written are read back, and what is read is how
-- they are written. Assumes nothing.
use Prim.Native.Nat.{ℕ, zero, suc, ◌+◌, ◌-◌, ◌*◌, ◌/◌, ◌%◌, ◌^◌, ◌≤◌, ◌<◌}
use Rattle.std.specs.Prelude.{◌≡◌, Bool, cond, eqb, ltb, Option, Some, None}
use Rattle.std.specs.Option.{option_and_then}
use Rattle.std.proofs.Math.Path.{refl, sym, ap}
use Rattle.std.proofs.Common.{◌∙◌, subst, pow-suc, div-lt_iff_lt-mul, mod-eq_of_lt}
use Rattle.std.proofs.Math.Bool.{true, false}
use Rattle.std.proofs.Math.Logic.{inl, inr}
use mathlib.Core.List.{List, [], ◌∷◌, ◌++◌, append_assoc, append-nil}
use native.Mathlib.Omega.{arith}
use borrow.Author.Tests.{lt-ltb, le-ltb, ne_eqb, eqb-true, ltb-true, ltb-false}
use Rattle.std.proofs.lemmas.Bool.{eqb-false}
use Rattle.algebra.specs.Order.{lt_or_le}
use Rattle.digits.specs.Digits.{glyph_of, digits}
use Rattle.writing.specs.Decimal.{places_of, decimal}
use Rattle.writing.specs.Places.{places_same}
use Rattle.swing_read.specs.Reading.{start_of, ending, blank_after, figure_of, longer_value, longer_after, zero_alone}
use Rattle.swing_read.specs.Reading.{digit_after}
use Rattle.swing_read.specs.Reading.{byte_after, bytes_after, closing, line_of, read_line}
use Rattle.swing_read.specs.declared.Ended.{Ended}
use Rattle.swing_read.specs.declared.Ended.TheVariants.{NoneYet, First, Second}
use Rattle.swing_read.specs.declared.Reading.{Reading}
use Rattle.swing_read.specs.declared.Line.TheVariants.{One, Three}
use Rattle.swing_read.specs.ReadingLaws.{at, front_text, part_text, three_text}

pub bytes_more : (xs : List ℕ) (r : Option Reading) (ys : List ℕ) → bytes_after r (xs ++ ys) ≡ bytes_after (bytes_after r xs) ys
unfolding bytes_after
bytes_more [] r ys = refl
bytes_more (x ∷ xs) r ys = bytes_more xs (byte_after r x) ys

pub bytes_last : (l : List ℕ) (r : Option Reading) (b : ℕ) → bytes_after r (l ++ b ∷ []) ≡ byte_after (bytes_after r l) b
unfolding bytes_after
bytes_last l r b = bytes_more l r (b ∷ [])

pub glyph : (d : ℕ) → d < 10 → glyph_of d ≡ 48 + d
unfolding glyph_of
glyph d h = rw (lt-ltb d 10 h)

pub figure_is : (d : ℕ) → d < 10 → figure_of (48 + d) ≡ Some d
unfolding figure_of
figure_is d h =
    let z : 48 + d - 48 ≡ d = omega arith in rw (le-ltb (48 + d) 48 (omega arith), lt-ltb (48 + d) 58 (omega arith), z)

module _ (e : Ended) where
  -- a digit
  pub digit_read : (v : Option ℕ) (d n : ℕ) → d < 10 → zero_alone v ≡ false → longer_value v d ≡ Some n
      → byte_after (at e v) (48 + d) ≡ at e (Some n)
  unfolding byte_after digit_after longer_after
  digit_read v d n h some room = rw (ne_eqb (48 + d) 32 (λ e. omega arith), figure_is d h, some, room)

  first_room : (d : ℕ) → longer_value None d ≡ Some d
  unfolding longer_value
  first_room d = refl

  pub next_room : (v d : ℕ) → v * 10 + d < 2 ^ 64 → longer_value (Some v) d ≡ Some (v * 10 + d)
  unfolding longer_value
  next_room v d u = rw (lt-ltb (v * 10 + d) (2 ^ 64) u)

  -- a number of one digit
  one_digit : (n : ℕ) → n < 10 → bytes_after (at e None) (digits 10 1 n) ≡ at e (Some n)
  unfolding digits bytes_after
  one_digit n h = rw (mod-eq_of_lt h, glyph n h) (digit_read None n n h (unfold zero_alone in refl) (first_room n))

  last_digit : (v d : ℕ) → d < 10 → 1 ≤ v → v * 10 + d < 2 ^ 64
      → bytes_after (at e (Some v)) (glyph_of d ∷ []) ≡ at e (Some (v * 10 + d))
  unfolding bytes_after
  last_digit v d h o u =
      rw (glyph d h)
      (digit_read (Some v) d (v * 10 + d) h (unfold zero_alone in ne_eqb v 0 (λ e. omega arith)) (next_room v d u))

  -- one digit more
  longer : (p n : ℕ) → 10 ≤ n → n < 2 ^ 64 → bytes_after (at e None) (digits 10 p (n / 10)) ≡ at e (Some (n / 10))
      → bytes_after (at e None) (digits 10 (suc p) n) ≡ at e (Some n)
  unfolding digits
  longer p n l u h =
      let d : n % 10 < 10 = omega arith in
      bytes_more (digits 10 p (n / 10)) (at e None) (glyph_of (n % 10) ∷ [])
      ∙ ap (λ (r : Option Reading). bytes_after r (glyph_of (n % 10) ∷ [])) h
      ∙ last_digit (n / 10) (n % 10) d (omega arith) (omega arith)
      ∙ ap (λ (v : ℕ). at e (Some v)) (omega arith)

  shorter : (more n : ℕ) → n < 10 ^ suc (suc more) → n / 10 < 10 ^ suc more
  shorter more n h = (div-lt_iff_lt-mul {k = 10} {x = n} {y = 10 ^ suc more} (omega arith)).1 (rw pow-suc at h)

  -- a number
  number_read : (more n : ℕ) → n < 10 ^ suc more → n < 2 ^ 64
      → bytes_after (at e None) (digits 10 (places_of more n) n) ≡ at e (Some n)
  unfolding places_of
  number_read zero n h u = one_digit n (omega arith)
  number_read (suc more) n h u = elim (lt_or_le n 10) [
    | inl l ↦ rw (lt-ltb n 10 l) (one_digit n l)
    | inr l ↦ rw (le-ltb n 10 l) (longer (places_of more (n / 10)) n l u
        (number_read more (n / 10) (shorter more n h) (omega arith)))
  ]

  pub u64_read : (n : ℕ) → n < 2 ^ 64 → bytes_after (at e None) (decimal 19 n) ≡ at e (Some n)
  unfolding decimal
  u64_read n u = number_read 19 n (omega arith) u

pub one_back : (n : ℕ) → n < 2 ^ 64 → read_line (decimal 19 n) ≡ Some (One n)
unfolding read_line start_of line_of closing
one_back n u = rw (u64_read NoneYet n u)

first_ends : (a : ℕ) (rest : List ℕ) → bytes_after (at NoneYet (Some a)) (32 ∷ rest) ≡ bytes_after (at (First a) None) rest
unfolding bytes_after byte_after blank_after ending
first_ends a rest = refl

second_ends : (a b : ℕ) (rest : List ℕ)
    → bytes_after (at (First a) (Some b)) (32 ∷ rest) ≡ bytes_after (at (Second a b) None) rest
unfolding bytes_after byte_after blank_after ending
second_ends a b rest = refl

pub three_back : (a b c : ℕ) → a < 2 ^ 64 → b < 2 ^ 64 → c < 2 ^ 64 → read_line (three_text a b c) ≡ Some (Three a b c)
unfolding read_line start_of line_of closing
three_back a b c A B C =
    let rest = decimal 19 b ++ (32 ∷ decimal 19 c) in
    let e : bytes_after (at NoneYet None) (three_text a b c) ≡ at (Second a b) (Some c) =
    bytes_more (decimal 19 a) (at NoneYet None) (32 ∷ rest)
    ∙ ap (λ (r : Option Reading). bytes_after r (32 ∷ rest)) (u64_read NoneYet a A)
    ∙ first_ends a rest
    ∙ bytes_more (decimal 19 b) (at (First a) None) (32 ∷ decimal 19 c)
    ∙ ap (λ (r : Option Reading). bytes_after r (32 ∷ decimal 19 c)) (u64_read (First a) b B)
    ∙ second_ends a b (decimal 19 c)
    ∙ u64_read (Second a b) c C in
    rw e

-- ---- what is read is how it is written
decimal_digit : (d : ℕ) → d < 10 → decimal 19 d ≡ (48 + d) ∷ []
unfolding decimal places_of digits
decimal_digit d h = rw (lt-ltb d 10 h, mod-eq_of_lt h, glyph d h)

decimal_more : (v d : ℕ) → 1 ≤ v → d < 10 → v * 10 + d < 2 ^ 64 → decimal 19 (v * 10 + d) ≡ decimal 19 v ++ ((48 + d) ∷ [])
unfolding decimal
decimal_more v d o h u =
    let q : (v * 10 + d) / 10 ≡ v = omega arith in
    let m : (v * 10 + d) % 10 ≡ d = omega arith in
    let p : places_of 19 (v * 10 + d) ≡ suc (places_of 19 v) = places_next v d q o (omega arith) in
    rw p (unfolded (places_of 19 v) (v * 10 + d) ∙ rw (q, m, glyph d h))
  where
    places_next : (v d : ℕ) → (v * 10 + d) / 10 ≡ v → 1 ≤ v → v < 10 ^ 19 → places_of 19 (v * 10 + d) ≡ suc (places_of 19 v)
    places_next v d q o l =
        unfold places_of in
        rw (le-ltb (v * 10 + d) 10 (omega arith), q) (ap suc (places_same 18 18 19 v l (omega arith) (omega arith)))

    unfolded : (k n : ℕ) → digits 10 (suc k) n ≡ digits 10 k (n / 10) ++ (glyph_of (n % 10) ∷ [])
    unfolded k n = unfold digits in refl

abbrev text_of : Ended → Option ℕ → List ℕ
text_of e v = front_text e ++ part_text v

-- the bytes l were read as r: they are bad, or they are r's text
data Read (l : List ℕ) (r : Option Reading) : Type 0 where
  bad : r ≡ None → Read l r
  good : (e : Ended) (v : Option ℕ) → r ≡ at e v → l ≡ text_of e v → Read l r

-- a figure more
module _ (l : List ℕ) (e : Ended) (d : ℕ) (h : d < 10) where
  last : (v : Option ℕ) (n : ℕ) → l ≡ text_of e v → part_text v ++ ((48 + d) ∷ []) ≡ decimal 19 n
      → l ++ ((48 + d) ∷ []) ≡ text_of e (Some n)
  unfolding part_text
  last v n is more =
      ap (λ (x : List ℕ). x ++ ((48 + d) ∷ [])) is ∙ append_assoc (front_text e) (part_text v) ((48 + d) ∷ [])
      ∙ ap (λ (x : List ℕ). front_text e ++ x) more

  digit_reads : (v : Option ℕ) → l ≡ text_of e v → Read (l ++ ((48 + d) ∷ [])) (digit_after (record { ended = e; value = v }) d)
  unfolding digit_after longer_after longer_value zero_alone part_text
  digit_reads None is = good e (Some d) refl (last None d is (sym (decimal_digit d h)))
  digit_reads (Some v) is = go (eqb v 0) refl (ltb (v * 10 + d) (2 ^ 64)) refl
    where
      go : (t : Bool) → eqb v 0 ≡ t → (u : Bool) → ltb (v * 10 + d) (2 ^ 64) ≡ u
          → Read (l ++ ((48 + d) ∷ [])) (cond t None
          (option_and_then (λ n. Some (record { ended = e; value = Some n })) (cond u (Some (v * 10 + d)) None)))
      go true p u q = bad refl
      go false p true q =
          let z : v ≡ 0 → ⊥ = eqb-false v 0 p in
          good e (Some (v * 10 + d)) refl
          (last (Some v) (v * 10 + d) is (sym (decimal_more v d (omega arith) h (ltb-true (v * 10 + d) (2 ^ 64) q))))
      go false p false q = bad refl

blank_reads : (l : List ℕ) (e : Ended) (v : Option ℕ) → l ≡ text_of e v → Read (l ++ 32 ∷ []) (ending v e)
unfolding ending front_text part_text
blank_reads l e None is = bad refl
blank_reads l NoneYet (Some n) is =
    good (First n) None refl (ap (λ (x : List ℕ). x ++ 32 ∷ []) is ∙ sym (append-nil (decimal 19 n ++ 32 ∷ [])))
blank_reads l (First a) (Some n) is =
    good (Second a n) None refl (ap (λ (x : List ℕ). x ++ 32 ∷ []) is ∙ simp (append_assoc, append-nil))
blank_reads l (Second a b) (Some n) is = bad refl

byte_reads : (l : List ℕ) (r : Option Reading) (x : ℕ) → Read l r → Read (l ++ x ∷ []) (byte_after r x)
byte_reads l r x (bad e) = rw e (bad (unfold byte_after in refl))
byte_reads l r x (good e v is text) =
    rw is (unfold byte_after figure_of in go (eqb x 32) (ltb x 48) (ltb x 58) refl refl refl)
  where
    s : Reading
    s = record { ended = e; value = v }

    go : (t u w : Bool) → eqb x 32 ≡ t → ltb x 48 ≡ u → ltb x 58 ≡ w
        → Read (l ++ x ∷ []) (cond t (blank_after s)
        (option_and_then (digit_after s) (cond u None (cond w (Some (x - 48)) None))))
    go true u w p q z =
        subst (λ (n : ℕ). Read (l ++ n ∷ []) (blank_after s)) (sym (eqb-true x 32 p))
        (unfold blank_after in blank_reads l e v text)
    go false true w p q z = bad refl
    go false false true p q z =
        let lo : 48 ≤ x = ltb-false x 48 q in
        let hi : x < 58 = ltb-true x 58 z in
        let is : 48 + (x - 48) ≡ x = omega arith in
        subst (λ (n : ℕ). Read (l ++ n ∷ []) (digit_after s (x - 48))) is (digit_reads l e (x - 48) (omega arith) v text)
    go false false false p q z = bad refl

all_read : (xs l : List ℕ) (r : Option Reading) → Read l r → Read (l ++ xs) (bytes_after r xs)
unfolding bytes_after
all_read [] l r h = subst (λ (x : List ℕ). Read x r) (sym (append-nil l)) h
all_read (x ∷ xs) l r h =
    subst (λ (y : List ℕ). Read y (bytes_after (byte_after r x) xs)) (append_assoc l (x ∷ []) xs)
    (all_read xs (l ++ x ∷ []) (byte_after r x) (byte_reads l r x h))

line_read : (l : List ℕ) → Read l (bytes_after (Some start_of) l)
line_read l =
    all_read l [] (Some start_of) (good NoneYet None (unfold start_of in refl) (unfold front_text part_text in refl))

joined : (a b c : ℕ) → text_of (Second a b) (Some c) ≡ three_text a b c
unfolding front_text part_text
joined a b c = simp append_assoc

three_at : (l : List ℕ) (e : Ended) (v : Option ℕ) (a b c : ℕ) → l ≡ text_of e v → closing v e ≡ Some (Three a b c)
    → l ≡ three_text a b c
unfolding closing front_text part_text
three_at l (Second x y) (Some z) a b c is h =
    let f : x ≡ a = cc in
    let g : y ≡ b = cc in
    let w : z ≡ c = cc in
    is ∙ joined x y z ∙ rw (f, g, w)
three_at l (First x) (Some z) a b c is h = cc
three_at l NoneYet (Some z) a b c is h = cc
three_at l e None a b c is h = cc

one_at : (l : List ℕ) (e : Ended) (v : Option ℕ) (n : ℕ) → l ≡ text_of e v → closing v e ≡ Some (One n) → l ≡ decimal 19 n
unfolding closing front_text part_text
one_at l NoneYet (Some z) n is h = let w : z ≡ n = cc in is ∙ ap (λ (m : ℕ). decimal 19 m) w
one_at l (First x) (Some z) n is h = cc
one_at l (Second x y) (Some z) n is h = cc
one_at l e None n is h = cc

module _ (l : List ℕ) (r : Option Reading) where
  three_of : (a b c : ℕ) → Read l r → line_of r ≡ Some (Three a b c) → l ≡ three_text a b c
  three_of a b c (bad e) f = let g = rw e at f in absurd (none (unfold line_of in g))
    where
      none : None ≡ Some (Three a b c) → ⊥
      none g = cc
  three_of a b c (good e v is text) f = three_at l e v a b c text (unfold line_of in rw is at f)

  one_of : (n : ℕ) → Read l r → line_of r ≡ Some (One n) → l ≡ decimal 19 n
  one_of n (bad e) f = let g = rw e at f in absurd (none (unfold line_of in g))
    where
      none : None ≡ Some (One n) → ⊥
      none g = cc
  one_of n (good e v is text) f = one_at l e v n text (unfold line_of in rw is at f)

pub three_written : (l : List ℕ) (a b c : ℕ) → read_line l ≡ Some (Three a b c) → l ≡ three_text a b c
unfolding read_line
three_written l a b c e = three_of l (bytes_after (Some start_of) l) a b c (line_read l) e

pub one_written : (l : List ℕ) (n : ℕ) → read_line l ≡ Some (One n) → l ≡ decimal 19 n
unfolding read_line
one_written l n e = one_of l (bytes_after (Some start_of) l) n (line_read l) e
