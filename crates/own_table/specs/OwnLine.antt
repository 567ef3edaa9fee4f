-- A line of our own listing is read as the claim that its answer is. Assumes nothing.
use Rattle.std.specs.Prelude.{
  ℕ,
  zero,
  suc,
  ◌+◌,
  ◌/◌,
  ◌%◌,
  ◌^◌,
  ◌≤◌,
  ◌<◌,
  ◌≡◌,
  refl,
  Bool,
  true,
  false,
  ◌&&◌,
  cond,
  List,
  [],
  ◌∷◌,
  ◌++◌,
  T,
  ltb,
  Some,
  None,
  Ok,
  Err,
}
use Rattle.std.proofs.Common.{ap, ◌∙◌, append_assoc, arith, le-ltb, ne_eqb, ltb→lt, lit<, lit≤}
use Rattle.std.specs.Float.{binary64}
use Rattle.std.specs.Float.Ieee.{to_bits}
use Rattle.std.specs.Float.Ieee.Fits.{and_l, and_r}
use Rattle.refusals.specs.Numbers.{refusal_number}
use Rattle.carlson.specs.declared.answer.Found.{Found}
use Rattle.carlson.specs.Answer.{Answer}
use Rattle.digits.specs.Digits.{glyph_of, digits, word_text}
use Rattle.digits.proofs.DigitLaws.{digits_length, read_written}
use Rattle.writing.specs.Decimal.{places_of, decimal}
use Rattle.writing.specs.Places.{places_most, places_some, places_hold}
use Rattle.calls.specs.Calls.{name_of}
use Rattle.calls.specs.declared.Call.{Call}
use Rattle.calls.specs.declared.Call.TheVariants.{Rc, Rf, Rd, Rg, Rj, Cel}
use Rattle.listing_read.specs.LineLaws.{same_own}
use Rattle.listing_write.specs.Text.{count_text, road_text, way_text, value_text, refusal_text, after_name, text_of}
use Rattle.claim.specs.Claims.{own_claim}
use Rattle.claim_read.specs.Line.{
  field_of,
  after_field,
  value_of,
  count_of,
  count_claim,
  refused_word,
  refusal_said,
  value_claim,
  said,
  claim_of,
}
use Rattle.claim_read.specs.FieldLaws.{Over, field_is, field_all, after_is}
use Rattle.own_table.specs.OwnAnswers.{Sayable}

-- ---- which bytes a line has
abbrev all_over : ℕ → List ℕ → Bool
all_over k [] = true
all_over k (b ∷ l) = ltb k b && all_over k l

pub over_literal : (k : ℕ) (l : List ℕ) → T (all_over k l) → Over k l
over_literal k [] t = tt
over_literal k (b ∷ l) t = (ltb→lt k b (and_l (ltb k b) (all_over k l) t), over_literal k l (and_r (ltb k b) (all_over k l) t))

pub over_append : (k : ℕ) (l m : List ℕ) → Over k l → Over k m → Over k (l ++ m)
over_append k [] m h g = g
over_append k (b ∷ l) m h g = (h.0, over_append k l m h.1 g)

pub over_less : (k n : ℕ) (l : List ℕ) → k ≤ n → Over n l → Over k l
over_less k n [] e h = tt
over_less k n (b ∷ l) e h = (omega (arith, h.0), over_less k n l e h.1)

glyph_over : (d : ℕ) → 32 < glyph_of d
unfolding glyph_of
glyph_over d = go (ltb d 10)
  where
    go : (t : Bool) → 32 < cond t (48 + d) (55 + d)
    go true = omega arith
    go false = omega arith

pub digits_over : (base k n : ℕ) → Over 32 (digits base k n)
unfolding digits
digits_over base zero n = tt
digits_over base (suc k) n =
    over_append 32 (digits base k (n / base)) (glyph_of (n % base) ∷ []) (digits_over base k (n / base))
    (glyph_over (n % base), tt)

pub name_over : (c : Call) → Over 32 (name_of c)
unfolding name_of
name_over (Rc x y) = over_literal 32 (82 ∷ 67 ∷ []) tt
name_over (Rf x y z) = over_literal 32 (82 ∷ 70 ∷ []) tt
name_over (Rd x y z) = over_literal 32 (82 ∷ 68 ∷ []) tt
name_over (Rg x y z) = over_literal 32 (82 ∷ 71 ∷ []) tt
name_over (Rj x y z p) = over_literal 32 (82 ∷ 74 ∷ []) tt
name_over (Cel kc p a b) = over_literal 32 (67 ∷ 69 ∷ 76 ∷ []) tt

pub decimal_over : (more n : ℕ) → Over 32 (decimal more n)
unfolding decimal
decimal_over more n = digits_over 10 (places_of more n) n

-- ---- a number in decimal is read back
count_back : (n : ℕ) → n < 10 ^ 10 → count_of (decimal 9 n) ≡ Some n
unfolding count_of decimal
count_back n h =
    let k = places_of 9 n in
    rw (
      digits_length,
      ne_eqb k 0 (λ e. omega (arith, places_some 9 n)),
      le-ltb 10 k (places_most 9 n),
    ) (read_written 10 (lit< tt) (lit≤ tt) k 0 n (places_hold 9 n h) ∙ ap Some (omega arith))

word_back : (w : ℕ) → w < 2 ^ 64 → value_of (digits 16 16 w) ≡ Some w
unfolding value_of
word_back w h = rw digits_length (read_written 16 (lit< tt) (lit≤ tt) 16 0 w h ∙ ap Some (omega arith))

-- ---- our own line, without its end
unfoldable pub way_line : Found → List ℕ
way_line f = count_text f.way.rounds 32 ++ (road_text f.road ++ decimal 9 f.way.rescalings)

unfoldable pub said_line : Answer → List ℕ
said_line (Ok f) = digits 16 16 (to_bits binary64 f.value) ++ (32 ∷ way_line f)
said_line (Err r) = refused_word ++ (32 ∷ decimal 9 (refusal_number r))

unfoldable pub own_line : Call → Answer → List ℕ
own_line c a = name_of c ++ (32 ∷ said_line a)

-- what the listing writes is that and the line's end
pub own_text : (c : Call) (a : Answer) → text_of c a ≡ own_line c a ++ 10 ∷ []
unfolding text_of after_name value_text refusal_text way_text word_text count_text own_line said_line way_line
own_text c (Ok f) = simp append_assoc
own_text c (Err r) = simp append_assoc

-- THE LAW
no_value : value_of refused_word ≡ None
unfolding value_of
no_value = refl

said_own : (a : Answer) → Sayable a → said (said_line a) ≡ own_claim a
unfolding said said_line own_claim value_claim refusal_said count_claim
said_own (Ok f) h =
    let w = to_bits binary64 f.value in
    rw (field_is (digits 16 16 w) (way_line f) (digits_over 16 16 w), word_back w h.0)
said_own (Err r) h =
    let n = refusal_number r in
    let plain : Over 32 refused_word = over_literal 32 refused_word tt in
    let d = decimal 9 n in
    let f : field_of (refused_word ++ 32 ∷ d) ≡ refused_word = field_is refused_word d plain in
    let g : field_of (after_field (refused_word ++ 32 ∷ d)) ≡ d =
    ap field_of (after_is refused_word d plain) ∙ field_all d (decimal_over 9 n) in
    rw (f, no_value, f, same_own refused_word, g, count_back n h)

pub claim_own : (c : Call) (a : Answer) → Sayable a → claim_of (name_of c) (own_line c a) ≡ own_claim a
unfolding claim_of own_line
claim_own c a h =
    rw (
      field_is (name_of c) (said_line a) (name_over c),
      same_own (name_of c),
      after_is (name_of c) (said_line a) (name_over c),
    ) (said_own a h)
