-- A try at one line, and the lines one after the other. Assumes nothing.
use Prim.Native.Nat.{ℕ, suc, ◌+◌, ◌-◌, ◌*◌, ◌/◌, ◌%◌, ◌^◌, ◌≤◌, ◌<◌}
use mathlib.Core.Path.{◌≡◌, refl, sym, ap, ◌∙◌}
use mathlib.Core.Bool.{Bool, true, false, ◌&&◌, cond}
use mathlib.Core.List.{List}
use native.Mathlib.Numerals.{add-one}
use native.Mathlib.Omega.{arith}
use borrow.Author.Tests.{le-leb, lt-leb, eq-eqb, ne_eqb}
use borrow.Rule.Slice.PartMut.{mid_of, put_mid, mid_len}
use lib.Dec.{eqb, leb}
use lib.ListN.{length, take, drop, set, replicate}
use lib.Seq.{sets-eq, take_at}
use Rattle.limbs.specs.Copied.{copied_over, copied_is}
use Rattle.limbs.specs.Value.{value_of, limbs_of, length_limbs}
use Rattle.exact.specs.Exact.{held_by}
use Rattle.listing_read.specs.Lines.{same}
use Rattle.writing.specs.Written.{Tried, tried_put, put_length}
use Rattle.report_text.specs.Text.{slot_line, exact_line, sum_line, held_at, tally_at}
use Rattle.report_read.specs.Reading.{trailing, said_sum, with_sum, placed, fits_at, tried_at}
use Rattle.report_read.specs.Reading.{take_line, took, bad, line_taken, answer_of, words_of}
use Rattle.std.specs.Prelude.{Option, Some, None}
use Rattle.report_read.specs.PlacedLaws.{slot_placed, slot_fits, exact_placed, exact_fits, sum_placed, sum_fits}

-- ---- what was written at the start of a buffer
pub front : (room : ℕ) (o text out : List ℕ) (n : ℕ) → length o ≡ room → length text ≤ room → Tried room o 0 text out n
    → (n ≤ length out) × (take n out ≡ text)
front room o text out n l h t =
    let p = tried_put {room = room} (omega arith) t in
    let k : n ≡ length text = omega (arith, p.place) in
    let rest : List ℕ = drop (0 + length text) o in
    (omega (arith, put_length p), ap (take n) (p.bytes ∙ sets-eq text o 0 (omega arith)) ∙ take_at text rest n (sym k))

-- ---- tallies
pub tally_low : (q : ℕ) → q % 32 < 1 → false ≡ tally_at q
unfolding tally_at
tally_low q h = rw (lt-leb 1 (q % 32) h)

pub tally_rest : (q : ℕ) → 1 ≤ q % 32 → leb (q % 32) 27 ≡ tally_at q
unfolding tally_at
tally_rest q h = rw (le-leb 1 (q % 32) h)

pub out_tally : {t : Bool} (q n : ℕ) → t ≡ tally_at q → t ≡ true → eqb n 0 ≡ (tally_at q && eqb n 0)
out_tally q n e h = rw (sym e ∙ h)

pub out_not : {t : Bool} (q n : ℕ) → t ≡ tally_at q → t ≡ false → false ≡ (tally_at q && eqb n 0)
out_not q n e h = rw (sym e ∙ h)

-- ---- a try: what it answers, and the words after it
abbrev pub Tries : List ℕ → ℕ → List ℕ → Bool → List ℕ → Type 0
Tries ws q line r after = (r ≡ fits_at ws q line) × (after ≡ tried_at ws q line)

missed : (ws : List ℕ) (q : ℕ) (line : List ℕ) → fits_at ws q line ≡ false → Tries ws q line false ws
unfolding tried_at
missed ws q line e = (sym e, rw e)

hit : (ws : List ℕ) (q : ℕ) (line after : List ℕ) → fits_at ws q line ≡ true → after ≡ placed ws q line
    → Tries ws q line true after
unfolding tried_at
hit ws q line after e f = (sym e, rw e f)

module _ (ws : List ℕ) (q : ℕ) (line : List ℕ) (l : length ws ≡ 384) (k : q < 192) where
  module _ (n : ℕ) (h : q % 32 < 30) (e : n ≡ trailing 10 (2 ^ 64) 0 line) where
    pub slot_out : {t : Bool} → t ≡ (tally_at q && eqb n 0) → t ≡ true → Tries ws q line false ws
    slot_out i j = missed ws q line (slot_fits ws q line n l k h e ∙ rw (sym i ∙ j))

    pub slot_hit : {t s : Bool} → t ≡ (tally_at q && eqb n 0) → t ≡ false → s ≡ same (slot_line (q / 32 + 1) (q % 32) n) line
        → s ≡ true → Tries ws q line true (set ws (q / 32 * 64 + q % 32) n)
    slot_hit i j p r =
        hit ws q line (set ws (q / 32 * 64 + q % 32) n) (slot_fits ws q line n l k h e ∙ rw (sym i ∙ j, sym p ∙ r))
        (sym (slot_placed ws q line n h e))

    pub slot_missed : {t s : Bool} → t ≡ (tally_at q && eqb n 0) → t ≡ false → s ≡ same (slot_line (q / 32 + 1) (q % 32) n) line
        → s ≡ false → Tries ws q line false ws
    slot_missed i j p r = missed ws q line (slot_fits ws q line n l k h e ∙ rw (sym i ∙ j, sym p ∙ r))

  module _ (said : List ℕ) (h : q % 32 ≡ 30) (e : said ≡ limbs_of 34 (said_sum line)) where
    held_said : held_by said ≡ value_of (limbs_of 34 (said_sum line))
    unfolding held_by
    held_said = rw (e, length_limbs 34 (said_sum line))

    fits_said : {s : Bool} → s ≡ same (exact_line (q / 32 + 1) (held_by said)) line → s ≡ fits_at ws q line
    fits_said p =
        p ∙ ap (λ (v : ℕ). same (exact_line (q / 32 + 1) v) line) held_said ∙ sym (exact_fits ws q line l k h)

    pub exact_hit : {s : Bool} (ys : List ℕ) → s ≡ same (exact_line (q / 32 + 1) (held_by said)) line → s ≡ true
        → ys ≡ copied_over (mid_of (q / 32 * 64 + 30) (q / 32 * 64 + 30 + 34 - (q / 32 * 64 + 30)) ws) said
        → Tries ws q line true (put_mid (q / 32 * 64 + 30) (q / 32 * 64 + 30 + 34 - (q / 32 * 64 + 30)) ws ys)
    unfolding with_sum
    exact_hit ys p r y =
        let a = q / 32 * 64 + 30 in
        let past : a + 34 - a ≡ 34 = omega arith in
        let many : length (mid_of a (a + 34 - a) ws) ≡ length said =
        mid_len a (a + 34) ws (omega arith) ∙ past ∙ sym (ap length e ∙ length_limbs 34 (said_sum line)) in
        hit ws q line (put_mid a (a + 34 - a) ws ys) (sym (fits_said p) ∙ r)
        (rw (past, y ∙ copied_is (mid_of a (a + 34 - a) ws) said many ∙ e) (sym (exact_placed ws q line h)))

    pub exact_missed : {s : Bool} → s ≡ same (exact_line (q / 32 + 1) (held_by said)) line → s ≡ false → Tries ws q line false ws
    exact_missed p r = missed ws q line (sym (fits_said p) ∙ r)

  module _ (h : 30 < q % 32) where
    part_held : held_by (mid_of (q / 32 * 64 + 30) (q / 32 * 64 + 30 + 34 - (q / 32 * 64 + 30)) ws) ≡ held_at ws q
    unfolding held_at held_by
    part_held =
        let a = q / 32 * 64 + 30 in
        let past : a + 34 - a ≡ 34 = omega arith in
        rw (eq-eqb (length (mid_of a (a + 34 - a) ws)) 34 (mid_len a (a + 34) ws (omega arith) ∙ past), past)

    pub sum_tried : {s : Bool}
        → s ≡ same (sum_line (q / 32 + 1) (held_by (mid_of (q / 32 * 64 + 30) (q / 32 * 64 + 30 + 34 - (q / 32 * 64 + 30)) ws))) line
        → s ≡ fits_at ws q line
    sum_tried p =
        p ∙ ap (λ (v : ℕ). same (sum_line (q / 32 + 1) v) line) part_held ∙ sym (sum_fits ws q line h)

    -- the words stay
    pub sum_stays : ws ≡ tried_at ws q line
    unfolding tried_at
    sum_stays = rw (sum_placed ws q line h) (both (fits_at ws q line))
      where
        both : (t : Bool) → ws ≡ cond t ws ws
        both true = refl
        both false = refl

-- ---- the lines one after the other
module _ (q : ℕ) (ws line : List ℕ) where
  pub no_report : (length ws ≡ 384 → ⊥) → line_taken q ws line ≡ bad
  unfolding line_taken
  no_report h = rw (ne_eqb (length ws) 384 h)

  module _ (k : ℕ) (l : length ws ≡ 384) (i : take_line k (192 - k) ws line ≡ take_line q (192 - q) ws line) where
    pub take_found : {t : Bool} → k < 192 → t ≡ fits_at ws k line → t ≡ true → line_taken q ws line
        ≡ took (k + 1) (placed ws k line)
    unfolding line_taken take_line
    take_found h e f =
        let s : 192 - k ≡ suc (192 - (k + 1)) = omega arith in
        rw (eq-eqb (length ws) 384 l) (sym i ∙ rw (s, sym e ∙ f, add-one))

    pub take_stop : {t u : Bool} → k < 192 → t ≡ fits_at ws k line → t ≡ false → u ≡ tally_at k → u ≡ false → line_taken q ws line
        ≡ bad
    unfolding line_taken take_line
    take_stop h e f g j =
        let s : 192 - k ≡ suc (192 - (k + 1)) = omega arith in
        rw (eq-eqb (length ws) 384 l) (sym i ∙ rw (s, sym e ∙ f, sym g ∙ j))

    pub take_on : {t u : Bool} → k < 192 → t ≡ fits_at ws k line → t ≡ false → u ≡ tally_at k → u ≡ true
        → take_line (k + 1) (192 - (k + 1)) ws line ≡ take_line q (192 - q) ws line
    unfolding take_line
    take_on h e f g j =
        let s : 192 - k ≡ suc (192 - (k + 1)) = omega arith in
        sym (rw (s, sym e ∙ f, sym g ∙ j, add-one)) ∙ i

    pub take_spent : 192 ≤ k → line_taken q ws line ≡ bad
    unfolding line_taken take_line
    take_spent h =
        let s : 192 - k ≡ 0 = omega arith in
        rw (eq-eqb (length ws) 384 l) (sym i ∙ rw s)

pub tried_hit : {t : Bool} (ws : List ℕ) (q : ℕ) (line : List ℕ) → t ≡ fits_at ws q line → t ≡ true → tried_at ws q line
    ≡ placed ws q line
unfolding tried_at
tried_hit ws q line e f = rw (sym e ∙ f)

pub tried_missed : {t : Bool} (ws : List ℕ) (q : ℕ) (line : List ℕ) → t ≡ fits_at ws q line → t ≡ false → tried_at ws q line ≡ ws
unfolding tried_at
tried_missed ws q line e f = rw (sym e ∙ f)

-- ---- what is answered
module _ (q : ℕ) (ws line : List ℕ) where
  abbrev pub Takes : Option ℕ → List ℕ → Type 0
  Takes r after = (r ≡ answer_of (line_taken q ws line)) × (after ≡ words_of ws (line_taken q ws line))

  pub takes_bad : (after : List ℕ) → after ≡ ws → line_taken q ws line ≡ bad → Takes None after
  unfolding answer_of words_of
  takes_bad after f e = rw e (refl, f)

  pub takes_line : (k : ℕ) (vs after : List ℕ) → after ≡ vs → line_taken q ws line ≡ took k vs → Takes (Some k) after
  unfolding answer_of words_of
  takes_line k vs after f e = rw e (refl, f)

  module _ {t : Bool} (k : ℕ) (vs after : List ℕ) (v : vs ≡ ws) (l : length ws ≡ 384) (h : k < 192)
      (i : take_line k (192 - k) ws line ≡ take_line q (192 - q) ws line) (e : t ≡ fits_at vs k line)
      (f : after ≡ tried_at vs k line) where
    fits_too : t ≡ fits_at ws k line
    fits_too = e ∙ ap (λ (us : List ℕ). fits_at us k line) v

    tried_too : after ≡ tried_at ws k line
    tried_too = f ∙ ap (λ (us : List ℕ). tried_at us k line) v

    pub takes_found : t ≡ true → Takes (Some (k + 1)) after
    takes_found p =
        takes_line (k + 1) (placed ws k line) after (tried_too ∙ tried_hit ws k line fits_too p)
        (take_found q ws line k l i h fits_too p)

    pub stays : t ≡ false → after ≡ ws
    stays p = tried_too ∙ tried_missed ws k line fits_too p

    pub takes_none : {u : Bool} → t ≡ false → u ≡ tally_at k → u ≡ false → Takes None after
    takes_none p g j = takes_bad after (stays p) (take_stop q ws line k l i h fits_too p g j)

    pub goes_on : {u : Bool} → t ≡ false → u ≡ tally_at k → u ≡ true
        → take_line (k + 1) (192 - (k + 1)) ws line ≡ take_line q (192 - q) ws line
    goes_on p g j = take_on q ws line k l i h fits_too p g j

-- ---- words that are zero
pub zeros : value_of (replicate 34 0) ≡ 0
unfolding value_of
zeros = refl
