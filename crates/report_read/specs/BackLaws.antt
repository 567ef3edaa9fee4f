-- A report's text gives the report back, so it determines it. Assumes nothing.
use Prim.Native.Nat.{ℕ, zero, suc, ◌+◌, ◌-◌, ◌*◌, ◌/◌, ◌%◌, ◌^◌, ◌≤◌, ◌<◌}
use Rattle.std.proofs.Math.Path.{◌≡◌, refl, sym, ap}
use Rattle.std.proofs.Common.{◌∙◌, subst, zero-add, suc-add, length-append, pow_pos, get_or-take, get_or-drop}
use Rattle.std.specs.Prelude.{Bool, not, ◌&&◌, cond, drop, set}
use Rattle.std.proofs.Math.Bool.{true, false}
use mathlib.Core.List.{List, ◌∷◌, ◌++◌, append_assoc, append-nil}
use Rattle.std.proofs.Math.Logic.{inl, inr}
use native.Mathlib.Omega.{arith}
use borrow.Author.Tests.{leb-true, le-leb, lt-leb, lt-ltb, le-ltb, eq-eqb, ne_eqb, eqb-true}
use Rattle.std.proofs.Math.Dec.{eqb, leb}
use Rattle.std.proofs.Math.ListN.{length, get_or, take, replicate, length-replicate, length-drop, get_or-eq_default}
use Rattle.std.proofs.Math.Seq.{take-suc, take-add, take_all, take_at, drop_at, length-take-le, append_snoc}
use Rattle.std.proofs.lemmas.List.{set_at}
use Rattle.algebra.specs.Order.{lt_or_le}
use Rattle.limbs.specs.Value.{value_of, limbs_of, room, Words, held_in, value_held, value_bound}
use Rattle.exact.specs.Exact.{turn}
use Rattle.listing_read.specs.Lines.{same}
use Rattle.listing_read.specs.LineLaws.{same_own}
use Rattle.report_text.specs.Text.{slot_line, exact_line, sum_line, held_at, line_at, tally_at, left_out, lines_from}
use Rattle.report_read.specs.Reading.{trailing, said_sum, with_sum, placed, fits_at}
use Rattle.report_read.specs.Reading.{After, took, take_line, take_lines, no_words}
use Rattle.report_read.specs.PlacedLaws.{slot_placed, slot_fits, exact_placed, exact_fits, sum_placed, sum_fits}
use Rattle.report_read.specs.EndLaws.{slot_end, exact_end}
use Rattle.report_read.specs.KeyLaws.{lines_differ}

-- ---- the first k words, and zeros
shown : ℕ → List ℕ → List ℕ
shown k ws = take k ws ++ replicate (384 - k) 0

drop_zeros : (n m : ℕ) → drop n (replicate (n + m) 0) ≡ replicate {A = ℕ} m 0
drop_zeros zero m = rw zero-add
drop_zeros (suc n) m = rw suc-add (drop_zeros n m)

module _ (ws : List ℕ) (l : length ws ≡ 384) where
  shown_length : (k : ℕ) → k ≤ 384 → length (shown k ws) ≡ 384
  unfolding shown
  shown_length k h =
      rw (length-append, length-replicate, length-take-le k ws (omega arith)) (omega arith)

  shown_all : shown 384 ws ≡ ws
  unfolding shown
  shown_all = append-nil (take 384 ws) ∙ take_all 384 ws (omega arith)

  -- a word more
  shown_set : (k : ℕ) → k < 384 → set (shown k ws) k (get_or ws k 0) ≡ shown (suc k) ws
  unfolding shown
  shown_set k h =
      let m = 384 - suc k in
      let e : 384 - k ≡ suc m = omega arith in
      let t : length (take k ws) ≡ k = length-take-le k ws (omega arith) in
      rw (e, take-suc ws k 0 (omega arith))
      (set_at (take k ws) 0 (replicate m 0) (get_or ws k 0) k t ∙ sym (append_snoc (take k ws) (get_or ws k 0) (replicate m 0)))

  shown_zero : (k : ℕ) → k < 384 → get_or ws k 0 ≡ 0 → shown (suc k) ws ≡ shown k ws
  unfolding shown
  shown_zero k h z =
      let m = 384 - suc k in
      let e : 384 - k ≡ suc m = omega arith in
      rw (e, take-suc ws k 0 (omega arith), z) (append_snoc (take k ws) 0 (replicate m 0))

  -- 34 words more
  module _ (q : ℕ) (h : q < 192) where
    abbrev a : ℕ
    a = q / 32 * 64 + 30

    sum_words_lem : List ℕ
    sum_words_lem = take 34 (drop a ws)

    sum_length : length sum_words_lem ≡ 34
    unfolding sum_words_lem
    sum_length = length-take-le 34 (drop a ws) (rw length-drop (omega arith))

    shown_sum : with_sum (shown a ws) q sum_words_lem ≡ shown (a + 34) ws
    unfolding shown with_sum sum_words_lem
    shown_sum =
        let m = 384 - (a + 34) in
        let e : 384 - a ≡ 34 + m = omega arith in
        let t : length (take a ws) ≡ a = length-take-le a ws (omega arith) in
        rw (
          e,
          take_at (take a ws) (replicate (34 + m) 0) a t,
          drop_at (take a ws) (replicate (34 + m) 0) a t,
          drop_zeros 34 m,
          take-add a 34 ws,
        )
        (sym (append_assoc (take a ws) (take 34 (drop a ws)) (replicate m 0)))

    shown_held : held_at (shown (a + 34) ws) q ≡ held_at ws q
    unfolding shown held_at
    shown_held =
        let m = 384 - (a + 34) in
        let t : length (take a ws) ≡ a = length-take-le a ws (omega arith) in
        let s : length (take 34 (drop a ws)) ≡ 34 = length-take-le 34 (drop a ws) (rw length-drop (omega arith)) in
        rw (
          take-add a 34 ws,
          append_assoc (take a ws) (take 34 (drop a ws)) (replicate m 0),
          drop_at (take a ws) (take 34 (drop a ws) ++ replicate m 0) a t,
          take_at (take 34 (drop a ws)) (replicate m 0) 34 s,
        )

    module _ (w : Words ws) where
      words_in : Words (drop a ws)
      words_in i = rw get_or-drop (w (a + i))

      held_lt : held_at ws q < turn
      unfolding held_at turn
      held_lt = value_bound 34 (drop a ws) words_in

      -- the words of the number that they hold
      held_words : limbs_of 34 (held_at ws q) ≡ sum_words_lem
      unfolding held_at sum_words_lem
      held_words =
          let xs : List ℕ = take 34 (drop a ws) in
          let e : value_of xs + 0 * room (length xs) ≡ value_of xs = omega arith in
          sym (held_in xs 0 (value_of xs) taken e ∙ ap (λ (n : ℕ). limbs_of n (value_of xs)) sum_length)
        where
          past : (i : ℕ) → 34 ≤ i → length (take 34 (drop a ws)) ≤ i
          past i k = rw sum_length k

          taken : Words (take 34 (drop a ws))
          taken i = elim (lt_or_le i 34) [
            | inl k ↦ rw (get_or-take 34 (drop a ws) i 0 k) (words_in i)
            | inr k ↦ rw (get_or-eq_default (take 34 (drop a ws)) 0 {n = i} (past i k)) (pow_pos 64)
          ]

      value_back : value_of (limbs_of 34 (held_at ws q)) ≡ held_at ws q
      unfolding turn
      value_back = value_held 34 (held_at ws q) held_lt

-- ---- the three kinds of lines
slot_line_lem : (ws : List ℕ) (q : ℕ) → q % 32 < 30
    → line_at ws q ≡ slot_line (q / 32 + 1) (q % 32) (get_or ws (q / 32 * 64 + q % 32) 0)
unfolding line_at
slot_line_lem ws q h = rw (lt-ltb (q % 32) 30 h)

exact_line_lem : (ws : List ℕ) (q : ℕ) → q % 32 ≡ 30 → line_at ws q ≡ exact_line (q / 32 + 1) (held_at ws q)
unfolding line_at
exact_line_lem ws q h = rw (le-ltb (q % 32) 30 (omega arith), eq-eqb (q % 32) 30 h)

sum_line_lem : (ws : List ℕ) (q : ℕ) → 30 < q % 32 → line_at ws q ≡ sum_line (q / 32 + 1) (held_at ws q)
unfolding line_at
sum_line_lem ws q h = rw (le-ltb (q % 32) 30 (omega arith), ne_eqb (q % 32) 30 (λ e. omega arith))

-- ---- how many words the lines before q say
known : ℕ → ℕ
known q = q / 32 * 64 + cond (leb (q % 32) 30) (q % 32) 64

known_in : (q : ℕ) → q % 32 ≤ 30 → known q ≡ q / 32 * 64 + q % 32
unfolding known
known_in q h = rw (le-leb (q % 32) 30 h)

known_last : (q : ℕ) → 30 < q % 32 → known q ≡ q / 32 * 64 + 64
unfolding known
known_last q h = rw (lt-leb (q % 32) 30 h)

slot_known : (q : ℕ) → q % 32 < 30 → known (suc q) ≡ suc (q / 32 * 64 + q % 32)
slot_known q h = known_in (suc q) (omega arith) ∙ omega arith

sum_known : (q : ℕ) → q % 32 ≡ 30 → known (suc q) ≡ q / 32 * 64 + 30 + 34
sum_known q h = known_last (suc q) (omega arith) ∙ omega arith

last_known : (q : ℕ) → 30 < q % 32 → known (suc q) ≡ q / 32 * 64 + 30 + 34
last_known q h = known_in (suc q) (omega arith) ∙ omega arith

known_most : (q : ℕ) → q ≤ 192 → known q ≤ 384
known_most q h = elim (lt_or_le 30 (q % 32)) [
  | inl k ↦ omega (arith, known_last q k)
  | inr k ↦ omega (arith, known_in q k)
]

-- the words after them
upto : ℕ → List ℕ → List ℕ
upto q ws = shown (known q) ws

module _ (ws : List ℕ) (l : length ws ≡ 384) (w : Words ws) where
  upto_length : (q : ℕ) → q ≤ 192 → length (upto q ws) ≡ 384
  unfolding upto
  upto_length q h = shown_length ws l (known q) (known_most q h)

  -- ---- a line that is there is taken
  record Step (q : ℕ) (line : List ℕ) : Type 0 where
    fits : fits_at (upto q ws) q line ≡ true
    after : placed (upto q ws) q line ≡ upto (suc q) ws

  slot_step : (q : ℕ) → q < 192 → q % 32 < 30 → left_out ws q ≡ false
      → Step q (slot_line (q / 32 + 1) (q % 32) (get_or ws (q / 32 * 64 + q % 32) 0))
  unfolding upto left_out
  slot_step q h k e =
      let p = q / 32 * 64 + q % 32 in
      let n = get_or ws p 0 in
      let f = q / 32 + 1 in
      let line : List ℕ = slot_line f (q % 32) n in
      let t : n ≡ trailing 10 (2 ^ 64) 0 line = sym (slot_end f (q % 32) n (w p)) in
      let i : known q ≡ p = known_in q (omega arith) in
      let vs : List ℕ = shown (known q) ws in
      record {
        fits =
            slot_fits vs q line n (shown_length ws l (known q) (known_most q (omega arith))) h k t ∙ rw (e, same_own line);
        after =
            slot_placed vs q line n k t
            ∙ rw (i, slot_known q k) (shown_set ws l p (omega arith));
      }

  exact_step : (q : ℕ) → q < 192 → q % 32 ≡ 30 → Step q (exact_line (q / 32 + 1) (held_at ws q))
  unfolding upto
  exact_step q h k =
      let v = held_at ws q in
      let line : List ℕ = exact_line (q / 32 + 1) v in
      let s : said_sum line ≡ v = exact_end (q / 32 + 1) v (held_lt ws l q h w) in
      let i : known q ≡ q / 32 * 64 + 30 = known_in q (omega arith) ∙ omega arith in
      let vs : List ℕ = shown (known q) ws in
      record {
        fits =
            exact_fits vs q line (shown_length ws l (known q) (known_most q (omega arith))) h k
            ∙ rw (s, value_back ws l q h w) (same_own line);
        after =
            exact_placed vs q line k ∙ rw (s, held_words ws l q h w, i, sum_known q k) (shown_sum ws l q h);
      }

  sum_step : (q : ℕ) → q < 192 → 30 < q % 32 → Step q (sum_line (q / 32 + 1) (held_at ws q))
  unfolding upto
  sum_step q h k =
      let line : List ℕ = sum_line (q / 32 + 1) (held_at ws q) in
      let i : known q ≡ q / 32 * 64 + 30 + 34 = known_last q k ∙ omega arith in
      let vs : List ℕ = shown (known q) ws in
      record {
        fits = sum_fits vs q line k ∙ rw (i, shown_held ws l q h) (same_own line);
        after = sum_placed vs q line k ∙ rw (i, last_known q k);
      }

  step : (q : ℕ) → q < 192 → left_out ws q ≡ false → Step q (line_at ws q)
  step q h e = elim (lt_or_le (q % 32) 30) [
    | inl k ↦ subst (Step q) (sym (slot_line_lem ws q k)) (slot_step q h k e)
    | inr k ↦ elim (lt_or_le 30 (q % 32)) [
      | inl j ↦ subst (Step q) (sym (sum_line_lem ws q j)) (sum_step q h j)
      | inr j ↦
          let i : q % 32 ≡ 30 = omega arith in
          subst (Step q) (sym (exact_line_lem ws q i)) (exact_step q h i)
    ]
  ]

  -- ---- a line that is left out changes nothing
  record Out (q : ℕ) : Type 0 where
    least : 1 ≤ q % 32
    most : q % 32 ≤ 27
    nothing : get_or ws (q / 32 * 64 + q % 32) 0 ≡ 0

  is_out : (q : ℕ) → left_out ws q ≡ true → Out q
  unfolding left_out tally_at
  is_out q e = go (leb 1 (q % 32)) (leb (q % 32) 27) (eqb (get_or ws (q / 32 * 64 + q % 32) 0) 0) refl refl refl e
    where
      go : (a b c : Bool) → leb 1 (q % 32) ≡ a → leb (q % 32) 27 ≡ b → eqb (get_or ws (q / 32 * 64 + q % 32) 0) 0 ≡ c
          → ((a && b) && c) ≡ true → Out q
      go true true true x y z e =
          record {
            least = leb-true 1 (q % 32) x;
            most = leb-true (q % 32) 27 y;
            nothing = eqb-true
                (get_or ws (q / 32 * 64 + q % 32) 0) 0 z;
          }
      go true true false x y z e = let o : ◌≡◌ {A = ℕ} 0 1 = cc in absurd (omega arith)
      go true false c x y z e = let o : ◌≡◌ {A = ℕ} 0 1 = cc in absurd (omega arith)
      go false b c x y z e = let o : ◌≡◌ {A = ℕ} 0 1 = cc in absurd (omega arith)

  out_same : (q : ℕ) → q < 192 → Out q → upto (suc q) ws ≡ upto q ws
  unfolding upto
  out_same q h o =
      let p = q / 32 * 64 + q % 32 in
      let k : q % 32 ≤ 27 = o.most in
      rw (slot_known q (omega arith), known_in q (omega arith)) (shown_zero ws l p (omega arith) o.nothing)

-- ---- the lines from q₀ on that were left out before the line q
record Gap (q₀ q : ℕ) : Type 0 where
  ordered : q₀ ≤ q
  block : q₀ < q → q₀ / 32 ≡ q / 32
  least : q₀ < q → 1 ≤ q₀ % 32
  most : q₀ < q → q % 32 ≤ 28

no_gap : (q : ℕ) → Gap q q
no_gap q = record { ordered = omega arith; block = λ h. omega arith; least = λ h. omega arith; most = λ h. omega arith }

more_gap : (q₀ q : ℕ) → 1 ≤ q % 32 → q % 32 ≤ 27 → Gap q₀ q → Gap q₀ (suc q)
more_gap q₀ q h k g = elim (lt_or_le q₀ q) [
  | inl i ↦
      let b = g.block i in
      let s = g.least i in
      record { ordered = omega arith; block = λ j. omega arith; least = λ j. omega arith; most = λ j. omega arith }
  | inr i ↦
      let o : q₀ ≤ q = g.ordered in
      record { ordered = omega arith; block = λ j. omega arith; least = λ j. omega arith; most = λ j. omega arith }
]

-- a line is not taken for one that was left out before it
passed : (vs : List ℕ) (q j n : ℕ) → length vs ≡ 384 → q < 192 → j < q → j / 32 ≡ q / 32 → 1 ≤ j % 32 → q % 32 ≤ 28
    → take_line j (192 - j) vs (slot_line (q / 32 + 1) (q % 32) n)
    ≡ take_line (suc j) (192 - suc j) vs (slot_line (q / 32 + 1) (q % 32) n)
unfolding take_line tally_at
passed vs q j n l h i b k m =
    let line : List ℕ = slot_line (q / 32 + 1) (q % 32) n in
    let u = trailing 10 (2 ^ 64) 0 line in
    let s : 192 - j ≡ suc (192 - suc j) = omega arith in
    let d : same (slot_line (j / 32 + 1) (j % 32) u) line ≡ false =
    ap (λ (f : ℕ). same (slot_line (f + 1) (j % 32) u) line) b
    ∙ lines_differ (q / 32 + 1) (q % 32) (j % 32) u n k (omega arith) m in
    let f : fits_at vs j line ≡ false =
    slot_fits vs j line u l (omega arith) (omega arith) refl ∙ rw d (never (not (tally_at j && eqb u 0))) in
    rw (s, f, le-leb 1 (j % 32) k, le-leb (j % 32) 27 (omega arith))
  where
    never : (t : Bool) → (t && false) ≡ false
    never true = refl
    never false = refl

skip : (vs : List ℕ) (d q q₀ n : ℕ) → d + q₀ ≡ q → length vs ≡ 384 → q < 192 → Gap q₀ q
    → take_line q₀ (192 - q₀) vs (slot_line (q / 32 + 1) (q % 32) n) ≡ take_line q (192 - q) vs (slot_line (q / 32 + 1) (q % 32) n)
skip vs zero q q₀ n e l h g = let f : q₀ ≡ q = omega arith in rw f
skip vs (suc d) q q₀ n e l h g =
    let i : q₀ < q = omega arith in
    let b = g.block i in
    let s = g.least i in
    let m = g.most i in
    passed vs q q₀ n l h i b s m
    ∙ skip vs d q (suc q₀) n (omega arith) l h
    (record { ordered = omega arith; block = λ j. omega arith; least = λ j. omega arith; most = λ j. m })

-- ---- THE LAW: all lines one after the other give the words back
module _ (ws : List ℕ) (l : length ws ≡ 384) (w : Words ws) where
  reached : (q q₀ : ℕ) → q < 192 → Gap q₀ q
      → take_line q₀ (192 - q₀) (upto q ws) (line_at ws q) ≡ take_line q (192 - q) (upto q ws) (line_at ws q)
  reached q q₀ h g = elim (lt_or_le q₀ q) [
    | inl i ↦
        let m = g.most i in
        let o = g.ordered in
        rw (slot_line_lem ws q (omega arith))
        (skip (upto q ws) (q - q₀) q q₀ (get_or ws (q / 32 * 64 + q % 32) 0) (omega arith) (upto_length ws l w q (omega arith)) h g)
    | inr i ↦
        let o = g.ordered in
        let e : q₀ ≡ q = omega arith in
        rw e
  ]

  taken_line : (q q₀ : ℕ) → q < 192 → Gap q₀ q → left_out ws q ≡ false
      → take_line q₀ (192 - q₀) (upto q ws) (line_at ws q) ≡ took (suc q) (upto (suc q) ws)
  unfolding take_line
  taken_line q q₀ h g e =
      let s = step ws l w q h e in
      let f : 192 - q ≡ suc (192 - suc q) = omega arith in
      reached q q₀ h g ∙ rw (f, s.fits, s.after)

  back : (left q q₀ : ℕ) → left + q ≡ 192 → Gap q₀ q → take_lines (took q₀ (upto q ws)) (lines_from q left ws) ≡ took 192 ws
  unfolding take_lines lines_from
  back zero q q₀ e g =
      let n : q ≡ 192 = omega arith in
      let m : q₀ ≡ 192 = whole q q₀ n g in
      rw (m, n) (ap (took 192) ends)
    where
      whole : (q q₀ : ℕ) → q ≡ 192 → Gap q₀ q → q₀ ≡ 192
      whole q q₀ n g = elim (lt_or_le q₀ q) [
        | inl i ↦ let b = g.block i in absurd (omega arith)
        | inr i ↦ let o = g.ordered in omega arith
      ]

      ends : upto 192 ws ≡ ws
      ends = unfold upto known in shown_all ws l
  back (suc left) q q₀ e g = go (left_out ws q) refl (back left (suc q))
    where
      go : (t : Bool) → left_out ws q ≡ t
          → ((r : ℕ) → left + suc q ≡ 192 → Gap r (suc q) → take_lines (took r (upto (suc q) ws)) (lines_from (suc q) left ws)
          ≡ took 192 ws)
          → take_lines (took q₀ (upto q ws)) (cond t (lines_from (suc q) left ws) (line_at ws q ∷ lines_from (suc q) left ws))
          ≡ took 192 ws
      go true t next =
          let o = is_out ws l w q t in
          ap (λ (vs : List ℕ). take_lines (took q₀ vs) (lines_from (suc q) left ws)) (sym (out_same ws l w q (omega arith) o))
          ∙ next q₀ (omega arith) (more_gap q₀ q o.least o.most g)
      go false t next =
          ap (λ (r : After). take_lines r (lines_from (suc q) left ws)) (taken_line q q₀ (omega arith) g t)
          ∙ next (suc q) (omega arith) (no_gap (suc q))

  pub text_back : take_lines (took 0 no_words) (lines_from 0 192 ws) ≡ took 192 ws
  text_back = ap (λ (vs : List ℕ). take_lines (took 0 vs) (lines_from 0 192 ws)) begins ∙ back 192 0 0 refl (no_gap 0)
    where
      begins : no_words ≡ upto 0 ws
      begins = unfold upto known shown in refl

-- "The text determines the report"
pub text_determines : (ws vs : List ℕ) → length ws ≡ 384 → Words ws → length vs ≡ 384 → Words vs
    → lines_from 0 192 ws ≡ lines_from 0 192 vs → ws ≡ vs
text_determines ws vs l w m v e =
    let f : took 192 ws ≡ took 192 vs =
    sym (text_back ws l w) ∙ ap (take_lines (took 0 no_words)) e ∙ text_back vs m v in
    cc
