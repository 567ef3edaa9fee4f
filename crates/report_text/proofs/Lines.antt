-- The lines by their numbers. Assumes nothing.
use Prim.Native.Nat.{ℕ, ◌+◌, ◌-◌, ◌*◌, ◌/◌, ◌%◌, ◌≤◌, ◌<◌}
use mathlib.Core.Path.{◌≡◌, refl, sym, ◌∙◌}
use mathlib.Core.Bool.{Bool, true, false, cond}
use mathlib.Core.List.{List, [], ◌∷◌, ◌++◌}
use native.Mathlib.Nat.{add-zero}
use native.Mathlib.Omega.{arith}
use borrow.Author.Tests.{le-leb, lt-leb, lt-ltb, le-ltb, eq-eqb, ne_eqb}
use borrow.Rule.Slice.PartMut.{mid_of, mid_len}
use lib.Dec.{eqb, leb}
use lib.ListN.{length, get_or}
use Rattle.exact.specs.Exact.{held_by}
use Rattle.writing.specs.Written.{Tried}
use Rattle.report_text.specs.Text.{slot_line, exact_line, sum_line, held_at, line_at, left_out, tally_at, written, line_text}

-- ---- left out
module _ (ws : List ℕ) (q : ℕ) where
  pub calls_in_lem : q % 32 < 1 → false ≡ left_out ws q
  unfolding left_out tally_at
  calls_in_lem h = rw (lt-leb 1 (q % 32) h)

  pub rest_in : 1 ≤ q % 32 → 27 < q % 32 → false ≡ left_out ws q
  unfolding left_out tally_at
  rest_in h k = rw (le-leb 1 (q % 32) h, lt-leb (q % 32) 27 k)

  pub tally_in : 1 ≤ q % 32 → q % 32 ≤ 27 → left_out ws q ≡ eqb (get_or ws (q / 32 * 64 + q % 32) 0) 0
  unfolding left_out tally_at
  tally_in h k = rw (le-leb 1 (q % 32) h, le-leb (q % 32) 27 k)

  -- ---- the line's kind
  pub slot_line_lem : q % 32 < 30 → slot_line (q / 32 + 1) (q % 32) (get_or ws (q / 32 * 64 + q % 32) 0) ≡ line_at ws q
  unfolding line_at
  slot_line_lem h = rw (lt-ltb (q % 32) 30 h)

  held_part : length ws ≡ 384 → q < 192
      → held_by (mid_of (q / 32 * 64 + 30) (q / 32 * 64 + 30 + 34 - (q / 32 * 64 + 30)) ws) ≡ held_at ws q
  unfolding held_at held_by
  held_part l h =
      let a = q / 32 * 64 + 30 in
      let e : a + 34 - a ≡ 34 = omega arith in
      rw (eq-eqb (length (mid_of a (a + 34 - a) ws)) 34 (mid_len a (a + 34) ws (omega arith) ∙ e), e)

  pub exact_line_lem : length ws ≡ 384 → q < 192 → q % 32 ≡ 30
      → exact_line (q / 32 + 1) (held_by (mid_of (q / 32 * 64 + 30) (q / 32 * 64 + 30 + 34 - (q / 32 * 64 + 30)) ws)) ≡ line_at ws q
  unfolding line_at
  exact_line_lem l h e = rw (held_part l h, le-ltb (q % 32) 30 (omega arith), eq-eqb (q % 32) 30 e)

  pub sum_line_lem : length ws ≡ 384 → q < 192 → 30 ≤ q % 32 → (q % 32 ≡ 30 → ⊥)
      → sum_line (q / 32 + 1) (held_by (mid_of (q / 32 * 64 + 30) (q / 32 * 64 + 30 + 34 - (q / 32 * 64 + 30)) ws)) ≡ line_at ws q
  unfolding line_at
  sum_line_lem l h k e = rw (held_part l h, le-ltb (q % 32) 30 k, ne_eqb (q % 32) 30 e)

  -- ---- what is written
  pub no_report : (length ws ≡ 384 → ⊥) → line_text ws q ≡ []
  unfolding line_text written
  no_report h = rw (ne_eqb (length ws) 384 h)

  pub no_line : length ws ≡ 384 → 192 ≤ q → line_text ws q ≡ []
  unfolding line_text written
  no_line l h = rw (eq-eqb (length ws) 384 l, le-ltb q 192 h)

  pub out_line : {t : Bool} → length ws ≡ 384 → q < 192 → t ≡ left_out ws q → t ≡ true → line_text ws q ≡ []
  unfolding line_text written
  out_line l h e k = rw (eq-eqb (length ws) 384 l, lt-ltb q 192 h, sym e ∙ k)

  pub in_line : {t : Bool} → length ws ≡ 384 → q < 192 → t ≡ left_out ws q → t ≡ false → line_text ws q ≡ line_at ws q ++ 10 ∷ []
  unfolding line_text written
  in_line l h e k = rw (eq-eqb (length ws) 384 l, lt-ltb q 192 h, sym e ∙ k)

pub tried_none : (room : ℕ) (o text : List ℕ) (at : ℕ) → text ≡ [] → Tried room o at text o at
tried_none room o text at e = record
    { bytes = rw e (same (leb (at + room) (length o))); place = rw (e, add-zero) (place (leb (at + room) (length o))) }
  where
    same : (t : Bool) → o ≡ cond t o o
    same true = refl
    same false = refl

    place : (t : Bool) → at ≡ cond t at at
    place true = refl
    place false = refl
