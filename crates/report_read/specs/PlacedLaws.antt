-- What a line says, in its place: the line that is written of it there. Assumes nothing.
use Prim.Native.Nat.{ℕ, ◌+◌, ◌*◌, ◌/◌, ◌%◌, ◌^◌, ◌≤◌, ◌<◌}
use Rattle.std.specs.Prelude.{◌≡◌, false, not, ◌&&◌, eqb, take, set}
use mathlib.Core.List.{List, ◌++◌}
use Rattle.std.proofs.Common.{arith, drop_at}
use borrow.Author.Tests.{lt-ltb, le-ltb, eq-eqb, ne_eqb, le-leb, lt-leb}
use Rattle.std.proofs.Math.ListN.{length, drop}
use Rattle.std.proofs.Math.Seq.{get_or-set_same, take_at, length-take-le}
use Rattle.limbs.specs.Value.{value_of, limbs_of, length_limbs}
use Rattle.listing_read.specs.Lines.{same}
use Rattle.report_text.specs.Text.{slot_line, exact_line, sum_line, held_at, line_at, tally_at, left_out}
use Rattle.report_read.specs.Reading.{trailing, said_sum, with_sum, placed, fits_at}

module _ (ws : List ℕ) (q : ℕ) (line : List ℕ) where
  -- ---- a word's line
  pub slot_placed : (n : ℕ) → q % 32 < 30 → n ≡ trailing 10 (2 ^ 64) 0 line → placed ws q line ≡ set ws (q / 32 * 64 + q % 32) n
  unfolding placed
  slot_placed n h e = rw (lt-ltb (q % 32) 30 h, e)

  pub slot_fits : (n : ℕ) → length ws ≡ 384 → q < 192 → q % 32 < 30 → n ≡ trailing 10 (2 ^ 64) 0 line
      → fits_at ws q line ≡ (not (tally_at q && eqb n 0) && same (slot_line (q / 32 + 1) (q % 32) n) line)
  unfolding fits_at left_out line_at
  slot_fits n l k h e =
      let p = q / 32 * 64 + q % 32 in
      rw (slot_placed n h e, lt-ltb (q % 32) 30 h, get_or-set_same ws p n 0 (omega arith))

  -- ---- an exact sum's
  pub held_with : (ss : List ℕ) → length ws ≡ 384 → q < 192 → length ss ≡ 34 → held_at (with_sum ws q ss) q ≡ value_of ss
  unfolding held_at with_sum
  held_with ss l k m =
      let a = q / 32 * 64 + 30 in
      let rest : List ℕ = drop 34 (drop a ws) in
      let n : length (take a ws) ≡ a = length-take-le a ws (omega arith) in
      rw (drop_at (take a ws) (ss ++ rest) a n, take_at ss rest 34 m)

  no_tally_lem : 30 ≤ q % 32 → tally_at q ≡ false
  unfolding tally_at
  no_tally_lem h = rw (le-leb 1 (q % 32) (omega arith), lt-leb (q % 32) 27 (omega arith))

  pub exact_placed : q % 32 ≡ 30 → placed ws q line ≡ with_sum ws q (limbs_of 34 (said_sum line))
  unfolding placed
  exact_placed h = rw (le-ltb (q % 32) 30 (omega arith), eq-eqb (q % 32) 30 h)

  pub exact_fits : length ws ≡ 384 → q < 192 → q % 32 ≡ 30
      → fits_at ws q line ≡ same (exact_line (q / 32 + 1) (value_of (limbs_of 34 (said_sum line)))) line
  unfolding fits_at left_out line_at
  exact_fits l k h =
      rw (
        exact_placed h,
        no_tally_lem (omega arith),
        le-ltb (q % 32) 30 (omega arith),
        eq-eqb (q % 32) 30 h,
        held_with (limbs_of 34 (said_sum line)) l k (length_limbs 34 (said_sum line)),
      )

  -- ---- a rounded sum's
  pub sum_placed : 30 < q % 32 → placed ws q line ≡ ws
  unfolding placed
  sum_placed h = rw (le-ltb (q % 32) 30 (omega arith), ne_eqb (q % 32) 30 (λ e. omega arith))

  pub sum_fits : 30 < q % 32 → fits_at ws q line ≡ same (sum_line (q / 32 + 1) (held_at ws q)) line
  unfolding fits_at left_out line_at
  sum_fits h =
      rw (
        sum_placed h,
        no_tally_lem (omega arith),
        le-ltb (q % 32) 30 (omega arith),
        ne_eqb (q % 32) 30 (λ e. omega arith),
      )
