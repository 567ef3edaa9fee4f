-- Some texts and what they say, computed by the definition. Assumes nothing.
use Rattle.std.specs.Prelude.{◌≡◌, refl, Ok, Err, [], ◌∷◌}
use Rattle.std.specs.Float.{binary64}
use Rattle.std.specs.Float.Ieee.{round, of_bits, to_bits}
use Rattle.listing_read.specs.Lines.{same}
use Rattle.decimal_scan.specs.Figures.{no_figures, first_of, grown_by, figures_after, room_for}
use Rattle.decimal_scan.specs.Scan.{
  start_of,
  at_phase,
  digit_after,
  most_tens,
  tens_after,
  figure_after,
  sign_after,
  minus_after,
  point_after,
  power_after,
  byte_after,
  is_whole,
  bytes_after,
}
use Rattle.decimal_scan.specs.Number.{counts, whole_after, whole_from, up_of, down_of, said_by, text_value}
use Rattle.decimal_read.specs.declared.NoDecimal.TheVariants.{TooLarge, NoNumber}
use Rattle.decimal_read.specs.Scanned.{ended_at, scanned_from, scanned_of}
use Rattle.decimal_read.specs.Read.{settled_as, number_from, number_of, read_of}

-- "1.5"
reads_half : read_of (49 ∷ 46 ∷ 53 ∷ []) ≡ Ok (of_bits binary64 0x3ff8_0000_0000_0000)
unfolding read_of number_of number_from settled_as scanned_of scanned_from ended_at text_value said_by up_of down_of whole_from whole_after
    counts is_whole bytes_after start_of byte_after minus_after sign_after point_after power_after figure_after digit_after tens_after
    most_tens
    at_phase room_for figures_after grown_by first_of no_figures round of_bits to_bits same
reads_half = refl

-- "1e-3": no f64 is a thousandth; the nearest
reads_thousandth : read_of (49 ∷ 101 ∷ 45 ∷ 51 ∷ []) ≡ Ok (of_bits binary64 0x3f50_624d_d2f1_a9fc)
unfolding read_of number_of number_from settled_as scanned_of scanned_from ended_at text_value said_by up_of down_of whole_from whole_after
    counts is_whole bytes_after start_of byte_after minus_after sign_after point_after power_after figure_after digit_after tens_after
    most_tens
    at_phase room_for figures_after grown_by first_of no_figures round of_bits to_bits same
reads_thousandth = refl

-- "9007199254740993": 2 ^ 53 + 1, in the middle of two; the even one
reads_tie : read_of (57 ∷ 48 ∷ 48 ∷ 55 ∷ 49 ∷ 57 ∷ 57 ∷ 50 ∷ 53 ∷ 52 ∷ 55 ∷ 52 ∷ 48 ∷ 57 ∷ 57 ∷ 51 ∷ [])
    ≡ Ok (of_bits binary64 0x4340_0000_0000_0000)
unfolding read_of number_of number_from settled_as scanned_of scanned_from ended_at text_value said_by up_of down_of whole_from whole_after
    counts is_whole bytes_after start_of byte_after minus_after sign_after point_after power_after figure_after digit_after tens_after
    most_tens
    at_phase room_for figures_after grown_by first_of no_figures round of_bits to_bits same
reads_tie = refl

-- "1.00000000000000011102230246251565404237": past the middle of 1 and the next f64, by its last digits only
reads_past_tie : read_of (49 ∷ 46 ∷ 48 ∷ 48 ∷ 48 ∷ 48 ∷ 48 ∷ 48 ∷ 48 ∷ 48 ∷ 48 ∷ 48 ∷ 48 ∷ 48 ∷ 48 ∷ 48 ∷ 48 ∷ 49 ∷ 49 ∷
    49 ∷ 48 ∷ 50 ∷ 50 ∷ 51 ∷ 48 ∷ 50 ∷ 52 ∷ 54 ∷ 50 ∷ 53 ∷ 49 ∷ 53 ∷ 54 ∷ 53 ∷ 52 ∷ 48 ∷ 52 ∷ 50 ∷ 51 ∷ 55 ∷ [])
    ≡ Ok (of_bits binary64 0x3ff0_0000_0000_0001)
unfolding read_of number_of number_from settled_as scanned_of scanned_from ended_at text_value said_by up_of down_of whole_from whole_after
    counts is_whole bytes_after start_of byte_after minus_after sign_after point_after power_after figure_after digit_after tens_after
    most_tens
    at_phase room_for figures_after grown_by first_of no_figures round of_bits to_bits same
reads_past_tie = refl

-- "2.2250738585072011e-308": nearest to the largest subnormal number, not to the least normal one
reads_subnormal : read_of (50 ∷ 46 ∷ 50 ∷ 50 ∷ 53 ∷ 48 ∷ 55 ∷ 51 ∷ 56 ∷ 53 ∷ 56 ∷ 53 ∷ 48 ∷ 55 ∷ 50 ∷ 48 ∷ 49 ∷ 49 ∷ 101 ∷
    45 ∷ 51 ∷ 48 ∷ 56 ∷ [])
    ≡ Ok (of_bits binary64 0x000f_ffff_ffff_ffff)
unfolding read_of number_of number_from settled_as scanned_of scanned_from ended_at text_value said_by up_of down_of whole_from whole_after
    counts is_whole bytes_after start_of byte_after minus_after sign_after point_after power_after figure_after digit_after tens_after
    most_tens
    at_phase room_for figures_after grown_by first_of no_figures round of_bits to_bits same
reads_subnormal = refl

-- "1e400"
reads_large : read_of (49 ∷ 101 ∷ 52 ∷ 48 ∷ 48 ∷ []) ≡ Err TooLarge
unfolding read_of number_of number_from settled_as scanned_of scanned_from ended_at text_value said_by up_of down_of whole_from whole_after
    counts is_whole bytes_after start_of byte_after minus_after sign_after point_after power_after figure_after digit_after tens_after
    most_tens
    at_phase room_for figures_after grown_by first_of no_figures round of_bits to_bits same
reads_large = refl

-- "1..2": the second point makes it no number
reads_points : read_of (49 ∷ 46 ∷ 46 ∷ 50 ∷ []) ≡ Err (NoNumber 2)
unfolding read_of number_of number_from settled_as scanned_of scanned_from ended_at text_value said_by up_of down_of whole_from whole_after
    counts is_whole bytes_after start_of byte_after minus_after sign_after point_after power_after figure_after digit_after tens_after
    most_tens
    at_phase room_for figures_after grown_by first_of no_figures round of_bits to_bits same
reads_points = refl
