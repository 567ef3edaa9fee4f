-- The quotient of two whole numbers that are f64s as they stand is their fraction rounded once. Assumes nothing.
use Rattle.std.specs.Prelude.{ℕ, ◌*◌, ◌^◌, ◌≤◌, ◌<◌, ◌≡◌, false}
use Rattle.std.proofs.Common.{◌∙◌, mul-pos, pow_pos}
use Rattle.std.specs.Float.{binary64}
use Rattle.std.specs.Float.Ieee.{round, of_int}
use Rattle.std.specs.Float.Ieee.Back.{round_whole}
use Rattle.std.specs.Float.Ieee.Exact.{HasValue}
use Rattle.std.specs.Float.Ieee.Scale.{round_same}
use Rattle.algebra.specs.Ring.{◌:*◌, ◌≈◌}
use Rattle.algebra.proofs.Ring.{ring}
use Rattle.between.specs.Between.{Form}
use Rattle.between.proofs.Between.{div_is, form_of}
use Rattle.swing.specs.Period.{whole, ratio}
use Rattle.swing.specs.Ranges.{From1}
use Rattle.swing.proofs.Ratios.{in_units}

exact : (n : ℕ) → n ≤ 2 ^ 53 → HasValue (whole n) false n 1
unfolding of_int
exact n h = round_whole binary64 false n h

module _ (n : ℕ) (N : From1 n (2 ^ 53)) where
  some : 0 < n * 2 ^ 1074
  some = mul-pos N.least (pow_pos 1074)

  form : Form (whole n) (n * 2 ^ 1074)
  form = form_of (whole n) (n * 2 ^ 1074) some (in_units (whole n) n (2 ^ 1074) (exact n N.largest))

pub ratio_is : (a b : ℕ) → From1 a (2 ^ 53) → From1 b (2 ^ 53) → ratio a b ≡ round binary64 false a b
unfolding ratio
ratio_is a b A B =
    let D = 2 ^ 1074 in
    div_is (form a A) (form b B) (some b B)
    ∙ round_same binary64 false (a * D) (b * D) a b (some b B) B.least (ring 3 (λ a b D. a :* D :* b ≈ a :* (b :* D)) tt a b D)
