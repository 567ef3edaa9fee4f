-- RF's duplication in the Rust's steps (elliprf.rs; document 01, Rounds). Definitions only.
use Rattle.std.specs.Prelude.{ℕ, Bool, false, Float}
use Rattle.std.specs.Float.{nan}
use Rattle.std.specs.Float.Ieee.{neg, lt}
use Rattle.binary64.specs.Leaves.{absolute, maximum}
use Rattle.binary64.specs.Operators.{◌⊕◌, ◌⊖◌, ◌⊗◌, ◌⊘◌, bits}
use Rattle.root.specs.Root.{root}
use Rattle.derived.specs.Starts.{rf_start_factor}
use Rattle.carlson.specs.Constants.{one, three, four}
use Rattle.carlson.specs.Common.{lambda_with}
use Rattle.carlson.specs.Loop.{capped}
use Rattle.carlson.specs.Answer.{duplication_at}
use Rattle.carlson.specs.declared.answer.Found.{Found}
use Rattle.carlson.specs.declared.common.Lambda.{Lambda}
use Rattle.rf_duplicate.specs.declared.duplicate.Round.{Round}

unfoldable pub mean_of : Float → Float → Float → Float
mean_of x y z = (x ⊕ y ⊕ z) ⊘ three

-- the start factor of 3 epsilon, times the largest of the mean and its distances
unfoldable pub rf_start : Float → Float → Float → Float → Float
rf_start an x y z =
    rf_start_factor
    ⊗ maximum (maximum (maximum (absolute an) (absolute (an ⊖ x))) (absolute (an ⊖ y))) (absolute (an ⊖ z))

unfoldable pub rf_begin : Float → Float → Float → Round
rf_begin x y z = record { an = mean_of x y z; xn = x; yn = y; zn = z; q = rf_start (mean_of x y z) x y z; fnval = one }

-- one pass: all come nearer to their mean by lambda
unfoldable pub rf_moved : Round → Lambda → Round
rf_moved s l = record {
  an = (s.an ⊕ l.lambda) ⊘ four;
  xn = (s.xn ⊕ l.lambda) ⊘ four;
  yn = (s.yn ⊕ l.lambda) ⊘ four;
  zn = (s.zn ⊕ l.lambda) ⊘ four;
  q = s.q ⊘ four;
  fnval = s.fnval ⊗ four;
}

unfoldable pub rf_step : Round → Round
rf_step s = rf_moved s (lambda_with (root s.xn) (root s.yn) (root s.zn))

unfoldable pub rf_close : Round → Bool
rf_close s = lt s.q (absolute s.an)

unfoldable pub rf_correction : Float → Float → Float → Float → Float
rf_correction a0 x an fnval = (a0 ⊖ x) ⊘ (an ⊗ fnval)

-- the series, of the corrections x and y (DLMF 19.36.1)
-- by their bits: 14, 104, 0.1, 24, 44, 5, 208, 16
unfoldable pub rf_factor : Float → Float → Float
rf_factor x y =
    let z = neg x ⊖ y in
    let e2 = x ⊗ y ⊖ z ⊗ z in
    let e3 = x ⊗ y ⊗ z in
    one ⊕ e3 ⊗ (one ⊘ bits 0x402C_0000_0000_0000 ⊕ three ⊗ e3 ⊘ bits 0x405A_0000_0000_0000)
    ⊕ e2 ⊗ (neg (bits 0x3FB9_9999_9999_999A) ⊕ e2 ⊘ bits 0x4038_0000_0000_0000 ⊖ three ⊗ e3 ⊘ bits 0x4046_0000_0000_0000
    ⊖ bits 0x4014_0000_0000_0000 ⊗ e2 ⊗ e2 ⊘ bits 0x406A_0000_0000_0000 ⊕ e2 ⊗ e3 ⊘ bits 0x4030_0000_0000_0000)

unfoldable pub rf_series : Float → Float → Float → Float → Float → Float
rf_series x y a0 an fnval = rf_factor (rf_correction a0 x an fnval) (rf_correction a0 y an fnval) ⊘ root an

-- "Caps: RF 11"
abbrev pub rf_cap : ℕ
rf_cap = 11

abbrev pub rf_found : Float → Float → Float → Round → ℕ → Found
rf_found x y a0 s n = duplication_at (rf_series x y a0 s.an s.fnval) n

abbrev pub rf_spent : Round → ℕ → Found
rf_spent s n = duplication_at nan n

-- document 01, Rounds: counted are the passes begun. With the cap spent there is no number.
unfoldable pub rf_duplication : Float → Float → Float → Found
rf_duplication x y z = capped rf_step rf_close (rf_found x y (rf_begin x y z).an) rf_spent rf_cap false (rf_begin x y z) 0
