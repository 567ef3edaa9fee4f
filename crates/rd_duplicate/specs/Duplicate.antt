-- RD's duplication in the Rust's steps (elliprd.rs; document 01, Rounds). Definitions only.
use Rattle.std.specs.Prelude.{ℕ, Bool, false, Float}
use Rattle.std.specs.Float.{nan}
use Rattle.std.specs.Float.Ieee.{neg, lt}
use Rattle.binary64.specs.Leaves.{maximum}
use Rattle.binary64.specs.Operators.{◌⊕◌, ◌⊖◌, ◌⊗◌, ◌⊘◌, bits}
use Rattle.root.specs.Root.{root}
use Rattle.power.specs.Power.{power}
use Rattle.derived.specs.Starts.{rd_start_factor}
use Rattle.carlson.specs.Constants.{zero, one, three, four}
use Rattle.carlson.specs.Common.{lambda_with, third_kind}
use Rattle.carlson.specs.Loop.{capped}
use Rattle.carlson.specs.Answer.{duplication_at}
use Rattle.carlson.specs.declared.answer.Found.{Found}
use Rattle.carlson.specs.declared.common.Lambda.{Lambda}
use Rattle.rd_duplicate.specs.declared.duplicate.Round.{Round}

-- by its bits: 5
unfoldable pub rd_mean : Float → Float → Float → Float
rd_mean x y z = (x ⊕ y ⊕ three ⊗ z) ⊘ bits 0x4014_0000_0000_0000

-- the start factor of epsilon / 4, times the largest signed distance, times 1.2
unfoldable pub rd_start : Float → Float → Float → Float → Float
rd_start an x y z = rd_start_factor ⊗ maximum (maximum (an ⊖ x) (an ⊖ y)) (an ⊖ z) ⊗ bits 0x3FF3_3333_3333_3333

unfoldable pub rd_begin : Float → Float → Float → Round
rd_begin x y z =
    record { an = rd_mean x y z; xn = x; yn = y; zn = z; q = rd_start (rd_mean x y z) x y z; fnval = one; sum = zero }

unfoldable pub rd_moved : Round → Lambda → Round
rd_moved s l = record {
  an = (s.an ⊕ l.lambda) ⊘ four;
  xn = (s.xn ⊕ l.lambda) ⊘ four;
  yn = (s.yn ⊕ l.lambda) ⊘ four;
  zn = (s.zn ⊕ l.lambda) ⊘ four;
  q = s.q ⊘ four;
  fnval = s.fnval ⊘ four;
  sum = s.sum ⊕ s.fnval ⊘ (l.rz ⊗ (s.zn ⊕ l.lambda));
}

unfoldable pub rd_step : Round → Round
rd_step s = rd_moved s (lambda_with (root s.xn) (root s.yn) (root s.zn))

unfoldable pub rd_close : Round → Bool
rd_close s = lt s.q s.an

unfoldable pub rd_correction : Float → Float → Float → Float → Float
rd_correction fnval a0 x an = fnval ⊗ (a0 ⊖ x) ⊘ an

-- the series, of the corrections x and y (DLMF 19.36.2)
-- by their bits: 6, 8
unfoldable pub rd_factor : Float → Float → Float
rd_factor x y =
    let z = neg (x ⊕ y) ⊘ three in
    let xyz = x ⊗ y ⊗ z in
    let z2 = z ⊗ z in
    let z3 = z2 ⊗ z in
    third_kind (x ⊗ y ⊖ bits 0x4018_0000_0000_0000 ⊗ z2) (three ⊗ xyz ⊖ bits 0x4020_0000_0000_0000 ⊗ z3) (three ⊗ (xyz ⊖ z3) ⊗ z)
    (xyz ⊗ z2)

unfoldable pub rd_series : Float → Float → Float → Float → Float → Float → Float
rd_series x y a0 an fnval sum =
    fnval ⊗ power an ⊗ rd_factor (rd_correction fnval a0 x an) (rd_correction fnval a0 y an) ⊕ three ⊗ sum

-- "RD's duplication 50"
abbrev pub rd_cap : ℕ
rd_cap = 50

abbrev pub rd_found : Float → Float → Float → Round → ℕ → Found
rd_found x y a0 s n = duplication_at (rd_series x y a0 s.an s.fnval s.sum) n

abbrev pub rd_spent : Round → ℕ → Found
rd_spent s n = duplication_at nan n

-- document 01, Rounds: counted are the passes begun. With the cap spent there is no number.
unfoldable pub rd_duplication : Float → Float → Float → Found
rd_duplication x y z = capped rd_step rd_close (rd_found x y (rd_begin x y z).an) rd_spent rd_cap false (rd_begin x y z) 0
