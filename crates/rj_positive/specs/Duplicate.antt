-- RJ's duplication for p above zero, in the Rust's steps (elliprj.rs; document 01, Rounds). Definitions only.
use Rattle.std.specs.Prelude.{ℕ, Bool, false, cond, Float}
use Rattle.std.specs.Float.{nan}
use Rattle.std.specs.Float.Ieee.{neg, lt, le}
use Rattle.binary64.specs.Leaves.{absolute, maximum}
use Rattle.binary64.specs.Operators.{◌⊕◌, ◌⊖◌, ◌⊗◌, ◌⊘◌, bits}
use Rattle.root.specs.Root.{root}
use Rattle.power.specs.Power.{power}
use Rattle.derived.specs.Starts.{rj_start_factor}
use Rattle.carlson.specs.Constants.{zero, one, two, three, four}
use Rattle.carlson.specs.Common.{lambda_with, third_kind}
use Rattle.carlson.specs.Loop.{capped}
use Rattle.carlson.specs.Answer.{duplication_over}
use Rattle.carlson.specs.declared.answer.Found.{Found}
use Rattle.carlson.specs.declared.common.Lambda.{Lambda}
use Rattle.rj_term.specs.Term.{rj_term, rj_rescalings}
use Rattle.rj_term.specs.declared.term.Roots.{Roots}
use Rattle.rj_positive.specs.declared.duplicate.Round.{Round}

-- by its bits: 5
unfoldable pub rj_mean : Float → Float → Float → Float → Float
rj_mean x y z p = (x ⊕ y ⊕ z ⊕ two ⊗ p) ⊘ bits 0x4014_0000_0000_0000

-- the start factor of epsilon / 5, times the largest distance from the mean
unfoldable pub rj_start : Float → Float → Float → Float → Float → Float
rj_start an x y z p =
    rj_start_factor
    ⊗ maximum (maximum (maximum (absolute (an ⊖ x)) (absolute (an ⊖ y))) (absolute (an ⊖ z))) (absolute (an ⊖ p))

unfoldable pub rj_begin : Float → Float → Float → Float → Round
rj_begin x y z p = record {
  an = rj_mean x y z p;
  xn = x;
  yn = y;
  zn = z;
  pn = p;
  delta = (p ⊖ x) ⊗ (p ⊖ y) ⊗ (p ⊖ z);
  fmn = one;
  sum = zero;
  rescalings = 0;
}

-- ---- one pass
unfoldable pub rj_denominator : Roots → Float
rj_denominator r = (r.p ⊕ r.x) ⊗ (r.p ⊕ r.y) ⊗ (r.p ⊕ r.z)

unfoldable pub share_of : Float → Float → Float → Float
share_of pn xn s = (pn ⊖ xn) ⊘ s ⊘ s

-- where the denominator's square is at least the least normal number; else each factor is divided by itself
-- by its bits: 2 ^ -1022
unfoldable pub rj_ratio : Round → Roots → Float → Float
rj_ratio s r dn =
    cond (le (bits 0x0010_0000_0000_0000) (dn ⊗ dn)) (s.delta ⊘ (dn ⊗ dn))
    (share_of s.pn s.xn (r.p ⊕ r.x) ⊗ share_of s.pn s.yn (r.p ⊕ r.y) ⊗ share_of s.pn s.zn (r.p ⊕ r.z))

-- by its bits: 64
unfoldable pub rj_moved : Round → Lambda → Float → ℕ → Round
rj_moved s l added rescalings = record {
  an = (s.an ⊕ l.lambda) ⊘ four;
  xn = (s.xn ⊕ l.lambda) ⊘ four;
  yn = (s.yn ⊕ l.lambda) ⊘ four;
  zn = (s.zn ⊕ l.lambda) ⊘ four;
  pn = (s.pn ⊕ l.lambda) ⊘ four;
  delta = s.delta ⊘ bits 0x4050_0000_0000_0000;
  fmn = s.fmn ⊘ four;
  sum = s.sum ⊕ added;
  rescalings = rescalings;
}

unfoldable pub rj_with : Round → Roots → Round
rj_with s r =
    let dn = rj_denominator r in
    let rc = rj_term s.pn r dn (rj_ratio s r dn) in
    rj_moved s (lambda_with r.x r.y r.z) (s.fmn ⊘ dn ⊗ rc.value) (rj_rescalings s.rescalings rc)

unfoldable pub rj_step : Round → Round
rj_step s = rj_with s (record { x = root s.xn; y = root s.yn; z = root s.zn; p = root s.pn })

unfoldable pub rj_close : Float → Round → Bool
rj_close q s = lt (s.fmn ⊗ q) s.an

-- ---- the series (DLMF 19.36.2)
unfoldable pub rj_correction : Float → Float → Float → Float → Float
rj_correction fmn a0 x an = fmn ⊗ (a0 ⊖ x) ⊘ an

unfoldable pub rj_factor : Float → Float → Float → Float
rj_factor x y z =
    let p = (neg x ⊖ y ⊖ z) ⊘ two in
    let xyz = x ⊗ y ⊗ z in
    let p2 = p ⊗ p in
    let p3 = p2 ⊗ p in
    let e2 = x ⊗ y ⊕ x ⊗ z ⊕ y ⊗ z ⊖ three ⊗ p2 in
    let e3 = xyz ⊕ two ⊗ e2 ⊗ p ⊕ four ⊗ p3 in
    let e4 = (two ⊗ xyz ⊕ e2 ⊗ p ⊕ three ⊗ p3) ⊗ p in
    third_kind e2 e3 e4 (xyz ⊗ p2)

-- by its bits: 6
unfoldable pub rj_series : Float → Float → Float → Float → Round → Float
rj_series x y z a0 s =
    s.fmn ⊗ power s.an ⊗ rj_factor (rj_correction s.fmn a0 x s.an) (rj_correction s.fmn a0 y s.an)
    (rj_correction s.fmn a0 z s.an)
    ⊕ bits 0x4018_0000_0000_0000 ⊗ s.sum

-- "RJ 100"
abbrev pub rj_cap : ℕ
rj_cap = 100

abbrev pub rj_found : Float → Float → Float → Float → Round → ℕ → Found
rj_found x y z a0 s n = duplication_over (rj_series x y z a0 s) n s.rescalings

abbrev pub rj_spent : Round → ℕ → Found
rj_spent s n = duplication_over nan n s.rescalings

-- document 01, Rounds: counted are the passes begun. With the cap spent there is no number.
unfoldable pub rj_duplication : Float → Float → Float → Float → Found
rj_duplication x y z p =
    let s = rj_begin x y z p in
    capped rj_step (rj_close (rj_start s.an x y z p)) (rj_found x y z s.an) rj_spent rj_cap false s 0
