-- RC's steps, RJ's helper and a term of RJ's sum with two other functions in the place of ln and ln_1p, and where these must be
-- ln and ln_1p for the answers to stay (document 02, 2026-02). Definitions only.
use Rattle.std.specs.Prelude.{◌≡◌, true, cond, Float}
use Rattle.std.specs.Float.{nan}
use Rattle.std.specs.Float.Ieee.{neg, lt, le, eq}
use Rattle.std.specs.Float.Ieee.Scale.{finite}
use Rattle.binary64.specs.Leaves.{absolute}
use Rattle.binary64.specs.Operators.{◌⊕◌, ◌⊖◌, ◌⊗◌, ◌⊘◌, bits}
use Rattle.root.specs.Root.{root}
use Rattle.polynomial.specs.Polynomial.{horner}
use Rattle.series.specs.Ln.{ln}
use Rattle.series.specs.Ln1p.{ln_1p}
use Rattle.carlson.specs.Constants.{zero, one, two, half}
use Rattle.carlson_arguments.specs.Rescaling.{rescaling2}
use Rattle.carlson.specs.Answer.{closed_at, carried_at}
use Rattle.carlson.specs.declared.answer.Found.{Found}
use Rattle.elliprc.specs.Rc.{over_root}
use Rattle.rc_cases.specs.Cases.{rc_at_zero, rc_at_equal, rc_by_atan}
use Rattle.rj_term.specs.Helper.{hundredth, three_halves, by_atan1p, ln_argument}
use Rattle.rj_term.specs.Term.{rj_middle}
use Rattle.rj_term.specs.declared.term.Roots.{Roots}

abbrev pub three_quarters : Float
three_quarters = bits 0x3FE8_0000_0000_0000

module _ (log log1p : Float → Float) where
  -- ---- RC: the text of crates/elliprc/specs/Rc.antt
  unfoldable pub by_ln1p_with : Float → Float → Float → Float
  by_ln1p_with prefix x y =
      let arg = root ((x ⊖ y) ⊘ x) in prefix ⊗ (log1p arg ⊖ log1p (neg arg)) ⊘ (two ⊗ root (x ⊖ y))

  unfoldable pub by_ln_with : Float → Float → Float → Float
  by_ln_with prefix x y = prefix ⊗ log ((root x ⊕ root (x ⊖ y)) ⊘ root y) ⊘ root (x ⊖ y)

  unfoldable pub rc_cases_with : Float → Float → Float → Float
  rc_cases_with prefix x y =
      cond (eq x zero) (rc_at_zero prefix y)
      (cond (eq x y) (rc_at_equal prefix x)
      (cond (lt x y) (rc_by_atan prefix x y)
      (cond (lt half (y ⊘ x)) (by_ln1p_with prefix x y) (by_ln_with prefix x y))))

  unfoldable pub rc_steps_with : Float → Float → Float
  rc_steps_with x y =
      cond (lt y zero) (rc_cases_with (root (x ⊘ (x ⊖ y))) (x ⊖ y) (neg y)) (rc_cases_with one x y)

  unfoldable pub rc_unchecked_with : Float → Float → Found
  rc_unchecked_with = rescaling2 over_root (λ x y. closed_at (rc_steps_with x y))

  -- ---- RJ's helper: the text of crates/rj_term/specs/Helper.antt
  unfoldable pub by_logs1p_with : Float → Float
  by_logs1p_with y = let arg = root (neg y) in (log1p arg ⊖ log1p (neg arg)) ⊘ (two ⊗ root (neg y))

  unfoldable pub by_rc1p_with : Float → Found
  by_rc1p_with y = let rc = rc_unchecked_with (neg y) (neg one ⊖ y) in carried_at (root (one ⊘ neg y) ⊗ rc.value) rc.way

  unfoldable pub by_ln_of1p_with : Float → Float
  by_ln_of1p_with y = log (ln_argument y) ⊘ root (neg y)

  unfoldable pub rc1p_with : Float → Found
  rc1p_with y =
      cond (le (absolute y) hundredth) (closed_at (horner y))
      (cond (lt zero y) (closed_at (by_atan1p y))
      (cond (lt (neg half) y) (closed_at (by_logs1p_with y))
      (cond (lt y (neg one)) (by_rc1p_with y) (closed_at (by_ln_of1p_with y)))))

  -- ---- a term of RJ's sum: the text of crates/rj_term/specs/Term.antt
  unfoldable pub rj_term_with : Float → Roots → Float → Float → Found
  rj_term_with pn r dn en =
      cond (lt en (neg half)) (cond (lt (neg three_halves) en) (rc_unchecked_with one (rj_middle pn r dn))
      (rc1p_with en)) (rc1p_with en)

-- ---- where each is asked: ln from 2 up, ln_1p from -3/4 to 3/4, and both at what is no finite number
abbrev pub FromTwo : Float → Type 0
FromTwo a = finite a ≡ true → le two a ≡ true

abbrev pub Within : Float → Type 0
Within a = finite a ≡ true → le (absolute a) three_quarters ≡ true

-- another function that is ln there, and one that is ln_1p there
abbrev pub Agrees : (Float → Float) → Type 0
Agrees log = (a : Float) → FromTwo a → log a ≡ ln a

abbrev pub Agrees1p : (Float → Float) → Type 0
Agrees1p log1p = (a : Float) → Within a → log1p a ≡ ln_1p a

-- document 01's ln: "from 2 up .. ln(+infinity) is +infinity; all else gives NaN"
unfoldable pub ln_before : Float → Float
ln_before a = cond (lt a two) nan (ln a)
