-- "RC and RJ reach no other finite argument" (document 01): RC and RJ's helper ask ln at no finite number below 2, and ln_1p at
-- none outside -3/4 to 3/4. Any other functions that agree with these there give the same answers, so that with a wider ln
-- "their answers stay, as they never asked there" (document 02, 2026-02). Assumes nothing.
use Rattle.std.proofs.Math.Path.{◌≡◌, refl, ap, ap₂}
use Rattle.std.specs.Prelude.{not, T, Float}
use Rattle.std.proofs.Common.{T_not}
use Rattle.std.specs.Float.Ieee.{binary64, neg, lt, le, fits}
use Rattle.std.specs.Float.Ieee.Fits.{and_i, sub-fits, div-fits, neg-fits}
use Rattle.binary64.specs.Leaves.{absolute}
use Rattle.binary64.specs.Operators.{◌⊖◌, ◌⊗◌, ◌⊘◌}
use Rattle.root.specs.Root.{root}
use Rattle.series.specs.Ln.{ln}
use Rattle.series.specs.Ln1p.{ln_1p}
use Rattle.scaling.proofs.Pick.{choose}
use Rattle.carlson.specs.Constants.{zero, one, two, half}
use Rattle.carlson_arguments.specs.Rescaling.{scale_of2, rescales2, rescaling2}
use Rattle.carlson.specs.Answer.{closed_at, carried_at}
use Rattle.rc_cases.specs.Cases as rc
use Rattle.elliprc.specs.Rc.{rc_found, over_root, rc_unchecked}
use Rattle.rc_cases.specs.Cases.{rc_cases, rc_steps}
use Rattle.rj_term.specs.Helper as helper
use Rattle.rj_term.specs.Helper.{hundredth, three_halves, Outside, AtHalf, ln_argument, rc1p}
use Rattle.rj_term.specs.Borders.{past}
use Rattle.rj_term.proofs.Borders.{ln_reached_from_rj}
use Rattle.rj_term.specs.Term.{rj_middle, rj_term}
use Rattle.rj_term.specs.declared.term.Roots.{Roots}
use Rattle.asked.specs.With.{Agrees, Agrees1p, ln_before}
use Rattle.asked.specs.With.{by_ln_with, by_ln1p_with, rc_cases_with, rc_steps_with, rc_unchecked_with}
use Rattle.asked.specs.With.{by_logs1p_with, by_rc1p_with, by_ln_of1p_with, rc1p_with, rj_term_with}
use Rattle.asked.proofs.Arguments.{one_is}
use Rattle.asked.proofs.Before.{before_agrees}
use Rattle.asked.proofs.Rc.{cases_ask, turned}
use Rattle.asked.proofs.Helper.{logs_asked, ln_asked}

-- with ln and ln_1p themselves the steps are RC's
pub own_text : (prefix x y : Float) → rc_cases_with ln ln_1p prefix x y ≡ rc_cases prefix x y
unfolding rc_cases_with rc_cases by_ln_with rc.rc_by_ln by_ln1p_with rc.rc_by_ln1p
own_text prefix x y = refl

-- ---- THEOREMS
module _ (log log1p : Float → Float) (A : Agrees log) (B : Agrees1p log1p) where
  pub rc_asks : (x y : Float) → T (fits binary64 x) → T (fits binary64 y) → rc_steps_with log log1p x y ≡ rc_steps x y
  unfolding rc_steps_with rc_steps
  rc_asks x y F G =
      choose ◌≡◌ (lt y zero) (lt y zero) refl
      (λ t.
      cases_ask log log1p A B (root (x ⊘ (x ⊖ y))) (x ⊖ y) (neg y) (sub-fits binary64 x y) (neg-fits binary64 y G) (turned y t))
      (λ t. cases_ask log log1p A B one x y F G t)

  -- rescaled where it is
  pub unchecked_asks : (x y : Float) → T (fits binary64 x) → T (fits binary64 y) → rc_unchecked_with log log1p x y ≡ rc_unchecked x y
  unfolding rc_unchecked_with rc_unchecked rc_found rescaling2
  unchecked_asks x y F G =
      let s = scale_of2 x y in
      choose ◌≡◌ (rescales2 x y s) (rescales2 x y s) refl
      (λ t. ap (λ v. over_root (closed_at v) s) (rc_asks (x ⊘ s) (y ⊘ s) (div-fits binary64 x s) (div-fits binary64 y s)))
      (λ t. ap closed_at (rc_asks x y F G))

  -- where RJ asks for it
  pub rc1p_asks : (y : Float) → T (fits binary64 y) → Outside y → rc1p_with log log1p y ≡ rc1p y
  unfolding rc1p_with rc1p by_logs1p_with by_rc1p_with by_ln_of1p_with helper.by_logs1p helper.by_rc1p helper.by_ln1p
  rc1p_asks y F o =
      choose ◌≡◌ (le (absolute y) hundredth) _ refl (λ t. refl)
      (λ t.
      choose ◌≡◌ (lt zero y) _ refl (λ p. refl)
      (λ p.
      choose ◌≡◌ (lt (neg half) y) _ refl
      (λ k.
      let w = logs_asked y F (and_i (past y) _ t (and_i (not (lt zero y)) (lt (neg half) y) p k)) in
      ap₂ (λ u v. closed_at ((u ⊖ v) ⊘ (two ⊗ root (neg y)))) (B (root (neg y)) w.0) (B (neg (root (neg y))) w.1))
      (λ k.
      choose ◌≡◌ (lt y (neg one)) _ refl (λ j. ap (λ f. carried_at (root (one ⊘ neg y) ⊗ f.value) f.way) below_one)
      (λ j. ap (λ v. closed_at (v ⊘ root (neg y))) (A (ln_argument y) (ln_asked y (at_half t p k j)))))))
    where
      below_one : rc_unchecked_with log log1p (neg y) (neg one ⊖ y) ≡ rc_unchecked (neg y) (neg one ⊖ y)
      below_one = unchecked_asks (neg y) (neg one ⊖ y) (neg-fits binary64 y F) (sub-fits binary64 (neg one) y)

      at_half : T (past y) → T (not (lt zero y)) → T (not (lt (neg half) y)) → T (not (lt y (neg one))) → AtHalf y
      at_half t p k j =
          ln_reached_from_rj y F o
          (and_i (past y) _ t (and_i (not (lt zero y)) _ p (and_i (not (lt (neg half) y)) (not (lt y (neg one))) k j)))

  -- as its tests say, a term of RJ's sum asks for it there alone
  pub term_asks : (pn : Float) (r : Roots) (dn en : Float) → T (fits binary64 en)
      → rj_term_with log log1p pn r dn en ≡ rj_term pn r dn en
  unfolding rj_term_with rj_term rj_middle
  term_asks pn r dn en F =
      choose ◌≡◌ (lt en (neg half)) _ refl
      (λ t.
      choose ◌≡◌ (lt (neg three_halves) en) _ refl
      (λ u. unchecked_asks one (rj_middle pn r dn) one_is.fit (div-fits binary64 _ dn)) (λ u. rc1p_asks en F (λ q. u)))
      (λ t. rc1p_asks en F (λ q. absurd (T_not (lt en (neg half)) t q)))

-- ---- their answers stay: they are those that document 01's ln gives
pub rc_stays : (x y : Float) → T (fits binary64 x) → T (fits binary64 y) → rc_steps_with ln_before ln_1p x y ≡ rc_steps x y
rc_stays = rc_asks ln_before ln_1p before_agrees (λ a h. refl)

pub unchecked_stays : (x y : Float) → T (fits binary64 x) → T (fits binary64 y)
    → rc_unchecked_with ln_before ln_1p x y ≡ rc_unchecked x y
unchecked_stays = unchecked_asks ln_before ln_1p before_agrees (λ a h. refl)

pub term_stays : (pn : Float) (r : Roots) (dn en : Float) → T (fits binary64 en)
    → rj_term_with ln_before ln_1p pn r dn en ≡ rj_term pn r dn en
term_stays = term_asks ln_before ln_1p before_agrees (λ a h. refl)
