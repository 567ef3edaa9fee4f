-- RJ for p above zero begins at most its cap's rounds, and so often at most RC is rescaled in them (document 02, 2026-12).
-- Assumes nothing.
use Rattle.std.specs.Prelude.{ℕ, suc, ◌+◌, ◌≤◌, ◌≡◌, false, Float}
use Rattle.std.proofs.Common.{arith}
use Rattle.std.specs.Float.Ieee.{le, eq}
use Rattle.binary64.specs.Leaves.{maximum}
use Rattle.root.specs.Root.{root}
use Rattle.carlson.specs.Answer.{closed_at, carried_at, duplication_over}
use Rattle.carlson.specs.Loop.{capped_keeps}
use Rattle.carlson.proofs.Only.{chosen}
use Rattle.carlson.specs.Ways.{Within, Few}
use Rattle.carlson.proofs.Ways.{counted, wider, few_wider, both_within}
use Rattle.carlson.specs.Answer.{Answer}
use Rattle.elliprc.specs.Few.{rc_within}
use Rattle.elliprd.specs.Rd.{rd_unchecked}
use Rattle.elliprd.proofs.Few.{rd_few}
use Rattle.rj_term.specs.Term.{rj_term, rj_rescalings}
use Rattle.rj_term.proofs.Few.{term_few}
use Rattle.rj_term.specs.declared.term.Roots.{Roots}
use Rattle.rj_positive.specs.Duplicate.{
  rj_mean,
  rj_start,
  rj_begin,
  rj_ratio,
  rj_denominator,
  rj_moved,
  rj_with,
  rj_step,
  rj_close,
  rj_cap,
  rj_found,
  rj_spent,
  rj_duplication,
}
use Rattle.rj_positive.specs.Positive.{well_apart, rj_all, rj_three, rj_two, rj_last, rj_pair, rj_cases, rj_positive}
use Rattle.rj_positive.specs.declared.duplicate.Round.{Round}

-- so a pass adds at most one rescaling
passed : (s : Round) (n : ℕ) → s.rescalings ≤ n → (rj_step s).rescalings ≤ suc n
unfolding rj_step rj_with rj_moved rj_rescalings
passed s n h =
    let r : Roots = record { x = root s.xn; y = root s.yn; z = root s.zn; p = root s.pn } in
    let dn = rj_denominator r in
    omega (arith, (term_few s.pn r dn (rj_ratio s r dn)).scaled)

-- and the modulus with which it is counted never acts
pub passed_plain : (s : Round) (n : ℕ) → s.rescalings ≤ n → n ≤ rj_cap → (pn : Float) (r : Roots) (dn en : Float)
    → rj_rescalings s.rescalings (rj_term pn r dn en) ≡ s.rescalings + (rj_term pn r dn en).way.rescalings
unfolding rj_rescalings
passed_plain s n h g pn r dn en = omega (arith, (term_few pn r dn en).scaled)

pub rj_duplicated : (x y z p : Float) → Within rj_cap 100 (rj_duplication x y z p).way
unfolding rj_duplication duplication_over rj_begin
rj_duplicated x y z p =
    let a = rj_mean x y z p in
    capped_keeps rj_step (rj_close (rj_start a x y z p)) (rj_found x y z a) rj_spent (λ f. Within rj_cap 100 f.way)
    (λ s n. s.rescalings ≤ n) rj_cap passed (λ s n h q. record { begun = h; scaled = omega arith })
    (λ s n h q. record { begun = h; scaled = omega arith }) rj_cap false (rj_begin x y z p) 0 (omega arith) (omega arith)

-- ---- the special cases
abbrev Steps : Answer → Type 0
Steps = Few rj_cap 100

by_rd : (x y z : Float) → Steps (rd_unchecked x y z)
by_rd x y z = few_wider (omega arith) (omega arith) (rd_unchecked x y z) (rd_few x y z)

two_few : (x y p : Float) → Steps (rj_two x y p)
unfolding rj_two carried_at
two_few x y p = wider (omega arith) (omega arith) (both_within (rc_within x y) (rc_within x p))

pub positive_few : (x y z p : Float) → Steps (rj_positive x y z p)
unfolding rj_positive rj_all rj_three closed_at carried_at
positive_few x y z p =
    chosen Steps (eq x y)
    (chosen Steps (eq x z) (chosen Steps (eq x p) (counted 0 (omega arith))
    (chosen Steps (well_apart p x) (wider (omega arith) (omega arith) (rc_within x p)) (cases x y z)))
    (cases z y x)) (cases x y z)
  where
    last : (x y z : Float) → Steps (rj_last x y z p)
    last x y z = unfold rj_last in chosen Steps (eq z p) (by_rd x y z) (rj_duplicated x y z p)

    pair : (x y z : Float) → Steps (rj_pair x y z p)
    pair x y z = unfold rj_pair in
        chosen Steps (eq y p) (by_rd x y y)
        (chosen Steps (well_apart p y) (chosen Steps (le x (maximum y p)) (two_few x y p) (last x y z)) (last x y z))

    cases : (x y z : Float) → Steps (rj_cases x y z p)
    cases x y z = unfold rj_cases in chosen Steps (eq y z) (pair x y z) (last x y z)
