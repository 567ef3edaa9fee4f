-- `duplicated` meets its contract. Assumes nothing.
use Rattle.std.proofs.Common.{◌≡◌, ◌+◌, ◌∙◌, refl, sym, ap, arith, false, Float}
use Rattle.root.specs.Root.{root}
use Rattle.carlson.specs.Answer.{duplication_at}
use Rattle.carlson.specs.Common.{lambda_with}
use Rattle.carlson.specs.declared.common.Lambda.{Lambda}
use Rattle.carlson.specs.Loop.{capped, left_on, left_over, left_found}
use Rattle.rf_duplicate.specs.declared.duplicate.Round.{Round}
use Rattle.rf_duplicate.specs.Duplicate.{rf_cap, rf_begin, rf_moved, rf_step, rf_close, rf_found, rf_spent, rf_duplication}
use Rattle.rf_duplicate.proofs.duplicate.duplicated.Goals as goal
use Rattle.rf_duplicate.proofs.duplicate.duplicated.Goals.{After-moved-at}

whole : (x y z : Float) (s : Round) → s ≡ rf_begin x y z
    → capped rf_step rf_close (rf_found x y s.an) rf_spent rf_cap false s 0 ≡ rf_duplication x y z
unfolding rf_duplication
whole x y z s e = rw e

-- a pass whose roots were told is the definition's
stepped : (s : Round) (l : Lambda) {t : Round} → t ≡ rf_moved s l → l ≡ lambda_with (root s.xn) (root s.yn) (root s.zn)
    → t ≡ rf_step s
unfolding rf_step
stepped s l e f = e ∙ ap (λ (k : Lambda). rf_moved s k) f

passed : (c : After-moved-at) → c.moved-at.result ≡ rf_step c.loop-n.at
passed c = stepped c.loop-n.at c.in-Some.by c.moved-at.ensures c.in-Some.ensures

pub loop-n-preserved : goal.loop-n-preserved
loop-n-preserved c =
    left_on c.loop-n.invariant refl (omega arith) (passed (goal.at.loop-n-preserved c).After-moved-at)
    (sym c.if-close.false ∙ c.close.ensures)

-- the guesses are not told: the rest is made root by root
pub returns-in_default : goal.returns-in_default
returns-in_default c =
    c.onward.ensures ∙ c.loop-n.invariant.gives ∙ whole c.args.x c.args.y c.args.z c.begin-at.result c.begin-at.ensures

pub returns-then-close : goal.returns-then-close
returns-then-close c =
    let l = c.loop-n in
    c.duplication.ensures ∙ ap (λ (v : Float). duplication_at v (l.n + 1)) c.series.ensures
    ∙ left_found (left_on l.invariant refl (omega arith) (passed (goal.at.returns-then-close c).After-moved-at) c.close.ensures)
    c.if-close.true
    ∙ whole c.args.x c.args.y c.args.z c.begin-at.result c.begin-at.ensures

pub returns-after-loop-n : goal.returns-after-loop-n
returns-after-loop-n c =
    c.duplication-2.ensures ∙ ap (λ (v : Float). duplication_at v rf_cap) c.not_a_number.ensures
    ∙ left_over c.loop-n.invariant refl (omega arith)
    ∙ whole c.args.x c.args.y c.args.z c.begin-at.result c.begin-at.ensures
