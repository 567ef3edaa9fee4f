-- `elliprd` meets its contract: moderate arguments that are apart are duplicated, and no check comes before; all others are
-- checked. Assumes nothing.
use Rattle.std.proofs.Common.{Ok, refl, sym, ap, ◌∙◌}
use Rattle.std.proofs.lemmas.Bool.{not-true}
use Rattle.std.specs.Float.Ieee.{ne}
use Rattle.carlson.proofs.AnswerLaws.{handed_itself}
use Rattle.elliprd.proofs.Within.{Apart, stands}
use Rattle.elliprd.proofs.elliprd.Goals as goal
use Rattle.elliprd.proofs.elliprd.Goals.{Then-moderate-3}

apart : (c : Then-moderate-3) → (let a = c.args in Apart a.x a.y a.z)
unfolding ne
apart c = record {
  one = sym c.moderate.ensures ∙ c.if-moderate.true;
  two = sym c.moderate-then-x-z.ensures ∙ c.if-moderate-2.true;
  three = sym c.moderate-then-y-z.ensures ∙ c.if-moderate-3.true;
  first = not-true _ c.if-x-z.true;
  second = not-true _ c.if-y-z.true;
}

pub returns-then-is_finite : goal.returns-then-is_finite
returns-then-is_finite c =
    ap Ok (c.handed.ensures ∙ handed_itself _)
    ∙ stands _ _ _ _ (apart (goal.at.returns-then-is_finite c).Then-moderate-3) c.duplicated-found.ensures (sym c.is_finite.ensures ∙ c.if-is_finite.true)
