-- `against` meets its contract: a refusal goes through. Assumes nothing.
use Rattle.std.proofs.Common.{Ok, sym, subst}
use Rattle.std.proofs.lemmas.Result.{err_from_is_err_and}
use Rattle.carlson.specs.declared.answer.Found.{Found}
use Rattle.between.specs.Between.{Between}
use Rattle.swing.specs.Ratios.{power}
use Rattle.swing.specs.Bounded.{Bounded, value_in}
use Rattle.drag.specs.Verdict.{judged_of}
use Rattle.drag.specs.Measured.{period_measured}
use Rattle.drag.proofs.knee.against.Goals as goal

bounded : (f : Found) → Bounded (Ok f) → Between (power 1012) (power 1042) f.value
bounded f (value_in v) = v

pub weigh-requires : goal.weigh-requires
weigh-requires c = period_measured _ (bounded _ (subst Bounded c.in_ok-found.was c.requires))

pub returns : goal.returns
unfolding judged_of
returns c = rw (c.in_ok-found.was, sym c.weigh.ensures)

pub returns-in_err-found : goal.returns-in_err-found
unfolding judged_of
returns-in_err-found c =
    let p = err_from_is_err_and c.from_residual.result c.from_residual.ensures.1 in rw (c.in_err-found.was, p.1, p.2)
