-- `letter` meets its contract, case by case. Assumes nothing.
use mathlib.Core.Path.{refl}
use mathlib.Core.Bool.{true≢false}
use borrow.Author.Rules.{rules}
use Rattle.calls.specs.Calls.{name_of}
use Rattle.listing_write.specs.Text.{is_cel}
use Rattle.listing_write.proofs.letter.Goals as goal

pub returns-in-Rc : goal.returns-in-Rc
unfolding name_of is_cel
returns-in-Rc c =
    rw c.in-Rc.is (λ e. refl)

pub returns-in-Rf : goal.returns-in-Rf
unfolding name_of is_cel
returns-in-Rf c =
    rw c.in-Rf.is (λ e. refl)

pub returns-in-Rd : goal.returns-in-Rd
unfolding name_of is_cel
returns-in-Rd c =
    rw c.in-Rd.is (λ e. refl)

pub returns-in-Rg : goal.returns-in-Rg
unfolding name_of is_cel
returns-in-Rg c =
    rw c.in-Rg.is (λ e. refl)

pub returns-in-Rj : goal.returns-in-Rj
unfolding name_of is_cel
returns-in-Rj c =
    rw c.in-Rj.is (λ e. refl)

pub returns-in-Cel : goal.returns-in-Cel
unfolding name_of is_cel
returns-in-Cel c =
    rw c.in-Cel.is (λ e. absurd (true≢false e))
