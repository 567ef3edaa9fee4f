-- `is_cel` meets its contract, case by case. Assumes nothing.
use borrow.Author.Rules.{rules}
use Rattle.listing_write.specs.Text.{is_cel}
use Rattle.listing_write.proofs.is_cel.Goals as goal

pub returns-in-Rc : goal.returns-in-Rc
unfolding is_cel
returns-in-Rc c =
    rw c.in-Rc.is

pub returns-in-Rf : goal.returns-in-Rf
unfolding is_cel
returns-in-Rf c =
    rw c.in-Rf.is

pub returns-in-Rd : goal.returns-in-Rd
unfolding is_cel
returns-in-Rd c =
    rw c.in-Rd.is

pub returns-in-Rg : goal.returns-in-Rg
unfolding is_cel
returns-in-Rg c =
    rw c.in-Rg.is

pub returns-in-Rj : goal.returns-in-Rj
unfolding is_cel
returns-in-Rj c =
    rw c.in-Rj.is

pub returns-in-Cel : goal.returns-in-Cel
unfolding is_cel
returns-in-Cel c =
    rw c.in-Cel.is
