-- `profile_of` meets its contract: each arm is the entry of its name, at the patterns' f64s. Assumes nothing.
use mathlib.Core.Path.{sym}
use borrow.Author.Rules.{rules}
use Rattle.profile_answers.specs.ProfileAnswers.{profile_of}
use Rattle.profile_answers.proofs.profile_of.Goals as goal

pub returns-in-Rc : goal.returns-in-Rc
unfolding profile_of
returns-in-Rc c =
    rw (
      c.in-Rc.is,
      sym c.join.ensures,
      sym c.join-in-Rc.ensures,
    ) c.profile_rc.ensures

pub returns-in-Rf : goal.returns-in-Rf
unfolding profile_of
returns-in-Rf c =
    rw (
      c.in-Rf.is,
      sym c.join-in-Rf.ensures,
      sym c.join-in-Rf-2.ensures,
      sym c.join-in-Rf-3.ensures,
    ) c.profile_rf.ensures

pub returns-in-Rd : goal.returns-in-Rd
unfolding profile_of
returns-in-Rd c =
    rw (
      c.in-Rd.is,
      sym c.join-in-Rd.ensures,
      sym c.join-in-Rd-2.ensures,
      sym c.join-in-Rd-3.ensures,
    ) c.profile_rd.ensures

pub returns-in-Rg : goal.returns-in-Rg
unfolding profile_of
returns-in-Rg c =
    rw (
      c.in-Rg.is,
      sym c.join-in-Rg.ensures,
      sym c.join-in-Rg-2.ensures,
      sym c.join-in-Rg-3.ensures,
    ) c.profile_rg.ensures

pub returns-in-Rj : goal.returns-in-Rj
unfolding profile_of
returns-in-Rj c =
    rw (
      c.in-Rj.is,
      sym c.join-in-Rj.ensures,
      sym c.join-in-Rj-2.ensures,
      sym c.join-in-Rj-3.ensures,
      sym c.join-in-Rj-4.ensures,
    ) c.profile_rj.ensures

pub returns-in-Cel : goal.returns-in-Cel
unfolding profile_of
returns-in-Cel c =
    rw (
      c.in-Cel.is,
      sym c.join-in-Cel.ensures,
      sym c.join-in-Cel-2.ensures,
      sym c.join-in-Cel-3.ensures,
      sym c.join-in-Cel-4.ensures,
    ) c.cel.ensures
