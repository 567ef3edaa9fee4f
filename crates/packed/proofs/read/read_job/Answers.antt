-- `read_job` meets its contract, step by step as its definition. Assumes nothing.
use mathlib.Core.Path.{sym}
use borrow.Author.Tests.{lt-ltb, le-ltb}
use Rattle.std.proofs.lemmas.Result.{err_from_is_err_and}
use Rattle.packed.specs.Reading.{argument_after, job_at, found, read_at}
use Rattle.packed.proofs.read.read_job.Goals as goal

pub returns-then-bytes-place : goal.returns-then-bytes-place
unfolding read_at
returns-then-bytes-place c = rw (le-ltb _ _ c.if-bytes-place.true)

pub returns-in_err-none : goal.returns-in_err-none
unfolding argument_after job_at found read_at
returns-in_err-none c =
    let p = err_from_is_err_and c.from_residual.result c.from_residual.ensures.1 in
    rw (
      p.1,
      p.2,
      lt-ltb _ _ c.if-bytes-place.false,
      sym c.in_err-none.ensures,
    )

pub returns-in_err-one : goal.returns-in_err-one
unfolding argument_after job_at found read_at
returns-in_err-one c =
    let p = err_from_is_err_and c.from_residual-in_err-one.result c.from_residual-in_err-one.ensures.1 in
    rw (
      p.1,
      p.2,
      lt-ltb _ _ c.if-bytes-place.false,
      sym c.in_ok-none.ensures,
      sym c.in_err-one.ensures,
    )

pub returns-in_err-two : goal.returns-in_err-two
unfolding argument_after job_at found read_at
returns-in_err-two c =
    let p = err_from_is_err_and c.from_residual-in_err-two.result c.from_residual-in_err-two.ensures.1 in
    rw (
      p.1,
      p.2,
      lt-ltb _ _ c.if-bytes-place.false,
      sym c.in_ok-none.ensures,
      sym c.in_ok-one.ensures,
      sym c.in_err-two.ensures,
    )

pub returns-in_err-three : goal.returns-in_err-three
unfolding argument_after job_at found read_at
returns-in_err-three c =
    let p = err_from_is_err_and c.from_residual-in_err-three.result c.from_residual-in_err-three.ensures.1 in
    rw (
      p.1,
      p.2,
      lt-ltb _ _ c.if-bytes-place.false,
      sym c.in_ok-none.ensures,
      sym c.in_ok-one.ensures,
      sym c.in_ok-two.ensures,
      sym c.in_err-three.ensures,
    )

pub returns-in_err-all : goal.returns-in_err-all
unfolding argument_after job_at found read_at
returns-in_err-all c =
    let p = err_from_is_err_and c.from_residual-in_err-all.result c.from_residual-in_err-all.ensures.1 in
    rw (
      p.1,
      p.2,
      lt-ltb _ _ c.if-bytes-place.false,
      sym c.in_ok-none.ensures,
      sym c.in_ok-one.ensures,
      sym c.in_ok-two.ensures,
      sym c.in_ok-three.ensures,
      sym c.in_err-all.ensures,
    )

pub returns : goal.returns
unfolding argument_after job_at found read_at
returns c =
    rw (
      lt-ltb _ _ c.if-bytes-place.false,
      sym c.in_ok-none.ensures,
      sym c.in_ok-one.ensures,
      sym c.in_ok-two.ensures,
      sym c.in_ok-three.ensures,
      sym c.in_ok-all.ensures,
    )
