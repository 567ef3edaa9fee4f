-- `job_length` meets its contract: five lengths of ten bytes at most. Assumes nothing.
use Prim.Native.Nat.{◌+◌, ◌≤◌}
use native.Mathlib.Omega.{arith}
use Rattle.packed.specs.LengthLaws.{number_most, argument_most, job_length_sum}
use Rattle.packed.proofs.write.job_length.Goals as goal
use Rattle.packed.proofs.write.job_length.Goals.{After-argument_length-4}

-- no sum passes fifty
small : (c : After-argument_length-4) → c.number_length.result
    + (c.argument_length.result
    + (c.argument_length-2.result + (c.argument_length-3.result + c.argument_length-4.result)))
    ≤ 50
small c =
    let j = c.args.job in
    omega (
      arith,
      number_most j.function,
      argument_most j 0,
      argument_most j 1,
      argument_most j 2,
      argument_most j 3,
      c.number_length.ensures,
      c.argument_length.ensures,
      c.argument_length-2.ensures,
      c.argument_length-3.ensures,
      c.argument_length-4.ensures,
    )

pub overflow_add-result : goal.overflow_add-result
overflow_add-result c =
    omega (arith, small (goal.at.overflow_add-result c).After-argument_length-4)

pub overflow_add-result-2 : goal.overflow_add-result-2
overflow_add-result-2 c =
    omega (arith, small (goal.at.overflow_add-result-2 c).After-argument_length-4)

pub overflow_add-result-3 : goal.overflow_add-result-3
overflow_add-result-3 c =
    omega (arith, small (goal.at.overflow_add-result-3 c).After-argument_length-4)

pub overflow_add-result-4 : goal.overflow_add-result-4
overflow_add-result-4 c =
    omega (arith, small (goal.at.overflow_add-result-4 c).After-argument_length-4)

pub returns : goal.returns
returns c =
    rw (
      job_length_sum c.args.job,
      c.number_length.ensures,
      c.argument_length.ensures,
      c.argument_length-2.ensures,
      c.argument_length-3.ensures,
      c.argument_length-4.ensures,
    )
