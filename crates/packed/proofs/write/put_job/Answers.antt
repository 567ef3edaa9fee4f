-- `put_job` meets its contract: a run after a run is one run. Assumes nothing.
use native.Mathlib.Omega.{arith}
use Rattle.writing.specs.Written.{put_more, put_length}
use Rattle.packed.specs.Jobs.{job_bytes}
use Rattle.packed.specs.LengthLaws.{job_length_sum}
use Rattle.packed.proofs.write.put_job.Goals as goal

pub put_number-none-requires : goal.put_number-none-requires
put_number-none-requires c =
    omega (arith, c.requires, job_length_sum c.args.job)

pub put_argument-one-requires : goal.put_argument-one-requires
put_argument-one-requires c =
    omega (arith, c.requires, job_length_sum c.args.job, c.put_number-none.ensures.place, put_length c.put_number-none.ensures)

pub put_argument-two-requires : goal.put_argument-two-requires
put_argument-two-requires c =
    omega (
      arith,
      c.requires,
      job_length_sum c.args.job,
      c.put_number-none.ensures.place,
      put_length c.put_number-none.ensures,
      c.put_argument-one.ensures.place,
      put_length c.put_argument-one.ensures,
    )

pub put_argument-three-requires : goal.put_argument-three-requires
put_argument-three-requires c =
    omega (
      arith,
      c.requires,
      job_length_sum c.args.job,
      c.put_number-none.ensures.place,
      put_length c.put_number-none.ensures,
      c.put_argument-one.ensures.place,
      put_length c.put_argument-one.ensures,
      c.put_argument-two.ensures.place,
      put_length c.put_argument-two.ensures,
    )

pub put_argument-requires : goal.put_argument-requires
put_argument-requires c =
    omega (
      arith,
      c.requires,
      job_length_sum c.args.job,
      c.put_number-none.ensures.place,
      put_length c.put_number-none.ensures,
      c.put_argument-one.ensures.place,
      put_length c.put_argument-one.ensures,
      c.put_argument-two.ensures.place,
      put_length c.put_argument-two.ensures,
      c.put_argument-three.ensures.place,
      put_length c.put_argument-three.ensures,
    )

pub returns : goal.returns
unfolding job_bytes
returns c =
    put_more c.put_number-none.ensures
    (put_more c.put_argument-one.ensures
    (put_more c.put_argument-two.ensures (put_more c.put_argument-three.ensures c.put_argument.ensures)))
