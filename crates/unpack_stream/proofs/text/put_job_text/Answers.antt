-- `put_job_text` meets its contract: a run after a run is one run. Assumes nothing.
use native.Mathlib.Omega.{arith}
use Rattle.writing.specs.Written.{put_more, put_length, put_byte}
use Rattle.unpack_stream.specs.Text.{job_text}
use Rattle.unpack_stream.proofs.Lines.{argument_most, name_most}
use Rattle.unpack_stream.proofs.text.put_job_text.Goals as goal

pub put_argument-one-requires : goal.put_argument-one-requires
put_argument-one-requires c =
    omega (
      arith,
      c.requires,
      c.put_name-name.ensures.place,
      put_length c.put_name-name.ensures,
      name_most c.args.job.function,
    )

pub put_argument-two-requires : goal.put_argument-two-requires
put_argument-two-requires c =
    let j = c.args.job in
    omega (
      arith,
      c.requires,
      c.put_name-name.ensures.place,
      put_length c.put_name-name.ensures,
      c.put_argument-one.ensures.place,
      put_length c.put_argument-one.ensures,
      name_most j.function,
      argument_most j 0,
    )

pub put_argument-three-requires : goal.put_argument-three-requires
put_argument-three-requires c =
    let j = c.args.job in
    omega (
      arith,
      c.requires,
      c.put_name-name.ensures.place,
      put_length c.put_name-name.ensures,
      c.put_argument-one.ensures.place,
      put_length c.put_argument-one.ensures,
      c.put_argument-two.ensures.place,
      put_length c.put_argument-two.ensures,
      name_most j.function,
      argument_most j 0,
      argument_most j 1,
    )

pub put_argument-four-requires : goal.put_argument-four-requires
put_argument-four-requires c =
    let j = c.args.job in
    omega (
      arith,
      c.requires,
      c.put_name-name.ensures.place,
      put_length c.put_name-name.ensures,
      c.put_argument-one.ensures.place,
      put_length c.put_argument-one.ensures,
      c.put_argument-two.ensures.place,
      put_length c.put_argument-two.ensures,
      c.put_argument-three.ensures.place,
      put_length c.put_argument-three.ensures,
      name_most j.function,
      argument_most j 0,
      argument_most j 1,
      argument_most j 2,
    )

pub bounds-out-four : goal.bounds-out-four
bounds-out-four c =
    let j = c.args.job in
    omega (
      arith,
      c.requires,
      c.put_name-name.ensures.place,
      put_length c.put_name-name.ensures,
      c.put_argument-one.ensures.place,
      put_length c.put_argument-one.ensures,
      c.put_argument-two.ensures.place,
      put_length c.put_argument-two.ensures,
      c.put_argument-three.ensures.place,
      put_length c.put_argument-three.ensures,
      c.put_argument-four.ensures.place,
      put_length c.put_argument-four.ensures,
      name_most j.function,
      argument_most j 0,
      argument_most j 1,
      argument_most j 2,
      argument_most j 3,
    )

pub overflow_add-result : goal.overflow_add-result
overflow_add-result c =
    let j = c.args.job in
    omega (
      arith,
      c.requires,
      c.put_name-name.ensures.place,
      put_length c.put_name-name.ensures,
      c.put_argument-one.ensures.place,
      put_length c.put_argument-one.ensures,
      c.put_argument-two.ensures.place,
      put_length c.put_argument-two.ensures,
      c.put_argument-three.ensures.place,
      put_length c.put_argument-three.ensures,
      c.put_argument-four.ensures.place,
      put_length c.put_argument-four.ensures,
      name_most j.function,
      argument_most j 0,
      argument_most j 1,
      argument_most j 2,
      argument_most j 3,
    )

pub returns : goal.returns
unfolding job_text
returns c =
    put_more c.put_name-name.ensures
    (put_more c.put_argument-one.ensures
    (put_more c.put_argument-two.ensures (put_more c.put_argument-three.ensures
    (put_more c.put_argument-four.ensures (put_byte _ _ _)))))
