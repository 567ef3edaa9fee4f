-- `feed_all` meets its contract. The invariant: what was fed so far is the beginning. Assumes nothing.
use Rattle.std.proofs.Common.{length, refl, arith}
use Rattle.std.proofs.Math.Seq.{take-length}
use Rattle.writing.specs.FedLaws.{upto_none, upto_byte, upto_all}
use Rattle.writing.specs.Written.{put_length}
use Rattle.swing_stream.proofs.Lengths.{byte_short}
use Rattle.swing_stream.proofs.stream.feed_all.Goals as goal

pub loop-b-init : goal.loop-b-init
loop-b-init c =
    upto_none

pub byte-told-requires : goal.byte-told-requires
byte-told-requires c =
    let u = c.loop-b.invariant in omega (arith, put_length u.fed.said, u.used_most)

pub loop-b-preserved : goal.loop-b-preserved
loop-b-preserved c =
    upto_byte c.loop-b.invariant c.loop-b-test.true refl byte_short c.byte-told.ensures

pub shape_of-out : goal.shape_of-out
shape_of-out c =
    put_length c.loop-b.invariant.fed.said

pub returns : goal.returns
returns c =
    let u = c.loop-b.invariant in
    let all = upto_all u (length c.args.part.now) (omega arith) c.loop-b-test.false in
    record { swings = rw take-length at all; used_bound = omega (arith, u.used_most) }
