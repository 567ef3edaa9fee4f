-- `feed_all` meets its contract. The invariant: what was fed so far is the beginning. Assumes nothing.
use Rattle.std.proofs.Common.{length, refl, arith, sym, ◌∙◌}
use Rattle.std.proofs.Math.Seq.{take-length}
use Rattle.writing.specs.FedLaws.{upto_none, upto_byte, upto_all}
use Rattle.writing.specs.Written.{put_length}
use Rattle.bench_stream.proofs.Lengths.{byte_short}
use Rattle.bench_stream.proofs.stream.feed_all.Goals as goal

pub loop-b-init : goal.loop-b-init
loop-b-init c =
    (c.requires.held_before_le_held_length, c.requires.held_len, upto_none)

pub byte-told-requires : goal.byte-told-requires
byte-told-requires c =
    let l = c.loop-b in
    let u = c.loop-b.invariant.2 in
    record {
      held_len = l.invariant.1;
      n_le_held_length = l.invariant.0;
      longest_reply_in_bounds = omega (arith, put_length u.fed.said, u.used_most);
    }

pub loop-b-preserved : goal.loop-b-preserved
loop-b-preserved c =
    let l = c.loop-b in (
      c.byte-told.ensures.held_le_held_length,
      c.byte-told.auto.held ∙ l.invariant.1,
      upto_byte l.invariant.2 c.loop-b-test.true refl byte_short c.byte-told.ensures.fed,
    )

pub shape_of-held : goal.shape_of-held
shape_of-held c =
    c.loop-b.invariant.1 ∙ sym c.requires.held_len

pub shape_of-out : goal.shape_of-out
shape_of-out c =
    put_length c.loop-b.invariant.2.fed.said

pub returns : goal.returns
returns c =
    let u = c.loop-b.invariant.2 in
    let all = upto_all u (length c.args.part.now) (omega arith) c.loop-b-test.false in
    record {
      benches = rw take-length at all;
      held_le_held_length = c.loop-b.invariant.0;
      used_bound = omega (arith, u.used_most);
    }
