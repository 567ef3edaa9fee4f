-- `feed_all` meets its contract. The invariant: what was fed so far is the block's beginning. Assumes nothing.
use Prim.Native.Nat.{◌<◌}
use mathlib.Core.Path.{refl, sym, ◌∙◌}
use native.Mathlib.Omega.{arith}
use lib.ListN.{length}
use Rattle.writing.specs.FedLaws.{upto_none, upto_byte, upto_all}
use Rattle.writing.specs.Written.{put_length}
use Rattle.listing_stream.proofs.Lengths.{byte_short}
use Rattle.listing_stream.proofs.stream.feed_all.Goals as goal

pub loop-i-init : goal.loop-i-init
loop-i-init c =
    let p = c.requires in (p.held_before_le_held_length, p.held_len, upto_none)

pub step-fed-requires : goal.step-fed-requires
step-fed-requires c =
    let l = c.loop-i in let u = c.loop-i.invariant.2 in record { held_len = l.invariant.1; n_le_held_length = l.invariant.0; longest_reply_in_bounds = omega (arith, put_length u.fed.said, u.used_most) }

pub loop-i-preserved : goal.loop-i-preserved
loop-i-preserved c =
    let l = c.loop-i in
    let inside : l.i < length c.args.block.now = omega arith in (
      c.step-fed.ensures.held_le_held_length,
      c.step-fed.auto.held ∙ l.invariant.1,
      upto_byte l.invariant.2 inside refl (byte_short _) c.step-fed.ensures.lists,
    )

pub shape_of-held : goal.shape_of-held
shape_of-held c =
    c.loop-i.invariant.1 ∙ sym c.requires.held_len

pub shape_of-out : goal.shape_of-out
shape_of-out c =
    put_length c.loop-i.invariant.2.fed.said

pub returns : goal.returns
returns c =
    let l = c.loop-i in let u = c.loop-i.invariant.2 in record { lists = upto_all u _ (omega arith) (omega arith); held_le_held_length = l.invariant.0; used_bound = omega (arith, u.used_most) }
