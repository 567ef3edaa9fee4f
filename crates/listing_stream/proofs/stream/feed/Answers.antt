-- `feed` meets its contract: so many bytes are fed that the replies to them fit. Assumes nothing.
use Prim.Native.Nat.{◌≤◌}
use mathlib.Core.Path.{◌≡◌, sym}
use native.Mathlib.Omega.{arith}
use borrow.Author.Rules.{rules}
use lib.ListN.{length}
use lib.Seq.{length-take-le}
use Rattle.listing_stream.specs.Stream.{held_length, block_length}
use Rattle.writing.specs.Written.{put_length}
use Rattle.writing.specs.Parts.{take_least}
use Rattle.listing_stream.proofs.stream.feed.Goals as goal

pub feed_all-requires : goal.feed_all-requires
feed_all-requires c =
    let block : length c.args.block.now ≡ block_length = search rules in let full : length c.args.out.now ≡ 65536 = search rules in record { size_in_bounds = omega (arith, c.least.ensures.0); held_len = search rules; held_before_le_held_length = c.least-2.ensures.0; size_in_bounds_2 = omega (arith, full, c.least.ensures.0) }

pub returns : goal.returns
returns c =
    let held : length c.args.held.now ≡ held_length = search rules in let block : length c.args.block.now ≡ block_length = search rules in let full : length c.args.out.now ≡ 65536 = search rules in let most : c.feed_all.result.used ≤ length c.feed_all.new.out =
    omega (arith, put_length c.feed_all.ensures.lists.said, c.feed_all.ensures.used_bound, c.least.ensures.0) in record {
      lists = rw (
        take_least c.args.held.now held_length _ _ held c.least-2.ensures.2,
        take_least c.args.block.now block_length _ _ block c.least.ensures.2,
      ) at c.feed_all.ensures.lists;
      held_le_held_length = c.feed_all.ensures.held_le_held_length;
      prefix_len = (most, sym (length-take-le _ _ most));
    }
