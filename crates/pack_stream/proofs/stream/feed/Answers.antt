-- `feed` meets its contract: so many bytes are fed that their jobs fit. Assumes nothing.
use mathlib.Core.Path.{◌≡◌}
use native.Mathlib.Omega.{arith}
use borrow.Author.Rules.{rules}
use lib.ListN.{length}
use Rattle.pack_stream.proofs.stream.feed.Goals as goal

pub feed_all-requires : goal.feed_all-requires
feed_all-requires c =
    let block : length c.args.block.now ≡ 1024 = search rules in let full : length c.args.out.now ≡ 65536 = search rules in record { size_in_bounds = omega (arith, c.least.ensures.0); held_len = search rules; n_le_held_length = c.least-2.ensures.0; size_in_bounds_2 = omega (arith, full, c.least.ensures.0) }
