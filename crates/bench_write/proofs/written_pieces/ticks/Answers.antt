-- `ticks` meets its contract, step by step as its definition. Assumes nothing.
use Rattle.std.proofs.Common.{sym}
use Rattle.bench_write.specs.Texts.{ticks_of}
use Rattle.bench_write.proofs.written_pieces.ticks.Goals as goal

pub returns : goal.returns
unfolding ticks_of
returns c =
    rw (sym c.parted.ensures) c.rounded.ensures
