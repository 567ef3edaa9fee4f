-- `knees` meets its contract, step by step as its definition. Assumes nothing.
use Rattle.std.proofs.Common.{sym}
use Rattle.bench_write.specs.Texts.{knees_of}
use Rattle.bench_write.proofs.tallies.knees.Goals as goal

pub returns : goal.returns
unfolding knees_of
returns c =
    rw (sym c.wrapping_add_u64.ensures.value) c.wrapping_add_u64-2.ensures.value
