-- `word` meets its contract, step by step as its definition. Assumes nothing.
use Rattle.gatewren.specs.Bench.{word_of}
use Rattle.gatewren.proofs.bench_layer.word.Goals as goal

pub returns-then-passes : goal.returns-then-passes
unfolding word_of
returns-then-passes c =
    rw c.if-passes.true

pub returns : goal.returns
unfolding word_of
returns c =
    rw c.if-passes.false
