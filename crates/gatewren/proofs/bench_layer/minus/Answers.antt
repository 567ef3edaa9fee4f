-- `minus` meets its contract, step by step as its definition. Assumes nothing.
use Rattle.gatewren.specs.Bench.{minus_of}
use Rattle.gatewren.proofs.bench_layer.minus.Goals as goal

pub returns-then-quicker : goal.returns-then-quicker
unfolding minus_of
returns-then-quicker c =
    rw c.if-quicker.true

pub returns : goal.returns
unfolding minus_of
returns c =
    rw c.if-quicker.false
