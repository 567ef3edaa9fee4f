-- `by_logs` meets its contract, step by step as its definition. Assumes nothing.
use Rattle.rj_term.specs.Helper.{by_logs1p}
use Rattle.rj_term.proofs.helper.by_logs.Goals as goal

pub returns : goal.returns
unfolding by_logs1p
returns c =
    rw (c.ln_1p_apart.ensures, c.sqrt.ensures, c.sqrt-arg.ensures)
