-- `job_meets` meets its contract. Assumes nothing.
use Rattle.table.proofs.judge.job_meets.Goals as goal

pub returns : goal.returns
returns c =
    rw (c.meets.ensures, c.job_answer.ensures)
