-- Answers.
use Rattle.report.specs.Report.{job_added}
use Rattle.report.proofs.add_job.Goals as goal

pub returns : goal.returns
unfolding job_added
returns c =
    rw (← c.job_answer.ensures, ← c.counted_of.ensures)
    c.add_counted.ensures
