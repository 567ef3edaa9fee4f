-- `job_answer` meets its contract. Assumes nothing.
use mathlib.Core.Path.{ap, ◌∙◌}
use Rattle.answers.specs.Answers.{answer_of}
use Rattle.job_answers.proofs.job_answer.Goals as goal

pub returns : goal.returns
returns c =
    c.answer_of.ensures ∙ ap answer_of c.call_of_job.ensures
