-- `CountSteps`: the count of a list, job by job.
mod CountSteps
