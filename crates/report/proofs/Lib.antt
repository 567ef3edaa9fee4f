-- `Adding`: a list's answers, job by job.
mod Adding
