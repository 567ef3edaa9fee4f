-- `job_of` meets its contract, case by case. Assumes nothing.
use Rattle.calls.specs.Calls.{arguments_of, number_of}
use Rattle.pack_stream.specs.Pack.{job_of}
use Rattle.pack_stream.proofs.jobs.job_of.Goals as goal

pub returns-in-Rf : goal.returns-in-Rf
unfolding job_of arguments_of number_of
returns-in-Rf c =
    rw c.in-Rf.is c.job.ensures

pub returns-in-Rc : goal.returns-in-Rc
unfolding job_of arguments_of number_of
returns-in-Rc c =
    rw c.in-Rc.is c.job-in-Rc.ensures

pub returns-in-Rd : goal.returns-in-Rd
unfolding job_of arguments_of number_of
returns-in-Rd c =
    rw c.in-Rd.is c.job-in-Rd.ensures

pub returns-in-Rg : goal.returns-in-Rg
unfolding job_of arguments_of number_of
returns-in-Rg c =
    rw c.in-Rg.is c.job-in-Rg.ensures

pub returns-in-Rj : goal.returns-in-Rj
unfolding job_of arguments_of number_of
returns-in-Rj c =
    rw c.in-Rj.is c.job-in-Rj.ensures

pub returns-in-Cel : goal.returns-in-Cel
unfolding job_of arguments_of number_of
returns-in-Cel c =
    rw c.in-Cel.is c.job-in-Cel.ensures
