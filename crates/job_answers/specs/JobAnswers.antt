-- The call that a job of a work list is (document 02, 2026-03). Definitions only.
use Rattle.std.specs.Prelude.{cond, eqb}
use Rattle.calls.specs.declared.Call.{Call}
use Rattle.calls.specs.declared.Call.TheVariants.{Rc, Rf, Rd, Rg, Rj, Cel}
use Rattle.packed.specs.declared.jobs.Job.{Job}

-- by the function's number: "RF 1, RC 2, RD 3, RG 4, RJ 5", and cel 6 (2026-09); no list has a job of another number
unfoldable pub call_of_job : Job → Call
call_of_job j =
    cond (eqb j.function 1) (Rf j.a j.b j.c)
    (cond (eqb j.function 2) (Rc j.a j.b)
    (cond (eqb j.function 3) (Rd j.a j.b j.c)
    (cond (eqb j.function 4) (Rg j.a j.b j.c)
    (cond (eqb j.function 5) (Rj j.a j.b j.c j.d) (Cel j.a j.b j.c j.d)))))
