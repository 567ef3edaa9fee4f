-- The call of a job has the job's number, and a call's own words are its job. Assumes nothing.
use Rattle.std.specs.Prelude.{ℕ, ◌≡◌, refl, Bool, true, false, cond, eqb, get_or}
use Rattle.std.proofs.Common.{sym, eqb-true}
use Rattle.calls.specs.Calls.{number_of, arguments_of}
use Rattle.calls.specs.declared.Call.{Call}
use Rattle.calls.specs.declared.Call.TheVariants.{Rc, Rf, Rd, Rg, Rj, Cel}
use Rattle.packed.specs.Jobs.{arity_of}
use Rattle.packed.specs.declared.jobs.Job.{Job}
use Rattle.job_answers.specs.JobAnswers.{call_of_job}

-- of a function that the work lists know
pub call_number : (j : Job) → (arity_of j.function ≡ 0 → ⊥) → number_of (call_of_job j) ≡ j.function
unfolding call_of_job number_of arity_of
call_number j known =
    go (eqb j.function 1) (eqb j.function 2) (eqb j.function 3) (eqb j.function 4) (eqb j.function 5)
    (eqb j.function 6) refl refl refl refl refl refl known
  where
    go :
        (one two three four five six : Bool) → eqb j.function 1 ≡ one → eqb j.function 2 ≡ two
        → eqb j.function 3 ≡ three → eqb j.function 4 ≡ four → eqb j.function 5 ≡ five → eqb j.function 6 ≡ six
        → (◌≡◌ {A = ℕ} (cond one 3 (cond two 2 (cond three 3 (cond four 3 (cond five 4 (cond six 4 0)))))) 0 → ⊥)
        → number_of (cond one (Rf j.a j.b j.c) (cond two (Rc j.a j.b) (cond three (Rd j.a j.b j.c)
        (cond four (Rg j.a j.b j.c) (cond five (Rj j.a j.b j.c j.d) (Cel j.a j.b j.c j.d))))))
        ≡ j.function
    go true b c d e f p q r s t u k = sym (eqb-true j.function 1 p)
    go false true c d e f p q r s t u k = sym (eqb-true j.function 2 q)
    go false false true d e f p q r s t u k = sym (eqb-true j.function 3 r)
    go false false false true e f p q r s t u k = sym (eqb-true j.function 4 s)
    go false false false false true f p q r s t u k = sym (eqb-true j.function 5 t)
    go false false false false false true p q r s t u k = sym (eqb-true j.function 6 u)
    go false false false false false false p q r s t u k = absurd (k refl)

-- the job of a call's words is that call
pub call_back : (c : Call) → call_of_job (record {
  function = number_of c;
  a = get_or (arguments_of c) 0 0;
  b = get_or (arguments_of c) 1 0;
  c = get_or (arguments_of c) 2 0;
  d = get_or (arguments_of c) 3 0;
}) ≡ c
unfolding call_of_job number_of arguments_of
call_back (Rc x y) = refl
call_back (Rf x y z) = refl
call_back (Rd x y z) = refl
call_back (Rg x y z) = refl
call_back (Rj x y z p) = refl
call_back (Cel kc p a b) = refl
