-- Jobs and how they are written (document 02, 2026-03). Definitions only.
use Rattle.std.specs.Prelude.{ℕ, cond, List, [], ◌∷◌, ◌++◌, eqb, ltb, length}
use Rattle.packed_number.specs.Numbers.{number_bytes}
use Rattle.packed.specs.declared.jobs.Job.{Job}

-- how many arguments a function has, by its number: "RF 1, RC 2, RD 3, RG 4, RJ 5", and cel 6
-- (2026-09); 0 for every other number
unfoldable pub arity_of : ℕ → ℕ
arity_of f =
    cond (eqb f 1) 3
    (cond (eqb f 2) 2 (cond (eqb f 3) 3 (cond (eqb f 4) 3 (cond (eqb f 5) 4 (cond (eqb f 6) 4 0)))))

-- the argument at k, from 0 to 3
unfoldable pub argument_of : Job → ℕ → ℕ
argument_of j k = cond (eqb k 0) j.a (cond (eqb k 1) j.b (cond (eqb k 2) j.c j.d))

-- the job with another argument there
unfoldable pub with_argument : Job → ℕ → ℕ → Job
with_argument j k v = record {
  function = j.function;
  a = cond (eqb k 0) v j.a;
  b = cond (eqb k 1) v j.b;
  c = cond (eqb k 2) v j.c;
  d = cond (ltb 2 k) v j.d;
}

-- an argument's bytes, if the function has it
unfoldable pub argument_bytes : Job → ℕ → List ℕ
argument_bytes j k = cond (ltb k (arity_of j.function)) (number_bytes (argument_of j k)) []

-- "a function number, then each argument's 64 bits, all as numbers in groups"
unfoldable pub job_bytes : Job → List ℕ
job_bytes j = number_bytes j.function ++ (argument_bytes j 0 ++ (argument_bytes j 1 ++ (argument_bytes j 2 ++ argument_bytes j 3)))

-- "the job's length"
unfoldable pub job_length : Job → ℕ
job_length j = length (job_bytes j)

-- "A list is jobs one after another"
unfoldable pub list_bytes : List Job → List ℕ
list_bytes [] = []
list_bytes (j ∷ js) = job_bytes j ++ list_bytes js
