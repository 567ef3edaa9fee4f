-- A job as a line of the listing's form. Definitions only.
use Rattle.std.specs.Prelude.{ℕ, cond, List, [], ◌∷◌, ◌++◌, eqb, ltb}
use Rattle.digits.specs.Digits.{word_text}
use Rattle.packed.specs.Jobs.{arity_of, argument_of}
use Rattle.packed.specs.declared.jobs.Job.{Job}

-- "RF 1, RC 2, RD 3, RG 4, RJ 5": the second letter of the name
unfoldable pub letter_of : ℕ → ℕ
letter_of f = cond (eqb f 1) 70 (cond (eqb f 2) 67 (cond (eqb f 3) 68 (cond (eqb f 4) 71 74)))

-- the name; cel's is 6 (2026-09)
unfoldable pub name_text : ℕ → List ℕ
name_text f = cond (eqb f 6) (67 ∷ 69 ∷ 76 ∷ []) (82 ∷ letter_of f ∷ [])

-- an argument as the listing has it, if the function has it
unfoldable pub argument_text : Job → ℕ → List ℕ
argument_text j k = cond (ltb k (arity_of j.function)) (word_text (argument_of j k)) []

-- the name, the arguments, the line's end
unfoldable pub job_text : Job → List ℕ
job_text j =
    name_text j.function
    ++ (argument_text j 0 ++ (argument_text j 1 ++ (argument_text j 2 ++ (argument_text j 3 ++ 10 ∷ []))))

-- room for an argument, and for a line
abbrev pub argument_room : ℕ
argument_room = 17

abbrev pub line_room : ℕ
line_room = 72
