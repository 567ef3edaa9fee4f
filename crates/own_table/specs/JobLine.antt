-- A job's line, as `unpack` writes it, is the line of the call that it is. Assumes nothing.
use Rattle.std.specs.Prelude.{ℕ, ◌^◌, ◌<◌, ◌≡◌, refl, Bool, true, false, cond, List, [], ◌∷◌, ◌++◌, eqb, ltb, Some}
use Rattle.std.proofs.Common.{sym, ap, subst, ◌∙◌, append_assoc, append-nil, arith, eqb-true}
use Rattle.digits.specs.Digits.{word_text, digits}
use Rattle.packed.specs.Jobs.{arity_of, argument_of}
use Rattle.packed.specs.JobLaws.{Proper}
use Rattle.packed.specs.declared.jobs.Job.{Job}
use Rattle.calls.specs.Calls.{name_of, arguments_of}
use Rattle.listing_read.specs.Lines.{word_texts, line_of, call_of}
use Rattle.listing_read.specs.LineLaws.{Patterns, read_back}
use Rattle.unpack_stream.specs.Text.{letter_of, name_text, argument_text, job_text}
use Rattle.job_answers.specs.JobAnswers.{call_of_job}
use Rattle.claim_read.specs.FieldLaws.{Over}
use Rattle.own_table.specs.OwnLine.{over_append, over_less, digits_over, name_over}

-- without its end
unfoldable pub job_line : Job → List ℕ
job_line j = name_text j.function ++ (argument_text j 0 ++ (argument_text j 1 ++ (argument_text j 2 ++ argument_text j 3)))

pub job_text_lem : (j : Job) → job_text j ≡ job_line j ++ 10 ∷ []
unfolding job_text job_line
job_text_lem j = simp append_assoc

-- ---- by the function
-- what holds of the six numbers that work lists know
known_cases : (P : ℕ → Type 0) → P 1 → P 2 → P 3 → P 4 → P 5 → P 6 → (f : ℕ) → (arity_of f ≡ 0 → ⊥) → P f
unfolding arity_of
known_cases P one two three four five six f known =
    go (eqb f 1) (eqb f 2) (eqb f 3) (eqb f 4) (eqb f 5) (eqb f 6) refl refl refl refl refl refl known
  where
    is : (k : ℕ) → P k → eqb f k ≡ true → P f
    is k h e = subst P (sym (eqb-true f k e)) h

    go :
        (a b c d e g : Bool) → eqb f 1 ≡ a → eqb f 2 ≡ b → eqb f 3 ≡ c → eqb f 4 ≡ d → eqb f 5 ≡ e → eqb f 6 ≡ g
        → (◌≡◌ {A = ℕ} (cond a 3 (cond b 2 (cond c 3 (cond d 3 (cond e 4 (cond g 4 0)))))) 0 → ⊥)
        → P f
    go true b c d e g p q r s t u k = is 1 one p
    go false true c d e g p q r s t u k = is 2 two q
    go false false true d e g p q r s t u k = is 3 three r
    go false false false true e g p q r s t u k = is 4 four s
    go false false false false true g p q r s t u k = is 5 five t
    go false false false false false true p q r s t u k = is 6 six u
    go false false false false false false p q r s t u k = absurd (k refl)

-- the call's name, its line and its arguments are the job's
pub record IsCall (j : Job) : Type 0 where
  pub name : name_text j.function ≡ name_of (call_of_job j)
  pub line : line_of (call_of_job j) ≡ job_line j
  pub patterns : Patterns (arguments_of (call_of_job j))

module _ (a b c d : ℕ) (ha : a < 2 ^ 64) (hb : b < 2 ^ 64) (hc : c < 2 ^ 64) (hd : d < 2 ^ 64) where
  abbrev words : ℕ → Job
  words f = record { function = f; a = a; b = b; c = c; d = d }

  is_call : (f : ℕ) → (arity_of f ≡ 0 → ⊥) → IsCall (words f)
  unfolding name_text letter_of name_of arguments_of call_of_job job_line line_of word_texts argument_text argument_of arity_of
  is_call f known = known_cases (λ f. IsCall (words f))
      (record { name = refl; line = refl; patterns = (ha, (hb, (hc, tt))) })
      (record { name = refl; line = refl; patterns = (ha, (hb, tt)) })
      (record { name = refl; line = refl; patterns = (ha, (hb, (hc, tt))) })
      (record { name = refl; line = refl; patterns = (ha, (hb, (hc, tt))) })
      (record { name = refl; line = rw append-nil; patterns = (ha, (hb, (hc, (hd, tt)))) })
      (record { name = refl; line = rw append-nil; patterns = (ha, (hb, (hc, (hd, tt)))) })
      f known

pub job_call : (j : Job) → Proper j → IsCall j
unfolding argument_of
job_call j p = is_call j.a j.b j.c j.d (p.fits 0) (p.fits 1) (p.fits 2) (p.fits 3) j.function p.known

-- ---- THE LAWS
pub line_read : (j : Job) → Proper j → call_of (job_line j) ≡ Some (call_of_job j)
line_read j p = let h = job_call j p in ap call_of (sym h.line) ∙ read_back (call_of_job j) h.patterns

-- no newline is inside
argument_over : (j : Job) (k : ℕ) → Over 10 (argument_text j k)
unfolding argument_text word_text
argument_over j k = go (ltb k (arity_of j.function))
  where
    go : (t : Bool) → Over 10 (cond t (word_text (argument_of j k)) [])
    go true = (omega arith, over_less 10 32 (digits 16 16 (argument_of j k)) (omega arith) (digits_over 16 16 (argument_of j k)))
    go false = tt

pub line_over : (j : Job) → Proper j → Over 10 (job_line j)
unfolding job_line
line_over j p =
    over_append 10 (name_text j.function) _
    (subst (Over 10) (sym (job_call j p).name) (over_less 10 32 (name_of (call_of_job j)) (omega arith) (name_over (call_of_job j))))
    (over_append 10 (argument_text j 0) _ (argument_over j 0)
    (over_append 10 (argument_text j 1) _ (argument_over j 1)
    (over_append 10 (argument_text j 2) (argument_text j 3) (argument_over j 2) (argument_over j 3))))
