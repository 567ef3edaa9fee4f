-- What the check of a table says (document 02, 2026-11). Assumes nothing.
use Rattle.refusals.specs.declared.Refusal.{Refusal}
use Rattle.refusals.specs.declared.Refusal.TheVariants.{NumbersDiffer}
use Rattle.std.specs.Prelude.{ℕ, zero, suc, ◌+◌, ◌*◌, ◌≤◌, ◌≡◌, Bool}
use Rattle.std.proofs.Math.Path.{refl, ap}
use Rattle.std.proofs.Common.{sym, subst, ◌∙◌, add-zero, zero-add, arith}
use Rattle.std.proofs.Math.Bool.{true, false, cond}
use mathlib.Core.List.{List, [], ◌∷◌}
use borrow.Author.Tests.{eq-eqb, ne_eqb, eqb-true, eqb-false}
use Rattle.std.proofs.Math.Dec.{eqb}
use Rattle.std.proofs.Math.ListN.{length}
use Rattle.packed.specs.Reading.{Jobs, jobs, stopped, read_all}
use Rattle.packed.specs.declared.jobs.Job.{Job}
use Rattle.answers.specs.Answers.{answer_of}
use Rattle.job_answers.specs.JobAnswers.{call_of_job}
use Rattle.claim.specs.ClaimLaws.{Finite}
use Rattle.claim.proofs.ClaimLaws.{meets_wider, own_meets}
use Rattle.claim.specs.declared.meeting.Claim.{Claim}
use Rattle.claim.specs.declared.rows.Checked.{Checked}
use Rattle.claim.specs.declared.rows.Checked.TheVariants.{Accepted, BadRow, Refused}
use Rattle.table.specs.Table.{row_meets, claims_of, rows_from, table_of, check_of}
use Rattle.table.specs.RefusalLaws.{list_numbers}
use Rattle.table.specs.TableLaws.{FirstBad, Met, Sound, own_words}

-- ---- the rows
rows_met : (t row : ℕ) (js : List Job) (cs : List Claim) → length cs ≡ length js → rows_from t row js cs ≡ Accepted → Met t js cs
unfolding rows_from
rows_met t row [] [] h e = tt
rows_met t row [] (c ∷ cs) h e = absurd (omega arith)
rows_met t row (j ∷ js) [] h e = absurd (omega arith)
rows_met t row (j ∷ js) (c ∷ cs) h e = go (row_meets t j c) refl e (rows_met t (row + 1) js cs (omega arith))
  where
    go : (m : Bool) → row_meets t j c ≡ m → cond m (rows_from t (row + 1) js cs) (BadRow row) ≡ Accepted
        → (rows_from t (row + 1) js cs ≡ Accepted → Met t js cs) → (row_meets t j c ≡ true) × Met t js cs
    go true m e rest = (m, rest e)
    go false m e rest = let z : ◌≡◌ {A = ℕ} 0 1 = cc in absurd (omega arith)

met_rows : (t row : ℕ) (js : List Job) (cs : List Claim) → Met t js cs → rows_from t row js cs ≡ Accepted
unfolding rows_from
met_rows t row [] [] m = refl
met_rows t row [] (c ∷ cs) m = absurd m
met_rows t row (j ∷ js) [] m = absurd m
met_rows t row (j ∷ js) (c ∷ cs) m = rw m.0 (met_rows t (row + 1) js cs m.1)

rows_first : (t row n : ℕ) (js : List Job) (cs : List Claim) → FirstBad t n js cs → rows_from t row js cs ≡ BadRow (row + n)
unfolding rows_from
rows_first t row n [] cs f = absurd f
rows_first t row n (j ∷ js) [] f = absurd f
rows_first t row zero (j ∷ js) (c ∷ cs) f = rw (f, add-zero)
rows_first t row (suc n) (j ∷ js) (c ∷ cs) f =
    let e : row + 1 + n ≡ row + suc n = omega arith in
    rw f.0 (rows_first t (row + 1) n js cs f.1 ∙ ap BadRow e)

-- the row that is named is the first bad one
rows_bad : (t row n : ℕ) (js : List Job) (cs : List Claim) → rows_from t row js cs ≡ BadRow n
    → (k : ℕ) × (n ≡ row + k) × FirstBad t k js cs
unfolding rows_from
rows_bad t row n [] cs e = let z : ◌≡◌ {A = ℕ} 0 1 = cc in absurd (omega arith)
rows_bad t row n (j ∷ js) [] e = let z : ◌≡◌ {A = ℕ} 0 1 = cc in absurd (omega arith)
rows_bad t row n (j ∷ js) (c ∷ cs) e = go (row_meets t j c) refl e (rows_bad t (row + 1) n js cs)
  where
    go :
        (m : Bool) → row_meets t j c ≡ m → cond m (rows_from t (row + 1) js cs) (BadRow row) ≡ BadRow n
        → (rows_from t (row + 1) js cs ≡ BadRow n → (k : ℕ) × (n ≡ row + 1 + k) × FirstBad t k js cs)
        → (k : ℕ) × (n ≡ row + k) × FirstBad t k (j ∷ js) (c ∷ cs)
    go true m e rest = let r = rest e in (suc r.0, omega (arith, r.1), (m, r.2))
    go false m e rest = let z : row ≡ n = cc in (0, omega arith, m)

rows_never : (t row : ℕ) (n : Refusal) (js : List Job) (cs : List Claim) → rows_from t row js cs ≡ Refused n → ⊥
unfolding rows_from
rows_never t row n [] cs e = let z : ◌≡◌ {A = ℕ} 0 1 = cc in omega arith
rows_never t row n (j ∷ js) [] e = let z : ◌≡◌ {A = ℕ} 0 1 = cc in omega arith
rows_never t row n (j ∷ js) (c ∷ cs) e = go (row_meets t j c) e (rows_never t (row + 1) n js cs)
  where
    go : (m : Bool) → cond m (rows_from t (row + 1) js cs) (BadRow row) ≡ Refused n
        → (rows_from t (row + 1) js cs ≡ Refused n → ⊥) → ⊥
    go true e rest = rest e
    go false e rest = let z : ◌≡◌ {A = ℕ} 0 1 = cc in omega arith

claims_length : (n : ℕ) (words : List ℕ) → length words ≡ 2 * n → length (claims_of words) ≡ n
unfolding claims_of
claims_length zero [] h = refl
claims_length zero (k ∷ words) h = absurd (omega arith)
claims_length (suc n) [] h = absurd (omega arith)
claims_length (suc n) (k ∷ []) h = absurd (omega arith)
claims_length (suc n) (k ∷ w ∷ words) h = ap suc (claims_length n words (omega arith))

-- ---- THE LAWS
module _ (t : ℕ) (list words : List ℕ) where
  -- "the work list's own" refusals come first
  pub list_first : {js : List Job} {place : ℕ} {n : Refusal} → read_all list ≡ stopped js place n
      → check_of t list words ≡ Refused n
  unfolding check_of table_of
  list_first e = rw e

  -- "then 22", where "the list is sound and claims and jobs differ in number"
  pub then_differ : {js : List Job} → read_all list ≡ jobs js → (length words ≡ 2 * length js → ⊥)
      → check_of t list words ≡ Refused NumbersDiffer
  unfolding check_of table_of
  then_differ {js} e h = rw (e, ne_eqb (length words) (2 * length js) h)

  rows_there : (s : Sound list words) → check_of t list words ≡ rows_from t 0 s.js (claims_of words)
  unfolding check_of table_of
  rows_there s = rw (s.read, eq-eqb (length words) (2 * length s.js) s.same)

  -- "It accepts exactly if each claim is the same refusal or a finite value within the tolerance of ours"
  pub accepts : (s : Sound list words) → Met t s.js (claims_of words) → check_of t list words ≡ Accepted
  accepts s m = rows_there s ∙ met_rows t 0 s.js (claims_of words) m

  -- "else it names the first bad row"
  pub names_first : (s : Sound list words) (n : ℕ) → FirstBad t n s.js (claims_of words) → check_of t list words ≡ BadRow n
  names_first s n f = rows_there s ∙ rows_first t 0 n s.js (claims_of words) f ∙ ap BadRow (zero-add n)

  -- ---- and back: what an answer says
  -- whatever is no refusal was said of a sound list with as many claims
  sounds : (r : Checked) → ((n : Refusal) → r ≡ Refused n → ⊥) → check_of t list words ≡ r
      → (s : Sound list words) × (rows_from t 0 s.js (claims_of words) ≡ r)
  unfolding check_of table_of
  sounds r never e = go (read_all list) refl e
    where
      go : (all : Jobs) → read_all list ≡ all → table_of t all (λ n. eqb (length words) (2 * n)) (claims_of words) ≡ r
          → (s : Sound list words) × (rows_from t 0 s.js (claims_of words) ≡ r)
      go (stopped js place n) is e = absurd (never n (sym e))
      go (jobs js) is e = pick (eqb (length words) (2 * length js)) refl e
        where
          pick : (q : Bool) → eqb (length words) (2 * length js) ≡ q
              → cond q (rows_from t 0 js (claims_of words)) (Refused NumbersDiffer) ≡ r
              → (s : Sound list words) × (rows_from t 0 s.js (claims_of words) ≡ r)
          pick true q e = (record { js = js; read = is; same = eqb-true (length words) (2 * length js) q }, e)
          pick false q e = absurd (never NumbersDiffer (sym e))

  pub accepted : check_of t list words ≡ Accepted → (s : Sound list words) × Met t s.js (claims_of words)
  accepted e =
      let r = sounds Accepted (λ n f. let z : ◌≡◌ {A = ℕ} 0 1 = cc in omega arith) e in
      (r.0, rows_met t 0 r.0.js (claims_of words) (claims_length (length r.0.js) words r.0.same) r.1)

  pub first_bad : {n : ℕ} → check_of t list words ≡ BadRow n → (s : Sound list words) × FirstBad t n s.js (claims_of words)
  first_bad {n} e =
      let r = sounds (BadRow n) (λ m f. let z : ◌≡◌ {A = ℕ} 0 1 = cc in omega arith) e in
      let b = rows_bad t 0 n r.0.js (claims_of words) r.1 in
      let k : b.0 ≡ n = omega (arith, b.1) in
      (r.0, subst (λ (m : ℕ). FirstBad t m r.0.js (claims_of words)) k b.2)

  -- a refusal is the list's own, or 22 of a sound list with another number of claims
  pub data Why (n : Refusal) : Type 0 where
    the_list : (js : List Job) (place : ℕ) → read_all list ≡ stopped js place n → Why n
    the_number : (js : List Job) → read_all list ≡ jobs js → (length words ≡ 2 * length js → ⊥) → n ≡ NumbersDiffer → Why n

  pub refused : {n : Refusal} → check_of t list words ≡ Refused n → Why n
  unfolding check_of table_of
  refused {n} e = go (read_all list) refl e
    where
      go : (all : Jobs) → read_all list ≡ all → table_of t all (λ n. eqb (length words) (2 * n)) (claims_of words) ≡ Refused n
          → Why n
      go (stopped js place m) is e = let z : m ≡ n = cc in the_list js place (is ∙ ap (stopped js place) z)
      go (jobs js) is e = pick (eqb (length words) (2 * length js)) refl e
        where
          pick : (q : Bool) → eqb (length words) (2 * length js) ≡ q
              → cond q (rows_from t 0 js (claims_of words)) (Refused NumbersDiffer) ≡ Refused n → Why n
          pick true q e = absurd (rows_never t 0 n js (claims_of words) e)
          pick false q e =
              let z : NumbersDiffer ≡ n = cc in the_number js is (eqb-false (length words) (2 * length js) q) (sym z)

  -- "22, exactly where the list is sound and claims and jobs differ in number"
  pub exactly_differ : check_of t list words ≡ Refused NumbersDiffer
      → (js : List Job) × (read_all list ≡ jobs js) × (length words ≡ 2 * length js → ⊥)
  exactly_differ e = go (refused e)
    where
      go : Why NumbersDiffer → (js : List Job) × (read_all list ≡ jobs js) × (length words ≡ 2 * length js → ⊥)
      go (the_list js place is) = absurd (omega (arith, list_numbers list is))
      go (the_number js is differ same) = (js, is, differ)

-- ---- a wider tolerance
module _ (t wide : ℕ) (h : t ≤ wide) where
  met_wider : (js : List Job) (cs : List Claim) → Met t js cs → Met wide js cs
  met_wider [] [] m = tt
  met_wider [] (c ∷ cs) m = m
  met_wider (j ∷ js) [] m = m
  met_wider (j ∷ js) (c ∷ cs) m = (meets_wider t wide h (answer_of (call_of_job j)) c m.0, met_wider js cs m.1)

  -- accepts what a narrower one did
  pub wider : (list words : List ℕ) → check_of t list words ≡ Accepted → check_of wide list words ≡ Accepted
  wider list words e =
      let r = accepted t list words e in accepts wide list words r.0 (met_wider r.0.js (claims_of words) r.1)

module _ (finite : (j : Job) → Finite (answer_of (call_of_job j))) where
  own_met : (js : List Job) → Met 0 js (claims_of (own_words js))
  unfolding claims_of own_words
  own_met [] = tt
  own_met (j ∷ js) = (own_meets (answer_of (call_of_job j)) (finite j), own_met js)

  own_length : (js : List Job) → length (own_words js) ≡ 2 * length js
  unfolding own_words
  own_length [] = refl
  own_length (j ∷ js) = omega (arith, own_length js)

  pub own_accepted : (list : List ℕ) (js : List Job) → read_all list ≡ jobs js → check_of 0 list (own_words js) ≡ Accepted
  own_accepted list js e =
      accepts 0 list (own_words js) (record { js = js; read = e; same = own_length js }) (own_met js)
