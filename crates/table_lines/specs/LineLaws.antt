-- Row by row, the lines of a listing give what the definition says of all. Assumes nothing.
use Rattle.refusals.specs.declared.Refusal.TheVariants.{NumbersDiffer}
use Rattle.std.specs.Prelude.{ℕ, suc, ◌+◌, ◌≤◌, ◌<◌, ◌≡◌, refl, Bool, true, false, cond, List, [], ◌∷◌, eqb, length, take}
use Rattle.std.proofs.Common.{ap, ◌∙◌, arith, lt-ltb}
use Rattle.std.proofs.Math.Dec.{eqb-suc-suc, eqb-suc-zero, eqb-zero-suc}
use Rattle.packed.specs.Reading.{jobs}
use Rattle.packed.specs.declared.jobs.Job.{Job}
use Rattle.unpack_stream.specs.Text.{letter_of, name_text}
use Rattle.claim.specs.Rows.{row_after, missing_at, ended_at}
use Rattle.claim.specs.declared.rows.Checked.{Checked}
use Rattle.claim.specs.declared.rows.Checked.TheVariants.{Accepted, BadRow, Refused}
use Rattle.claim_read.specs.HeldLaws.{name_held, claim_held}
use Rattle.table.specs.Table.{row_meets, rows_from, table_of}
use Rattle.table_lines.specs.Lines.{is_header, line_meets, line_claims, check_lines, after_rows}

-- from what is known so far, the jobs and lines that are left
abbrev rest_of : ℕ → Checked → ℕ → List Job → List (List ℕ) → Checked
rest_of t (Refused n) row js ls = Refused n
rest_of t (BadRow first) row js ls = cond (eqb (length ls) (length js)) (BadRow first) (Refused NumbersDiffer)
rest_of t Accepted row js ls = cond (eqb (length ls) (length js)) (rows_from t row js (line_claims js ls)) (Refused NumbersDiffer)

rest_ended : (t : ℕ) (so : Checked) (row : ℕ) (ls : List (List ℕ)) → after_rows t so row [] ls ≡ rest_of t so row [] ls
unfolding after_rows ended_at missing_at rows_from line_claims
rest_ended t (Refused n) row [] = refl
rest_ended t (Refused n) row (l ∷ ls) = rw (lt-ltb 0 (suc (length ls)) (omega arith))
rest_ended t (BadRow n) row [] = refl
rest_ended t (BadRow n) row (l ∷ ls) = rw (lt-ltb 0 (suc (length ls)) (omega arith), eqb-suc-zero (length ls))
rest_ended t Accepted row [] = refl
rest_ended t Accepted row (l ∷ ls) = rw (lt-ltb 0 (suc (length ls)) (omega arith), eqb-suc-zero (length ls))

missing_more : (t : ℕ) (so : Checked) (row : ℕ) (j : Job) (js : List Job)
    → rest_of t (missing_at so) (row + 1) js [] ≡ rest_of t so row (j ∷ js) []
unfolding missing_at
missing_more t (Refused n) row j js = refl
missing_more t (BadRow n) row j js = rw (eqb-zero-suc (length js))
missing_more t Accepted row j js = rw (eqb-zero-suc (length js))

row_more_lem : (t : ℕ) (so : Checked) (row : ℕ) (j : Job) (js : List Job) (l : List ℕ) (ls : List (List ℕ))
    → rest_of t (row_after so row (line_meets t j l)) (row + 1) js ls ≡ rest_of t so row (j ∷ js) (l ∷ ls)
unfolding row_after rows_from line_claims line_meets
row_more_lem t (Refused n) row j js l ls = refl
row_more_lem t (BadRow n) row j js l ls = rw (eqb-suc-suc (length ls) (length js))
row_more_lem t Accepted row j js l ls = rw (eqb-suc-suc (length ls) (length js)) (go (line_meets t j l))
  where
    go : (m : Bool)
        → rest_of t (cond m Accepted (BadRow row)) (row + 1) js ls
        ≡ cond (eqb (length ls) (length js)) (cond m (rows_from t (row + 1) js (line_claims js ls)) (BadRow row))
        (Refused NumbersDiffer)
    go true = refl
    go false = refl

after_rest : (t : ℕ) (js : List Job) (so : Checked) (row : ℕ) (ls : List (List ℕ))
    → after_rows t so row js ls ≡ rest_of t so row js ls
unfolding after_rows
after_rest t [] so row ls = rest_ended t so row ls
after_rest t (j ∷ js) so row [] = after_rest t js (missing_at so) (row + 1) [] ∙ missing_more t so row j js
after_rest t (j ∷ js) so row (l ∷ ls) =
    after_rest t js (row_after so row (line_meets t j l)) (row + 1) ls ∙ row_more_lem t so row j js l ls

-- THE LAW
pub rows_right : (t : ℕ) (js : List Job) (ls : List (List ℕ)) → after_rows t Accepted 0 js ls ≡ check_lines t (jobs js) ls
unfolding check_lines table_of
rows_right t js ls = after_rest t js Accepted 0 ls

-- ---- of a line it is enough to hold so many bytes
name_short : (f : ℕ) → length (name_text f) ≤ 3
unfolding name_text
name_short f = go (eqb f 6)
  where
    go : (t : Bool) → length (cond t (67 ∷ 69 ∷ 76 ∷ []) (82 ∷ letter_of f ∷ [])) ≤ 3
    go true = omega arith
    go false = omega arith

pub held_line : (t : ℕ) (j : Job) (l : List ℕ) (k : ℕ) → 22 < k → line_meets t j (take k l) ≡ line_meets t j l
unfolding line_meets
held_line t j l k h = ap (row_meets t j) (claim_held (name_text j.function) l k (name_short j.function) h)

pub held_header : (l : List ℕ) (k : ℕ) → 9 < k → is_header (take k l) ≡ is_header l
unfolding is_header
held_header l k h = rw (name_held _ k l h, name_held _ k l h)
