-- What is left of a table, from a job and a place in the words on, gives what all of it gives. Assumes nothing.
use Rattle.refusals.specs.declared.Refusal.{Refusal}
use Rattle.refusals.specs.declared.Refusal.TheVariants.{NumbersDiffer}
use Rattle.std.specs.Prelude.{Some, Ok, Err}
use Prim.Native.Nat.{ℕ, suc, ◌+◌, ◌-◌, ◌*◌, ◌≤◌, ◌<◌}
use mathlib.Core.Path.{◌≡◌, refl, sym, ap, ◌∙◌}
use mathlib.Core.Bool.{Bool, true, false, cond}
use mathlib.Core.List.{List, [], ◌∷◌}
use mathlib.Core.Logic.{⊎_elim}
use native.Mathlib.Nat.{sub-zero}
use native.Mathlib.Numerals.{add-one}
use native.Mathlib.Omega.{arith}
use borrow.Author.Tests.{le-leb, lt-ltb, le-ltb, ne_eqb}
use lib.Dec.{eqb, ltb, eqb-suc-suc, eqb-suc-zero}
use lib.ListN.{length, get_or, drop, length-drop}
use lib.Seq.{drop-cons, drop-drop}
use Rattle.algebra.specs.Order.{lt_or_le, same_ltb}
use Rattle.packed_number.specs.NumberLaws.{Bytes}
use Rattle.packed.specs.RestLaws.{found_later}
use Rattle.packed.specs.Reading.{Jobs, jobs, stopped, with_job, read_on, read_at, read_from, read_all}
use Rattle.packed.specs.declared.jobs.Job.{Job}
use Rattle.packed.specs.declared.read.Got.{Got}
use Rattle.claim.specs.Rows.{row_after, missing_at, ended_at}
use Rattle.claim.specs.declared.rows.Checked.{Checked}
use Rattle.claim.specs.declared.rows.Checked.TheVariants.{Accepted, BadRow, Refused}
use Rattle.table.specs.Table.{row_meets, claims_of, rows_from, table_of, check_of}
use Rattle.table.specs.Words.{row_more, words_after}

-- from what is known so far, the jobs that are left and their words
abbrev pub rest_of : ℕ → Checked → ℕ → Jobs → List ℕ → Checked
rest_of tolerance so row (stopped js place n) ws = Refused n
rest_of tolerance (Refused n) row (jobs js) ws = Refused n
rest_of tolerance (BadRow first) row (jobs js) ws = cond (eqb (length ws) (2 * length js)) (BadRow first) (Refused NumbersDiffer)
rest_of tolerance Accepted row (jobs js) ws =
    cond (eqb (length ws) (2 * length js)) (rows_from tolerance row js (claims_of ws)) (Refused NumbersDiffer)

-- ---- a job more
double_suc : (n : ℕ) → 2 * suc n ≡ suc (suc (2 * n))
double_suc n = omega arith

module _ (t row : ℕ) (j : Job) where
  job_more : (so : Checked) (js : List Job) (ws : List ℕ)
      → rest_of t so row (jobs (j ∷ js)) ws ≡ rest_of t (row_more t so row j ws) (row + 1) (jobs js) (drop 2 ws)
  unfolding row_more row_after missing_at claims_of rows_from
  job_more (Refused n) js [] = refl
  job_more (Refused n) js (k ∷ []) = refl
  job_more (Refused n) js (k ∷ w ∷ ws) = refl
  job_more (BadRow first) js [] = rw (ne_eqb 0 (2 * suc (length js)) (λ e. omega arith))
  job_more (BadRow first) js (k ∷ []) = rw (ne_eqb 1 (2 * suc (length js)) (λ e. omega arith))
  job_more (BadRow first) js (k ∷ w ∷ ws) = rw (double_suc, eqb-suc-suc, eqb-suc-suc)
  job_more Accepted js [] = rw (ne_eqb 0 (2 * suc (length js)) (λ e. omega arith))
  job_more Accepted js (k ∷ []) = rw (ne_eqb 1 (2 * suc (length js)) (λ e. omega arith))
  job_more Accepted js (k ∷ w ∷ ws) =
      rw (double_suc, eqb-suc-suc, eqb-suc-suc) (go (row_meets t j (record { kind = k; word = w })))
    where
      go : (m : Bool)
          → cond (eqb (length ws) (2 * length js)) (cond m (rows_from t (row + 1) js (claims_of ws)) (BadRow row))
          (Refused NumbersDiffer)
          ≡ rest_of t (cond m Accepted (BadRow row)) (row + 1) (jobs js) ws
      go true = refl
      go false = refl

  rest_more : (so : Checked) (J : Jobs) (ws : List ℕ)
      → rest_of t so row (with_job j J) ws ≡ rest_of t (row_more t so row j ws) (row + 1) J (drop 2 ws)
  unfolding with_job
  rest_more so (jobs js) ws = job_more so js ws
  rest_more so (stopped js place n) ws = refl

  -- a claim is there, or none
  pub words_there : (so : Checked) (l : List ℕ) (at : ℕ) → at + 2 ≤ length l
      → row_more t so row j (drop at l) ≡ row_after so row (row_meets t j (record { kind = get_or l at 0; word = get_or l (at + 1) 0 }))
  unfolding row_more
  words_there so l at h =
      let e : at + 1 ≡ suc at = add-one at in
      rw (drop-cons l at 0 (omega arith), e, drop-cons l (suc at) 0 (omega arith))

  pub words_none : (so : Checked) (l : List ℕ) (at : ℕ) → length l < at + 2
      → row_more t so row j (drop at l) ≡ missing_at so
  unfolding row_more
  words_none so l at h = go (drop at l) (omega (arith, length-drop at l))
    where
      go : (ws : List ℕ) → length ws < 2 → row_more t so row j ws ≡ missing_at so
      go [] h = refl
      go (k ∷ []) h = refl
      go (k ∷ w ∷ ws) h = absurd (omega arith)

  refused_after : (so : Checked) (J : Jobs) (ws vs : List ℕ)
      → rest_of t (missing_at so) (row + 1) J ws ≡ rest_of t (missing_at so) (row + 1) J vs
  unfolding missing_at
  refused_after so (stopped js place n) ws vs = refl
  refused_after (Refused n) (jobs js) ws vs = refl
  refused_after (BadRow n) (jobs js) ws vs = refl
  refused_after Accepted (jobs js) ws vs = refl

  -- the place in the words
  after_words : (so : Checked) (J : Jobs) (l : List ℕ) (at : ℕ)
      → rest_of t (row_more t so row j (drop at l)) (row + 1) J (drop 2 (drop at l))
      ≡ rest_of t (row_more t so row j (drop at l)) (row + 1) J (drop (words_after (length l) at) l)
  unfolding words_after
  after_words so J l at = ⊎_elim none_left there (lt_or_le (length l) (at + 2))
    where
      there : at + 2 ≤ length l
          → rest_of t (row_more t so row j (drop at l)) (row + 1) J (drop 2 (drop at l))
          ≡ rest_of t (row_more t so row j (drop at l)) (row + 1) J (drop (words_after (length l) at) l)
      there h = rw (le-leb (at + 2) (length l) h, drop-drop 2 at l)

      none_left : length l < at + 2
          → rest_of t (row_more t so row j (drop at l)) (row + 1) J (drop 2 (drop at l))
          ≡ rest_of t (row_more t so row j (drop at l)) (row + 1) J (drop (words_after (length l) at) l)
      none_left h = rw (words_none so l at h) (refused_after so J _ _)

-- ---- the list's end
rest_ended : (t row : ℕ) (so : Checked) (ws : List ℕ) → rest_of t so row (jobs []) ws ≡ ended_at so (ltb 0 (length ws))
unfolding ended_at missing_at rows_from
rest_ended t row (Refused n) [] = refl
rest_ended t row (Refused n) (w ∷ ws) = rw (lt-ltb 0 (suc (length ws)) (omega arith))
rest_ended t row (BadRow first) [] = refl
rest_ended t row (BadRow first) (w ∷ ws) = rw (eqb-suc-zero (length ws), lt-ltb 0 (suc (length ws)) (omega arith))
rest_ended t row Accepted [] = refl
rest_ended t row Accepted (w ∷ ws) = rw (eqb-suc-zero (length ws), lt-ltb 0 (suc (length ws)) (omega arith))

-- ---- the loop
-- after so many jobs, at a place in the list and one in the words
pub record Standing (t : ℕ) (list words : List ℕ) (so : Checked) (row place at : ℕ) : Type 0 where
  pub inside : place ≤ length list
  pub few : row ≤ place
  pub rest : rest_of t so row (read_from (suc (length list) - row) list place) (drop at words) ≡ check_of t list words

module _ {t : ℕ} {list words : List ℕ} where
  pub standing_begins : Standing t list words Accepted 0 0 0
  unfolding check_of table_of read_all
  standing_begins = record {
    inside = omega arith;
    few = omega arith;
    rest = rw (sub-zero (suc (length list))) (go (read_all list));
  }
    where
      go : (J : Jobs) → rest_of t Accepted 0 J words ≡ table_of t J (λ n. eqb (length words) (2 * n)) (claims_of words)
      go (jobs js) = refl
      go (stopped js place n) = refl

  module _ {so : Checked} {row place at : ℕ} (s : Standing t list words so row place at) where
    pub standing_more : {got : Got} → Bytes list → read_at list place ≡ Ok (Some got)
        → Standing t list words (row_more t so row got.job (drop at words)) (row + 1) got.next
        (words_after (length words) at)
    unfolding read_from read_on
    standing_more {got} b e =
        let later = found_later list place got b e in
        let left : suc (length list) - row ≡ suc (suc (length list) - (row + 1)) = omega (arith, s.inside, s.few) in
        let J : Jobs = read_from (suc (length list) - (row + 1)) list got.next in
        let found : read_from (suc (length list) - row) list place ≡ with_job got.job J = rw (left, e) in
        record {
          inside = later.1;
          few = omega (arith, later.0, s.few);
          rest =
              sym (after_words t row got.job so J words at) ∙ sym (rest_more t row got.job so J (drop at words))
              ∙ ap (λ (K : Jobs). rest_of t so row K (drop at words)) (sym found) ∙ s.rest;
        }

    -- there is a turn left
    turn_left : suc (length list) - row ≡ suc (length list - row)
    turn_left = omega (arith, s.inside, s.few)

    pub standing_refused : {n : Refusal} → read_at list place ≡ Err n → Refused n ≡ check_of t list words
    unfolding read_from read_on
    standing_refused {n} e = rw (turn_left, e) at s.rest

    pub standing_ended : length list ≤ place → ended_at so (ltb at (length words)) ≡ check_of t list words
    unfolding read_from read_on read_at
    standing_ended h =
        sym (rest_ended t row so (drop at words) ∙ ap (ended_at so) left)
        ∙ rw (turn_left, le-ltb place (length list) h) at s.rest
      where
        left : ltb 0 (length (drop at words)) ≡ ltb at (length words)
        left = rw (length-drop at words) (same_ltb 0 (length words - at) at (length words) (λ k. omega arith) (λ k. omega arith))
