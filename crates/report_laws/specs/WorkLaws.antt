-- The report of a work list: the same jobs in any order, lists put together of any parts, and 18. Assumes nothing.
use Rattle.std.specs.Prelude.{ℕ, zero, suc, ◌+◌, ◌*◌, ◌^◌, ◌<◌, ◌≡◌, Bool, eqb, get_or, replicate}
use Rattle.std.proofs.Math.Path.{refl, ap}
use Rattle.std.proofs.Common.{sym, subst, ◌∙◌, add-zero, mod-eq_of_lt}
use Rattle.std.proofs.Math.Bool.{true, false, cond}
use mathlib.Core.List.{List, [], ◌∷◌, ◌++◌}
use Rattle.std.proofs.Math.Nat.{zero-add}
use native.Mathlib.Omega.{arith}
use borrow.Author.Tests.{eq-eqb, eqb-true, leb-false, lt-leb}
use Rattle.std.proofs.Math.Dec.{leb}
use Rattle.std.proofs.Math.ListN.{length}
use Rattle.exact.specs.Exact.{held_sum, Reordered, nothing, kept, swapped, onward}
use Rattle.packed.specs.Jobs.{arity_of}
use Rattle.packed.specs.Reading.{Jobs, jobs, stopped, read_all}
use Rattle.packed.specs.declared.jobs.Job.{Job}
use Rattle.worklist.specs.Count.{count_of}
use Rattle.refusals.specs.declared.Refusal.{Refusal}
use Rattle.refusals.specs.declared.Refusal.TheVariants.{TooMany}
use Rattle.std.specs.Prelude.{Result, Ok, Err}
use Rattle.std.specs.Result.{is_ok}
use Rattle.answers.specs.Answers.{answer_of}
use Rattle.job_answers.specs.JobAnswers.{call_of_job}
use Rattle.table.specs.RefusalLaws.{list_numbers}
use Rattle.tally.specs.Tally.{counted_of}
use Rattle.limbs.specs.Value.{limbs_of}
use Rattle.tally.specs.Meaning.{calls_of, refused_of, rounds_of, most_of, values_of, word_of, words_from, block_of}
use Rattle.tally.specs.MeaningLaws.{block_at}
use Rattle.tally.specs.declared.counted.Counted.{Counted}
use Rattle.report_words.specs.Words.{counted_added, calls_in, calls_in_all}
use Rattle.report_words.specs.Room.{most_calls, room_for, list_judged}
use Rattle.report_words.specs.Meaning.{Entry, counts_of, blocks_from, report_of, entries_added}
use Rattle.report_words.specs.BlockLaws.{block_word}
use Rattle.report_words.specs.ReportLaws.{report_long, report_block, added_order, report_added}
use Rattle.report.specs.Report.{job_added, jobs_added, jobs_of, report_judged, list_after}

-- ---- a job's answer, with its function's number
abbrev pub entry_of : Job → Entry
entry_of j = (j.function, counted_of (answer_of (call_of_job j)))

unfoldable pub entries_of : List Job → List Entry
entries_of [] = []
entries_of (j ∷ js) = entry_of j ∷ entries_of js

jobs_entries : (ws : List ℕ) (js : List Job) → jobs_added ws js ≡ entries_added ws (entries_of js)
unfolding jobs_added job_added entries_added entries_of
jobs_entries ws [] = refl
jobs_entries ws (j ∷ js) = jobs_entries (counted_added ws j.function (counted_of (answer_of (call_of_job j)))) js

entries_order : {js ks : List Job} → Reordered js ks → Reordered (entries_of js) (entries_of ks)
unfolding entries_of
entries_order nothing = nothing
entries_order (kept j r) = kept (entry_of j) (entries_order r)
entries_order (swapped j k js) = swapped (entry_of j) (entry_of k) (entries_of js)
entries_order (onward p q) = onward (entries_order p) (entries_order q)

-- ---- "the same jobs in another order give the same report", whatever words it is added to
pub jobs_order : {js ks : List Job} → Reordered js ks → (ws : List ℕ) → length ws ≡ 384 → jobs_added ws js ≡ jobs_added ws ks
jobs_order {js} {ks} r ws h = jobs_entries ws js ∙ added_order (entries_order r) ws h ∙ sym (jobs_entries ws ks)

-- added to a report, jobs give the report of both
pub jobs_report : (js : List Job) (es : List Entry) → jobs_added (report_of es) js ≡ report_of (entries_of js ++ es)
jobs_report js es = jobs_entries (report_of es) js ∙ report_added (entries_of js) es

-- zero words are the report of no list
block_none : block_of [] ≡ replicate 64 0
unfolding block_of words_from word_of calls_of refused_of rounds_of most_of values_of held_sum limbs_of
block_none = refl

pub none : report_of [] ≡ replicate 384 0
unfolding report_of blocks_from counts_of
none = rw block_none

-- ---- the calls of a list's report are its jobs
unfoldable six : List Entry → ℕ
six es =
    calls_of (counts_of 1 es) + calls_of (counts_of 2 es) + calls_of (counts_of 3 es) + calls_of (counts_of 4 es)
    + calls_of (counts_of 5 es) + calls_of (counts_of 6 es)

unfoldable one_of : ℕ → ℕ → ℕ
one_of f g = cond (eqb f g) 1 0

one_call : (f g : ℕ) (c : Counted) (es : List Entry) → calls_of (counts_of g ((f, c) ∷ es)) ≡ one_of f g + calls_of (counts_of g es)
unfolding counts_of calls_of one_of
one_call f g c es = go (eqb f g)
  where
    go : (t : Bool) → calls_of (cond t (c ∷ counts_of g es) (counts_of g es)) ≡ cond t 1 0 + calls_of (counts_of g es)
    go true = refl
    go false = sym (zero-add (calls_of (counts_of g es)))

-- a known function is one of the six
once : (f : ℕ) → (arity_of f ≡ 0 → ⊥)
    → one_of f 1 + one_of f 2 + one_of f 3 + one_of f 4 + one_of f 5 + one_of f 6 ≡ 1
unfolding arity_of one_of
once f known =
    go (eqb f 1) refl (eqb f 2) refl (eqb f 3) refl (eqb f 4) refl (eqb f 5) refl (eqb f 6) refl
  where
    Sum : ℕ → Type 0
    Sum f = one_of f 1 + one_of f 2 + one_of f 3 + one_of f 4 + one_of f 5 + one_of f 6 ≡ 1

    go :
        (a : Bool) → eqb f 1 ≡ a → (b : Bool) → eqb f 2 ≡ b → (c : Bool) → eqb f 3 ≡ c → (d : Bool) → eqb f 4 ≡ d
        → (e : Bool) → eqb f 5 ≡ e → (g : Bool) → eqb f 6 ≡ g → Sum f
    go true p b q c r d s e t g u = subst Sum (sym (eqb-true f 1 p)) refl
    go false p true q c r d s e t g u = subst Sum (sym (eqb-true f 2 q)) refl
    go false p false q true r d s e t g u = subst Sum (sym (eqb-true f 3 r)) refl
    go false p false q false r true s e t g u = subst Sum (sym (eqb-true f 4 s)) refl
    go false p false q false r false s true t g u = subst Sum (sym (eqb-true f 5 t)) refl
    go false p false q false r false s false t true u = subst Sum (sym (eqb-true f 6 u)) refl
    go false p false q false r false s false t false u = absurd (known (rw (p, q, r, s, t, u)))

abbrev pub AllKnown : List Job → Type 0
AllKnown [] = Unit {0}
AllKnown (j ∷ js) = (arity_of j.function ≡ 0 → ⊥) × AllKnown js

six_jobs : (js : List Job) → AllKnown js → six (entries_of js) ≡ length js
unfolding six entries_of counts_of calls_of
six_jobs [] k = refl
six_jobs (j ∷ js) k =
    let c = counted_of (answer_of (call_of_job j)) in
    let f = j.function in
    let es = entries_of js in
    let o = once f k.0 in
    let h = six_jobs js k.1 in
    omega (
      arith,
      one_call f 1 c es,
      one_call f 2 c es,
      one_call f 3 c es,
      one_call f 4 c es,
      one_call f 5 c es,
      one_call f 6 c es,
    )

-- a function's calls, where there are fewer than 2 ^ 32
word_calls : (es : List Entry) (k : ℕ) → k < 6 → six es < 2 ^ 32 → get_or (report_of es) (k * 64) 0 ≡ calls_of (counts_of (suc k) es)
unfolding word_of
word_calls es k h l =
    ap (λ (n : ℕ). get_or (report_of es) n 0) (sym (add-zero (k * 64))) ∙ sym (block_word (report_of es) k 0 (omega arith))
    ∙ ap (λ (b : List ℕ). get_or b 0 0) (report_block es k h) ∙ block_at (counts_of (suc k) es) 0 (omega arith)
    ∙ mod-eq_of_lt (few k h)
  where
    few : (k : ℕ) → k < 6 → calls_of (counts_of (suc k) es) < 2 ^ 64
    few zero h = unfold six in omega arith
    few (suc zero) h = unfold six in omega arith
    few (suc (suc zero)) h = unfold six in omega arith
    few (suc (suc (suc zero))) h = unfold six in omega arith
    few (suc (suc (suc (suc zero)))) h = unfold six in omega arith
    few (suc (suc (suc (suc (suc zero))))) h = unfold six in omega arith
    few (suc (suc (suc (suc (suc (suc k)))))) h = absurd (omega arith)

pub calls_jobs : (js : List Job) → AllKnown js → length js < 2 ^ 32 → calls_in_all (report_of (entries_of js)) ≡ length js
unfolding calls_in_all calls_in
calls_jobs js k l =
    let es = entries_of js in
    let s = six_jobs js k in
    let m : six es < 2 ^ 32 = omega arith in
    let a = word_calls es 0 (omega arith) m in
    let b = word_calls es 1 (omega arith) m in
    let c = word_calls es 2 (omega arith) m in
    let d = word_calls es 3 (omega arith) m in
    let e = word_calls es 4 (omega arith) m in
    let f = word_calls es 5 (omega arith) m in
    rw (eq-eqb (length (report_of es)) 384 (report_long es), a, b, c, d, e, f) (sum es s)
  where
    sum : (es : List Entry) → six es ≡ length js
        → 0 + calls_of (counts_of 1 es) + calls_of (counts_of 2 es) + calls_of (counts_of 3 es) + calls_of (counts_of 4 es)
        + calls_of (counts_of 5 es) + calls_of (counts_of 6 es) ≡ length js
    sum es s = unfold six in omega (arith, s)

-- ---- a list
module _ (ws list : List ℕ) where
  pub list_added : {js : List Job} → read_all list ≡ jobs js → room_for ws (length js) ≡ true
      → (report_judged ws list ≡ Ok tt) × (list_after ws list ≡ jobs_added ws js)
  list_added {js} e r = (judged, after)
    where
      counted : count_of 0 (jobs js) ≡ Ok (length js)
      counted = unfold count_of in ap (λ (n : ℕ). Ok n) (zero-add (length js))

      judged : report_judged ws list ≡ Ok tt
      judged = unfold report_judged list_judged in rw (e, counted, r)

      after : list_after ws list ≡ jobs_added ws js
      after = unfold list_after jobs_of in rw (judged, e)

  -- "the work list's own" refusals come first
  pub list_first : {js : List Job} {place : ℕ} {r : Refusal} → read_all list ≡ stopped js place r → report_judged ws list ≡ Err r
  unfolding report_judged list_judged count_of
  list_first e = rw e

  -- "then 18"
  pub then_too_many : {js : List Job} → read_all list ≡ jobs js → most_calls < calls_in_all ws + length js
      → report_judged ws list ≡ Err TooMany
  unfolding report_judged list_judged count_of room_for
  then_too_many {js} e l = rw (e, zero-add (length js), lt-leb (calls_in_all ws + length js) most_calls l)

  -- 18 exactly there
  pub exactly_too_many : report_judged ws list ≡ Err TooMany
      → (js : List Job) × (read_all list ≡ jobs js) × (most_calls < calls_in_all ws + length js)
  unfolding report_judged list_judged count_of room_for
  exactly_too_many e = go (read_all list) refl e
    where
      go : (all : Jobs) → read_all list ≡ all → list_judged ws (count_of 0 all) ≡ Err TooMany
          → (js : List Job) × (read_all list ≡ jobs js) × (most_calls < calls_in_all ws + length js)
      go (stopped js place r) is e =
          let z : r ≡ TooMany = cc in
          let f = list_numbers list (is ∙ ap (stopped js place) z) in absurd (omega (arith, f))
      go (jobs js) is e = (js, is, many (leb (calls_in_all ws + (0 + length js)) most_calls) refl e)
        where
          many : (t : Bool) → leb (calls_in_all ws + (0 + length js)) most_calls ≡ t
              → cond t (Ok (tt {0})) (Err TooMany) ≡ Err TooMany
              → most_calls < calls_in_all ws + length js
          many true p e = let z : ◌≡◌ {A = ℕ} 0 1 = cc in absurd (omega arith)
          many false p e = let l = leb-false (calls_in_all ws + (0 + length js)) most_calls p in omega arith

  -- "each leaves the report unchanged"
  pub refused_same : (report_judged ws list ≡ Ok tt → ⊥) → list_after ws list ≡ ws
  unfolding list_after
  refused_same n = go (report_judged ws list) n
    where
      go : (r : Result (Unit {0}) Refusal) → (r ≡ Ok tt → ⊥) → cond (is_ok r) (jobs_added ws (jobs_of (read_all list))) ws ≡ ws
      go (Ok done) n = absurd (n refl)
      go (Err r) n = refl
