-- What our own listing gives is accepted with no tolerance: the calls of a list, as `unpack` writes them, through the listing,
-- and held against the list. Assumes nothing.
use Rattle.std.specs.Prelude.{ℕ, ◌+◌, ◌≡◌, true, false, List, [], ◌∷◌, ◌++◌, length, Ok, Err}
use Rattle.std.proofs.Math.Path.{refl}
use Rattle.std.proofs.Common.{sym, ap, ◌∙◌, append_assoc, append-nil, arith, eq-eqb, ne_eqb}
use Rattle.std.specs.Float.{binary64}
use Rattle.std.specs.Float.Ieee.{to_bits}
use Rattle.refusals.specs.Numbers.{refusal_number}
use Rattle.carlson.specs.Answer.{Answer}
use Rattle.carlson.specs.declared.answer.Road.{Road}
use Rattle.carlson.specs.declared.answer.Road.TheVariants.{Closed, Infinite, Agm, Duplication, Joint, Taylor, Reduction, Loop}
use Rattle.digits.specs.Digits.{digits}
use Rattle.writing.specs.Decimal.{decimal}
use Rattle.writing.specs.Input.{last_line, lines_from}
use Rattle.packed_number.specs.NumberLaws.{Bytes}
use Rattle.packed.specs.JobLaws.{Proper}
use Rattle.packed.specs.ListLaws.{Propers, bytes_back}
use Rattle.packed.specs.Reading.{jobs, read_all}
use Rattle.packed.specs.declared.jobs.Job.{Job}
use Rattle.calls.specs.Calls.{name_of}
use Rattle.calls.specs.declared.Call.{Call}
use Rattle.answers.specs.Answers.{answer_of}
use Rattle.listing_read.specs.Lines.{same}
use Rattle.listing_write.specs.Text.{count_text, road_text}
use Rattle.listing_stream.specs.Replies.{answer_by, admitted, reply_to, reply_of}
use Rattle.listing_stream.specs.Stream.{header_text, replies_to, listing_of}
use Rattle.unpack_stream.specs.Unpack.{lines_of}
use Rattle.job_answers.specs.JobAnswers.{call_of_job}
use Rattle.claim.specs.ClaimLaws.{Finite}
use Rattle.claim.proofs.ClaimLaws.{own_meets}
use Rattle.claim.specs.declared.rows.Checked.TheVariants.{Accepted}
use Rattle.claim_read.specs.Line.{refused_word}
use Rattle.claim_read.specs.FieldLaws.{Over}
use Rattle.table.specs.Table.{row_meets, rows_from, table_of, check_of}
use Rattle.table.specs.TableLaws.{own_words}
use Rattle.table.proofs.TableLaws.{own_accepted}
use Rattle.table_lines.specs.Lines.{is_header, without_header, line_claim, line_claims, check_lines}
use Rattle.own_table.specs.OwnAnswers.{Sayable, answer_sayable}
use Rattle.own_table.specs.OwnLine.{
  over_literal,
  over_append,
  over_less,
  digits_over,
  decimal_over,
  name_over,
  way_line,
  said_line,
  own_line,
  own_text,
  claim_own,
}
use Rattle.own_table.specs.JobLine.{job_line, job_text_lem, job_call, line_read, line_over}

-- ---- the words of C
sayable_finite : (a : Answer) → Sayable a → Finite a
sayable_finite (Ok f) h = h.1
sayable_finite (Err n) h = tt

pub own_words_lem : (list : List ℕ) (js : List Job) → read_all list ≡ jobs js → check_of 0 list (own_words js) ≡ Accepted
own_words_lem = own_accepted (λ j. sayable_finite (answer_of (call_of_job j)) (answer_sayable (call_of_job j)))

-- ---- the lines of a listing
-- what we say of a job, without the line's end
abbrev pub row_line : Job → List ℕ
row_line j = own_line (call_of_job j) (answer_of (call_of_job j))

unfoldable pub own_lines : List Job → List (List ℕ)
own_lines [] = []
own_lines (j ∷ js) = row_line j ∷ own_lines js

own_row : (j : Job) → Proper j → row_meets 0 j (line_claim j (row_line j)) ≡ true
own_row j p =
    let a = answer_of (call_of_job j) in
    let s = answer_sayable (call_of_job j) in
    rw ((job_call j p).name, claim_own (call_of_job j) a s) (own_meets a (sayable_finite a s))

own_rows : (row : ℕ) (js : List Job) → Propers js → rows_from 0 row js (line_claims js (own_lines js)) ≡ Accepted
unfolding rows_from line_claims own_lines
own_rows row [] p = refl
own_rows row (j ∷ js) p = rw (own_row j p.0) (own_rows (row + 1) js p.1)

own_length : (js : List Job) → length (own_lines js) ≡ length js
unfolding own_lines
own_length [] = refl
own_length (j ∷ js) = omega (arith, own_length js)

pub own_lines_lem : (js : List Job) → Propers js → check_lines 0 (jobs js) (own_lines js) ≡ Accepted
unfolding check_lines table_of
own_lines_lem js p = rw (eq-eqb (length (own_lines js)) (length js) (own_length js)) (own_rows 0 js p)

-- ---- the bytes of a listing
-- a line up to its end
line_ends : (l m begun : List ℕ) → Over 10 l → lines_from begun (l ++ 10 ∷ m) ≡ (begun ++ l) ∷ lines_from [] m
unfolding lines_from
line_ends [] m begun h = ap (λ (k : List ℕ). k ∷ lines_from [] m) (sym (append-nil begun))
line_ends (b ∷ l) m begun h =
    rw (ne_eqb b 10 (λ e. omega (arith, h.0)))
    (line_ends l m (begun ++ b ∷ []) h.1 ∙ ap (λ (k : List ℕ). k ∷ lines_from [] m) (append_assoc begun (b ∷ []) l))

first_line : (l m : List ℕ) → Over 10 l → lines_from [] ((l ++ 10 ∷ []) ++ m) ≡ l ∷ lines_from [] m
first_line l m h = rw append_assoc (line_ends l m [] h)

count_over : (n : ℕ) → Over 10 (count_text n 32)
unfolding count_text
count_over n =
    over_append 10 (decimal 9 n) (32 ∷ []) (over_less 10 32 (decimal 9 n) (omega arith) (decimal_over 9 n)) (omega arith, tt)

road_over : (r : Road) → Over 10 (road_text r)
unfolding road_text
road_over Closed = over_literal 10 (99 ∷ 108 ∷ 111 ∷ 115 ∷ 101 ∷ 100 ∷ 32 ∷ []) tt
road_over Infinite = over_literal 10 (105 ∷ 110 ∷ 102 ∷ 105 ∷ 110 ∷ 105 ∷ 116 ∷ 101 ∷ 32 ∷ []) tt
road_over Agm = over_literal 10 (97 ∷ 103 ∷ 109 ∷ 32 ∷ []) tt
road_over Duplication = over_literal 10 (100 ∷ 117 ∷ 112 ∷ 108 ∷ 105 ∷ 99 ∷ 97 ∷ 116 ∷ 105 ∷ 111 ∷ 110 ∷ 32 ∷ []) tt
road_over Joint = over_literal 10 (106 ∷ 111 ∷ 105 ∷ 110 ∷ 116 ∷ 32 ∷ []) tt
road_over Taylor = over_literal 10 (116 ∷ 97 ∷ 121 ∷ 108 ∷ 111 ∷ 114 ∷ 32 ∷ []) tt
road_over Reduction = over_literal 10 (114 ∷ 101 ∷ 100 ∷ 117 ∷ 99 ∷ 116 ∷ 105 ∷ 111 ∷ 110 ∷ 32 ∷ []) tt
road_over Loop = over_literal 10 (108 ∷ 111 ∷ 111 ∷ 112 ∷ 32 ∷ []) tt

said_over : (a : Answer) → Over 10 (said_line a)
unfolding said_line way_line
said_over (Ok f) =
    let w = to_bits binary64 f.value in
    over_append 10 (digits 16 16 w) (32 ∷ way_line f) (over_less 10 32 (digits 16 16 w) (omega arith) (digits_over 16 16 w)) (
      omega arith,
      over_append 10 (count_text f.way.rounds 32) _ (count_over f.way.rounds)
          (over_append 10 (road_text f.road) (decimal 9 f.way.rescalings) (road_over f.road)
          (over_less 10 32 (decimal 9 f.way.rescalings) (omega arith) (decimal_over 9 f.way.rescalings))),
    )
said_over (Err r) =
    let n = refusal_number r in
    over_append 10 refused_word (32 ∷ decimal 9 n) (over_literal 10 refused_word tt)
    (omega arith, over_less 10 32 (decimal 9 n) (omega arith) (decimal_over 9 n))

own_over : (c : Call) (a : Answer) → Over 10 (own_line c a)
unfolding own_line
own_over c a =
    over_append 10 (name_of c) (32 ∷ said_line a) (over_less 10 32 (name_of c) (omega arith) (name_over c))
    (omega arith, said_over a)

-- what `unpack` writes has the jobs' lines
unfoldable pub job_lines : List Job → List (List ℕ)
job_lines [] = []
job_lines (j ∷ js) = job_line j ∷ job_lines js

unpacked : (js : List Job) → Propers js → lines_from [] (lines_of js) ≡ job_lines js
unfolding lines_of job_lines
unpacked [] p = unfold lines_from last_line in refl
unpacked (j ∷ js) p =
    rw (job_text_lem j) (first_line (job_line j) (lines_of js) (line_over j p.0))
    ∙ ap (λ (k : List (List ℕ)). job_line j ∷ k) (unpacked js p.1)

-- and what the listing says to them are our lines
replied : (js : List Job) → Propers js → lines_from [] (replies_to false (job_lines js)) ≡ own_lines js
unfolding replies_to job_lines own_lines reply_of reply_to admitted answer_by
replied [] p = unfold lines_from last_line in refl
replied (j ∷ js) p =
    rw (line_read j p.0, own_text (call_of_job j) (answer_of (call_of_job j)))
    (first_line (row_line j) (replies_to false (job_lines js)) (own_over (call_of_job j) (answer_of (call_of_job j))))
    ∙ ap (λ (k : List (List ℕ)). row_line j ∷ k) (replied js p.1)

headed : (m : List ℕ) → without_header (lines_from [] (header_text false ++ m)) ≡ lines_from [] m
unfolding lines_from without_header is_header same
headed m = refl

listed : (js : List Job) → Propers js → without_header (lines_from [] (listing_of false (lines_of js))) ≡ own_lines js
unfolding listing_of
listed js p =
    headed (replies_to false (lines_from [] (lines_of js)))
    ∙ ap (λ (k : List (List ℕ)). lines_from [] (replies_to false k)) (unpacked js p) ∙ replied js p

-- THE LAW: "What our own listing gives is accepted at tolerance 0". For every list that is sound: its calls, as `unpack` writes
-- them, through the listing, and held against it
pub own_listing : (list : List ℕ) (js : List Job) → Bytes list → read_all list ≡ jobs js
    → check_lines 0 (read_all list) (without_header (lines_from [] (listing_of false (lines_of js)))) ≡ Accepted
own_listing list js b e =
    let p = (bytes_back list js b e).0 in
    rw (e, listed js p) (own_lines_lem js p)
