-- What is written to an input as a whole, by its lines: a reply to each, by the line alone, and the text of the lines' tallies,
-- which is the same in whatever order they stand. Assumes nothing.
use Rattle.std.specs.Prelude.{ℕ, ◌≡◌, Bool}
use Rattle.std.proofs.Math.Path.{refl, ap}
use Rattle.std.proofs.Common.{sym, ◌∙◌}
use Rattle.std.proofs.Math.Bool.{true, false}
use mathlib.Core.List.{List, [], ◌∷◌, ◌++◌, append_assoc}
use Rattle.exact.specs.Exact.{Reordered}
use Rattle.writing.specs.Fed.{Ran, run, and_ran}
use Rattle.writing.specs.FedLaws.{run_more}
use Rattle.writing.specs.Input.{lines_from}
use Rattle.bench_write.specs.Texts.{tallies_text}
use Rattle.bench_write.specs.declared.tallies.Tally.{Tally}
use Rattle.bench_replies.specs.Replies.{counted_of}
use Rattle.bench_stream.specs.Lines.{Open, under, state_from, reply_now, said, bench_byte, bench_from}
use Rattle.bench_stream.specs.Stream.{said_at_end, said_last, opened, replies_from}
use Rattle.bench_stream.specs.StreamLaws.{start_fresh, said_all, whole}
use Rattle.bench_stream.specs.TallyLaws.{at_line, kind_in, tally_of, with_tally, moved, told_in, any_order}

-- before the first byte
abbrev pub start : Bool → Open
start decays = under (state_from decays) []

-- the reply to a line, by the line alone; and to some lines
unfoldable pub text_in : Bool → List ℕ → List ℕ
text_in decays l = said (opened (start decays) l)

unfoldable pub texts_in : Bool → List (List ℕ) → List ℕ
texts_in decays [] = []
texts_in decays (l ∷ ls) = text_in decays l ++ texts_in decays ls

-- nothing is counted yet
abbrev pub no_tally : Tally
no_tally = record { passed = 0; dragging = 0; refused = 0; bad = 0 }

-- the summary of some lines
unfoldable pub summary_of : Bool → List (List ℕ) → List ℕ
summary_of decays ls = tallies_text (tally_of decays no_tally ls)

module _ (decays : Bool) where
  said_with : (s : Open) (t : Tally) → said (with_tally s t) ≡ said s
  unfolding said reply_now with_tally
  said_with s t = refl

  said_in_lem : (l : List ℕ) (t : Tally) → said (opened (at_line decays t) l) ≡ text_in decays l
  unfolding text_in
  said_in_lem l t = ap said (moved decays l t) ∙ said_with (opened (start decays) l) t

  by_lines : (summary : Bool) (ls : List (List ℕ)) (t : Tally)
      → replies_from summary (at_line decays t) ls ≡ texts_in decays ls ++ said_at_end summary (tally_of decays t ls)
  unfolding replies_from texts_in tally_of
  by_lines summary [] t = refl
  by_lines summary (l ∷ ls) t =
      rw (said_in_lem l t, told_in decays l t, by_lines summary ls (counted_of t (kind_in decays l)), append_assoc)

  all_lines : (summary : Bool) (input : List ℕ) → said_all summary (start decays) input
      ≡ texts_in decays (lines_from [] input) ++ said_at_end summary (tally_of decays no_tally (lines_from [] input))
  unfolding state_from
  all_lines summary input =
      whole summary (start decays) input (start_fresh decays) ∙ by_lines summary (lines_from [] input) no_tally

  -- THE LAWS: without a summary there is a reply to each line; with it, the text of the lines' tallies comes after them
  pub plain_is : (input : List ℕ) → said_all false (start decays) input ≡ texts_in decays (lines_from [] input) ++ []
  plain_is input = unfold said_at_end in all_lines false input

  pub summary_is : (input : List ℕ) → said_all true (start decays) input
      ≡ texts_in decays (lines_from [] input) ++ summary_of decays (lines_from [] input)
  unfolding summary_of
  summary_is input = unfold said_at_end in all_lines true input

  -- the summary is that of the lines in any order
  pub same_summary : {ls ms : List (List ℕ)} → Reordered ls ms → summary_of decays ls ≡ summary_of decays ms
  unfolding summary_of
  same_summary r = ap tallies_text (any_order decays r no_tally)

  -- THE LAW: an input with the same lines in another order ends in the very bytes
  pub in_any_order : (input other : List ℕ) → Reordered (lines_from [] input) (lines_from [] other)
      → said_all true (start decays) other ≡ texts_in decays (lines_from [] other) ++ summary_of decays (lines_from [] input)
  in_any_order input other r =
      summary_is other ∙ ap (λ (l : List ℕ). texts_in decays (lines_from [] other) ++ l) (sym (same_summary r))

-- ---- as the programs do it: block after block, and at the input's end
unfoldable pub said_in : Bool → Open → List (List ℕ) → List ℕ
said_in summary s [] = said_last summary s
said_in summary s (block ∷ blocks) = (bench_from s block).said ++ said_in summary (bench_from s block).left blocks

unfoldable pub joined : List (List ℕ) → List ℕ
joined [] = []
joined (block ∷ blocks) = block ++ joined blocks

-- THE LAW: wherever the input is cut
pub in_blocks : (summary : Bool) (blocks : List (List ℕ)) (s : Open) → said_in summary s blocks ≡ said_all summary s (joined blocks)
unfolding said_in joined and_ran
in_blocks summary [] s = unfold run in refl
in_blocks summary (block ∷ blocks) s =
    let rest : List ℕ = joined blocks in
    let half : Ran Open = bench_from s block in
    let more : Ran Open = bench_from half.left rest in
    ap (λ (l : List ℕ). half.said ++ l) (in_blocks summary blocks half.left)
    ∙ sym (append_assoc half.said more.said (said_last summary more.left))
    ∙ sym (ap (λ (p : Ran Open). p.said ++ said_last summary p.left) (run_more bench_byte (λ s. false) block s rest))
