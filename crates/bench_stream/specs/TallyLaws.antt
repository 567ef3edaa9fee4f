-- The tallies are counts over the lines, so they do not hang on the lines' order. Assumes nothing.
use Rattle.std.specs.Prelude.{ℕ, ◌≡◌, Bool, true, false, eqb}
use Rattle.std.proofs.Math.Path.{refl, ap}
use Rattle.std.proofs.Common.{◌∙◌}
use mathlib.Core.List.{List, [], ◌∷◌}
use Rattle.exact.specs.Exact.{Reordered, nothing, kept, swapped, onward}
use Rattle.bench_write.specs.declared.tallies.Tally.{Tally}
use Rattle.bench_replies.specs.Replies.{kind_of, more_of, counted_of, tallied_of}
use Rattle.bench_stream.specs.Lines.{Open, under, start_row, state_from, state_after, state_heard, open_after, reply_now, heard}
use Rattle.bench_stream.specs.Stream.{opened}

-- at the start of a line, with these tallies
abbrev pub at_line : Bool → Tally → Open
at_line decays t = under (record { decays = decays; row = start_row decays; tally = t }) []

-- which tally a line is told in, by the line alone
unfoldable pub kind_in : Bool → List ℕ → ℕ
kind_in decays l = kind_of (reply_now (opened (under (state_from decays) []) l))

-- the tallies of some lines
unfoldable pub tally_of : Bool → Tally → List (List ℕ) → Tally
tally_of decays t [] = t
tally_of decays t (l ∷ ls) = tally_of decays (counted_of t (kind_in decays l)) ls

-- ---- what a line is does not hang on the tallies
unfoldable pub with_tally : Open → Tally → Open
with_tally s t = under (record { decays = s.state.decays; row = s.state.row; tally = t }) s.name

opened_with : (l : List ℕ) (s : Open) (t : Tally) → opened (with_tally s t) l ≡ with_tally (opened s l) t
unfolding opened with_tally open_after state_after
opened_with [] s t = refl
opened_with (b ∷ l) s t = opened_with l (open_after s b) t

module _ (decays : Bool) where
  kept_tally : (l : List ℕ) (s : Open) → (opened s l).state.tally ≡ s.state.tally
  unfolding opened
  kept_tally [] s = refl
  kept_tally (b ∷ l) s = kept_tally l (open_after s b) ∙ unfold open_after state_after in refl

  kept_flag : (l : List ℕ) (s : Open) → (opened s l).state.decays ≡ s.state.decays
  unfolding opened
  kept_flag [] s = refl
  kept_flag (b ∷ l) s = kept_flag l (open_after s b) ∙ unfold open_after state_after in refl

  pub moved : (l : List ℕ) (t : Tally) → opened (at_line decays t) l ≡ with_tally (opened (under (state_from decays) []) l) t
  unfolding state_from with_tally
  moved l t = opened_with l (under (state_from decays) []) t

  kind_with : (s : Open) (t : Tally) → kind_of (reply_now (with_tally s t)) ≡ kind_of (reply_now s)
  unfolding reply_now with_tally
  kind_with s t = refl

  same_kind : (l : List ℕ) (t : Tally) → kind_of (reply_now (opened (at_line decays t) l)) ≡ kind_in decays l
  unfolding kind_in
  same_kind l t = ap (λ (s : Open). kind_of (reply_now s)) (moved l t) ∙ kind_with (opened (under (state_from decays) []) l) t

  -- THE LAW: a line that has ended leaves the tallies with one more of its kind, and the next line at its start
  pub told_in : (l : List ℕ) (t : Tally) → heard (opened (at_line decays t) l) ≡ at_line decays (counted_of t (kind_in decays l))
  unfolding heard state_heard tallied_of
  told_in l t =
      rw (same_kind l t, kept_tally l (at_line decays t), kept_flag l (at_line decays t))

-- ---- two neighbours exchanged
more_more : (n : ℕ) (a b : Bool) → more_of (more_of n a) b ≡ more_of (more_of n b) a
unfolding more_of
more_more n true true = refl
more_more n true false = refl
more_more n false true = refl
more_more n false false = refl

counted_counted : (t : Tally) (j k : ℕ) → counted_of (counted_of t j) k ≡ counted_of (counted_of t k) j
unfolding counted_of
counted_counted t j k =
    rw (
      more_more t.passed (eqb j 0) (eqb k 0),
      more_more t.dragging (eqb j 1) (eqb k 1),
      more_more t.refused (eqb j 2) (eqb k 2),
      more_more t.bad (eqb j 3) (eqb k 3),
    )

-- THE LAW: the lines may stand in any order
pub any_order : (decays : Bool) {ls ms : List (List ℕ)} → Reordered ls ms → (t : Tally)
    → tally_of decays t ls ≡ tally_of decays t ms
unfolding tally_of
any_order decays nothing t = refl
any_order decays (kept l r) t = any_order decays r (counted_of t (kind_in decays l))
any_order decays (swapped l m ls) t =
    ap (λ (u : Tally). tally_of decays u ls) (counted_counted t (kind_in decays l) (kind_in decays m))
any_order decays (onward p q) t = any_order decays p t ∙ any_order decays q t
