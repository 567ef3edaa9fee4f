-- Fed block by block, the input is answered line by line, wherever the blocks are cut. Assumes nothing.
use Rattle.std.specs.Prelude.{ℕ, ◌≡◌, refl, Bool, true, cond, eqb}
use Rattle.std.proofs.Math.Path.{subst}
use Rattle.std.proofs.Math.Bool.{false}
use mathlib.Core.List.{List, [], ◌∷◌, ◌++◌, append_assoc}
use Rattle.writing.specs.Fed.{Ran, quiet, and_ran, run}
use Rattle.writing.specs.Input.{last_line, lines_from}
use Rattle.bench_read.specs.Rows.{row_from, fresh_at}
use Rattle.bench_read.specs.Begun.{begins}
use Rattle.bench_stream.specs.Lines.{Open, start_row, state_after, state_heard, open_after, heard, line_end}
use Rattle.bench_stream.specs.Lines.{bench_byte, bench_from}
use Rattle.bench_stream.specs.Stream.{input_end, said_last, opened, replies_from}

-- nothing of a line has come
abbrev pub fresh : Open → Bool
fresh s = fresh_at s.state.row.stage

pub start_fresh : (decays : Bool) → fresh_at (start_row decays).stage ≡ true
unfolding start_row row_from fresh_at
start_fresh true = refl
start_fresh false = refl

heard_fresh : (s : Open) → fresh (heard s) ≡ true
unfolding heard state_heard
heard_fresh s = start_fresh s.state.decays

after_begun : (s : Open) (b : ℕ) → fresh (open_after s b) ≡ false
unfolding open_after state_after
after_begun s b = begins s.state.row b

opened_begun : (l : List ℕ) (s : Open) (b : ℕ) → fresh (opened s (b ∷ l)) ≡ false
unfolding opened
opened_begun [] s b = after_begun s b
opened_begun (x ∷ l) s b = opened_begun l (open_after s b) x

opened_last : (l : List ℕ) (s : Open) (b : ℕ) → opened s (l ++ b ∷ []) ≡ open_after (opened s l) b
unfolding opened
opened_last [] s b = refl
opened_last (x ∷ l) s b = opened_last l (open_after s x) b

module _ (summary : Bool) where
  -- ---- the whole input
  at_end_lem : (begun : List ℕ) (s : Open) → fresh s ≡ true
      → said_last summary (opened s begun) ≡ replies_from summary s (last_line begun)
  unfolding said_last input_end last_line replies_from
  at_end_lem [] s e = unfold opened in rw e
  at_end_lem (b ∷ l) s e = rw (opened_begun l s b)

  -- what is said to bytes and at the input's end
  abbrev pub said_all : Open → List ℕ → List ℕ
  said_all s bs = (bench_from s bs).said ++ said_last summary (bench_from s bs).left

  from_begun : (bs begun : List ℕ) (s : Open) → fresh s ≡ true
      → said_all (opened s begun) bs ≡ replies_from summary s (lines_from begun bs)
  unfolding run and_ran lines_from bench_byte
  from_begun [] begun s e = at_end_lem begun s e
  from_begun (b ∷ bs) begun s e = go (eqb b 10) (from_begun bs)
    where
      u : Open
      u = opened s begun

      renewed : ((l : List ℕ) (v : Open) → fresh v ≡ true → said_all (opened v l) bs ≡ replies_from summary v (lines_from l bs))
          → said_all (heard u) bs ≡ replies_from summary (heard u) (lines_from [] bs)
      renewed rest = unfold opened in rest [] (heard u) (heard_fresh u)

      go : (t : Bool)
          → ((l : List ℕ) (v : Open) → fresh v ≡ true → said_all (opened v l) bs ≡ replies_from summary v (lines_from l bs))
          → (let p : Ran Open = cond t (line_end u) (quiet (open_after u b)) in
          (p.said ++ (bench_from p.left bs).said) ++ said_last summary (bench_from p.left bs).left
          ≡ replies_from summary s (cond t (begun ∷ lines_from [] bs) (lines_from (begun ++ b ∷ []) bs)))
      go true rest = rw (append_assoc, renewed rest) (unfold replies_from in refl)
      go false rest = subst (λ (v : Open). said_all v bs ≡ replies_from summary s (lines_from (begun ++ b ∷ []) bs))
          (opened_last begun s b)
          (rest (begun ++ b ∷ []) s e)

  -- THE LAW: fed whole, an input gives a reply to each of its lines in order, and what is said at its end
  pub whole : (s : Open) (input : List ℕ) → fresh s ≡ true → said_all s input ≡ replies_from summary s (lines_from [] input)
  whole s input e = unfold opened in from_begun input [] s e
