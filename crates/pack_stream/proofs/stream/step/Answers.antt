-- `step` meets its contract: a newline ends the line, any other byte is held. Assumes nothing.
use Prim.Native.Nat.{ℕ, ◌≤◌}
use mathlib.Core.Path.{◌≡◌, sym, ◌∙◌}
use mathlib.Core.Bool.{false}
use mathlib.Core.List.{List, [], ◌∷◌, ◌++◌}
use native.Mathlib.Omega.{arith}
use borrow.Author.Tests.{eq-eqb, ne_eqb}
use lib.ListN.{length, take, set}
use lib.Seq.{length-take-le}
use Rattle.listing_read.specs.Lines.{call_of}
use Rattle.writing.specs.FedLaws.{fed_quiet}
use Rattle.writing.specs.Parts.{held_more}
use Rattle.writing.specs.Written.{pushed, pushed_most}
use Rattle.pack_stream.specs.Pack.{holding, line_end, held_length, pack_byte, Packs}
use Rattle.pack_stream.specs.declared.stream.Progress.{Progress}
use Rattle.pack_stream.proofs.stream.step.Goals as goal

-- the line has ended
ended : (held after before out : List ℕ) (b at : ℕ) (r : Progress) → b ≡ 10 → Packs (line_end (call_of held)) [] before at out r
    → r.held ≡ 0
    → Packs (pack_byte (holding held) b) after before at out r
unfolding pack_byte
ended held after before out b at r e f z =
    rw (eq-eqb b 10 e) (record { left = rw z (rw z at f.left); said = f.said; counted = f.counted })

-- one byte more is held
goes_on :
    (held after before : List ℕ) (b at n r : ℕ) → length held ≡ held_length → n ≤ held_length → (b ≡ 10 → ⊥)
    → after ≡ set held n b → r ≡ pushed n (length held)
    → Packs (pack_byte (holding (take n held)) b) after before at before (record { held = r; used = at; lines = 0; bad = false })
unfolding pack_byte
goes_on held after before b at n r l h ne e f =
    let is : take r after ≡ take held_length (take n held ++ b ∷ []) = rw e (held_more held n b r (omega arith) f ∙ rw l) in
    rw (ne_eqb b 10 ne, is) (fed_quiet _ before at)

pub slice_bounds-ended-end-then-b-eq10 : goal.slice_bounds-ended-end-then-b-eq10
slice_bounds-ended-end-then-b-eq10 c =
    sym (length-take-le _ _ (omega arith))

pub returns-then-b-eq10 : goal.returns-then-b-eq10
returns-then-b-eq10 c =
    record { packs = ended _ _ _ _ _ _ _ c.if-b-eq10.true c.ended.ensures.packs c.ended.ensures.held_value; held_le_held_length = omega (arith, c.ended.ensures.held_value) }

pub returns : goal.returns
returns c =
    record {
      packs = goes_on c.args.held.now _ _ _ _ c.args.n _ c.requires.held_len c.requires.n_le_held_length c.if-b-eq10.false
          c.push.ensures.0
          c.push.ensures.1;
      held_le_held_length = pushed_most c.args.n held_length _ c.requires.n_le_held_length (rw c.requires.held_len at c.push.ensures.1);
    }
