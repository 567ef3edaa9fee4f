-- `step` meets its contract: a byte is held, and what is held is tried. Assumes nothing.
use Prim.Native.Nat.{ℕ, ◌≤◌}
use mathlib.Core.Path.{◌≡◌, sym, ap, subst, ◌∙◌}
use mathlib.Core.List.{List, [], ◌∷◌, ◌++◌}
use native.Mathlib.Omega.{arith}
use lib.ListN.{length, take, set, length-set}
use lib.Seq.{length-take-le, take-take}
use Rattle.writing.specs.Parts.{held_more}
use Rattle.writing.specs.Written.{pushed, pushed_most}
use Rattle.unpack_stream.specs.Unpack.{holding, try_of, unpack_byte, held_length, Unpacks}
use Rattle.unpack_stream.specs.declared.stream.Progress.{Progress}
use Rattle.unpack_stream.proofs.stream.step.Goals as goal
use Rattle.unpack_stream.proofs.stream.step.Goals.{After-push-m}

held : (l after before out : List ℕ) (n b m at : ℕ) (r : Progress) → length l ≡ held_length → n ≤ held_length → after ≡ set l n b
    → m ≡ pushed n (length l) → Unpacks (try_of (take m after)) (take m after) before at out r → r.held ≤ length (take m after)
    → Unpacks (unpack_byte (holding (take n l)) b) after before at out r × (r.held ≤ held_length)
unfolding unpack_byte
held l after before out n b m at r e few a p f k =
    let most : m ≤ held_length = pushed_most n held_length m few (rw e at p) in
    let size : length (take m after) ≡ m = length-take-le m after (rw a (simp length-set (omega arith))) in
    let is : take m after ≡ take held_length (take n l ++ b ∷ []) = rw a (held_more l n b m (omega arith) p ∙ rw e) in
    let t : take r.held (take m after) ≡ take r.held after = take-take r.held m after (omega arith) in
    (subst (λ (h : List ℕ). Unpacks (try_of h) after before at out r) is (rw t at f), omega arith)

-- what is held after the byte
most : (c : After-push-m) → (c.push-m.result ≤ held_length) × (length c.push-m.new.held ≡ held_length)
most c = (
  pushed_most c.args.n held_length c.push-m.result c.requires.n_le_held_length (rw c.requires.held_len at c.push-m.ensures.1),
  ap length c.push-m.ensures.0 ∙ simp length-set c.requires.held_len,
)

pub slice_bounds-tried-end : goal.slice_bounds-tried-end
slice_bounds-tried-end c =
    let m = most (goal.at.slice_bounds-tried-end c).After-push-m in omega (arith, m.0, m.1)

pub slice_bounds-tried-end-2 : goal.slice_bounds-tried-end-2
slice_bounds-tried-end-2 c =
    let m = most (goal.at.slice_bounds-tried-end-2 c).After-push-m in sym (length-take-le _ _ (omega (arith, m.0, m.1)))

pub returns : goal.returns
returns c =
    record {
      unpacks = (held c.args.held.now _ _ _ c.args.n _ _ _ _ c.requires.held_len c.requires.n_le_held_length c.push-m.ensures.0 c.push-m.ensures.1
          c.tried.ensures.unpacks
          c.tried.ensures.held_in_bounds).0;
      held_le_held_length = (held c.args.held.now _ _ _ c.args.n _ _ _ _ c.requires.held_len c.requires.n_le_held_length c.push-m.ensures.0 c.push-m.ensures.1
          c.tried.ensures.unpacks
          c.tried.ensures.held_in_bounds).1;
    }
