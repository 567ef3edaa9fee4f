-- Fed block by block, the input gives the work list of its lines, wherever the blocks are cut. Assumes nothing.
use Rattle.std.specs.Prelude.{ℕ, ◌≡◌, refl, Bool, true, false, cond, List, [], ◌∷◌, ◌++◌, eqb, take}
use Rattle.std.proofs.Common.{ap, ◌∙◌, Option, Some, None}
use Rattle.calls.specs.declared.Call.{Call}
use Rattle.listing_read.specs.Lines.{call_of}
use Rattle.listing_read.specs.LineLaws.{held_call}
use Rattle.writing.specs.Fed.{Ran, quiet, and_ran, run}
use Rattle.writing.specs.FedLaws.{quiet_and, and_assoc, run_over}
use Rattle.writing.specs.Input.{last_line, lines_from}
use Rattle.writing.specs.Parts.{held_again}
use Rattle.pack_stream.specs.Pack.{Held, holding, line_end, pack_lines, held_length, pack_byte, pack_from, pack_last}
use Rattle.pack_stream.specs.PackLaws.{pack_all}

at_end_lem : (l : List ℕ) → pack_last (holding (take held_length l)) ≡ pack_lines (holding []) (last_line l)
unfolding run last_line
at_end_lem [] = refl
at_end_lem (b ∷ l) = rw (held_call (b ∷ l))

-- a bad line ends both
after_line_lem : (r : Option Call) (bs : List ℕ) → pack_all (holding []) bs ≡ pack_lines (holding []) (lines_from [] bs)
    → pack_all (line_end r).left bs ≡ pack_lines (line_end r).left (lines_from [] bs)
unfolding line_end run last_line
after_line_lem (Some c) bs e = e
after_line_lem None bs e =
    let over = (line_end None).left in
    rw (
      run_over pack_byte (λ h. h.bad) bs over refl,
      run_over (λ h l. line_end (call_of l)) (λ h. h.bad) (lines_from [] bs) over refl,
    ) (quiet_and over (pack_last over))

from_held : (bs begun : List ℕ) → pack_all (holding (take held_length begun)) bs ≡ pack_lines (holding []) (lines_from begun bs)
unfolding run lines_from pack_byte and_ran
from_held [] begun = quiet_and (holding (take held_length begun)) (pack_last (holding (take held_length begun))) ∙ at_end_lem begun
from_held (b ∷ bs) begun =
    let p : Ran Held = pack_byte (holding (take held_length begun)) b in
    and_assoc p (pack_from p.left bs) (pack_last (pack_from p.left bs).left)
    ∙ go (eqb b 10) (call_of (take held_length begun)) (held_call begun) (from_held bs)
  where
    go :
        (t : Bool) (r : Option Call) → r ≡ call_of begun
        → ((l : List ℕ) → pack_all (holding (take held_length l)) bs ≡ pack_lines (holding []) (lines_from l bs))
        → (let p : Ran Held = cond t (line_end r) (quiet (holding (take held_length (take held_length begun ++ b ∷ [])))) in
        and_ran p (pack_all p.left bs)
        ≡ pack_lines (holding []) (cond t (begun ∷ lines_from [] bs) (lines_from (begun ++ b ∷ []) bs)))
    go true r e rest =
        ap (and_ran (line_end r)) (after_line_lem r bs (rest []))
        ∙ ap (λ (k : Option Call). and_ran (line_end k) (pack_lines (line_end k).left (lines_from [] bs))) e
    go false r e rest =
        let h : Held = holding (take held_length (take held_length begun ++ b ∷ [])) in
        quiet_and h (pack_all h bs) ∙ rw (held_again held_length begun b) (rest (begun ++ b ∷ []))

-- THE LAW: what comes of the input as it is fed, then of its end, is what comes of its lines
pub whole : (input : List ℕ) → pack_all (holding []) input ≡ pack_lines (holding []) (lines_from [] input)
whole input = from_held input []
