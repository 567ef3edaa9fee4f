-- `put_parts` meets its contract. The invariant: the first i parts were written. Assumes nothing.
use Prim.Native.Nat.{ℕ, ◌+◌, ◌≤◌, ◌<◌}
use mathlib.Core.Path.{◌≡◌, ap, ◌∙◌, subst}
use mathlib.Core.List.{List}
use native.Mathlib.Omega.{arith}
use lib.ListN.{length}
use Rattle.writing.specs.Written.{Put, Tried, put_length}
use Rattle.phrases.specs.Runs.{run_to, Ran, run_none, run_next}
use Rattle.spoken_parts.specs.Texts.{line_text, longest_line}
use Rattle.spoken_parts.specs.Parts.{part_text, part_room, part_of}
use Rattle.spoken_write.specs.PartLaws.{parts_are, parts_fit}
use Rattle.spoken_parts.specs.declared.parts.Part.{Part}
use Rattle.spoken_parts.specs.declared.said.Form.{Form}
use Rattle.spoken_parts.specs.declared.said.Said.{Said}
use Rattle.spoken_write.proofs.text.put_parts.Goals as goal

module _ (s : Said) (form : Form) {at : ℕ} {o : List ℕ} (room : at + longest_line ≤ length o) where
  more :
      {i next end : ℕ} {out after : List ℕ} (p : Part) → i < 11 → p ≡ part_of s form i
      → Ran part_text part_room (part_of s form) o at i out next
      → Tried (part_room p) out next (part_text p) after end × (length (part_text p) ≤ part_room p)
      → Ran part_text part_room (part_of s form) o at (i + 1) after end
  more {i} {next} {end} {out} {after} p h is r t =
      let u =
      subst (λ (p : Part). Tried (part_room p) out next (part_text p) after end × (length (part_text p) ≤ part_room p)) is t in
      run_next part_text part_room (part_of s form) {n = 11} (omega (arith, parts_fit s form)) h r u.1 u.0

  all : {i next : ℕ} {out : List ℕ} → i ≤ 11 → 11 ≤ i → Ran part_text part_room (part_of s form) o at i out next
      → Put o at (line_text s form) out next
  all {i} {next} {out} h k r =
      let f : i ≡ 11 = omega arith in
      subst (λ (l : List ℕ). Put o at l out next) (ap (run_to part_text (part_of s form)) f ∙ parts_are s form) r.put

pub loop-i-init : goal.loop-i-init
loop-i-init c =
    run_none _ _ _ _ _

pub loop-i-preserved : goal.loop-i-preserved
loop-i-preserved c =
    more c.args.said c.args.form c.requires _ (omega arith) c.part_of.ensures c.loop-i.invariant
    (c.put_part-next.ensures.tried, c.put_part-next.ensures.part_len_bound)

pub shape_of-out : goal.shape_of-out
shape_of-out c =
    put_length c.loop-i.invariant.put

pub returns : goal.returns
returns c =
    all c.args.said c.args.form c.requires (omega arith) (omega arith) c.loop-i.invariant
