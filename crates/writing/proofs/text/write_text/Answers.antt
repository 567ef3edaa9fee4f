-- `write_text` meets its contract: what lies before the text and after it stays. Assumes nothing.
use Rattle.std.proofs.Common.{ℕ, ◌≡◌, ◌+◌, ◌≤◌, List, ◌++◌, length, take, drop, refl, sym, ap, ◌∙◌, arith, take_all}
use Rattle.std.proofs.lemmas.List.Edits.{sets, sets-eq}
use Rattle.std.proofs.lemmas.Slice.{put_mid-paste}
use Rattle.std.proofs.Math.Seq.{paste}
use Rattle.writing.proofs.text.write_text.Goals as goal

pasted : (o text : List ℕ) (at : ℕ) → at + length text ≤ length o → paste o at text (length text) ≡ sets o at text
pasted o text at h =
    ap (λ z. take at o ++ z ++ drop (at + length text) o) (take_all (length text) text (omega arith)) ∙ sym (sets-eq text o at h)

pub returns : goal.returns
returns c =
    let a = c.args in
    record {
      bytes =
          put_mid-paste a.at _ a.out.now c.copy_from_slice.new.self a.text.now (length a.text.now) c.copy_from_slice.ensures.after
          (omega arith) refl
          ∙ pasted a.out.now a.text.now a.at c.requires;
      place = refl;
    }
