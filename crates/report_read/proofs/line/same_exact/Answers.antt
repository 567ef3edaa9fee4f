-- `same_exact` meets its contract. Assumes nothing.
use Prim.Native.Nat.{ℕ}
use mathlib.Core.Path.{refl, ap, ◌∙◌}
use mathlib.Core.List.{List}
use Rattle.listing_read.specs.Lines.{same}
use Rattle.report_text.specs.RoomLaws.{exact_most}
use Rattle.report_read.proofs.Tries.{front}
use Rattle.report_read.proofs.line.same_exact.Goals as goal

pub same_front-requires : goal.same_front-requires
same_front-requires c =
    let a = c.args in
    (front 555 _ _ c.put_exact-end.new.out _ refl (exact_most a.function _) c.put_exact-end.ensures).0

pub returns : goal.returns
returns c =
    let a = c.args in
    c.same_front.ensures
    ∙ ap (λ (t : List ℕ). same t a.line.now)
    (front 555 _ _ c.put_exact-end.new.out _ refl (exact_most a.function _) c.put_exact-end.ensures).1
