-- `row_more_lem` meets its contract: two words are there, or not. Assumes nothing.
use Prim.Native.Nat.{◌+◌}
use mathlib.Core.Path.{sym, ◌∙◌}
use borrow.Author.Tests.{leb-true, leb-false}
use lib.ListN.{length}
use Rattle.table.proofs.Rest.{words_there, words_none}
use Rattle.table.proofs.check.row_more.Goals as goal

pub claim_at-requires : goal.claim_at-requires
claim_at-requires c =
    leb-true _ _ (sym c.has_room.ensures ∙ c.if-has_room.true)

pub returns-then-has_room : goal.returns-then-has_room
returns-then-has_room c =
    let a = c.args in
    let h = leb-true (a.at + 2) (length a.claims.now) (sym c.has_room.ensures ∙ c.if-has_room.true) in
    rw (
      words_there a.tolerance a.row a.job a.so a.claims.now a.at h,
      c.judged.ensures,
      c.claim_at.ensures,
    )

pub returns : goal.returns
returns c =
    let a = c.args in
    let h = leb-false (a.at + 2) (length a.claims.now) (sym c.has_room.ensures ∙ c.if-has_room.false) in
    rw (words_none a.tolerance a.row a.job a.so a.claims.now a.at h) c.missing.ensures
