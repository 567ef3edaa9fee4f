-- `put_swing` meets its contract: it writes where there is room, and a period is in bounds. Assumes nothing.
use Prim.Native.Nat.{ℕ}
use mathlib.Core.Path.{◌≡◌, sym, subst}
use mathlib.Core.List.{List}
use borrow.Author.Rules.{rules}
use Rattle.writing.specs.Written.{Put, there, tried_there, tried_lacking}
use Rattle.carlson.specs.Answer.{Answer}
use Rattle.swing.specs.Period.{period_of}
use Rattle.swing.specs.Bounded.{Bounded}
use Rattle.swing.proofs.Bounded.{period_bounded}
use Rattle.swing_write.specs.Replies.{swing_text}
use Rattle.swing_write.proofs.replies.put_swing.Goals as goal

module _ (a : Answer) (l h g : ℕ) (is : a ≡ period_of l h g) where
  bounded : Bounded a
  bounded = subst Bounded (sym is) (period_bounded l h g)

  answered : {o out : List ℕ} {at next : ℕ} → Put o at (swing_text a) out next → Put o at (swing_text (period_of l h g)) out next
  answered p = rw is at p

pub write_swing-requires : goal.write_swing-requires
write_swing-requires c =
    record { longest_swing_in_bounds = there c.has_room.ensures c.if-has_room.true; bounded = bounded _ _ _ _ c.period.ensures.value }
