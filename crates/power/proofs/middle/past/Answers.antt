-- `power::middle::past` meets its contract, by `Odd`. Assumes nothing.
use Rattle.std.proofs.Common.{◌≡◌, sym, ap, ◌∙◌}
use Prim.Native.Nat.{Ordering}
use Rattle.std.proofs.Common.{Less, Equal, Greater}
use Rattle.std.specs.declared.cmp.Ordering as Ranked
use Rattle.rounding.specs.Cut.{nearer, passed}
use Rattle.power.specs.Parts.{cut_at}
use Rattle.power.proofs.Odd.{cut_by, of_order, order_is}
use Rattle.power.proofs.middle.past.Goals as goal
use Rattle.power.proofs.middle.past.Goals.{After-exact}

-- the answer of the comparison decides
by : (c : After-exact) (s : Ranked.Ordering) → c.exact.result ≡ s
    → let a = c.args in nearer (of_order s) a.r ≡ passed (cut_at a.n a.y) a.r
by c s h =
    let a = c.args in
    let cut = cut_by a.n a.y a.r c.exponent-e.result c.exponent-e.ensures in
    ap (λ (o : Ordering). nearer o a.r) (sym (cut ∙ order_is _ _ s c.exact.ensures h))

pub returns-in-Less : goal.returns-in-Less
returns-in-Less c =
    by (goal.at.returns-in-Less c).After-exact Less c.in-Less.is

pub returns-in-Equal : goal.returns-in-Equal
returns-in-Equal c =
    by (goal.at.returns-in-Equal c).After-exact Equal c.in-Equal.is

pub returns-in-Greater : goal.returns-in-Greater
returns-in-Greater c =
    by (goal.at.returns-in-Greater c).After-exact Greater c.in-Greater.is
