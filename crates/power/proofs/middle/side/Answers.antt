-- `power::middle::side` meets its contract, by `Odd`. Assumes nothing.
use Rattle.std.proofs.Common.{sym, subst}
use Prim.Native.Nat.{Ordering}
use Rattle.power.specs.Parts.{Told}
use Rattle.power.proofs.Odd.{cut_by}
use Rattle.power.proofs.middle.side.Goals as goal

pub returns : goal.returns
returns c =
    let a = c.args in
    subst (λ (o : Ordering). Told c.quick.result o)
    (sym (cut_by a.n a.y a.r c.exponent-e.result c.exponent-e.ensures))
    c.quick.ensures
