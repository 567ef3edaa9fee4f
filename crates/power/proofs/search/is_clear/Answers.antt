-- `power::search::is_clear` meets its contract, by `Law`: both middles are told of. Assumes nothing.
use Rattle.power.specs.Parts.{cut_at}
use Rattle.power.proofs.Law.{clear}
use Rattle.power.proofs.search.is_clear.Goals as goal

pub returns-in-Above : goal.returns-in-Above
returns-in-Above c h =
    let a = c.args in
    clear (cut_at a.n a.y) a.r _ _ c.if-r-eq0.false c.if-r-ge-INFINITY.false
    c.side.ensures c.in-Below.is c.side-in-Below.ensures c.in-Above.is
