-- `power::middle::reaches` meets its contract, by `Law`: the middle before r decides. Assumes nothing.
use Rattle.std.proofs.Common.{sym, ◌∙◌, true≢false, arith}
use Rattle.power.specs.Parts.{cut_at}
use Rattle.power.proofs.Law.{reached_zero, reached_past, reached_at}
use Rattle.power.proofs.middle.reaches.Goals as goal

pub returns-then-r-eq0 : goal.returns-then-r-eq0
returns-then-r-eq0 c =
    let a = c.args in (reached_zero (cut_at a.n a.y) a.r c.if-r-eq0.true, λ h. omega arith)

pub returns-then-r-gt-INFINITY : goal.returns-then-r-gt-INFINITY
returns-then-r-gt-INFINITY c =
    let a = c.args in
    (reached_past (cut_at a.n a.y) a.r c.if-r-gt-INFINITY.true, λ h. absurd (true≢false (sym h)))

pub returns : goal.returns
returns c =
    let a = c.args in
    let within = c.if-r-gt-INFINITY.false in
    (c.past.ensures ∙ reached_at (cut_at a.n a.y) a.r c.if-r-eq0.false within, λ h. within)
