-- `judged_line` meets its contract. Assumes nothing.
use Rattle.table_lines.specs.Lines.{line_meets}
use Rattle.table_lines.proofs.judged_line.Goals as goal

pub returns : goal.returns
unfolding line_meets
returns c =
    rw (c.judged.ensures, c.claim_of-claim.ensures)
