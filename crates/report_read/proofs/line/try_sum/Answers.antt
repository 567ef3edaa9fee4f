-- `try_sum` meets its contract. Assumes nothing.
use Rattle.report_read.proofs.Tries.{sum_tried}
use Rattle.report_read.proofs.line.try_sum.Goals as goal

pub returns : goal.returns
returns c =
    sum_tried c.args.words.now c.args.q c.args.line.now c.requires.words_len c.requires.q_lt_line_count c.requires.sum_place_bound
    c.same_sum.ensures
