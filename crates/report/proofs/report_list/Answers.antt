-- `report_list` meets its contract, by `Adding`. Assumes nothing.
use mathlib.Core.Path.{sym, ap, ◌∙◌}
use Rattle.std.specs.Result.{is_ok}
use Rattle.report.proofs.Adding.{judged, all_added, none_added}
use Rattle.report.proofs.report_list.Goals as goal

pub returns-then-is_ok : goal.returns-then-is_ok
returns-then-is_ok c =
    let v = judged _ _ _ _ c.count_jobs.ensures c.judge_list-judged.ensures in
    record { value = v; report_after = c.add_jobs.ensures ∙ all_added _ _ (ap is_ok (sym v) ∙ sym c.if-is_ok.ensures.value) }

pub returns-else-is_ok : goal.returns-else-is_ok
returns-else-is_ok c =
    let v = judged _ _ _ _ c.count_jobs.ensures c.judge_list-judged.ensures in
    record { value = v; report_after = none_added _ _ (ap is_ok (sym v) ∙ sym c.if-is_ok.ensures.value) }
