-- `number` meets its contract: what is scanned as a number was scanned to its end. Assumes nothing.
use Rattle.std.proofs.Common.{sym, ap, ◌∙◌}
use Rattle.decimal_read.specs.Scanned.{scanned_of}
use Rattle.decimal_read.specs.ScannedLaws.{scanned_sound}
use Rattle.decimal_read.specs.Read.{settled_as, number_from, number_of}
use Rattle.decimal_read.proofs.number.Goals as goal

pub said-requires : goal.said-requires
unfolding scanned_of
said-requires c =
    let h = scanned_sound c.args.text.now _ _ 0 (sym c.scan.ensures ∙ c.in_ok-s.was) in
    (h.same, h.good)

pub returns : goal.returns
unfolding number_of number_from
returns c =
    let l = c.args.text.now in
    c.settled.ensures ∙ ap settled_as c.said.ensures ∙ sym (ap (λ x. number_from l x) (sym c.scan.ensures ∙ c.in_ok-s.was))
