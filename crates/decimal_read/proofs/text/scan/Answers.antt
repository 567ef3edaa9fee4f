-- `scan` meets its contract. The invariant: what is left of the text, scanned from here, gives what all of it gives. Assumes
-- nothing.
use Rattle.std.proofs.Common.{ℕ, ◌≤◌, ◌≡◌, List, length, drop, sym, ap, ◌∙◌, arith}
use Rattle.decimal_scan.specs.declared.scan.Scan.{Scan}
use Rattle.decimal_read.specs.Scanned.{ended_at, scanned_from, scanned_of}
use Rattle.decimal_read.specs.ScannedLaws.{scanned_bad, scanned_on, scanned_last}
use Rattle.decimal_read.proofs.text.scan.Goals as goal

pub loop-i-init : goal.loop-i-init
unfolding scanned_of
loop-i-init c = rw c.start-s.ensures

pub returns-then-is_bad : goal.returns-then-is_bad
returns-then-is_bad c =
    let told = sym c.is_bad.ensures ∙ c.if-is_bad.true in
    sym (scanned_bad c.args.text.now c.loop-i.s _ c.loop-i.i (omega arith) c.step-s.ensures told)
    ∙ c.loop-i.invariant

pub loop-i-preserved : goal.loop-i-preserved
loop-i-preserved c =
    let told = sym c.is_bad.ensures ∙ c.if-is_bad.false in
    sym (scanned_on c.args.text.now c.loop-i.s _ c.loop-i.i (omega arith) c.step-s.ensures told)
    ∙ c.loop-i.invariant

-- no byte is left
last : (l : List ℕ) (s : Scan) (i : ℕ) → i ≤ length l → length l ≤ i → scanned_from s i (drop i l) ≡ ended_at s (length l)
last l s i h k = scanned_last l s i k ∙ ap (ended_at s) (omega arith)

pub returns : goal.returns
returns c = c.ended.ensures ∙ sym (last c.args.text.now c.loop-i.s c.loop-i.i (omega arith) (omega arith)) ∙ c.loop-i.invariant
