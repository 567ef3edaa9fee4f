-- `put_key` meets its contract. Assumes nothing.
use native.Mathlib.Omega.{arith}
use borrow.Author.Tests.{eq-eqb, ne_eqb, le-leb, lt-leb}
use Rattle.writing.specs.Written.{tried_put}
use Rattle.report_text.specs.Text.{slot_key}
use Rattle.report_text.proofs.word.put_key.Goals as goal

pub returns-then-i-eq0 : goal.returns-then-i-eq0
unfolding slot_key
returns-then-i-eq0 c =
    rw (eq-eqb _ 0 c.if-i-eq0.true) (tried_put (omega arith) c.put_text.ensures)

pub returns-then-i-le-LAST : goal.returns-then-i-le-LAST
unfolding slot_key
returns-then-i-le-LAST c =
    rw (ne_eqb _ 0 c.if-i-eq0.false, le-leb _ 27 c.if-i-le-LAST.true) c.put_refused.ensures

pub returns-then-i-eq-ROUNDS : goal.returns-then-i-eq-ROUNDS
unfolding slot_key
returns-then-i-eq-ROUNDS c =
    rw (ne_eqb _ 0 c.if-i-eq0.false, lt-leb _ 27 c.if-i-le-LAST.false, eq-eqb _ 28 c.if-i-eq-ROUNDS.true)
    (tried_put (omega arith) c.put_text-then-i-eq-ROUNDS.ensures)

pub returns : goal.returns
unfolding slot_key
returns c =
    rw (ne_eqb _ 0 c.if-i-eq0.false, lt-leb _ 27 c.if-i-le-LAST.false, ne_eqb _ 28 c.if-i-eq-ROUNDS.false)
    (tried_put (omega arith) c.put_text-2.ensures)
