-- `push` meets its contract. Assumes nothing.
use mathlib.Core.Path.{refl, sym}
use borrow.Author.Tests.{lt-ltb, le-ltb}
use lib.Seq.{set_out}
use Rattle.writing.specs.Written.{pushed}
use Rattle.writing.proofs.text.push.Goals as goal

pub returns-then-n-held : goal.returns-then-n-held
unfolding pushed
returns-then-n-held c =
    (refl, rw (lt-ltb _ _ c.if-n-held.true))

pub returns : goal.returns
unfolding pushed
returns c =
    (sym (set_out _ _ _ c.if-n-held.false), rw (le-ltb _ _ c.if-n-held.false))
