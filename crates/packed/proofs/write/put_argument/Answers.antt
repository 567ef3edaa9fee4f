-- `put_argument` meets its contract: it writes where the function has this argument. Assumes nothing.
use Prim.Native.Nat.{ℕ, ◌≤◌, ◌<◌}
use mathlib.Core.Path.{◌≡◌, sym}
use mathlib.Core.List.{[]}
use borrow.Author.Tests.{lt-ltb, le-ltb}
use Rattle.writing.specs.Written.{put_none}
use Rattle.packed_number.specs.Numbers.{number_bytes}
use Rattle.packed.specs.Jobs.{arity_of, argument_of, argument_bytes}
use Rattle.packed.specs.declared.jobs.Job.{Job}
use Rattle.packed.proofs.write.put_argument.Goals as goal

own : (j : Job) (k a v : ℕ) → a ≡ arity_of j.function → k < a → v ≡ argument_of j k → argument_bytes j k ≡ number_bytes v
unfolding argument_bytes
own j k a v e h f = rw (sym e, lt-ltb k a h, f)

none : (j : Job) (k a : ℕ) → a ≡ arity_of j.function → a ≤ k → argument_bytes j k ≡ []
unfolding argument_bytes
none j k a e h = rw (sym e, le-ltb k a h)

pub put_number-requires : goal.put_number-requires
put_number-requires c =
    let a = c.args in
    rw (own a.job a.k _ _ c.arity.ensures c.if-k-arity.true c.argument_of.ensures) at
    c.requires

pub returns-then-k-arity : goal.returns-then-k-arity
returns-then-k-arity c =
    let a = c.args in
    rw (own a.job a.k _ _ c.arity.ensures c.if-k-arity.true c.argument_of.ensures) c.put_number.ensures

pub returns : goal.returns
returns c =
    let a = c.args in
    rw (none a.job a.k _ c.arity.ensures c.if-k-arity.false) (put_none _ _)
