-- `places` meets its contract. The invariant: the places passed and those of what is left are the places of all. Assumes nothing.
use Prim.Native.Nat.{ℕ, suc, ◌+◌, ◌-◌, ◌/◌, ◌≤◌, ◌<◌}
use mathlib.Core.Path.{◌≡◌}
use native.Mathlib.Omega.{arith}
use borrow.Author.Tests.{lt-ltb, le-ltb}
use Rattle.writing.specs.Decimal.{places_of}
use Rattle.writing.proofs.numbers.places.Goals as goal

module _ (m more rest : ℕ) (left : m ≡ suc more) where
  ends : rest < 10 → places_of m rest ≡ 1
  unfolding places_of
  ends h = rw (left, lt-ltb rest 10 h)

  goes_on : 10 ≤ rest → places_of m rest ≡ suc (places_of more (rest / 10))
  unfolding places_of
  goes_on h = rw (left, le-ltb rest 10 h)

spent : (m rest : ℕ) → m ≡ 0 → places_of m rest ≡ 1
unfolding places_of
spent m rest e = rw e

pub returns-then-rest-lt10 : goal.returns-then-rest-lt10
returns-then-rest-lt10 c =
    let l = c.loop-k in
    let m = c.args.more in
    omega (arith, l.invariant, ends (m - l.k) (m - (l.k + 1)) l.rest (omega arith) c.if-rest-lt10.true)

pub loop-k-preserved : goal.loop-k-preserved
loop-k-preserved c =
    let l = c.loop-k in
    let m = c.args.more in
    let e = goes_on (m - l.k) (m - (l.k + 1)) l.rest (omega arith) c.if-rest-lt10.false in
    omega (arith, l.invariant, e)

pub returns : goal.returns
returns c =
    let l = c.loop-k in
    let m = c.args.more in
    omega (arith, l.invariant, spent (m - l.k) l.rest (omega arith))
