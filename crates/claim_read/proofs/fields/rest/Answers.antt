-- `rest` meets its contract: all from there on, or nothing. Assumes nothing.
use Prim.Native.Nat.{ℕ, ◌+◌, ◌-◌, ◌≤◌}
use mathlib.Core.Path.{◌≡◌}
use mathlib.Core.List.{List, []}
use native.Mathlib.Omega.{arith}
use lib.ListN.{length, take, drop, length-drop, drop_of_length-le}
use lib.Seq.{take_all}
use Rattle.claim_read.proofs.fields.rest.Goals as goal

something : (l : List ℕ) (n : ℕ) → take (length l - (n + 1)) (drop (n + 1) l) ≡ drop (n + 1) l
something l n = take_all (length l - (n + 1)) (drop (n + 1) l) (omega (arith, length-drop (n + 1) l))

nothing : (l : List ℕ) (n : ℕ) → length l ≤ n → take (length l - length l) (drop (length l) l) ≡ drop (n + 1) l
nothing l n h =
    rw (drop_of_length-le l {i = length l} (omega arith), drop_of_length-le l {i = n + 1} (omega arith))
    (take_all (length l - length l) [] (omega arith))

pub returns-then-n-text : goal.returns-then-n-text
returns-then-n-text c =
    something c.args.text.now c.args.n

pub returns : goal.returns
returns c =
    nothing c.args.text.now c.args.n c.if-n-text.false
