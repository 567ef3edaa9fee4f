-- `by_words` meets its contract: the rounding of the leading digits is that of the number. Assumes nothing.
use Prim.Native.Nat.{ℕ, ◌-◌, ◌*◌, ◌^◌, ◌≤◌, ◌<◌}
use mathlib.Core.Path.{◌≡◌}
use mathlib.Core.Bool.{Bool}
use mathlib.Core.Logic.{◌⊎◌, inl, inr}
use native.Mathlib.Nat.{one-le-pow}
use native.Mathlib.Omega.{arith}
use lib.Ieee.{Float, binary64, round}
use Rattle.rounding.specs.Jam.{Jam}
use Rattle.decimal.specs.Decimal.{above, under, decimal_of}
use Rattle.decimal.specs.Leading.{Leads, leads_round}
use Rattle.decimal_value.proofs.rounded.by_words.Goals as goal

told : (s : Bool) (d t v e : ℕ) (r : Float) → 0 < v → (v ≡ 0) ⊎ Leads (above d t) (under t) v e
    → (2 ^ 63 ≤ v → (X Y : ℕ) → 0 < Y → Jam X Y v → r ≡ round binary64 s (X * 2 ^ e) (Y * 2 ^ 2296)) → r ≡ decimal_of s d t
unfolding decimal_of
told s d t v e r p (inl z) f = absurd (omega arith)
told s d t v e r p (inr l) f = leads_round s (above d t) (under t) v e r (one-le-pow (1200 - t) 10 (omega arith)) l f

pub returns : goal.returns
returns c =
    let l = c.lead-digits in
    let a = c.args in
    let r = c.round_word in
    told a.s a.d a.t l.result.v l.result.e r.result (omega arith) l.ensures r.ensures
