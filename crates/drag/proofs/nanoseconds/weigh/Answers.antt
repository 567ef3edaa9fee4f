-- `weigh` meets its contract: the parts tell what the fraction does. Assumes nothing.
use Prim.Native.Nat.{ℕ, ◌+◌, ◌*◌, ◌^◌, ◌<◌}
use mathlib.Core.Path.{◌≡◌, sym, ap, ◌∙◌, subst}
use mathlib.Core.Bool.{Bool, true}
use native.Mathlib.Omega.{arith}
use lib.Dec.{T, leb}
use lib.Ieee.{Float, binary64, fits}
use lib.Ieee.Positive.{num, den, den_pos}
use Rattle.parted.specs.declared.parts.Parts.{Parts}
use Rattle.parted.specs.Parts.{parts_of, measured, parted_of, rounded_of}
use Rattle.parted.specs.Rounds.{few}
use Rattle.drag.specs.Verdict.{passes, quicker, excess, weighed, ahead_of, apart_of}
use Rattle.drag.proofs.ByParts.{within_limit, ahead_is, excess_is}
use Rattle.drag.proofs.nanoseconds.weigh.Goals as goal
use Rattle.drag.proofs.nanoseconds.weigh.Goals.{Start}

module _ (v : Float) (t m : ℕ) (fit : T (fits binary64 v)) (is : measured v 1000000000 ≡ true) (p : Parts)
    (e : p ≡ parted_of v 1000000000) where
  parts : p ≡ parts_of (num v * 1000000000) (den v)
  parts = e ∙ unfold parted_of in rw is

  passed : (r : Bool) → r ≡ leb t (p.whole + m) → r ≡ passes v t m
  unfolding passes
  passed r f =
      f ∙ ap (λ (p : Parts). leb t (p.whole + m)) parts
      ∙ unfold parts_of in within_limit (num v * 1000000000) (den v) t (den_pos v) m

  before : (r : Bool) → r ≡ ahead_of p t → r ≡ quicker v t
  unfolding quicker
  before r f = f ∙ ap (λ (p : Parts). ahead_of p t) parts ∙ ahead_is (num v * 1000000000) (den v) t (den_pos v)

  size : (q : Parts) (n : ℕ) → t < 2 ^ 64 → q ≡ apart_of p t → n ≡ rounded_of q → n ≡ excess v t
  unfolding excess
  size q n h f g =
      g ∙ ap rounded_of (f ∙ ap (λ (p : Parts). apart_of p t) parts)
      ∙ excess_is (num v * 1000000000) (den v) t (den_pos v) h (few v 1000000000 fit (subst T (sym is) tt))

  all : (a b : Bool) (n : ℕ) → a ≡ passes v t m → b ≡ quicker v t → n ≡ excess v t
      → record { passes = a; quicker = b; excess = n; period = v } ≡ weighed v t m
  unfolding weighed
  all a b n f g h = rw (f, g, h)

held : (c : Start) → T (fits binary64 c.args.value)
held c = subst T (sym c.well_formed.0.1) tt

pub returns : goal.returns
returns c =
    let f = held (goal.at.returns c).Start in
    let e = c.parted-ideal.ensures in
    all _ _ _ f c.requires _ e _ _ _ (passed _ _ _ f c.requires _ e _ c.within.ensures)
    (before _ _ c.args.limit f c.requires _ e _ c.ahead.ensures)
    (size _ _ c.args.limit f c.requires _ e _ _ (omega arith) c.apart.ensures c.rounded.ensures)
