-- The sign of a rounding: a number without its sign, and then the choice. Assumes nothing.
use Rattle.std.specs.Prelude.{ℕ, ◌≡◌, Bool, true, false, cond, Float}
use Rattle.std.proofs.Common.{sym, ap, ◌∙◌}
use Rattle.std.specs.Float.{binary64}
use Rattle.std.specs.Float.Ieee.{round, neg}
use Rattle.rounding.specs.Sign.{round_neg}

pub round_sign : (s : Bool) (a c : ℕ) (x r : Float) → x ≡ round binary64 false a c → r ≡ cond s (neg x) x
    → r ≡ round binary64 s a c
round_sign true a c x r e f = f ∙ ap neg e ∙ sym (round_neg a c)
round_sign false a c x r e f = f ∙ e

pub sign_set : (s : Bool) (x : Float) → s ≡ true → neg x ≡ cond s (neg x) x
sign_set s x e = rw e

pub sign_clear : (s : Bool) (x : Float) → s ≡ false → x ≡ cond s (neg x) x
sign_clear s x e = rw e
