-- RF's mean of 1 and y stays between powers of two, so that pi over it is a finite f64. Assumes nothing.
use Prim.Native.Nat.{ℕ, zero, suc, ◌*◌, ◌^◌}
use Rattle.std.specs.Prelude.{◌≡◌, Bool, [], T, leb, Float}
use Rattle.std.proofs.Math.Path.{refl}
use Rattle.std.proofs.Common.{sym, ap, ◌∙◌, subst}
use Rattle.std.proofs.Math.Bool.{true, false}
use Rattle.rounding.specs.Cut.{value}
use Rattle.binary64.specs.Operators.{◌⊘◌}
use Rattle.carlson.specs.Constants.{one, two, pi}
use Rattle.carlson.specs.Answer.{agm_at}
use Rattle.carlson.specs.Loop.{capped}
use Rattle.carlson.specs.declared.answer.Found.{Found}
use Rattle.elliprf.specs.declared.means.Means.{Means}
use Rattle.elliprf.specs.Means.{rf_means_of, rf_agm_value, rf_agm_start, rf_agm_count, rf_together, rf_agm_of}
use Rattle.between.specs.Between.{solid, Between}
use Rattle.between.proofs.Between.{sum_between, product_between, quotient_between, root_between, constant}
use Rattle.swing.specs.Ratios.{power, below_one}

-- so the value, pi over their sum, lies from 1 to 2 ^ 5
abbrev pub Answered : Float → Type 0
Answered v = Between (power 1023) (power 1028) v
