-- What RG sees of its arguments before it sorts them is the same in any order: whether one is below zero, whether one is NaN,
-- the scale, and whether they are rescaled. Assumes nothing.
use Rattle.std.proofs.Math.Path.{◌≡◌, ap}
use Rattle.std.specs.Prelude.{refl, Bool, not, ◌&&◌, ◌||◌, T, Float}
use Rattle.std.proofs.Common.{sym, ◌∙◌, subst, true≢false}
use Rattle.std.proofs.Math.Bool.{true, false, cond, and_assoc, and_comm, or_assoc, or_comm}
use Rattle.std.specs.Float.{nan, inf, fin}
use Rattle.std.specs.Float.Ieee.{is_nan, lt}
use Rattle.std.specs.Float.Ieee.Bits.{is_true, is_false}
use Rattle.std.specs.Float.Ieee.Fits.{and_l, and_r}
use Rattle.std.specs.Float.Ieee.Scale.{finite}
use Rattle.binary64.specs.Leaves.{absolute, maximum, minimum}
use Rattle.binary64.specs.Operators.{◌⊘◌}
use Rattle.derived.specs.Limits.{limit, reciprocal}
use Rattle.scaling.proofs.Kind.{nor_l, nor_r}
use Rattle.scaling.proofs.Pick.{choose}
use Rattle.carlson.specs.Constants.{zero}
use Rattle.carlson_arguments.specs.Checks.{any_nan3, below3}
use Rattle.carlson_arguments.specs.Rescaling.{scale_of3, beyond_limits, survives, survive3, rescales3, rescaling3}
use Rattle.sorting.specs.declared.Triple.{Triple}
use Rattle.sorting.specs.Order.{lt_once, not_below_through}
use Rattle.sorting.specs.Sorting.{Permuted}
use Rattle.sorting.specs.Permuted.{Each, mapped}
use Rattle.sorting.proofs.Permuted.{each_permuted, mapped_permuted, joined_permuted, same_below}
use Rattle.rg_order.specs.Plain.{Plain}

-- a function of three arguments, of three values
abbrev pub at : {A : Type 0} → (Float → Float → Float → A) → Triple → A
at f t = f t.x t.y t.z
