-- With a -0 the law of any order is false. Assumes nothing.
use Rattle.std.specs.Prelude.{◌≡◌, refl, Bool, false, Float}
use Rattle.std.proofs.Common.{sym, ap, ap₂, ◌∙◌, true≢false, Ok, Err}
use Rattle.std.specs.Float.Ieee.{of_bits, neg, lt, eq, is_nan}
use Rattle.binary64.specs.Leaves.{absolute, maximum, minimum}
use Rattle.root.specs.Root.{root}
use Rattle.scaling.specs.One.{sign}
use Rattle.scaling.proofs.Pick.{choose}
use Rattle.carlson.specs.Constants.{zero}
use Rattle.carlson.specs.Answer.{closed_at, settled_late}
use Rattle.carlson_arguments.specs.Checks.{below3}
use Rattle.carlson_arguments.specs.Rescaling.{rescaling3}
use Rattle.carlson.specs.Answer.{Answer}
use Rattle.sorting.specs.declared.Triple.{Triple}
use Rattle.sorting.specs.Sorting.{fall_xy, fall_xz, rise_yz, largest_first, three, Permuted}
use Rattle.sorting.specs.Permuted.{Each}
use Rattle.sorting.proofs.SortingLaws.{largest_first_only}
use Rattle.elliprg.specs.Rg.{rg, rg_unchecked, rg_steps, rg_sorted, rg_top, rg_equal, rg_settled, times_root}
use Rattle.rg_order.specs.Plain.{Plain}
use Rattle.rg_order.proofs.PlainLaws.{told_apart}
use Rattle.rg_order.specs.Seen.{at}
use Rattle.rg_order.proofs.Seen.{below3_permuted, nan_permuted, rescaling_permuted}
use Rattle.rg_order.proofs.AnyOrder.{first_zero}

pub minus_zero : rg (neg zero) zero zero ≡ rg zero (neg zero) zero → ⊥
unfolding closed_at neg of_bits
minus_zero e = true≢false (ap signed (sym first_zero.0 ∙ e ∙ first_zero.1))
  where
    signed : Answer → Bool
    signed (Ok f) = sign f.value
    signed (Err n) = false
