-- RG in any order (document 02, 2026-13): the whole answer is the same, value, count, road and rescalings, or refusal, where no
-- argument is NaN and none is -0. With a -0 it is false, and the counterexample computes. Assumes nothing.
use Rattle.std.specs.Prelude.{◌≡◌, refl, Bool, false, Float}
use Rattle.std.proofs.Common.{sym, ap, ap₂, ◌∙◌, true≢false, Ok}
use Rattle.std.specs.Float.Ieee.{of_bits, neg, lt, eq, is_nan}
use Rattle.binary64.specs.Leaves.{absolute, maximum, minimum}
use Rattle.root.specs.Root.{root}
use Rattle.scaling.specs.One.{sign}
use Rattle.scaling.proofs.Pick.{choose}
use Rattle.carlson.specs.Constants.{zero}
use Rattle.carlson.specs.Answer.{closed_at, settled_told}
use Rattle.carlson_arguments.specs.Checks.{below3}
use Rattle.carlson_arguments.specs.Rescaling.{rescaling3}
use Rattle.carlson.specs.Answer.{Answer}
use Rattle.sorting.specs.declared.Triple.{Triple}
use Rattle.sorting.specs.Sorting.{fall_xy, fall_xz, rise_yz, largest_first, three, Permuted}
use Rattle.sorting.specs.Permuted.{Each}
use Rattle.sorting.proofs.SortingLaws.{largest_first_only}
use Rattle.elliprg.specs.Rg.{rg, rg_unchecked, rg_steps, rg_sorted, rg_top, rg_equal, rg_settled, times_root}
use Rattle.rg_order.specs.Plain.{Plain}
use Rattle.rg_order.proofs.PlainLaws.{told_apart}
use Rattle.rg_order.specs.Seen.{at}
use Rattle.rg_order.proofs.Seen.{below3_permuted, nan_permuted, rescaling_permuted}

-- the steps sort first
steps_permuted : (t u : Triple) → Permuted t u → Each Plain t → at rg_steps t ≡ at rg_steps u
unfolding rg_steps
steps_permuted t u p e = ap (at rg_sorted) (largest_first_only told_apart p e)

-- ---- THE LAW
pub rg_any_order : {x y z x' y' z' : Float} → Permuted (three x y z) (three x' y' z') → Plain x → Plain y → Plain z
    → rg x y z ≡ rg x' y' z'
unfolding rg rg_unchecked
rg_any_order {x} {y} {z} {x'} {y'} {z'} p a b c =
    let e : Each Plain (three x y z) = record { x = a; y = b; z = c } in
    choose ◌≡◌ (below3 x y z) (below3 x' y' z') (below3_permuted p) (λ h. refl)
    (λ h. ap₂ rg_settled (rescaling_permuted p e times_root rg_steps steps_permuted h) (nan_permuted p))

-- ---- with a -0 it is false: no zero is below another, and the root of the one that comes first is the answer
pub first_zero : (rg (neg zero) zero zero ≡ Ok (closed_at (neg zero))) × (rg zero (neg zero) zero ≡ Ok (closed_at zero))
unfolding rg rg_unchecked rg_steps rg_sorted rg_top rg_equal rg_settled fall_xy fall_xz rise_yz largest_first rescaling3 closed_at
    settled_told absolute maximum minimum root of_bits neg lt eq is_nan
first_zero = (refl, refl)
