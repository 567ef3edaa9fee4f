-- `series::arc::atan_ahead` meets its contract: the two usual cases, and `atan`. Assumes nothing.
use Rattle.std.proofs.Common.{◌≡◌, ℕ, suc, ◌+◌, ◌-◌, ◌%◌, ◌^◌, ◌<◌, ◌≤◌, refl, ◌∙◌, arith, rules}
use Rattle.binary64.specs.Tests.{above_no_nan}
use Rattle.series.specs.Atan.{tiny, one, far}
use Rattle.series.proofs.Cases.{atan_plain_below, atan_plain_above}
use Rattle.series.proofs.Patterns.{both_ends}
use Rattle.series.proofs.arc.atan_ahead.Goals as goal

-- above 1 up to where atan is constant, and below 1 from where it is not its argument
above : {a r : ℕ} → (r + suc one) % 2 ^ 64 ≡ a → r < far - suc one → (one < a) × (a < far)
above = both_ends (omega arith)

below : {a r : ℕ} → (r + tiny) % 2 ^ 64 ≡ a → r < one - tiny → (tiny ≤ a) × (a < one)
below = both_ends (omega arith)

pub returns-then-wrapping_sub_u64 : goal.returns-then-wrapping_sub_u64
returns-then-wrapping_sub_u64 c =
    let r = above c.wrapping_sub_u64.ensures.value c.if-wrapping_sub_u64.true in
    c.above_one.ensures ∙ atan_plain_above _ _ refl r.0 r.1

pub returns-then-wrapping_sub_u64-2 : goal.returns-then-wrapping_sub_u64-2
returns-then-wrapping_sub_u64-2 c =
    let r = below c.wrapping_sub_u64-then-x.ensures.value c.if-wrapping_sub_u64-2.true in
    c.below_one.ensures ∙ atan_plain_below _ _ refl r.0 r.1
