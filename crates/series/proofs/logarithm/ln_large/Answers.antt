-- `series::logarithm::ln_large` meets its contract: the usual case, and `ln`. Assumes nothing.
use Rattle.std.proofs.Common.{◌≡◌, ℕ, ◌+◌, ◌-◌, ◌%◌, ◌^◌, ◌<◌, ◌≤◌, refl, ◌∙◌, arith, rules}
use Rattle.rounding.specs.Cut.{infinity}
use Rattle.binary64.specs.Tests.{above_no_nan}
use Rattle.series.specs.Ln.{two}
use Rattle.series.proofs.Cases.{ln_from, ln_range}
use Rattle.series.proofs.Patterns.{both_ends}
use Rattle.series.proofs.logarithm.ln_large.Goals as goal

within : {b r : ℕ} → (r + two) % 2 ^ 64 ≡ b → r < infinity - two → (two ≤ b) × (b < infinity)
within = both_ends (omega arith)

pub returns-then-wrapping_sub_u64 : goal.returns-then-wrapping_sub_u64
returns-then-wrapping_sub_u64 c =
    let r = within c.wrapping_sub_u64.ensures.value c.if-wrapping_sub_u64.true in
    c.from_two.ensures ∙ ln_from _ _ refl r.0 r.1
