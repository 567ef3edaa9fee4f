-- The enclosures are nested: lower ends rise, upper ends fall, and each lower end is below each upper one. So a bound of one
-- enclosure is a bound of all. T and atan are two cases of one law: each term is at most z times the one before, and the
-- rest is bounded by the next term times a factor k ≥ 1 / (1 - z). Assumes nothing.
use Rattle.std.specs.Prelude.{ℕ, zero, suc, ◌+◌, ◌-◌, ◌*◌, ◌≤◌, ◌<◌, [], ◌∷◌}
use Rattle.std.proofs.Common.{subst, mul-le-mul, arith}
use Rattle.algebra.specs.Ring.{con, nxt, ◌:+◌, ◌:*◌, ◌≈◌, ◌⊩◌, ◌times◌≼◌, Order}
use Rattle.algebra.proofs.Ring.{by_below}
use Rattle.enclosure.specs.Quotient.{Quotient, ◌≼◌, whole, parts, ◌⊞◌, ◌⊠◌}
use Rattle.enclosure.specs.Order.{≼_refl, ≼_trans, ⊞-mono, ⊠-mono, ≼-more, ⊞-under, parts_join, parts_split}
use Rattle.enclosure.specs.Enclosure.{sum, odd_power, T-term, T-factor, T-lower, T-upper, one_and_square, euler_ratio, euler_term, atan_lower, atan_upper, Within}

pub record Falls (a : ℕ → Quotient) (z k : Quotient) : Type 0 where
  pub ratio : (i : ℕ) → a (suc i) ≼ z ⊠ a i
  pub factor : whole 1 ⊞ k ⊠ z ≼ k

abbrev pub end : (ℕ → Quotient) → Quotient → ℕ → Quotient
end a k n = sum a n ⊞ k ⊠ a n
