-- Quotients of whole numbers, compared by cross multiplication: document 01 asks that each comparison be said so.
-- Definitions only.
use Rattle.std.specs.Prelude.{ℕ, suc, ◌+◌, ◌-◌, ◌*◌, ◌^◌, ◌≤◌, ◌<◌}
use Rattle.std.proofs.Common.{mul-pos, arith, pow_pos}

-- num / den; it need not be in lowest terms
pub record Quotient : Type 0 where
  pub num : ℕ
  pub den : ℕ
  pub pos : 0 < den

infix 50 ◌≼◌
infixl 65 ◌⊞◌ ◌⊟◌
infixl 70 ◌⊠◌
pub record ◌≼◌ (x y : Quotient) : Type 0 where
  pub cross : x.num * y.den ≤ y.num * x.den

abbrev pub whole : ℕ → Quotient
whole n = record { num = n; den = 1; pos = omega arith }

-- a / (b + 1)
abbrev pub over : ℕ → ℕ → Quotient
over a b = record { num = a; den = suc b; pos = omega arith }

-- n parts of 2 ^ -k
abbrev pub parts : ℕ → ℕ → Quotient
parts k n = record { num = n; den = 2 ^ k; pos = pow_pos k }

abbrev pub ◌⊞◌ : Quotient → Quotient → Quotient
x ⊞ y = record { num = x.num * y.den + y.num * x.den; den = x.den * y.den; pos = mul-pos x.pos y.pos }

-- the difference; 0 where y is above x
abbrev pub ◌⊟◌ : Quotient → Quotient → Quotient
x ⊟ y = record { num = x.num * y.den - y.num * x.den; den = x.den * y.den; pos = mul-pos x.pos y.pos }

abbrev pub ◌⊠◌ : Quotient → Quotient → Quotient
x ⊠ y = record { num = x.num * y.num; den = x.den * y.den; pos = mul-pos x.pos y.pos }
