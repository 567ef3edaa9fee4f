-- `parts_of` meets its contract: the digits and the power of two of a pattern are those of its value. Assumes nothing.
use Prim.Native.Nat.{ℕ, suc, ◌+◌, ◌-◌, ◌*◌, ◌/◌, ◌%◌, ◌^◌, ◌≤◌, ◌<◌}
use mathlib.Core.Path.{◌≡◌, sym, ap, ◌∙◌}
use native.Mathlib.Nat.{pow-succ'}
use native.Mathlib.Omega.{arith}
use Rattle.algebra.specs.Ring.{con, ◌:*◌, ◌≈◌}
use Rattle.algebra.proofs.Ring.{ring}
use Rattle.rounding.specs.Cut.{value}
use Rattle.rounding.proofs.Value.{value_small, value_high}
use Rattle.decimal_write.proofs.parts.parts_of.Goals as goal

low : (b : ℕ) → b < 2 ^ 52 → b * 2 ≡ value b * 2
low b h = ap (λ (v : ℕ). v * 2) (sym (value_small b (omega arith)))

doubled : (c p : ℕ) → c * (2 * p) ≡ c * p * 2
doubled = ring 2 (λ c p. c :* (con 2 :* p) ≈ c :* p :* con 2) tt

high : (b : ℕ) → 2 ^ 52 ≤ b → (2 ^ 52 + b % 2 ^ 52) * 2 ^ (b / 2 ^ 52) ≡ value b * 2
high b h =
    let c = 2 ^ 52 + b % 2 ^ 52 in
    let y = b / 2 ^ 52 - 1 in
    let e : b / 2 ^ 52 ≡ suc y = omega arith in
    ap (λ (i : ℕ). c * 2 ^ i) e ∙ ap (λ (p : ℕ). c * p) (pow-succ' 2 y) ∙ doubled c (2 ^ y)
    ∙ ap (λ (v : ℕ). v * 2) (sym (value_high b h))

pub returns-then-b-lt-FIELD : goal.returns-then-b-lt-FIELD
returns-then-b-lt-FIELD c =
    (low _ c.if-b-lt-FIELD.true, omega arith, omega arith)

pub returns : goal.returns
returns c =
    (high _ c.if-b-lt-FIELD.false, omega arith, omega arith)
