-- A quotient told by both words of its product: q * d and a rest below d make p * 2 ^ 62, word by word. Assumes nothing.
use Rattle.std.proofs.Common.{◌≡◌, ℕ, ◌+◌, ◌*◌, ◌/◌, ◌%◌, ◌^◌, ◌<◌, [], sym, ap, ◌∙◌, ap₂, add-zero, div-add-mod', pow_pos}
use lib.Arith.{digits_div}
use lib.Ieee.Nearest.{div_same}
use Rattle.algebra.specs.Ring.{con, ◌:*◌, ◌≈◌}
use Rattle.algebra.proofs.Ring.{ring}

-- the upper word of p * 2 ^ 62
upper : (p : ℕ) → p * 2 ^ 62 / 2 ^ 64 ≡ p / 4
upper p = div_same (p * 2 ^ 62) (2 ^ 64) p 4 (pow_pos 64) (pow_pos 2) (fourfold p)
  where
    fourfold : (p : ℕ) → p * 2 ^ 62 * 4 ≡ p * 2 ^ 64
    fourfold = ring 1 (λ p. p :* con (2 ^ 62) :* con 4 ≈ p :* con (2 ^ 64)) tt

pub certain : (p d q r hi lo : ℕ) → hi * 2 ^ 64 + lo ≡ q * d + r + 0 → hi ≡ p / 4 → lo ≡ p * 2 ^ 62 % 2 ^ 64 → r < d
    → q ≡ p * 2 ^ 62 / d
certain p d q r hi lo both h l small =
    let whole : q * d + r ≡ p * 2 ^ 62 =
    sym (add-zero (q * d + r)) ∙ sym both ∙ ap₂ (λ (u v : ℕ). u * 2 ^ 64 + v) (h ∙ sym (upper p)) l
    ∙ div-add-mod' (p * 2 ^ 62) (2 ^ 64) in
    sym (digits_div q small) ∙ ap (λ (n : ℕ). n / d) whole
