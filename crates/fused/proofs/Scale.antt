-- A pattern's value as a number of 53 digits and a power of two. Assumes nothing.
use Rattle.std.proofs.Common.{◌≡◌, ℕ, ◌+◌, ◌-◌, ◌*◌, ◌/◌, ◌%◌, ◌^◌, ◌<◌, ◌≤◌, sym, ap, ◌∙◌, subst, inl, inr, mul_assoc, add_comm, arith, pow_mono, pow-add}
use lib.Count.{count_leading_zeros}
use Rattle.algebra.specs.Order.{lt_or_le}
use Rattle.rounding.specs.Cut.{infinity, value}
use Rattle.rounding.proofs.Value.{value_small, value_high}
use Rattle.fused.specs.Parts.{Scaled}
use Rattle.nearest.specs.Normal.{Normal, normal}

-- ---- normal numbers
pub scaled_high : (b : ℕ) → 2 ^ 52 ≤ b → b < infinity → Scaled b (b % 2 ^ 52 + 2 ^ 52) (b / 2 ^ 52 + 63)
scaled_high b l u =
    let y = b / 2 ^ 52 - 1 in
    let m = b % 2 ^ 52 + 2 ^ 52 in
    let i : y + 64 ≡ b / 2 ^ 52 + 63 = omega arith in
    let v : value b ≡ m * 2 ^ y = value_high b l ∙ ap (λ (x : ℕ). x * 2 ^ y) (add_comm (2 ^ 52) (b % 2 ^ 52)) in
    record {
      finite = u;
      same = ap (λ (x : ℕ). x * 2 ^ 64) v ∙ mul_assoc m (2 ^ y) (2 ^ 64)
          ∙ ap (λ (x : ℕ). m * x) (sym (pow-add 2 y 64) ∙ ap (λ (x : ℕ). 2 ^ x) i);
      low = omega arith;
      high = omega arith;
      least = omega arith;
      most = omega arith;
    }

-- ---- subnormal numbers, brought to 53 digits: z is the number of zeros before the first digit
pub record Low (b z m : ℕ) : Type 0 where
  pub more : 11 < z
  pub less : z < 64
  pub scaled : Scaled b m (75 - z)

more_zeros : (b z : ℕ) → b < 2 ^ 52 → Normal b z → 11 < z
more_zeros b z h n = elim (lt_or_le 11 z) [
  | inl l ↦ l
  | inr l ↦
      let i : 53 ≤ 64 - z = omega arith in
      let p : 2 ^ 53 ≤ 2 ^ (64 - z) = pow_mono i in
      absurd (omega (arith, n.above))
]

low : (b z : ℕ) → b < 2 ^ 52 → Normal b z → Low b z (b * 2 ^ (z - 11) % 2 ^ 64)
low b z h n =
    let g = more_zeros b z h n in
    let m = b * 2 ^ (z - 11) in
    let shifted : (i j k : ℕ) → i + j ≡ k → b * 2 ^ k ≡ b * 2 ^ i * 2 ^ j =
    λ i j k e. ap (λ (x : ℕ). b * x) (ap (λ (x : ℕ). 2 ^ x) (sym e) ∙ pow-add 2 i j) ∙ sym (mul_assoc b (2 ^ i) (2 ^ j)) in
    let e : b * 2 ^ z ≡ m * 2 ^ 11 = shifted (z - 11) 11 z (omega arith) in
    let u : b * 2 ^ z < 2 ^ 64 = subst (λ (x : ℕ). x < 2 ^ 64) n.kept (mod_small (b * 2 ^ z)) in
    let k : m % 2 ^ 64 ≡ m = omega arith in
    let v : value b * 2 ^ 64 ≡ m * 2 ^ (75 - z) =
    ap (λ (x : ℕ). x * 2 ^ 64) (value_small b (omega arith)) ∙ shifted (z - 11) (75 - z) 64 (omega arith) in
    let s : Scaled b m (75 - z) = record {
      finite = omega arith;
      same = v;
      low = omega (arith, n.large);
      high = omega arith;
      least = omega (arith, n.less);
      most = omega arith;
    } in
    rw k (record { more = g; less = n.less; scaled = s })
  where
    mod_small : (x : ℕ) → x % 2 ^ 64 < 2 ^ 64
    mod_small x = omega arith

pub scaled_low : (b : ℕ) → 0 < b → b < 2 ^ 52 → Low b (count_leading_zeros 64 b) (b * 2 ^ (count_leading_zeros 64 b - 11) % 2 ^ 64)
scaled_low b p h = low b (count_leading_zeros 64 b) h (normal b p (omega arith))
