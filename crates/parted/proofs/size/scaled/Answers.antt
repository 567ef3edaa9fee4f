-- `scaled` meets its contract: the word stands for the two words of the product. Assumes nothing.
use Rattle.std.proofs.Common.{◌≡◌, ℕ, ◌+◌, ◌-◌, ◌*◌, ◌/◌, ◌%◌, ◌^◌, ◌<◌, ◌≤◌, [], ◌∷◌, ap, ◌∙◌, le_of_lt, mod-lt, arith, pow_pos, pow-add, rules}
use Rattle.algebra.specs.Ring.{con, ◌:*◌, ◌≈◌, ◌⊩◌, ◌times◌≼◌}
use Rattle.algebra.proofs.Ring.{below}
use Rattle.nearest.specs.Stands.{stuck}
use Rattle.nearest.specs.Shift.{jam_flag}
use Rattle.parted.specs.Parts.{parts_of}
use Rattle.parted.specs.Fractions.{jam_parts}
use Rattle.parted.proofs.size.scaled.Goals as goal

-- the product's high word is small
bounded : (m u : ℕ) → m ≤ 2 ^ 53 → u ≤ 1000000000000 → m * u ≤ 2 ^ 53 * 1000000000000
bounded = below 2 (λ m u. (u times m ≼ con (2 ^ 53)) ∷ (con (2 ^ 53) times u ≼ con 1000000000000) ∷ []
    ⊩ m :* u ≈ con (2 ^ 53 * 1000000000000)) tt

module _ (m u hi lo : ℕ) (M : m < 2 ^ 53) (U : u ≤ 1000000000000) (is : hi * 2 ^ 64 + lo ≡ m * u) where
  high : hi < 2 ^ 29
  high = small hi lo (m * u) is (bounded m u (le_of_lt M) U)
    where
      small : (hi lo p : ℕ) → hi * 2 ^ 64 + lo ≡ p → p ≤ 2 ^ 53 * 1000000000000 → hi < 2 ^ 29
      small hi lo p e h = omega arith

  word : lo < 2 ^ 64 → hi * 2 ^ 34 % 2 ^ 64 + lo / 2 ^ 30 < 2 ^ 63
  word l = fits hi lo l high
    where
      fits : (hi lo : ℕ) → lo < 2 ^ 64 → hi < 2 ^ 29 → hi * 2 ^ 34 % 2 ^ 64 + lo / 2 ^ 30 < 2 ^ 63
      fits hi lo l h = omega arith

  whole : (hi * 2 ^ 34 % 2 ^ 64 + lo / 2 ^ 30) * 2 ^ 30 + lo % 2 ^ 30 ≡ m * u
  whole = joined hi lo high ∙ is
    where
      joined : (hi lo : ℕ) → hi < 2 ^ 29 → (hi * 2 ^ 34 % 2 ^ 64 + lo / 2 ^ 30) * 2 ^ 30 + lo % 2 ^ 30 ≡ hi * 2 ^ 64 + lo
      joined hi lo h = omega arith

-- 2 ^ t is four times something, and 2 ^ s is that times what was lost
fourth : (s : ℕ) → 32 ≤ s → 2 ^ (s - 30) ≡ 4 * 2 ^ (s - 32)
fourth s h = ap (λ (z : ℕ). 2 ^ z) (e s h) ∙ pow-add 2 2 (s - 32)
  where
    e : (s : ℕ) → 32 ≤ s → s - 30 ≡ 2 + (s - 32)
    e s h = omega arith

all : (s : ℕ) → 32 ≤ s → 2 ^ s ≡ 4 * 2 ^ (s - 32) * 2 ^ 30
all s h = ap (λ (z : ℕ). 2 ^ z) (e s h) ∙ pow-add 2 (s - 30) 30 ∙ ap (λ (z : ℕ). z * 2 ^ 30) (fourth s h)
  where
    e : (s : ℕ) → 32 ≤ s → s ≡ s - 30 + 30
    e s h = omega arith

stands : (m u s hi lo w : ℕ) → m < 2 ^ 53 → u ≤ 1000000000000 → 32 ≤ s → hi * 2 ^ 64 + lo ≡ m * u
    → w ≡ stuck (hi * 2 ^ 34 % 2 ^ 64 + lo / 2 ^ 30) (lo % 2 ^ 30)
    → parts_of w (2 ^ (s - 30)) ≡ parts_of (m * u) (2 ^ s)
stands m u s hi lo w M U S is e =
    let j = jam_flag (m * u) (2 ^ 30) (hi * 2 ^ 34 % 2 ^ 64 + lo / 2 ^ 30) (lo % 2 ^ 30) (lo % 2 ^ 30) (whole m u hi lo M U is)
    (mod-lt lo (pow_pos 30)) (λ z. z) (λ z. z) in
    rw (e, fourth s S, all s S) (jam_parts (m * u) (2 ^ 30) _ (2 ^ (s - 32)) (pow_pos 30) (pow_pos (s - 32)) j)

pub returns : goal.returns
returns c =
    let p = c.requires in
    c.cut.ensures ∙ stands _ _ _ _ _ _ p.m_bound p.unit_bound p.le_s.0 c.product-p.ensures c.sticky.ensures
