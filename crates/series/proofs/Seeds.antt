-- The seeds of ln_1p and ln, as the code divides, and what `t_sum` asks of them. Assumes nothing.
use Rattle.std.proofs.Common.{◌≡◌, ℕ, ◌+◌, ◌-◌, ◌*◌, ◌/◌, ◌^◌, ◌<◌, ◌≤◌, Bool, true, false, cond, [], sym, refl, ap, ◌∙◌, subst, le_trans, lt_of_lt_of_le, div-lt_iff_lt-mul, div-le_self, arith, pow_mono}
use lib.Ieee.Nearest.{div_same}
use Rattle.algebra.specs.Ring.{con, ◌:*◌, ◌≈◌}
use Rattle.algebra.proofs.Ring.{ring}
use Rattle.enclosure.specs.Quotient.{Quotient, parts}
use Rattle.enclosure.specs.Enclosure.{argument_of_ln, gain, loss}
use Rattle.enclosure.specs.Rules.{T-answer, part, gain_seed, loss_seed, ln_seed, inverse_seed}
use Rattle.enclosure.specs.Logarithm.{Seed}
use Rattle.enclosure.proofs.Seeds.{gain_seeds, loss_seeds, ln_seeds, beyond, inverse_seeds}
use Rattle.enclosure.proofs.Sizes.{seed_inside, T-size, T-fits, gain_size, loss_size}
use Rattle.series.specs.Ln1p.{seed}
use Rattle.series.specs.Ranges.{Seeded, Exponent, Multiple, Close}

pub proper : (j m : ℕ) → m < 2 ^ 53 → m < 2 ^ (53 + j)
proper j m h = lt_of_lt_of_le h (pow_mono {i = 53} {j = 53 + j} (omega arith))

-- ---- what a seed of an enclosure is good for
ready : {s : Quotient} {j sg : ℕ} → Seed s j sg → j < 64 → sg < 2 ^ 62 → Seeded j sg
ready {s} {j} {sg} h k l = record { few = k; fits = l; inside = seed_inside s j sg h }

-- ---- the divisor of ln_1p: twice 2 + a or 2 - a
abbrev pub divisor : Bool → ℕ → ℕ
divisor t c = cond t (2 ^ 62 - 2 * c) (2 ^ 62 + 2 * c)

pub part_small : (j m : ℕ) → m < 2 ^ 53 → part j m < 2 ^ 60
part_small j m h = omega (arith, div-le_self (m * 2 ^ 7) (2 ^ j))

-- (d is its value: the quotient's ranges, the first of them strict)
range_of : (t : Bool) (m c d : ℕ) → m < 2 ^ 53 → c ≤ m * 2 ^ 7 → d ≡ divisor t c → (m * 256 < d) × (2 ^ 61 ≤ d) × (d < 2 ^ 63)
range_of true m c d h l e = (omega arith, omega arith, omega arith)
range_of false m c d h l e = (omega arith, omega arith, omega arith)

pub divisor_range : (t : Bool) (j m d : ℕ) → m < 2 ^ 53 → d ≡ divisor t (part j m) → (m * 256 ≤ d) × (2 ^ 61 ≤ d) × (d < 2 ^ 63)
divisor_range t j m d h e =
    let r = range_of t m (part j m) d h (div-le_self (m * 2 ^ 7) (2 ^ j)) e in
    let strict : m * 256 < d = r.0 in
    (omega arith, r.1, r.2)

-- (n is twice d)
halved : (m d n : ℕ) → 0 < d → n ≡ 2 * d → m * 256 * 2 ^ 62 / n ≡ m * 2 ^ 7 * 2 ^ 62 / d
halved m d n p e =
    let q : 0 < 2 * d = omega arith in
    ap (λ (k : ℕ). m * 256 * 2 ^ 62 / k) e ∙ div_same (m * 256 * 2 ^ 62) (2 * d) (m * 2 ^ 7 * 2 ^ 62) d q p (same m d)
  where
    same : (m d : ℕ) → m * 256 * 2 ^ 62 * d ≡ m * 2 ^ 7 * 2 ^ 62 * (2 * d)
    same = ring 2 (λ m d. m :* con 256 :* con (2 ^ 62) :* d ≈ m :* con (2 ^ 7) :* con (2 ^ 62) :* (con 2 :* d)) tt

pub seed_is : (t : Bool) (j m : ℕ) → m < 2 ^ 53 → m * 256 * 2 ^ 62 / divisor t (part j m) ≡ seed t j m
seed_is true j m h = let small : part j m < 2 ^ 60 = part_small j m h in
    halved m (2 ^ 61 - part j m) _ (omega arith) (omega arith)
seed_is false j m h = halved m (2 ^ 61 + part j m) _ (omega arith) (omega arith)

-- a quotient below 1
below_one : (p d : ℕ) → p < d → p * 2 ^ 62 / d < 2 ^ 62
below_one p d h = let q : 0 < d = omega arith in (div-lt_iff_lt-mul q).1 (omega arith)

seed_fits : (t : Bool) (j m : ℕ) → m < 2 ^ 53 → seed t j m < 2 ^ 62
seed_fits t j m h =
    let d = divisor t (part j m) in
    let e : d ≡ divisor t (part j m) = omega arith in
    let r = range_of t m (part j m) d h (div-le_self (m * 2 ^ 7) (2 ^ j)) e in
    rw (seed_is t j m h) at (below_one (m * 256) d r.0)

pub seeded : (t : Bool) (s j m : ℕ) → (t ≡ true → s ≡ 1) → Close s j m → Seeded j (seed t j m)
seeded true s j m e h =
    let fits : m ≤ 2 ^ 53 = omega (arith, h.high) in
    ready (loss_seeds j m (proper j m h.high) fits (h.small (e refl))) (omega (arith, h.most)) (seed_fits true j m h.high)
seeded false s j m e h =
    let fits : m ≤ 2 ^ 53 = omega (arith, h.high) in
    ready (gain_seeds j m fits) (omega (arith, h.most)) (seed_fits false j m h.high)

pub seed_size : (t : Bool) (s j m : ℕ) → (t ≡ true → s ≡ 1) → Close s j m → 2 ^ 59 ≤ T-answer j (seed t j m)
seed_size true s j m e h =
    let fits : m ≤ 2 ^ 53 = omega (arith, h.high) in
    let strict = proper j m h.high in
    le_trans (loss_size j m h.low fits)
    (T-size (loss (parts (53 + j) m) strict) j (loss_seed j m) (loss_seeds j m strict fits (h.small (e refl))))
seed_size false s j m e h =
    let fits : m ≤ 2 ^ 53 = omega (arith, h.high) in
    le_trans (gain_size j m h.low) (T-size (gain (parts (53 + j) m)) j (gain_seed j m) (gain_seeds j m fits))

-- ---- ln
ln_same : (p d : ℕ) → p * 512 * 2 ^ 62 * d ≡ 2 * p * 2 ^ 62 * (d * 256)
ln_same = ring 2 (λ p d. p :* con 512 :* con (2 ^ 62) :* d ≈ con 2 :* p :* con (2 ^ 62) :* (d :* con 256)) tt

pub ln_seed_is : (m : ℕ) → (m - 2 ^ 52) * 512 * 2 ^ 62 / ((m + 2 ^ 52) * 256) ≡ ln_seed m
ln_seed_is m =
    let p = m - 2 ^ 52 in
    let d = m + 2 ^ 52 in
    let k : 0 < d * 256 = omega arith in
    let q : 0 < d = omega arith in
    div_same (p * 512 * 2 ^ 62) (d * 256) (2 * p * 2 ^ 62) d k q (ln_same p d)

-- ---- ln below 1/2, where the quotient is that of 2 ^ 53 - m and 2 ^ 53 + m
pub inverse_seed_is : (m : ℕ) → (2 ^ 53 - m) * 512 * 2 ^ 62 / ((2 ^ 53 + m) * 256) ≡ inverse_seed m
inverse_seed_is m =
    let p = 2 ^ 53 - m in
    let d = 2 ^ 53 + m in
    let k : 0 < d * 256 = omega arith in
    let q : 0 < d = omega arith in
    div_same (p * 512 * 2 ^ 62) (d * 256) (2 * p * 2 ^ 62) d k q (ln_same p d)

-- ---- what `multiple` asks
module _ (e m : ℕ) (range : Exponent e m) where
  abbrev low : 2 ^ 52 ≤ m
  low = range.low

  abbrev high : m < 2 ^ 53
  high = range.high

  -- (by the seed that the quotient is)
  asked : (s : Quotient) (p d sg : ℕ) → p * 2 ^ 62 / d ≡ sg → sg < 2 ^ 62 → Seed s 1 sg
      → (p ≤ d) × (2 ^ 61 ≤ d) × (d < 2 ^ 63) → Multiple e p d
  asked s p d sg is small seed divides = record {
    least = range.least;
    most = range.most;
    divides = divides;
    seeded = subst (λ (g : ℕ). Seeded 1 g) (sym is) (ready seed (omega arith) small);
    fits = subst (λ (g : ℕ). T-answer 1 g < 2 ^ 63) (sym is) (T-fits s 1 sg seed);
  }

  pub ln_asked : Multiple e ((m - 2 ^ 52) * 512) ((m + 2 ^ 52) * 256)
  ln_asked =
      asked (argument_of_ln (parts 52 m)) ((m - 2 ^ 52) * 512) ((m + 2 ^ 52) * 256) (ln_seed m) (ln_seed_is m)
      (below_one (2 * (m - 2 ^ 52)) (m + 2 ^ 52) (omega arith)) (ln_seeds m low high) (omega arith, omega arith, omega arith)

  pub below_asked : Multiple e ((2 ^ 53 - m) * 512) ((2 ^ 53 + m) * 256)
  below_asked =
      asked (beyond m low high) ((2 ^ 53 - m) * 512) ((2 ^ 53 + m) * 256) (inverse_seed m) (inverse_seed_is m)
      (below_one (2 * (2 ^ 53 - m)) (2 ^ 53 + m) (omega arith)) (inverse_seeds m low high) (omega arith, omega arith, omega arith)
