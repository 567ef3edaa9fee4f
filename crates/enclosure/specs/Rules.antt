-- The whole-number rules for atan, ln and ln_1p: what each answers, in parts of a power of two. Definitions only.
-- A division here always rounds down. That the answers lie near every enclosure is proved in `Answers`.
use Rattle.std.specs.Prelude.{ℕ, ◌+◌, ◌-◌, ◌*◌, ◌/◌, ◌^◌}
use Rattle.enclosure.specs.Pieces.{euler, odd, value}

-- ---- atan(t), 0 < t ≤ 1, where t is tau parts of 2 ^ -(62 + j)
-- t^2 in parts of 2 ^ -61
abbrev pub square : ℕ → ℕ → ℕ
square j tau = tau * tau / 2 ^ (63 + 2 * j)

-- t^2 / (1 + t^2) in parts of 2 ^ -62, from u = t^2
abbrev pub share : ℕ → ℕ
share u = u * 2 ^ 62 / (2 ^ 61 + u)

-- t / (1 + t^2) in t's parts, from t and the share f, since 1 / (1 + t^2) = 1 - f
abbrev pub front : ℕ → ℕ → ℕ
front tau f = tau * (2 ^ 62 - f) / 2 ^ 62

-- the front times Euler's sum at the share
abbrev pub atan_from_share : ℕ → ℕ → ℕ
atan_from_share tau f = front tau f * value euler (4 * f) / 2 ^ 63

-- atan(t) in t's parts
unfoldable pub atan_answer : ℕ → ℕ → ℕ
atan_answer j tau = atan_from_share tau (share (square j tau))

-- ---- atan(t), t > 1, where tau is 1/t in parts of 2 ^ -62
-- π/2 in parts of 2 ^ -62, rounded down: 0x6487ED5110B4611A
abbrev pub half_pi : ℕ
half_pi = 7244019458077122842

-- atan(t) in parts of 2 ^ -62
unfoldable pub steep_answer : ℕ → ℕ
steep_answer tau = half_pi - atan_answer 0 tau

-- ---- T(s), where s is nearly sg parts of 2 ^ -(62 + j)
-- s^2 in parts of 2 ^ -64
abbrev pub seed_square : ℕ → ℕ → ℕ
seed_square j sg = sg * sg / 2 ^ (60 + 2 * j)

-- T(s) in these parts: s times the sum of 1 / (2n+1) s^2n
unfoldable pub T-answer : ℕ → ℕ → ℕ
T-answer j sg = sg * value odd (seed_square j sg) / 2 ^ 63

-- ---- ln_1p(a), where the size of a is m parts of 2 ^ -(53 + j). The answer's size is T-answer in parts of 2 ^ -(61 + j).
-- the size of a in parts of 2 ^ -60, which are those in which 2 is 2 ^ 61
abbrev pub part : ℕ → ℕ → ℕ
part j m = m * 2 ^ 7 / 2 ^ j

-- a / (2+a) in parts of 2 ^ -(62 + j)
abbrev pub gain_seed : ℕ → ℕ → ℕ
gain_seed j m = m * 2 ^ 7 * 2 ^ 62 / (2 ^ 61 + part j m)

-- |a| / (2-|a|) in parts of 2 ^ -(62 + j)
abbrev pub loss_seed : ℕ → ℕ → ℕ
loss_seed j m = m * 2 ^ 7 * 2 ^ 62 / (2 ^ 61 - part j m)

-- ---- ln of m * 2 ^ (e - 52), 2 ^ 52 ≤ m < 2 ^ 53, e ≥ 1
-- s = (m - 2 ^ 52) / (m + 2 ^ 52) in parts of 2 ^ -63
abbrev pub ln_seed : ℕ → ℕ
ln_seed m = 2 * (m - 2 ^ 52) * 2 ^ 62 / (m + 2 ^ 52)

-- ln 2 in parts of 2 ^ -63, rounded down: 0x58B90BFBE8E7BCD5
abbrev pub ln_two : ℕ
ln_two = 6393154322601327829

-- in parts of 2 ^ (b - 63), where e has b binary digits: e ln 2 + 2t, from t in parts of 2 ^ -63
abbrev pub multiple : ℕ → ℕ → ℕ → ℕ
multiple b e t = e * ln_two / 2 ^ b + 2 * t / 2 ^ b

-- e ln 2 + 2 T(s)
unfoldable pub ln_answer : ℕ → ℕ → ℕ → ℕ
ln_answer b e m = multiple b e (T-answer 1 (ln_seed m))

-- ---- ln of m * 2 ^ -(e + 53), 2 ^ 52 ≤ m < 2 ^ 53, e ≥ 1: the size, by the inverse of m / 2 ^ 53, so that nothing is taken away
-- r = (2 ^ 53 - m) / (2 ^ 53 + m) in parts of 2 ^ -63
abbrev pub inverse_seed : ℕ → ℕ
inverse_seed m = 2 * (2 ^ 53 - m) * 2 ^ 62 / (2 ^ 53 + m)

-- e ln 2 + 2 T(r)
unfoldable pub ln_below_answer : ℕ → ℕ → ℕ → ℕ
ln_below_answer b e m = multiple b e (T-answer 1 (inverse_seed m))

-- ---- ln between 1/2 and 2: ln_1p of the distance from 1, which is n parts of 2 ^ -53. Where n has 53 - j binary digits, these
-- are n * 2 ^ j parts of 2 ^ -(53 + j); the answer's size is in parts of 2 ^ -(61 + j).
unfoldable pub gain_answer : ℕ → ℕ → ℕ
gain_answer j n = T-answer j (gain_seed j (n * 2 ^ j))

unfoldable pub loss_answer : ℕ → ℕ → ℕ
loss_answer j n = T-answer j (loss_seed j (n * 2 ^ j))
