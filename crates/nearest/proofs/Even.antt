-- The number kept of a word, moved up by one where the rest says so. Assumes nothing.
use Prim.Native.Nat.{ℕ, suc, ◌+◌, ◌-◌, ◌*◌, ◌/◌, ◌%◌, ◌^◌, ◌≤◌, ◌<◌, compare, Ordering}
use mathlib.Core.Path.{◌≡◌, refl, sym, ap, ◌∙◌}
use native.Mathlib.Nat.{le_trans, lt_of_le_of_lt, lt_of_lt_of_le, le_of_eq, pow-suc, div-mul-le_self, div-eq_of_lt, mod-lt}
use native.Mathlib.Nat.{mod-eq_of_lt, div-lt_iff_lt-mul}
use native.Mathlib.Omega.{arith}
use lib.Pow.{pow_pos, pow_mono, pow-lt, split, pow-add}
use lib.Ieee.{nearest}
use lib.Ieee.Fits.{nearest-le}
use Rattle.algebra.specs.Order.{Compared, compared, lt_compare, scaled_compare}

-- ---- one comparison: r with the last digit of q, with the half
pub moved_up : (q r h : ℕ) → h < r + q % 2 → q + 1 ≡ nearest q (compare r h)
moved_up q r h l = go (compare r h) (compared r h)
  where
    go : (o : Ordering) → Compared o r h → q + 1 ≡ nearest q o
    go Ordering.lt c = absurd (omega arith)
    go Ordering.eq c = omega arith
    go Ordering.gt c = omega arith

pub left_there : (q r h : ℕ) → r + q % 2 ≤ h → q ≡ nearest q (compare r h)
left_there q r h l = go (compare r h) (compared r h)
  where
    go : (o : Ordering) → Compared o r h → q ≡ nearest q o
    go Ordering.lt c = refl
    go Ordering.eq c = omega arith
    go Ordering.gt c = absurd (omega arith)

-- the half of a power
pub near_half : (q r k : ℕ) → 0 < k → nearest q (compare r (2 ^ (k - 1))) ≡ nearest q (compare (r * 2) (2 ^ k))
near_half q r k p =
    let i : suc (k - 1) ≡ k = omega arith in
    let e : 2 ^ (k - 1) * 2 ≡ 2 ^ k = sym (pow-suc 2 (k - 1)) ∙ ap (λ (z : ℕ). 2 ^ z) i in
    ap (λ (o : Ordering). nearest q o)
    (sym (scaled_compare r (2 ^ (k - 1)) 2 (omega arith)) ∙ ap (λ (z : ℕ). compare (r * 2) z) e)

-- ---- what is kept of a word v above its k lowest digits: all of them and more, all of them, some
pub none_kept : (v k : ℕ) → v < 2 ^ 64 → 64 < k → 0 ≡ nearest (v / 2 ^ k) (compare (v % 2 ^ k * 2) (2 ^ k))
none_kept v k l h =
    let p : 2 ^ 65 ≤ 2 ^ k = pow_mono h in
    let a : v < 2 ^ k = omega arith in
    let b : v * 2 < 2 ^ k = omega arith in
    rw (div-eq_of_lt a, mod-eq_of_lt a, lt_compare (v * 2) (2 ^ k) b)

pub word_below : (v k : ℕ) → v < 2 ^ 64 → k ≡ 64
    → nearest 0 (compare v (2 ^ 63)) ≡ nearest (v / 2 ^ k) (compare (v % 2 ^ k * 2) (2 ^ k))
word_below v k l e =
    let a : v / 2 ^ 64 ≡ 0 = omega arith in
    let b : v % 2 ^ 64 ≡ v = omega arith in
    rw (e, a, b) (near_half 0 v 64 (omega arith))

kept : (v k : ℕ) → v < 2 ^ 64 → v / 2 ^ k * 2 ^ k % 2 ^ 64 ≡ v / 2 ^ k * 2 ^ k
kept v k l = mod-eq_of_lt (lt_of_le_of_lt (div-mul-le_self v (2 ^ k)) l)

pub rest_is : (v k : ℕ) → v < 2 ^ 64 → v - v / 2 ^ k * 2 ^ k % 2 ^ 64 ≡ v % 2 ^ k
rest_is v k l = omega (arith, kept v k l, split v k)

pub no_more : (v k : ℕ) → v < 2 ^ 64 → v / 2 ^ k * 2 ^ k % 2 ^ 64 ≤ v
no_more v k l = omega (arith, kept v k l, split v k)

half_is : (k : ℕ) → k < 64 → 1 * 2 ^ (k - 1) % 2 ^ 64 ≡ 2 ^ (k - 1)
half_is k l =
    let i : k - 1 < 64 = omega arith in
    let p : 2 ^ (k - 1) < 2 ^ 64 = pow-lt i in
    let e : 1 * 2 ^ (k - 1) ≡ 2 ^ (k - 1) = omega arith in
    rw e (mod-eq_of_lt p)

pub some_kept : (v k : ℕ) → v < 2 ^ 64 → 11 < k → k < 64
    → nearest (v / 2 ^ k) (compare (v - v / 2 ^ k * 2 ^ k % 2 ^ 64) (1 * 2 ^ (k - 1) % 2 ^ 64))
    ≡ nearest (v / 2 ^ k) (compare (v % 2 ^ k * 2) (2 ^ k))
some_kept v k l g h = rw (rest_is v k l, half_is k h) (near_half (v / 2 ^ k) (v % 2 ^ k) k (omega arith))

-- ---- how large it is
pub quotient_small : (v k : ℕ) → v < 2 ^ 64 → 11 < k → v / 2 ^ k < 2 ^ 52
quotient_small v k l h =
    let i : 64 ≤ 52 + k = omega arith in
    (div-lt_iff_lt-mul (pow_pos k)).1 (lt_of_lt_of_le l (le_trans (pow_mono i) (le_of_eq (pow-add 2 52 k))))

pub rest_small : (v k : ℕ) → v < 2 ^ 64 → k < 64 → v % 2 ^ k < 2 ^ 63
rest_small v k l h =
    let i : k ≤ 63 = omega arith in
    lt_of_lt_of_le (mod-lt v (pow_pos k)) (pow_mono i)

pub near_small : (q r h n : ℕ) → q < 2 ^ 53 → n ≡ nearest q (compare r h) → n ≤ 2 ^ 53
near_small q r h n l e = omega (arith, nearest-le q (compare r h))

pub low_small : (v k n : ℕ) → v < 2 ^ 64 → 11 < k → n ≡ nearest (v / 2 ^ k) (compare (v % 2 ^ k * 2) (2 ^ k)) → n ≤ 2 ^ 53
low_small v k n l h e =
    let q : v / 2 ^ k < 2 ^ 53 = omega (arith, quotient_small v k l h) in
    near_small (v / 2 ^ k) (v % 2 ^ k * 2) (2 ^ k) n q e
