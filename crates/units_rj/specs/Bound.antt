-- Two quantities of a pass of RJ that have no dimension, bounded from the roots they are made of; all numbers are units, and l
-- is the units of 1. With d = (√p + √x)(√p + √y)(√p + √z): the product of the differences p - x, p - y, p - z is at most d²,
-- and 2 √p (p + √x √y + √x √z + √y √z) at most 2 d. Each rounding costs less than a factor of two, so the quotients are at most
-- 2 ^ 16 and 2 ^ 12. Assumes nothing.
use Rattle.std.specs.Prelude.{◌≡◌, [], ◌∷◌, ℕ, ◌+◌, ◌-◌, ◌*◌, ◌/◌, ◌^◌, ◌≤◌, ◌<◌}
use Rattle.std.proofs.Common.{sym, ap, ◌∙◌, le_trans, le_of_eq, le_of_lt, mul-le-mul, mul-le-mul_left, mul-le-mul_right, mul-pos, arith, pow-add, pow_mono}
use Rattle.std.proofs.Math.Nat.{le_of_mul-le-mul_left}
use Rattle.std.specs.Float.Ieee.{size}
use Rattle.std.specs.Float.Ieee.Digits.{size-lt, size_reaches, size-le}
use Rattle.algebra.specs.Ring.{con, ◌:+◌, ◌:*◌, ◌≈◌, ◌⊩◌, ◌times◌≼◌, Order, Law}
use Rattle.algebra.proofs.Ring.{by_below, by_ring}
use Rattle.scaling.specs.Root.{root_units}
use Rattle.scaling.proofs.Root.{root_mono, root_at, positive_size}

-- ---- a root's square is its number, up to a factor of four
pub root_square : (n : ℕ) → 0 < n → n < 2 ^ 1200 → n * 2 ^ 1074 ≤ 4 * (root_units n * root_units n)
root_square n p h =
    let z = size n in
    let j : ℕ = (z - 1) / 2 in
    let Z : 0 < z = positive_size n p in
    let few : z ≤ 1200 = size-le n 1200 h in
    let low : 2 * j < z = omega arith in
    let cap : j ≤ 1049 = omega arith in
    let least : 2 ^ (537 + j) ≤ root_units n = le_trans (le_of_eq (sym (root_at j cap)))
    (root_mono (2 ^ (2 * j)) n (size_reaches n (2 * j) low)) in
    let top : z ≤ 2 + 2 * j = omega arith in
    let most : n ≤ 2 ^ (2 + 2 * j) = le_trans (le_of_lt (size-lt n)) (pow_mono top) in
    let square : 2 ^ (537 + j) * 2 ^ (537 + j) ≤ root_units n * root_units n = mul-le-mul least least in
    let e : 2 ^ (2 + 2 * j) * 2 ^ 1074 ≡ 4 * (2 ^ (537 + j) * 2 ^ (537 + j)) =
    sym (pow-add 2 (2 + 2 * j) 1074) ∙ ap (λ (i : ℕ). 2 ^ i)
    (let r : 2 + 2 * j + 1074 ≡ 2 + (537 + j + (537 + j)) = omega arith in r)
    ∙ pow-add 2 2 (537 + j + (537 + j))
    ∙ ap (λ (i : ℕ). 2 ^ 2 * i) (pow-add 2 (537 + j) (537 + j)) in
    le_trans (mul-le-mul_right (2 ^ 1074) most) (le_trans (le_of_eq e) (mul-le-mul_left 4 square))

-- ---- the sum R of two roots: p and x are r² and s² over l up to a factor of four
sum_square : Order 5 (λ p x r s R.
    (con 1 times p ≼ con 4 :* (r :* r)) ∷ (con 1 times x ≼ con 4 :* (s :* s)) ∷ (con 4 :* r times r ≼ R) ∷
    (con 4 :* R times r ≼ R)
    ∷ (con 4 :* s times s ≼ R) ∷ (con 4 :* R times s ≼ R) ∷ []
    ⊩ p :+ x ≈ con 8 :* (R :* R))
sum_square = by_below tt

pub pair_square : (p x r s R l : ℕ) → p * l ≤ 4 * (r * r) → x * l ≤ 4 * (s * s) → r ≤ R → s ≤ R → (p + x) * l ≤ 8 * (R * R)
pair_square p x r s R l h i j k = le_trans (le_of_eq (spread.law p x l)) (sum_square.law (p * l) (x * l) r s R h i j j k k)
  where
    spread : Law 3 (λ p x l. (p :+ x) :* l ≈ p :* l :+ x :* l)
    spread = by_ring tt

-- ---- the product of three sums, rounded twice
product_of_three : Order 6 (λ a b c e d l. (c times a :* b ≼ con 2 :* (e :* l)) ∷ (con 2 :* l times e :* c ≼ con 2 :* (d :* l))
    ∷ []
    ⊩ a :* b :* c ≈ con 4 :* d :* (l :* l))
product_of_three = by_below tt

pub of_three : (a b c e d l : ℕ) → a * b ≤ 2 * (e * l) → e * c ≤ 2 * (d * l) → a * b * c ≤ 4 * d * (l * l)
of_three a b c e d l h i = product_of_three.law a b c e d l h i

-- ---- delta over d²
pub ratio_bound : (m1 m2 m3 a b c d q D l : ℕ) → 0 < l → m1 * l ≤ 8 * (a * a) → m2 * l ≤ 8 * (b * b) → m3 * l ≤ 8 * (c * c)
    → a * b * c ≤ 4 * d * (l * l)
    → d * d ≤ 2 * (q * l) → D * (l * l) ≤ 4 * (m1 * m2 * m3) → D ≤ 2 ^ 16 * q
ratio_bound m1 m2 m3 a b c d q D l pos h i j big square delta =
    let three : m1 * l * (m2 * l) * (m3 * l) ≤ 8 * (a * a) * (8 * (b * b)) * (8 * (c * c)) = mul-le-mul (mul-le-mul h i) j in
    let squared : a * b * c * (a * b * c) ≤ 4 * d * (l * l) * (4 * d * (l * l)) = mul-le-mul big big in
    le_of_mul-le-mul_left (chain.law m1 m2 m3 a b c d q D l three squared square delta)
    (mul-pos (mul-pos pos pos) (mul-pos (mul-pos pos pos) pos))
  where
    chain : Order 10 (λ m1 m2 m3 a b c d q D l.
        (con 4 times m1 :* l :* (m2 :* l) :* (m3 :* l) ≼ con 8 :* (a :* a) :* (con 8 :* (b :* b)) :* (con 8 :* (c :* c)))
        ∷ (con 2048 times a :* b :* c :* (a :* b :* c) ≼ con 4 :* d :* (l :* l) :* (con 4 :* d :* (l :* l)))
        ∷ (con 32768 :* (l :* l) :* (l :* l) times d :* d ≼ con 2 :* (q :* l))
        ∷ (l :* l :* l times D :* (l :* l) ≼ con 4 :* (m1 :* m2 :* m3))
        ∷ []
        ⊩ l :* l :* (l :* l :* l) :* D ≈ l :* l :* (l :* l :* l) :* (con (2 ^ 16) :* q))
    chain = by_below tt

-- ---- the middle: r, s, t, u are the roots of p, x, y, z; the rest are sums and products as they come
pub middle_bound : (r s t u P y m a n N v T a1 b1 c1 d l : ℕ) → 0 < l
    → y ≤ 2 * (t + u) → m * l ≤ 2 * (s * y) → a ≤ 2 * (P + m) → n * l ≤ 2 * (t * u) → N ≤ 2 * (a + n) → v ≤ 4 * r
    → T * l ≤ 2 * (v * N)
    → P * l ≤ 4 * (r * r) → r + s ≤ 2 * a1 → r + t ≤ 2 * b1 → r + u ≤ 2 * c1 → a1 * b1 * c1 ≤ 4 * d * (l * l) → T ≤ 2 ^ 12 * d
middle_bound r s t u P y m a n N v T a1 b1 c1 d l pos hy hm ha hn hN hv hT hP h1 h2 h3 big =
    let sums : (r + s) * (r + t) * (r + u) ≤ 2 * a1 * (2 * b1) * (2 * c1) = mul-le-mul (mul-le-mul h1 h2) h3 in
    let inner : N * l ≤ 16 * (r * r + s * t + s * u + t * u) = parts.law s t u r P y m a n N l hN ha hm hy hn hP in
    let outer : T * l * l ≤ 128 * (r * (r * r + s * t + s * u + t * u)) =
    whole.law r v N T l (r * r + s * t + s * u + t * u) hT hv inner in
    le_of_mul-le-mul_left (chain.law r s t u T a1 b1 c1 d l outer sums big) (mul-pos pos pos)
  where
    parts : Order 11 (λ s t u r P y m a n N l.
        (l times N ≼ con 2 :* (a :+ n)) ∷ (con 2 :* l times a ≼ con 2 :* (P :+ m)) ∷ (con 4 times m :* l ≼ con 2 :* (s :* y))
        ∷ (con 8 :* s times y ≼ con 2 :* (t :+ u))
        ∷ (con 2 times n :* l ≼ con 2 :* (t :* u)) ∷ (con 4 times P :* l ≼ con 4 :* (r :* r)) ∷ []
        ⊩ N :* l ≈ con 16 :* (r :* r :+ s :* t :+ s :* u :+ t :* u))
    parts = by_below tt

    whole : Order 6 (λ r v N T l e. (l times T :* l ≼ con 2 :* (v :* N)) ∷ (con 2 :* N :* l times v ≼ con 4 :* r)
        ∷ (con 8 :* r times N :* l ≼ con 16 :* e) ∷ []
        ⊩ T :* l :* l ≈ con 128 :* (r :* e))
    whole = by_below tt

    chain : Order 10 (λ r s t u T a b c d l.
        (con 1 times T :* l :* l ≼ con 128 :* (r :* (r :* r :+ s :* t :+ s :* u :+ t :* u)))
        ∷ (con 128 times (r :+ s) :* (r :+ t) :* (r :+ u) ≼ con 2 :* a :* (con 2 :* b) :* (con 2 :* c))
        ∷ (con 1024 times a :* b :* c ≼ con 4 :* d :* (l :* l))
        ∷ []
        ⊩ l :* l :* T ≈ l :* l :* (con (2 ^ 12) :* d))
    chain = by_below tt
