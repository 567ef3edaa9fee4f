-- RD's mean a of x, y and three times z, each sum and the quotient by five rounded: x is above a by little more than y and z lie
-- below it.
-- So the larger of the differences a - x, a - y, a - z, taken with their signs, bounds all three in size. (All numbers are units;
-- T is 2 ^ (prec - 1).)
use Rattle.std.specs.Prelude.{◌≡◌, ℕ, suc, ◌+◌, ◌-◌, ◌*◌, ◌≤◌, ◌<◌, [], ◌∷◌}
use Rattle.std.proofs.Common.{subst, le_trans, le_of_eq, mul-pos, arith}
use Rattle.std.proofs.Math.Nat.{mul-sub, le_of_mul-le-mul_left}
use Rattle.algebra.specs.Ring.{con, nxt, ◌:+◌, ◌:*◌, ◌≈◌, ◌⊩◌, ◌times◌≼◌}
use Rattle.algebra.proofs.Ring.{ring, below}

-- each rounding takes at most a part in T away (`near_not_less`); three of them at most four parts
pub mean_not_less : (T x y w s v t a : ℕ) → 4 ≤ T → T * (x + y) ≤ suc T * s → T * w ≤ suc T * v → T * (s + v) ≤ suc T * t
    → T * t ≤ suc T * (5 * a)
    → T * (x + y + w) ≤ (T + 4) * (5 * a)
mean_not_less T x y w s v t a big h g j k =
    let e : 4 + (T - 4) ≡ T = omega arith in
    let cube : suc T * suc T * suc T ≤ T * T * (T + 4) =
    subst (λ z. suc z * suc z * suc z ≤ z * z * (z + 4)) e
    (below 1 (λ i. let z = con 4 :+ i in nxt z :* nxt z :* nxt z ≈ z :* z :* (z :+ con 4)) tt (T - 4)) in
    let chain : T * T * (T * (x + y + w)) ≤ suc T * suc T * suc T * (5 * a) =
    below 8
    (λ T x y w s v t a.
    (T :* T times T :* (x :+ y) ≼ nxt T :* s)
    ∷ (T :* T times T :* w ≼ nxt T :* v)
    ∷ (T :* nxt T times T :* (s :+ v) ≼ nxt T :* t)
    ∷ (nxt T :* nxt T times T :* t ≼ nxt T :* (con 5 :* a))
    ∷ []
    ⊩ T :* T :* (T :* (x :+ y :+ w)) ≈ nxt T :* nxt T :* nxt T :* (con 5 :* a))
    tt T x y w s v t a h g j k in
    let pos : 0 < T = omega arith in
    le_of_mul-le-mul_left
    (le_trans chain (le_trans
    (below 3 (λ c d a. (con 5 :* a times c ≼ d) ∷ [] ⊩ c :* (con 5 :* a) ≈ d :* (con 5 :* a)) tt (suc T * suc T * suc T)
    (T * T * (T + 4)) a cube)
    (le_of_eq (ring 2 (λ T a. T :* T :* (T :+ con 4) :* (con 5 :* a) ≈ T :* T :* ((T :+ con 4) :* (con 5 :* a))) tt T a))))
    (mul-pos pos pos)

-- x - a ≤ (a - y) + 3 (a - z) + 20 a / T
pub above_mean : (T x y z a : ℕ) → T * (x + y + 3 * z) ≤ (T + 4) * (5 * a) → T * (x - a) ≤ T * ((a - y) + 3 * (a - z)) + 20 * a
above_mean T x y z a h =
    let p : a ≤ y + (a - y) = omega arith in
    let q : a ≤ z + (a - z) = omega arith in
    let r : T * x + T * (5 * a) ≤ T * a + T * (5 * a) + (T * ((a - y) + 3 * (a - z)) + 20 * a) =
    below 7
    (λ T x y z a b c.
    (T times a ≼ y :+ b)
    ∷ (T :* con 3 times a ≼ z :+ c)
    ∷ (con 1 times T :* (x :+ y :+ con 3 :* z) ≼ (T :+ con 4) :* (con 5 :* a))
    ∷ []
    ⊩ T :* x :+ T :* (con 5 :* a) ≈ T :* a :+ T :* (con 5 :* a) :+ (T :* (b :+ con 3 :* c) :+ con 20 :* a))
    tt T x y z a (a - y) (a - z) p q h in
    le_trans (le_of_eq (mul-sub T x a)) (omega arith)
