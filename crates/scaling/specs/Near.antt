-- `near f n d`: the fraction n / d rounded to the digits that the format f keeps, where 1 is the format's smallest value (a unit)
-- and nothing overflows. It keeps the order, sees only the fraction's value, and a power of two goes through it: at a whole
-- number always, and at a fraction in the normal range.
use Rattle.std.specs.Prelude.{◌≡◌, ◌⊎◌, Bool, true, false, not, [], ◌∷◌, T, leb}
use Rattle.std.proofs.Math.Path.{refl}
use Rattle.std.proofs.Common.{sym, ap, ◌∙◌, subst, inl, inr, le_trans, le_of_eq, le_antisymm, lt_of_lt_of_le, lt_of_le_of_lt, lt_irrefl, not-le_of_lt, eq-or-lt_of_le, mul_assoc, mul-one, mul-pos, mul-le-mul_right, mul-div_cancel, le-div_iff_mul-le, zero-lt-suc, arith, leb→le, pow-add, pow_pos, pow_mono, shl_lt}
use Prim.Native.Nat.compare
use Prim.Native.Nat.{Ordering}
use Prim.Native.Nat.{ℕ, zero, suc, ◌+◌, ◌-◌, ◌*◌, ◌/◌, ◌%◌, ◌^◌, ◌≤◌, ◌<◌, zero-le, compare}
use Rattle.std.proofs.Math.Nat.{mul-mod_left, div-div-eq-div-mul}
use Rattle.std.proofs.Math.Dec.{nleb→lt}
use lib.Ieee.{Format, prec, low, size, nearest}
use Rattle.std.specs.Float.Ieee.Digits.{size-lt, size-le, size_reaches, back}
use Rattle.std.specs.Float.Ieee.Fits.{kept-lt, nearest-le, two, two-le_pos}
use Rattle.std.specs.Float.Ieee.Nearest.{closest, closest_mono, nearest-ge, div_mono}
use Rattle.std.specs.Float.Ieee.Order.{drop, kept}
use Rattle.std.specs.Float.Ieee.Scale.{grid, grid_scale, normal_of_fraction}
use Rattle.algebra.specs.Ring.{con, ◌:*◌, ◌≈◌, ◌⊩◌, ◌times◌≼◌}
use Rattle.algebra.proofs.Ring.{ring, below}

unfoldable pub near : Format → ℕ → ℕ → ℕ
unfolding size
near f n d = kept (prec f) n d * 2 ^ drop (prec f) n d

pub digits : (f : Format) → 0 < prec f
digits f = two-le_pos (prec f) (two f)

-- ---- the order (as in lib.Ieee.Order, where it is private)
size_mono : (a b : ℕ) → a ≤ b → size a ≤ size b
size_mono a b h = size-le a (size b) (lt_of_le_of_lt h (size-lt b))

same_drop : (k a b c d : ℕ) → 0 < b → 0 < d → a * d ≤ c * b → closest a (b * 2 ^ k) * 2 ^ k ≤ closest c (d * 2 ^ k) * 2 ^ k
same_drop k a b c d B D h =
    mul-le-mul_right (2 ^ k)
    (closest_mono a (b * 2 ^ k) c (d * 2 ^ k) (mul-pos B (pow_pos k)) (mul-pos D (pow_pos k))
    (le_trans (le_of_eq (sym (mul_assoc a d (2 ^ k))))
    (le_trans (mul-le-mul_right (2 ^ k) h) (le_of_eq (mul_assoc c b (2 ^ k))))))

kept_le : (p n den : ℕ) → kept p n den ≤ 2 ^ p
kept_le p n den =
    let k = drop p n den in
    let u = den * 2 ^ k in
    le_trans (nearest-le (n / u) (compare (n % u * 2) u))
    (subst (λ (x : ℕ). x < 2 ^ p) (div-div-eq-div-mul n den (2 ^ k)) (kept-lt p (n / den)))

all_in_use : (z p : ℕ) → 0 < p → 0 < z - p → p - 1 + (z - p) < z
all_in_use z p P h = omega arith

kept_ge : (p n den : ℕ) → 0 < p → 0 < drop p n den → 2 ^ (p - 1) ≤ kept p n den
kept_ge p n den P K =
    let k = drop p n den in
    let u = den * 2 ^ k in
    let w = n / den in
    let a : 2 ^ (p - 1) * 2 ^ k ≤ w = le_trans (le_of_eq (sym (pow-add 2 (p - 1) k)))
    (size_reaches w (p - 1 + k) (all_in_use (size w) p P K)) in
    le_trans (subst (λ (x : ℕ). 2 ^ (p - 1) ≤ x) (div-div-eq-div-mul n den (2 ^ k)) ((le-div_iff_mul-le (pow_pos k)).1 a))
    (nearest-ge (n / u) (compare (n % u * 2) u))

fewer : (x y p : ℕ) → x ≤ y → x - p ≤ y - p
fewer x y p h = omega arith

room : (p j k : ℕ) → 0 < p → j < k → p + j ≤ p - 1 + k
room p j k P h = omega arith

pub near_mono : (f : Format) (a b c d : ℕ) → 0 < b → 0 < d → a * d ≤ c * b → near f a b ≤ near f c d
unfolding near
near_mono f a b c d B D h =
    let p = prec f in
    let j = drop p a b in
    let k = drop p c d in
    elim (eq-or-lt_of_le (fewer (size (a / b)) (size (c / d)) p (size_mono (a / b) (c / d) (div_mono a b c d B D h)))) [
      | inl e ↦ subst (λ (x : ℕ). closest a (b * 2 ^ x) * 2 ^ x ≤ kept p c d * 2 ^ k) (sym e) (same_drop k a b c d B D h)
      | inr l ↦
          le_trans (mul-le-mul_right (2 ^ j) (kept_le p a b))
          (le_trans (le_of_eq (sym (pow-add 2 p j)))
          (le_trans (pow_mono (room p j k (digits f) l))
          (le_trans (le_of_eq (pow-add 2 (p - 1) k))
          (mul-le-mul_right (2 ^ k) (kept_ge p c d (digits f) (lt_of_le_of_lt zero-le l))))))
    ]

pub near_same : (f : Format) (a b c d : ℕ) → 0 < b → 0 < d → a * d ≡ c * b → near f a b ≡ near f c d
near_same f a b c d B D e = le_antisymm (near_mono f a b c d B D (le_of_eq e)) (near_mono f c d a b D B (le_of_eq (sym e)))

-- ---- a power of two goes through a fraction in the normal range
pub near_scale : (f : Format) (n d t : ℕ) → 0 < d → 2 ^ (prec f - 1) * d ≤ n → near f (n * 2 ^ t) d ≡ near f n d * 2 ^ t
near_scale f n d t D h =
    let l = 2 ^ low f in
    let C : 0 < d * l = mul-pos D (pow_pos (low f)) in
    near_same f (n * 2 ^ t) d (n * 2 ^ t * l) (d * l) D C (ring 3 (λ a d l. a :* (d :* l) ≈ a :* l :* d) tt _ _ _)
    ∙ is_grid (n * 2 ^ t)
    ∙ grid_scale f n (d * l) t C
    (normal_of_fraction f n (d * l) C (below 4 (λ p d n l. (l times p :* d ≼ n) ∷ [] ⊩ p :* (d :* l) ≈ n :* l) tt _ _ _ _ h))
    ∙ ap (λ (z : ℕ). z * 2 ^ t)
    (sym (is_grid n) ∙ near_same f (n * l) (d * l) n d C D (ring 3 (λ n l d. n :* l :* d ≈ n :* (d :* l)) tt _ _ _))
  where
    is_grid : (m : ℕ) → near f (m * 2 ^ low f) (d * 2 ^ low f) ≡ grid f m (d * 2 ^ low f)
    is_grid m = unfold near in refl

-- ---- what has no more digits than the format keeps is not changed
above_zero : (u : ℕ) → 0 < u → compare 0 u ≡ Ordering.lt
above_zero zero h = absurd (lt_irrefl 0 h)
above_zero (suc u) h = compare.zero-suc u

closest_exact : (q u : ℕ) → 0 < u → closest (q * u) u ≡ q
closest_exact q u h =
    ap (λ (x : ℕ). nearest x (compare (q * u % u * 2) u)) (mul-div_cancel q h)
    ∙ ap (λ (x : ℕ). nearest q (compare (x * 2) u)) (mul-mod_left q u)
    ∙ ap (λ o. nearest q o) (above_zero u h)

spare : (z p j : ℕ) → z ≤ p + j → z - p ≤ j
spare z p j h = omega arith

pub near_exact : (f : Format) (q j d : ℕ) → 0 < d → q < 2 ^ prec f → near f (q * 2 ^ j * d) d ≡ q * 2 ^ j
near_exact f q j d D h =
    let n = q * 2 ^ j * d in
    let p = prec f in
    let k = drop p n d in
    let k-le : k ≤ j =
    spare (size (n / d)) p j (size-le (n / d) (p + j)
    (subst (λ (x : ℕ). x < 2 ^ (p + j)) (sym (mul-div_cancel (q * 2 ^ j) D)) (shl_lt p j h))) in
    let e : 2 ^ (j - k) * 2 ^ k ≡ 2 ^ j = sym (pow-add 2 (j - k) k) ∙ ap (λ (x : ℕ). 2 ^ x) (back j k k-le) in
    let r = q * 2 ^ (j - k) in
    let e' : n ≡ r * (d * 2 ^ k) =
    ring 5 (λ q a b c d. (q :* d times a ≼ b :* c) ∷ [] ⊩ q :* a :* d ≈ q :* b :* (d :* c)) tt q (2 ^ j) (2 ^ (j - k)) (2 ^ k) d
    (sym e) in
    opened n
    ∙ ap (λ (x : ℕ). closest x (d * 2 ^ k) * 2 ^ k) e'
    ∙ ap (λ (x : ℕ). x * 2 ^ k) (closest_exact r (d * 2 ^ k) (mul-pos D (pow_pos k)))
    ∙ ring 4 (λ q a b c. (q times b :* c ≼ a) ∷ [] ⊩ q :* b :* c ≈ q :* a) tt q (2 ^ j) (2 ^ (j - k)) (2 ^ k) e
  where
    opened : (n : ℕ) → near f n d ≡ closest n (d * 2 ^ drop (prec f) n d) * 2 ^ drop (prec f) n d
    opened n = unfold near in refl

pub near_zero_lem : (f : Format) (d : ℕ) → 0 < d → near f 0 d ≡ 0
near_zero_lem f d D =
    near_same f 0 d (0 * 2 ^ 0 * d) d D D (ring 1 (λ d. con 0 :* d ≈ con 0 :* con 1 :* d :* d) tt d)
    ∙ near_exact f 0 0 d D (pow_pos (prec f))

-- ---- a power of two goes through every whole number
pub either : (a b : ℕ) → (a ≤ b) ⊎ (b < a)
either a b = go (leb a b) (leb→le a b) (nleb→lt a b)
  where
    go : (t : Bool) → (T t → a ≤ b) → (T (not t) → b < a) → (a ≤ b) ⊎ (b < a)
    go true h k = inl (h tt)
    go false h k = inr (k tt)

less : (p : ℕ) → p - 1 ≤ p
less p = omega arith

pub near_whole : (f : Format) (n t : ℕ) → near f (n * 2 ^ t) 1 ≡ near f n 1 * 2 ^ t
near_whole f n t =
    elim (either (2 ^ (prec f - 1)) n) [
      | inl h ↦ near_scale f n 1 t (zero-lt-suc 0) (subst (λ (x : ℕ). x ≤ n) (sym (mul-one (2 ^ (prec f - 1)))) h)
      | inr h ↦
          let s : n < 2 ^ prec f = lt_of_lt_of_le h (pow_mono (less (prec f))) in
          let at : (j : ℕ) → near f (n * 2 ^ j) 1 ≡ n * 2 ^ j =
          λ j. ap (λ (x : ℕ). near f x 1) (sym (mul-one (n * 2 ^ j))) ∙ near_exact f n j 1 (zero-lt-suc 0) s in
          at t ∙ ap (λ (x : ℕ). x * 2 ^ t) (sym (mul-one n) ∙ sym (at 0) ∙ ap (λ (x : ℕ). near f x 1) (mul-one n))
    ]

-- a number of 2 ^ j or more has more than j digits
pub size_above : (n j : ℕ) → 2 ^ j ≤ n → j < size n
size_above n j h =
    elim (either (size n) j) [
      | inl g ↦ absurd (not-le_of_lt (lt_of_lt_of_le (size-lt n) (pow_mono g)) h)
      | inr g ↦ g
    ]
