-- A whole number that stands for a fraction: its lost digits are kept as one bit, the lowest. Assumes nothing.
use Prim.Native.Nat.{ℕ, ◌+◌, ◌-◌, ◌*◌, ◌/◌, ◌%◌, ◌≤◌, ◌<◌, compare}
use Rattle.std.specs.Prelude.{◌≡◌, [], ◌∷◌}
use Rattle.std.proofs.Common.{sym, ap, ◌∙◌, inl, inr, le_of_eq, lt_of_lt_of_le, lt_of_le_of_lt, mul-le-mul_right, arith}
use Rattle.algebra.specs.Ring.{con, nxt, ◌:+◌, ◌:*◌, ◌≈◌, ◌⊩◌, ◌times◌≼◌}
use Rattle.algebra.proofs.Ring.{ring, below}
use Rattle.algebra.specs.Order.{lt_or_le, same_compare, scaled_compare}

-- w stands for X / Y: it is equal, or w is odd and X / Y lies between the even numbers beside it. So w and X / Y compare alike
-- with every even number.
pub data Jam (X Y w : ℕ) : Type 0 where
  exact : w * Y ≡ X → Jam X Y w
  between : (h : ℕ) → w ≡ 2 * h + 1 → 2 * h * Y < X → X < (2 * h + 2) * Y → Jam X Y w

-- ---- THE JAM LEMMA
pub jam_even : (X Y w : ℕ) → 0 < Y → Jam X Y w → (t : ℕ) → compare (2 * t * Y) X ≡ compare (2 * t) w
jam_even X Y w p (exact e) t = ap (λ (z : ℕ). compare (2 * t * Y) z) (sym e) ∙ scaled_compare (2 * t) w Y p
jam_even X Y w p (between h e l u) t =
    same_compare (2 * t) w (2 * t * Y) X
    (λ k. let i : 2 * t ≤ 2 * h = omega arith in lt_of_le_of_lt (mul-le-mul_right Y i) l)
    (λ k. absurd (omega arith))
    (λ k. let i : 2 * h + 2 ≤ 2 * t = omega arith in lt_of_lt_of_le u (mul-le-mul_right Y i))

-- ---- the sum with an even number, and the differences
sum_up : (a b c Y : ℕ) → a * Y < b → (a + c) * Y < b + c * Y
sum_up = below 4 (λ a b c Y. (con 1 times nxt (a :* Y) ≼ b) ∷ [] ⊩ nxt ((a :+ c) :* Y) ≈ b :+ c :* Y) tt

sum_down : (a b c Y : ℕ) → b < a * Y → b + c * Y < (a + c) * Y
sum_down = below 4 (λ a b c Y. (con 1 times nxt b ≼ a :* Y) ∷ [] ⊩ nxt (b :+ c :* Y) ≈ (a :+ c) :* Y) tt

spread : (a c Y : ℕ) → (a + c) * Y ≡ a * Y + c * Y
spread = ring 3 (λ a c Y. (a :+ c) :* Y ≈ a :* Y :+ c :* Y) tt

pub jam_add : (X Y w n : ℕ) → Jam X Y w → Jam (X + 2 * n * Y) Y (w + 2 * n)
jam_add X Y w n (exact e) = exact (spread w (2 * n) Y ∙ ap (λ (z : ℕ). z + 2 * n * Y) e)
jam_add X Y w n (between h e l u) =
    let f : 2 * (h + n) ≡ 2 * h + 2 * n = omega arith in
    let g : 2 * (h + n) + 2 ≡ 2 * h + 2 + 2 * n = omega arith in
    between (h + n) (omega arith) (rw f (sum_up (2 * h) X (2 * n) Y l)) (rw g (sum_down (2 * h + 2) X (2 * n) Y u))

-- the even number 2 * n less X / Y: the difference is D / Y
pub from_exact : (X Y w v D n : ℕ) → X ≡ w * Y → v + w ≡ 2 * n → 2 * n * Y ≡ D + X → v * Y ≡ D
from_exact = ring 6 (λ X Y w v D n.
    (con 1 times X ≼ w :* Y) ∷ (Y times v :+ w ≼ con 2 :* n) ∷ (con 1 times con 2 :* n :* Y ≼ D :+ X) ∷ []
    ⊩ v :* Y ≈ D) tt

from_low : (g h X Y D n : ℕ) → X < (2 * h + 2) * Y → g + h + 1 ≤ n → 2 * n * Y ≤ D + X → 2 * g * Y < D
from_low = below 6 (λ g h X Y D n. (con 1 times nxt X ≼ (con 2 :* h :+ con 2) :* Y) ∷ (con 2 :* Y times g :+ h :+ con 1 ≼ n)
    ∷ (con 1 times con 2 :* n :* Y ≼ D :+ X) ∷ [] ⊩ nxt (con 2 :* g :* Y) ≈ D) tt

from_high : (g h X Y D n : ℕ) → 2 * h * Y < X → n ≤ g + h + 1 → D + X ≤ 2 * n * Y → D < (2 * g + 2) * Y
from_high = below 6 (λ g h X Y D n. (con 1 times nxt (con 2 :* h :* Y) ≼ X) ∷ (con 2 :* Y times n ≼ g :+ h :+ con 1)
    ∷ (con 1 times D :+ X ≼ con 2 :* n :* Y) ∷ [] ⊩ nxt D ≈ (con 2 :* g :+ con 2) :* Y) tt

pub jam_from : (X Y w v D n : ℕ) → Jam X Y w → v + w ≡ 2 * n → 2 * n * Y ≡ D + X → Jam D Y v
jam_from X Y w v D n (exact e) a b = exact (from_exact X Y w v D n (sym e) a b)
jam_from X Y w v D n (between h e l u) a b =
    let g = n - h - 1 in
    let c : g + h + 1 ≡ n = omega arith in
    between g (omega arith) (from_low g h X Y D n u (le_of_eq c) (le_of_eq b))
    (from_high g h X Y D n l (le_of_eq (sym c)) (le_of_eq (sym b)))

-- X / Y less the even number 2 * n
pub less_exact : (X Y w v D n : ℕ) → w * Y ≡ X → v + 2 * n ≡ w → X ≡ D + 2 * n * Y → v * Y ≡ D
less_exact = ring 6 (λ X Y w v D n.
    (con 1 times w :* Y ≼ X) ∷ (Y times v :+ con 2 :* n ≼ w) ∷ (con 1 times X ≼ D :+ con 2 :* n :* Y) ∷ []
    ⊩ v :* Y ≈ D) tt

less_low : (g h X Y D n : ℕ) → 2 * h * Y < X → g + n ≤ h → X ≤ D + 2 * n * Y → 2 * g * Y < D
less_low = below 6 (λ g h X Y D n. (con 1 times nxt (con 2 :* h :* Y) ≼ X) ∷ (con 2 :* Y times g :+ n ≼ h)
    ∷ (con 1 times X ≼ D :+ con 2 :* n :* Y) ∷ [] ⊩ nxt (con 2 :* g :* Y) ≈ D) tt

less_high : (g h X Y D n : ℕ) → X < (2 * h + 2) * Y → h ≤ g + n → D + 2 * n * Y ≤ X → D < (2 * g + 2) * Y
less_high = below 6 (λ g h X Y D n. (con 1 times nxt X ≼ (con 2 :* h :+ con 2) :* Y) ∷ (con 2 :* Y times h ≼ g :+ n)
    ∷ (con 1 times D :+ con 2 :* n :* Y ≼ X) ∷ [] ⊩ nxt D ≈ (con 2 :* g :+ con 2) :* Y) tt

pub jam_less : (X Y w v D n : ℕ) → Jam X Y w → w ≡ v + 2 * n → X ≡ D + 2 * n * Y → Jam D Y v
jam_less X Y w v D n (exact e) a b = exact (less_exact X Y w v D n e (sym a) b)
jam_less X Y w v D n (between h e l u) a b =
    let g = h - n in
    let c : g + n ≡ h = omega arith in
    between g (omega arith) (less_low g h X Y D n l (le_of_eq c) (le_of_eq b))
    (less_high g h X Y D n u (le_of_eq (sym c)) (le_of_eq (sym b)))

-- ---- one jam after another
step_exact : (X Y w v K : ℕ) → w * Y ≡ X → v * K ≡ w → v * (Y * K) ≡ X
step_exact = ring 5 (λ X Y w v K. (con 1 times w :* Y ≼ X) ∷ (Y times v :* K ≼ w) ∷ [] ⊩ v :* (Y :* K) ≈ X) tt

wide_low : (X Y w a K : ℕ) → 0 < Y → a * K < w → w * Y ≡ X → a * (Y * K) < X
wide_low X Y w a K p l e = lt_of_lt_of_le (wide_go Y w a K l p) (le_of_eq e)
  where
    wide_go : (Y w a K : ℕ) → a * K < w → 0 < Y → a * (Y * K) < w * Y
    wide_go = below 4 (λ Y w a K. (Y times nxt (a :* K) ≼ w) ∷ (con 1 times con 1 ≼ Y) ∷ [] ⊩ nxt (a :* (Y :* K)) ≈ w :* Y) tt

wide_high : (X Y w a K : ℕ) → 0 < Y → w < a * K → w * Y ≡ X → X < a * (Y * K)
wide_high X Y w a K p l e = lt_of_le_of_lt (le_of_eq (sym e)) (wide_go Y w a K l p)
  where
    wide_go : (Y w a K : ℕ) → w < a * K → 0 < Y → w * Y < a * (Y * K)
    wide_go = below 4 (λ Y w a K. (Y times nxt w ≼ a :* K) ∷ (con 1 times con 1 ≼ Y) ∷ [] ⊩ nxt (w :* Y) ≈ a :* (Y :* K)) tt

step_low : (X Y g a K : ℕ) → a * K ≤ g → a * (Y * K) ≤ g * Y
step_low = below 5 (λ X Y g a K. (Y times a :* K ≼ g) ∷ [] ⊩ a :* (Y :* K) ≈ g :* Y) tt

step_high : (X Y g a K : ℕ) → g ≤ a * K → g * Y ≤ a * (Y * K)
step_high = below 5 (λ X Y g a K. (Y times g ≼ a :* K) ∷ [] ⊩ g :* Y ≈ a :* (Y :* K)) tt

twice : (h K : ℕ) → 2 * h * K ≡ 2 * (h * K)
twice = ring 2 (λ h K. con 2 :* h :* K ≈ con 2 :* (h :* K)) tt

again : (h K : ℕ) → (2 * h + 2) * K ≡ 2 * (h + 1) * K
again = ring 2 (λ h K. (con 2 :* h :+ con 2) :* K ≈ con 2 :* (h :+ con 1) :* K) tt

even_times : (v K : ℕ) → K % 2 ≡ 0 → v * K % 2 ≡ 0
even_times v K k =
    let e : K ≡ 2 * (K / 2) = omega arith in
    let f : v * K ≡ 2 * (v * (K / 2)) = ap (λ (z : ℕ). v * z) e ∙ around v (K / 2) in
    omega arith
  where
    around : (v c : ℕ) → v * (2 * c) ≡ 2 * (v * c)
    around = ring 2 (λ v c. v :* (con 2 :* c) ≈ con 2 :* (v :* c)) tt

pub jam_jam : (X Y w v K : ℕ) → 0 < Y → K % 2 ≡ 0 → Jam X Y w → Jam w K v → Jam X (Y * K) v
jam_jam X Y w v K p k (exact e) (exact f) = exact (step_exact X Y w v K e f)
jam_jam X Y w v K p k (exact e) (between h f l u) = between h f (wide_low X Y w (2 * h) K p l e)
    (wide_high X Y w (2 * h + 2) K p u e)
jam_jam X Y w v K p k (between g e l u) (exact f) = absurd (omega (arith, even_times v K k))
jam_jam X Y w v K p k (between g e l u) (between h f i j) =
    let a : 2 * h * K ≤ 2 * g = omega (arith, twice h K) in
    let b : 2 * g + 2 ≤ (2 * h + 2) * K = omega (arith, twice (h + 1) K, again h K) in
    between h f (lt_of_le_of_lt (step_low X Y (2 * g) (2 * h) K a) l)
    (lt_of_lt_of_le u (step_high X Y (2 * g + 2) (2 * h + 2) K b))

-- ---- a quotient with its remainder kept
floor_low : (W A f r a : ℕ) → a ≤ f → f * A + r ≤ W → 0 < r → a * A < W
floor_low = below 5 (λ W A f r a. (A times a ≼ f) ∷ (con 1 times f :* A :+ r ≼ W) ∷ (con 1 times con 1 ≼ r) ∷ [] ⊩ nxt
    (a :* A) ≈ W) tt

floor_high : (W A f r a : ℕ) → f + 1 ≤ a → W ≤ f * A + r → r < A → W < a * A
floor_high = below 5 (λ W A f r a.
    (A times f :+ con 1 ≼ a) ∷ (con 1 times W ≼ f :* A :+ r) ∷ (con 1 times nxt r ≼ A) ∷ [] ⊩ nxt W ≈ a :* A) tt

pub jam_floor : (W A f r : ℕ) → f * A + r ≡ W → r < A → 0 < r → Jam W A (f / 2 * 2 + 1)
jam_floor W A f r e l p =
    let h = f / 2 in
    between h (omega arith)
    (floor_low W A f r (2 * h) (omega arith) (le_of_eq e) p)
    (floor_high W A f r (2 * h + 2) (omega arith) (le_of_eq (sym e)) l)

-- ---- the digits from a multiple of 4 on: q of them are kept, and the rest compares with the half of K as the remainder of w
-- does
pub record Digits (X Y q r K : ℕ) : Type 0 where
  pub rest : ℕ
  pub whole : q * (Y * K) + rest ≡ X
  pub small : rest < Y * K
  pub half : compare (rest * 2) (Y * K) ≡ compare (r * 2) K

rest_exact : (X Y w q r K : ℕ) → w * Y ≡ X → q * K + r ≡ w → q * (Y * K) + r * Y ≡ X
rest_exact = ring 6 (λ X Y w q r K. (con 1 times w :* Y ≼ X) ∷ (Y times q :* K :+ r ≼ w) ∷ [] ⊩ q :* (Y :* K) :+ r :* Y ≈ X) tt

below_scaled : (r Y K : ℕ) → 0 < Y → r < K → r * Y < Y * K
below_scaled = below 3 (λ r Y K. (con 1 times con 1 ≼ Y) ∷ (Y times nxt r ≼ K) ∷ [] ⊩ nxt (r :* Y) ≈ Y :* K) tt

at_most_scaled : (r Y K : ℕ) → r ≤ K → r * Y ≤ Y * K
at_most_scaled = below 3 (λ r Y K. (Y times r ≼ K) ∷ [] ⊩ r :* Y ≈ Y :* K) tt

order_a : (r Y K : ℕ) → 0 < Y → r * 2 < K → r * Y * 2 < Y * K
order_a = below 3 (λ r Y K. (con 1 times con 1 ≼ Y) ∷ (Y times nxt (r :* con 2) ≼ K) ∷ [] ⊩ nxt (r :* Y :* con 2) ≈ Y :* K) tt

order_b : (r Y K : ℕ) → r * 2 ≡ K → r * Y * 2 ≡ Y * K
order_b = ring 3 (λ r Y K. (Y times r :* con 2 ≼ K) ∷ [] ⊩ r :* Y :* con 2 ≈ Y :* K) tt

order_c : (r Y K : ℕ) → 0 < Y → K < r * 2 → Y * K < r * Y * 2
order_c = below 3 (λ r Y K. (con 1 times con 1 ≼ Y) ∷ (Y times nxt K ≼ r :* con 2) ∷ [] ⊩ nxt (Y :* K) ≈ r :* Y :* con 2) tt

order_d : (T Y s J : ℕ) → T < (2 * s + 2) * Y → s + 1 ≤ J → T * 2 < Y * (4 * J)
order_d = below 4 (λ T Y s J. (con 2 times nxt T ≼ (con 2 :* s :+ con 2) :* Y) ∷ (con 4 :* Y times s :+ con 1 ≼ J) ∷ []
    ⊩ nxt (T :* con 2) ≈ Y :* (con 4 :* J)) tt

order_e : (T Y s J : ℕ) → 2 * s * Y < T → J ≤ s → Y * (4 * J) < T * 2
order_e = below 4 (λ T Y s J. (con 2 times nxt (con 2 :* s :* Y) ≼ T) ∷ (con 4 :* Y times J ≼ s) ∷ [] ⊩ nxt
    (Y :* (con 4 :* J)) ≈ T :* con 2) tt

four_times : (q J : ℕ) → q * (4 * J) ≡ 4 * (q * J)
four_times = ring 2 (λ q J. q :* (con 4 :* J) ≈ con 4 :* (q :* J)) tt

rest_low : (X Y h q s K : ℕ) → h * Y < X → q * K + s ≤ h → q * (Y * K) + s * Y < X
rest_low = below 6 (λ X Y h q s K. (con 1 times nxt (h :* Y) ≼ X) ∷ (Y times q :* K :+ s ≼ h) ∷ [] ⊩ nxt
    (q :* (Y :* K) :+ s :* Y) ≈ X) tt

rest_high : (X Y h q s K : ℕ) → X < (h + 2) * Y → h ≤ q * K + s → X < q * (Y * K) + (s + 2) * Y
rest_high = below 6 (λ X Y h q s K. (con 1 times nxt X ≼ (h :+ con 2) :* Y) ∷ (Y times h ≼ q :* K :+ s) ∷ []
    ⊩ nxt X ≈ q :* (Y :* K) :+ (s :+ con 2) :* Y) tt

under_half : (r s J : ℕ) → r ≡ 2 * s + 1 → r * 2 < 4 * J → s + 1 ≤ J
under_half r s J e h = omega arith

not_half : (r s J : ℕ) → r ≡ 2 * s + 1 → r * 2 ≡ 4 * J → ⊥
not_half r s J e h = elim (lt_or_le s J) [ inl l ↦ omega arith | inr l ↦ omega arith ]

over_half : (r s J : ℕ) → r ≡ 2 * s + 1 → 4 * J < r * 2 → J ≤ s
over_half r s J e h = omega arith

pub jam_digits : (X Y w q r J : ℕ) → 0 < Y → Jam X Y w → q * (4 * J) + r ≡ w → r < 4 * J → Digits X Y q r (4 * J)
jam_digits X Y w q r J p (exact e) f l = record {
  rest = r * Y;
  whole = rest_exact X Y w q r (4 * J) e f;
  small = below_scaled r Y (4 * J) p l;
  half = same_compare (r * 2) (4 * J) (r * Y * 2) (Y * (4 * J)) (λ h. order_a r Y (4 * J) p h) (λ h. order_b r Y (4 * J) h)
      (λ h. order_c r Y (4 * J) p h);
}
jam_digits X Y w q r J p (between h e a b) f l =
    let s = r / 2 in
    let o : r ≡ 2 * s + 1 = omega (arith, four_times q J) in
    let k : q * (4 * J) + 2 * s ≡ 2 * h = omega arith in
    let i : q * (Y * (4 * J)) + 2 * s * Y < X = rest_low X Y (2 * h) q (2 * s) (4 * J) a (le_of_eq k) in
    let j : X < q * (Y * (4 * J)) + (2 * s + 2) * Y = rest_high X Y (2 * h) q (2 * s) (4 * J) b (le_of_eq (sym k)) in
    let T = X - q * (Y * (4 * J)) in
    let m : 2 * s * Y < T = omega arith in
    let n : T < (2 * s + 2) * Y = omega arith in
    record {
      rest = T;
      whole = omega arith;
      small = lt_of_lt_of_le n (at_most_scaled (2 * s + 2) Y (4 * J) (omega arith));
      half = same_compare (r * 2) (4 * J) (T * 2) (Y * (4 * J)) (λ g. order_d T Y s J n (under_half r s J o g))
          (λ g. absurd (not_half r s J o g)) (λ g. order_e T Y s J m (over_half r s J o g));
    }
