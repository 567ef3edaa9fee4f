-- What `fused` is at finite numbers: `round` of the exact fraction a * b + c, with IEEE 754's sign; the f64 nearest to it, and no
-- other.
-- Assumes nothing.
use Rattle.std.specs.Prelude.{◌≡◌, ℕ, suc, ◌+◌, ◌-◌, ◌*◌, ◌^◌, ◌<◌, ◌≤◌, Bool, true, false, cond, ◌&&◌, [], ◌∷◌, ℤ, pos, negsuc, ◌+ℤ◌, from_bits, nat_lt, refl, Float}
use Rattle.std.proofs.Common.{sym, ap, ap₂, ◌∙◌, mul-pos, mul-one, one-mul, arith, ltb-true, ltb-false, pow-add}
use Rattle.std.specs.Bool.{beq}
use Rattle.std.proofs.Math.Nat.{eq_of_mul-eq-mul_right}
use Rattle.std.proofs.Math.IntN.{sub_ℕ}
use Rattle.std.specs.Float.{nan, inf, fin, binary64}
use Rattle.std.specs.Float.Ieee.{unlike, up, down, round, sum, add, neg}
use Rattle.std.specs.Float.Ieee.Fits.{down_pos}
use Rattle.std.specs.Float.Ieee.Exact.{HasValue}
use Rattle.algebra.specs.Ring.{◌:*◌, ◌≈◌, ◌⊩◌, ◌times◌≼◌}
use Rattle.algebra.proofs.Ring.{ring}
use Rattle.rounding.specs.Laws.{Nearest}
use Rattle.rounding.proofs.Laws.{rounded_nearest, nearest_rounded}
use Rattle.rounding.specs.Fraction.{fraction}
use Rattle.rounding.proofs.Fraction.{fraction_number, rounded_fraction}
use Rattle.fused.specs.Fused.{times, fused}
use Rattle.fused.specs.Parts.{apart}
use Rattle.fused.specs.Signs.{sum_same}
use Rattle.nearest.specs.Signed.{round_sign}
use Rattle.fused.specs.Laws.{sign, signed}

-- ---- a sum by the values of its parts
cross_one : (M U D E N G K : ℕ) → M * U * G ≡ N * D → M * U * E * (G * K) ≡ N * K * (D * E)
cross_one = ring 7 (λ M U D E N G K. (E :* K times M :* U :* G ≼ N :* D) ∷ [] ⊩ M :* U :* E :* (G :* K) ≈ N :* K :* (D :* E)) tt

cross_two : (M U D E v G K : ℕ) → M * U * K ≡ v * E → M * U * D * (G * K) ≡ v * G * (D * E)
cross_two = ring 7 (λ M U D E v G K. (D :* G times M :* U :* K ≼ v :* E) ∷ [] ⊩ M :* U :* D :* (G :* K) ≈ v :* G :* (D :* E)) tt

pub add_values : (x y : Float) (s t : Bool) (N v G K : ℕ) → 0 < G → 0 < K → HasValue x s N G → HasValue y t v K
    → add binary64 x y ≡ sum binary64 s (N * K) t (v * G) (G * K)
unfolding add
add_values nan y s t N v G K p q h k = absurd h
add_values (inf a) y s t N v G K p q h k = absurd h
add_values (fin a m e) nan s t N v G K p q h k = absurd k
add_values (fin a m e) (inf b) s t N v G K p q h k = absurd k
add_values (fin a m e) (fin b n d) s t N v G K p q h k =
    ap₂ (λ (i j : Bool). sum binary64 i (m * up e * down d) j (n * up d * down e) (down e * down d)) h.0 k.0
    ∙ sum_same s t (m * up e * down d) (n * up d * down e) (down e * down d) (N * K) (v * G) (G * K)
    (mul-pos (down_pos e) (down_pos d)) (mul-pos p q)
    (cross_one m (up e) (down e) (down d) N G K h.1) (cross_two n (up d) (down e) (down d) v G K k.1)

-- ---- the product of two values
sub_power : (a b : ℕ) → up (sub_ℕ a b) * 2 ^ b ≡ 2 ^ a * down (sub_ℕ a b)
sub_power a b = go (nat_lt a b) (ltb-true a b) (ltb-false a b)
  where
    go : (t : Bool) → (t ≡ true → a < b) → (t ≡ false → b ≤ a)
        → up (cond t (negsuc (b - suc a)) (pos (a - b))) * 2 ^ b ≡ 2 ^ a * down (cond t (negsuc (b - suc a)) (pos (a - b)))
    go true f g =
        let h = f refl in
        let i : b ≡ a + suc (b - suc a) = omega arith in
        one-mul (2 ^ b) ∙ ap (λ (z : ℕ). 2 ^ z) i ∙ pow-add 2 a (suc (b - suc a))
    go false f g =
        let h = g refl in
        let i : a - b + b ≡ a = omega arith in
        sym (pow-add 2 (a - b) b) ∙ ap (λ (z : ℕ). 2 ^ z) i ∙ sym (mul-one (2 ^ a))

sum_power : (e d : ℤ) → up (e +ℤ d) * (down e * down d) ≡ up e * up d * down (e +ℤ d)
sum_power (pos a) (pos b) = mul-one (2 ^ (a + b)) ∙ pow-add 2 a b ∙ sym (mul-one (2 ^ a * 2 ^ b))
sum_power (pos a) (negsuc b) =
    let z = sub_ℕ a (suc b) in
    ap (λ (x : ℕ). up z * x) (one-mul (2 ^ suc b)) ∙ sub_power a (suc b) ∙ ap (λ (x : ℕ). x * down z) (sym (mul-one (2 ^ a)))
sum_power (negsuc a) (pos b) =
    let z = sub_ℕ b (suc a) in
    ap (λ (x : ℕ). up z * x) (mul-one (2 ^ suc a)) ∙ sub_power b (suc a) ∙ ap (λ (x : ℕ). x * down z) (sym (one-mul (2 ^ b)))
sum_power (negsuc a) (negsuc b) =
    let i : suc a + suc b ≡ suc (suc (a + b)) = omega arith in
    one-mul (2 ^ suc a * 2 ^ suc b) ∙ sym (pow-add 2 (suc a) (suc b)) ∙ ap (λ (z : ℕ). 2 ^ z) i
    ∙ sym (one-mul (2 ^ suc (suc (a + b))))

cross_three : (m n U U1 U2 E E1 E2 N v G K : ℕ) → U * (E1 * E2) ≡ U1 * U2 * E → m * U1 * G ≡ N * E1 → n * U2 * K ≡ v * E2
    → m * n * U * (G * K) * (E1 * E2) ≡ N * v * E * (E1 * E2)
cross_three =
    ring 12
    (λ m n U U1 U2 E E1 E2 N v G K.
    (m :* n :* G :* K times U :* (E1 :* E2) ≼ U1 :* U2 :* E)
    ∷ (n :* U2 :* K :* E times m :* U1 :* G ≼ N :* E1)
    ∷ (N :* E1 :* E times n :* U2 :* K ≼ v :* E2)
    ∷ []
    ⊩ m :* n :* U :* (G :* K) :* (E1 :* E2) ≈ N :* v :* E :* (E1 :* E2))
    tt

pub times_value : (x y : Float) (s t : Bool) (N v G K : ℕ) → HasValue x s N G → HasValue y t v K
    → HasValue ((times) x y) (unlike s t) (N * v) (G * K)
unfolding times
times_value nan y s t N v G K h k = absurd h
times_value (inf a) y s t N v G K h k = absurd h
times_value (fin a m e) nan s t N v G K h k = absurd k
times_value (fin a m e) (inf b) s t N v G K h k = absurd k
times_value (fin a m e) (fin b n d) s t N v G K h k = (
  ap₂ (λ (i j : Bool). unlike i j) h.0 k.0,
  eq_of_mul-eq-mul_right (down e * down d) (mul-pos (down_pos e) (down_pos d)) _ _
      (cross_three m n (up (e +ℤ d)) (up e) (up d) (down (e +ℤ d)) (down e) (down d) N v G K (sum_power e d) h.1 k.1),
)

sum_round : (s t : Bool) (x y d : ℕ) → sum binary64 s x t y d ≡ round binary64 (sign s t x y) (apart (beq s t) x y) d
unfolding sum
sum_round s t x y d = go (beq s t) (nat_lt x y) (s && nat_lt y x)
  where
    go : (i j k : Bool)
        → cond i (round binary64 s (x + y) d) (cond j (round binary64 t (y - x) d) (round binary64 k (x - y) d))
        ≡ round binary64 (cond i s (cond j t k)) (cond i (x + y) (cond j (y - x) (x - y))) d
    go true j k = refl
    go false true k = refl
    go false false k = refl

module _ (a b c : Float) (s t u : Bool) (A B C G H K : ℕ) (g : 0 < G) (h : 0 < H) (k : 0 < K)
    (ka : HasValue a s A G) (kb : HasValue b t B H) (kc : HasValue c u C K) where
  -- the product and the addend over one denominator, the sign of the product, and the size and the sign of the exact sum
  abbrev product : ℕ
  product = A * B * K

  abbrev addend : ℕ
  addend = C * (G * H)

  abbrev whole : ℕ
  whole = G * H * K

  abbrev v : Bool
  v = unlike s t

  abbrev size : ℕ
  size = apart (beq v u) product addend

  abbrev w : Bool
  w = sign v u product addend

  whole_pos : 0 < whole
  whole_pos = mul-pos (mul-pos g h) k

  pub fused_sum : fused a b c ≡ sum binary64 v product u addend whole
  unfolding fused
  fused_sum = add_values ((times) a b) c v u (A * B) C (G * H) K (mul-pos g h) k (times_value a b s t A B G H ka kb) kc

  pub fused_round : fused a b c ≡ round binary64 w size whole
  fused_round = fused_sum ∙ sum_round v u product addend whole

  by_pattern : (n : ℕ) → round binary64 false size whole ≡ from_bits binary64 n → fused a b c ≡ signed w n
  by_pattern n e = fused_round ∙ sym (round_sign w size whole (from_bits binary64 n) (signed w n) (sym e) refl)

  -- the nearest of all f64s, the even one of two that are equally near
  pub fused_nearest : (n : ℕ) × (fused a b c ≡ signed w n) × Nearest (fraction size whole) n
  fused_nearest =
      let r = rounded_nearest (fraction size whole) (fraction_number size whole whole_pos) in
      (r.0, by_pattern r.0 (sym (rounded_fraction size whole whole_pos) ∙ r.1), r.2)

  -- and the only one
  pub nearest_fused : (n : ℕ) → Nearest (fraction size whole) n → fused a b c ≡ signed w n
  nearest_fused n r =
      by_pattern n
      (sym (rounded_fraction size whole whole_pos)
      ∙ nearest_rounded (fraction size whole) (fraction_number size whole whole_pos) n r)
