-- `fused` at NaN, infinities and zeros: what the operators give there is right. Assumes nothing.
use Rattle.std.proofs.Common.{◌≡◌, ℕ, zero, suc, ◌-◌, ◌*◌, ◌<◌, Bool, true, false, T, ℤ, pos, ◌+ℤ◌, sym, refl, ap, ◌∙◌, ap₂, true≢false, add-zero, zero-lt-suc, mul-pos, mul-zero, zero-mul, mul-one, arith}
use mathlib.Core.Bool.{beq}
use lib.Ieee.{Float, nan, inf, fin, unlike, binary64, up, down, round, sum, add, mul, is_nan, ne}
use lib.Ieee.Fits.{up_pos, down_pos}
use lib.Ieee.Scale.{finite, round_same}
use Rattle.binary64.specs.Tests.{number, Zero, a_zero, same_no_nan}
use Rattle.fused.specs.Fused.{times, fused}
use Rattle.fused.specs.Signs.{sum_plus, sum_more}
use Rattle.fused.proofs.Laws.{add_values, times_value}

-- ---- not finite
pub first_special : (a b c : Float) → finite a ≡ false → add binary64 (mul binary64 a b) c ≡ fused a b c
unfolding fused mul
first_special nan b c e = refl
first_special (inf s) nan c e = refl
first_special (inf s) (inf t) c e = refl
first_special (inf s) (fin t n d) c e = refl
first_special (fin s m d) b c e = absurd (true≢false e)

pub second_special : (a b c : Float) → finite b ≡ false → add binary64 (mul binary64 a b) c ≡ fused a b c
unfolding fused mul
second_special nan b c e = refl
second_special (inf s) nan c e = refl
second_special (inf s) (inf t) c e = refl
second_special (inf s) (fin t n d) c e = refl
second_special (fin s m d) nan c e = refl
second_special (fin s m d) (inf t) c e = refl
second_special (fin s m d) (fin t n g) c e = absurd (true≢false e)

pub third_special : (a b c : Float) → finite a ≡ true → finite b ≡ true → finite c ≡ false → c ≡ fused a b c
unfolding fused add
third_special nan b c p q e = absurd (true≢false (sym p))
third_special (inf s) b c p q e = absurd (true≢false (sym p))
third_special (fin s m d) nan c p q e = absurd (true≢false (sym q))
third_special (fin s m d) (inf t) c p q e = absurd (true≢false (sym q))
third_special (fin s m d) (fin t n g) nan p q e = refl
third_special (fin s m d) (fin t n g) (inf u) p q e = refl
third_special (fin s m d) (fin t n g) (fin u k f) p q e = absurd (true≢false e)

-- ---- a factor is a zero: the rounded product is the exact one
round_none : (s : Bool) (a c : ℕ) → 0 < c → a ≡ 0 → round binary64 s a c ≡ fin s 0 (pos 0)
round_none s a c p e = round_same binary64 s a c 0 1 p (omega arith) (mul-one a ∙ e ∙ sym (zero-mul c)) ∙ (unfold round in refl)

product_zero : (s t u : Bool) (m n k : ℕ) (e d g : ℤ) → m * n ≡ 0 → m * up e * (n * up d) ≡ 0
    → add binary64 (mul binary64 (fin s m e) (fin t n d)) (fin u k g) ≡ fused (fin s m e) (fin t n d) (fin u k g)
unfolding fused mul
product_zero s t u m n k e d g z w =
    let v = unlike s t in
    let rounded : round binary64 v (m * up e * (n * up d)) (down e * down d) ≡ fin v 0 (pos 0) =
    round_none v (m * up e * (n * up d)) (down e * down d) (mul-pos (down_pos e) (down_pos d)) w in
    let none : m * n * up (e +ℤ d) * 1 ≡ 0 * down (e +ℤ d) =
    mul-one (m * n * up (e +ℤ d)) ∙ ap (λ (x : ℕ). x * up (e +ℤ d)) z ∙ zero-mul (up (e +ℤ d)) ∙ sym (zero-mul (down (e +ℤ d))) in
    ap (λ (x : Float). add binary64 x (fin u k g)) rounded
    ∙ add_values (fin v 0 (pos 0)) (fin u k g) v u 0 (k * up g) 1 (down g) (omega arith) (down_pos g) (refl, refl) (refl, refl)
    ∙ sym (add_values (fin v (m * n) (e +ℤ d)) (fin u k g) v u 0 (k * up g) 1 (down g) (omega arith) (down_pos g) (refl, none)
    (refl, refl))

pub first_zero : {a : Float} (b c : Float) → finite b ≡ true → finite c ≡ true → Zero a
    → add binary64 (mul binary64 a b) c ≡ fused a b c
first_zero nan c p q (a_zero s e) = absurd (true≢false (sym p))
first_zero (inf t) c p q (a_zero s e) = absurd (true≢false (sym p))
first_zero (fin t n d) nan p q (a_zero s e) = absurd (true≢false (sym q))
first_zero (fin t n d) (inf u) p q (a_zero s e) = absurd (true≢false (sym q))
first_zero (fin t n d) (fin u k g) p q (a_zero s e) =
    product_zero s t u 0 n k e d g (zero-mul n) (ap (λ (x : ℕ). x * (n * up d)) (zero-mul (up e)) ∙ zero-mul (n * up d))

pub second_zero : (a : Float) {b : Float} (c : Float) → finite a ≡ true → finite c ≡ true → Zero b
    → add binary64 (mul binary64 a b) c ≡ fused a b c
second_zero nan c p q (a_zero s e) = absurd (true≢false (sym p))
second_zero (inf t) c p q (a_zero s e) = absurd (true≢false (sym p))
second_zero (fin t n d) nan p q (a_zero s e) = absurd (true≢false (sym q))
second_zero (fin t n d) (inf u) p q (a_zero s e) = absurd (true≢false (sym q))
second_zero (fin t n d) (fin u k g) p q (a_zero s e) =
    product_zero t s u n 0 k d e g (mul-zero n) (ap (λ (x : ℕ). n * up d * x) (zero-mul (up e)) ∙ mul-zero (n * up d))

-- ---- the addend is a zero: it adds nothing to a product that is none
nothing_added : (s t : Bool) (N G : ℕ) → 0 < N → sum binary64 s N t 0 G ≡ round binary64 s N G
nothing_added s t N G l = go (beq s t) refl
  where
    go : (b : Bool) → beq s t ≡ b → sum binary64 s N t 0 G ≡ round binary64 s N G
    go true h = sum_plus s t N 0 G h ∙ ap (λ (x : ℕ). round binary64 s x G) (add-zero N)
    go false h = let i : N - 0 ≡ N = omega arith in sum_more s t N 0 G h l ∙ ap (λ (x : ℕ). round binary64 s x G) i

addend_zero : (s t u : Bool) (m n : ℕ) (e d g : ℤ) → 0 < m → 0 < n
    → mul binary64 (fin s m e) (fin t n d) ≡ fused (fin s m e) (fin t n d) (fin u 0 g)
unfolding fused mul
addend_zero s t u m n e d g p q =
    let v = unlike s t in
    let N = m * up e * (n * up d) in
    let G = down e * down d in
    let x = (times) (fin s m e) (fin t n d) in
    let product = times_value (fin s m e) (fin t n d) s t (m * up e) (n * up d) (down e) (down d) (refl, refl) (refl, refl) in
    let none : 0 * up g * 1 ≡ 0 * down g = mul-one (0 * up g) ∙ zero-mul (up g) ∙ sym (zero-mul (down g)) in
    sym
    (add_values x (fin u 0 g) v u N 0 G 1 (mul-pos (down_pos e) (down_pos d)) (omega arith) product (refl, none)
    ∙ ap₂ (λ (y z : ℕ). sum binary64 v y u z (G * 1)) (mul-one N) (zero-mul G)
    ∙ ap (λ (y : ℕ). sum binary64 v N u 0 y) (mul-one G)
    ∙ nothing_added v u N G (mul-pos (mul-pos p (up_pos e)) (mul-pos q (up_pos d))))

pub third_zero : (a b : Float) {c : Float} → T (number a) → T (number b) → Zero c → mul binary64 a b ≡ fused a b c
third_zero nan b p q (a_zero s e) = absurd p
third_zero (inf t) b p q (a_zero s e) = absurd p
third_zero (fin t zero d) b p q (a_zero s e) = absurd p
third_zero (fin t (suc m) d) nan p q (a_zero s e) = absurd q
third_zero (fin t (suc m) d) (inf u) p q (a_zero s e) = absurd q
third_zero (fin t (suc m) d) (fin u zero g) p q (a_zero s e) = absurd q
third_zero (fin t (suc m) d) (fin u (suc n) g) p q (a_zero s e) =
    addend_zero t u s (suc m) (suc n) d g e (zero-lt-suc m) (zero-lt-suc n)

-- ---- a sum that is no NaN has no NaN among its parts
sum_left : (x y : Float) → is_nan (add binary64 x y) ≡ false → is_nan x ≡ false
unfolding add is_nan
sum_left nan y h = h
sum_left (inf s) y h = refl
sum_left (fin s m e) y h = refl

sum_right : (x y : Float) → is_nan (add binary64 x y) ≡ false → is_nan y ≡ false
unfolding add is_nan
sum_right nan nan h = h
sum_right (inf s) nan h = h
sum_right (fin s m e) nan h = h
sum_right x (inf s) h = refl
sum_right x (fin s m e) h = refl

pub none_nan : (a b c : Float) → ne (add binary64 (add binary64 a b) c) (add binary64 (add binary64 a b) c) ≡ false
    → (is_nan a ≡ false) × (is_nan b ≡ false) × (is_nan c ≡ false)
none_nan a b c h =
    let n = same_no_nan (add binary64 (add binary64 a b) c) h in
    let m = sum_left (add binary64 a b) c n in
    (sum_left a b m, sum_right a b m, sum_right (add binary64 a b) c n)
