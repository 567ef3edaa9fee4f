-- Two pairs of numbers in the same proportion, a : m and b : n: what a comparison of a with b says, and a sum's sign, is what it
-- says of m with n. It serves twice: from a float's data to its units, and from one run to the other.
use Rattle.std.specs.Prelude.{◌≡◌, refl, ℕ, ◌+◌, ◌-◌, ◌*◌, ◌<◌, Bool, true, false, ◌&&◌, ◌||◌, cond, T, ltb, eqb}
use Rattle.std.proofs.Common.{sym, ap, ap₂, ◌∙◌, subst₂, mul_comm, mul-lt-mul_of_pos_right, lt_of_mul-lt-mul_right, add-mul, zero-mul, ltb→lt, lt→ltb, eqb→eq}
use Rattle.std.proofs.Math.Nat.{mul-sub, eq_of_mul-eq-mul_right}
use Rattle.std.specs.Bool.{beq}
use Rattle.std.specs.Float.Ieee.{below, level}
use Rattle.std.specs.Float.Ieee.Fits.{eq→eqb}

-- ---- the size and the sign of ±m + ±n, exactly; a sum that is zero is negative only where both are
abbrev pub add_n : Bool → ℕ → Bool → ℕ → ℕ
add_n s m t n = cond (beq s t) (m + n) (cond (ltb m n) (n - m) (m - n))

abbrev pub add_s : Bool → ℕ → Bool → ℕ → Bool
add_s s m t n = cond (beq s t) s (cond (ltb m n) t (s && ltb n m))

same : (x y : Bool) → (T x → T y) → (T y → T x) → x ≡ y
same true true h k = refl
same true false h k = absurd (h tt)
same false true h k = absurd (k tt)
same false false h k = refl

pub sub_mul : (a b c : ℕ) → (a - b) * c ≡ a * c - b * c
sub_mul a b c = mul_comm (a - b) c ∙ mul-sub c a b ∙ ap₂ ◌-◌ (mul_comm c a) (mul_comm c b)

ltb_cross : (p q a b m n : ℕ) → 0 < p → 0 < q → a * p ≡ m * q → b * p ≡ n * q → ltb a b ≡ ltb m n
ltb_cross p q a b m n P Q ea eb =
    same (ltb a b) (ltb m n) (λ h. lt→ltb m n
    (lt_of_mul-lt-mul_right q (subst₂ ◌<◌ ea eb (mul-lt-mul_of_pos_right (ltb→lt a b h) P))))
    (λ h. lt→ltb a b (lt_of_mul-lt-mul_right p (subst₂ ◌<◌ (sym ea) (sym eb) (mul-lt-mul_of_pos_right (ltb→lt m n h) Q))))

eqb_cross : (p q a b m n : ℕ) → 0 < p → 0 < q → a * p ≡ m * q → b * p ≡ n * q → eqb a b ≡ eqb m n
eqb_cross p q a b m n P Q ea eb =
    same (eqb a b) (eqb m n) (λ h. eq→eqb (eq_of_mul-eq-mul_right q Q m n (sym ea ∙ ap (λ (z : ℕ). z * p) (eqb→eq a b h) ∙ eb)))
    (λ h. eq→eqb (eq_of_mul-eq-mul_right p P a b (ea ∙ ap (λ (z : ℕ). z * q) (eqb→eq m n h) ∙ sym eb)))

zero_cross : (p q : ℕ) → 0 * p ≡ 0 * q
zero_cross p q = zero-mul p ∙ sym (zero-mul q)

module _ (p q a b m n : ℕ) (P : 0 < p) (Q : 0 < q) (ea : a * p ≡ m * q) (eb : b * p ≡ n * q) where
  plus_cross : (a + b) * p ≡ (m + n) * q
  plus_cross = add-mul a b p ∙ ap₂ ◌+◌ ea eb ∙ sym (add-mul m n q)

  pub below_cross : (s t : Bool) → below s a t b ≡ below s m t n
  below_cross false false = ltb_cross p q a b m n P Q ea eb
  below_cross false true = refl
  below_cross true false = ltb_cross p q 0 (a + b) 0 (m + n) P Q (zero_cross p q) plus_cross
  below_cross true true = ltb_cross p q b a n m P Q eb ea

  pub level_cross : (s t : Bool) → level s a t b ≡ level s m t n
  level_cross s t = ap₂ (λ x y. x && (beq s t || y)) (eqb_cross p q a b m n P Q ea eb)
      (eqb_cross p q a 0 m 0 P Q ea (zero_cross p q))

  pub add_s_cross : (s t : Bool) → add_s s a t b ≡ add_s s m t n
  add_s_cross s t = ap₂ (λ x y. cond (beq s t) s (cond x t (s && y))) (ltb_cross p q a b m n P Q ea eb)
      (ltb_cross p q b a n m P Q eb ea)

  pub add_n_cross : (s t : Bool) → add_n s a t b * p ≡ add_n s m t n * q
  add_n_cross s t = ap (λ x. cond (beq s t) (a + b) (cond x (b - a) (a - b)) * p) (ltb_cross p q a b m n P Q ea eb)
      ∙ go (beq s t) (ltb m n)
    where
      go : (x y : Bool) → cond x (a + b) (cond y (b - a) (a - b)) * p ≡ cond x (m + n) (cond y (n - m) (m - n)) * q
      go true y = plus_cross
      go false true = sub_mul b a p ∙ ap₂ ◌-◌ eb ea ∙ sym (sub_mul n m q)
      go false false = sub_mul a b p ∙ ap₂ ◌-◌ ea eb ∙ sym (sub_mul m n q)
