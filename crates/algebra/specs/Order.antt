-- What the order of two numbers makes of `compare`, `leb` and `ltb`, and back. Assumes nothing.
use Prim.Native.Nat.{ℕ, ◌*◌, ◌≤◌, ◌<◌, compare, Ordering}
use Rattle.std.specs.Prelude.{◌≡◌, refl, Bool, true, false, not, ◌⊎◌, T, eqb, leb, ltb}
use Rattle.std.proofs.Common.{ap, subst, inl, inr, mul-lt-mul_of_pos_right, arith, leb→le, le→leb, ltb→lt, lt→ltb, nltb→le, eqb→eq}
use Rattle.std.proofs.Math.Dec.{is_le, compare_is_eq, nleb→lt, eqb_refl}
use Rattle.std.proofs.Math.Arith.{lt_of_le-ne}

-- one number is below another, or it is not
pub lt_or_le : (a b : ℕ) → (a < b) ⊎ (b ≤ a)
lt_or_le a b = go (ltb a b) (ltb→lt a b) (nltb→le a b)
  where
    go : (t : Bool) → (T t → a < b) → (T (not t) → b ≤ a) → (a < b) ⊎ (b ≤ a)
    go true p q = inl (p tt)
    go false p q = inr (q tt)

-- what an answer of `compare` says
abbrev pub Compared : Ordering → ℕ → ℕ → Type 0
Compared Ordering.lt a b = a < b
Compared Ordering.eq a b = a ≡ b
Compared Ordering.gt a b = b < a

pub compared : (a b : ℕ) → Compared (compare a b) a b
compared a b = go (compare a b) (leb→le a b) (nleb→lt a b) (eqb→eq a b)
    (λ (e : a ≡ b). subst (λ (x : ℕ). T (eqb a x)) e (eqb_refl a))
  where
    go : (o : Ordering) → (T (is_le o) → a ≤ b) → (T (not (is_le o)) → b < a) → (T (compare_is_eq o) → a ≡ b) → (a ≡ b → T (compare_is_eq o))
        → Compared o a b
    go Ordering.lt h k e n = lt_of_le-ne (h tt) n
    go Ordering.eq h k e n = e tt
    go Ordering.gt h k e n = k tt

pub lt_compare : (a b : ℕ) → a < b → compare a b ≡ Ordering.lt
lt_compare a b h = go (compare a b) (compared a b)
  where
    go : (o : Ordering) → Compared o a b → o ≡ Ordering.lt
    go Ordering.lt c = refl
    go Ordering.eq c = absurd (omega arith)
    go Ordering.gt c = absurd (omega arith)

pub eq_compare : (a b : ℕ) → a ≡ b → compare a b ≡ Ordering.eq
eq_compare a b h = go (compare a b) (compared a b)
  where
    go : (o : Ordering) → Compared o a b → o ≡ Ordering.eq
    go Ordering.lt c = absurd (omega arith)
    go Ordering.eq c = refl
    go Ordering.gt c = absurd (omega arith)

pub gt_compare : (a b : ℕ) → b < a → compare a b ≡ Ordering.gt
gt_compare a b h = go (compare a b) (compared a b)
  where
    go : (o : Ordering) → Compared o a b → o ≡ Ordering.gt
    go Ordering.lt c = absurd (omega arith)
    go Ordering.eq c = absurd (omega arith)
    go Ordering.gt c = refl

-- ---- two comparisons that say the same
pub same_compare : (a b c d : ℕ) → (a < b → c < d) → (a ≡ b → c ≡ d) → (b < a → d < c) → compare c d ≡ compare a b
same_compare a b c d l e g = go (compare a b) (compared a b)
  where
    go : (o : Ordering) → Compared o a b → compare c d ≡ o
    go Ordering.lt h = lt_compare c d (l h)
    go Ordering.eq h = eq_compare c d (e h)
    go Ordering.gt h = gt_compare c d (g h)

pub scaled_compare : (a b y : ℕ) → 0 < y → compare (a * y) (b * y) ≡ compare a b
scaled_compare a b y p =
    same_compare a b (a * y) (b * y)
    (λ h. mul-lt-mul_of_pos_right h p)
    (λ e. ap (λ (z : ℕ). z * y) e)
    (λ h. mul-lt-mul_of_pos_right h p)

-- two Booleans, each true where the other is
pub same_bool : (s t : Bool) → (T s → T t) → (T t → T s) → s ≡ t
same_bool true true f g = refl
same_bool true false f g = absurd (f tt)
same_bool false true f g = absurd (g tt)
same_bool false false f g = refl

pub same_leb : (a b c d : ℕ) → (a ≤ b → c ≤ d) → (c ≤ d → a ≤ b) → leb a b ≡ leb c d
same_leb a b c d p q = same_bool (leb a b) (leb c d) (λ t. le→leb c d (p (leb→le a b t))) (λ t. le→leb a b (q (leb→le c d t)))

pub same_ltb : (a b c d : ℕ) → (a < b → c < d) → (c < d → a < b) → ltb a b ≡ ltb c d
same_ltb a b c d p q = same_bool (ltb a b) (ltb c d) (λ t. lt→ltb c d (p (ltb→lt a b t))) (λ t. lt→ltb a b (q (ltb→lt c d t)))
