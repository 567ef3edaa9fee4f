-- The expansion at i/64 is the same polynomial, and the numerators are the series' coefficients. Assumes nothing.
use Rattle.std.specs.Prelude.{ℕ, zero, suc, ◌+◌, ◌*◌, ◌^◌, ◌≡◌, refl, Bool, true, ◌&&◌, List, [], ◌∷◌, T, eqb, length}
use Rattle.std.proofs.Common.{sym, ◌∙◌, ap, arith, eqb→eq}
use Rattle.std.proofs.Math.Nat.{pow-succ', pow-zero}
use Rattle.std.specs.Float.Ieee.Fits.{and_l, and_r}
use Rattle.algebra.specs.Ring.{◌:+◌, ◌:*◌, ◌≈◌, ◌⊩◌, ◌times◌≼◌, Law}
use Rattle.algebra.proofs.Ring.{by_ring}
use Rattle.enclosure.specs.Quotient.{Quotient}
use Rattle.enclosure.specs.Pieces.{Series, euler, odd, terms, denominator, next, numerators_from, numerators, times_shift}
use Rattle.enclosure.specs.Pieces.{shifted}
use Rattle.enclosure.specs.Expansion.{coefficient, exact}
use Rattle.enclosure.specs.Shifted.{evaluate, right_from}

length_times : (i a : ℕ) (bs : List ℕ) → length (times_shift i a bs) ≡ suc (length bs)
length_times i a [] = refl
length_times i a (b ∷ bs) = ap suc (length_times i b bs)

pub length_shifted : (i : ℕ) (cs : List ℕ) → length (shifted i cs) ≡ length cs
length_shifted i [] = refl
length_shifted i (c ∷ cs) = length_times i (c * 64 ^ suc (length cs)) (shifted i cs) ∙ ap suc (length_shifted i cs)

pub mul_pow : (a b n : ℕ) → (a * b) ^ n ≡ a ^ n * b ^ n
mul_pow a b zero = rw (pow-zero (a * b), pow-zero a, pow-zero b)
mul_pow a b (suc n) = rw (pow-succ' (a * b) n, pow-succ' a n, pow-succ' b n, mul_pow a b n) (omega arith)

-- (P = q ^ (length bs + 1), e the value of bs)
times_step : Law 7 (λ a i b p q P e. (a :+ i :* b) :* (q :* P) :+ p :* (b :* P :+ (i :* q :+ p) :* e)
    ≈ a :* (q :* P) :+ (i :* q :+ p) :* (b :* P :+ p :* e))
times_step = by_ring tt

times_value : (i a : ℕ) (bs : List ℕ) (p q : ℕ)
    → evaluate (times_shift i a bs) p q ≡ a * q ^ suc (length bs) + (i * q + p) * evaluate bs p q
times_value i a [] p q = omega arith
times_value i a (b ∷ bs) p q =
    rw (length_times i b bs, times_value i b bs p q, pow-succ' q (suc (length bs)))
    (times_step.law a i b p q (q ^ suc (length bs)) (evaluate bs p q))

-- THE LAW of the expansion: D = p/q there is z = (i + D) / 64 here
pub shifted_value : (i : ℕ) (cs : List ℕ) (p q : ℕ) → evaluate (shifted i cs) p q ≡ evaluate cs (i * q + p) (64 * q)
shifted_value i [] p q = refl
shifted_value i (c ∷ cs) p q =
    let n = suc (length cs) in
    times_value i (c * 64 ^ n) (shifted i cs) p q
    ∙ rw (length_shifted i cs, shifted_value i cs p q, mul_pow 64 q n) (omega arith)

-- (p / q the point, e / e' the sum's rest and H over M Q the same, Q = q ^ k)
exact_step : Law 10 (λ c c' C M p q e e' H Q.
    (p :* c' :* q times e :* (M :* Q) ≼ H :* e') ∷ (q :* q :* Q :* e' times c :* M ≼ C :* c') ∷ []
    ⊩ (c :* (q :* e') :+ p :* e :* c') :* (M :* (q :* Q)) ≈ (C :* (q :* Q) :+ p :* H) :* (c' :* (q :* e')))
exact_step = by_ring tt

length_from : (s : Series) (k n C : ℕ) → length (numerators_from s k n C) ≡ k
length_from s zero n C = refl
length_from s (suc k) n C = ap suc (length_from s k (suc n) (next s n C))

exact_from : (s : Series) (z : Quotient) (M k n C : ℕ) → T (right_from s M k n C)
    → (exact (coefficient s) z k n).num * (M * z.den ^ k) ≡ evaluate (numerators_from s k n C) z.num z.den * (exact
    (coefficient s) z k n).den
unfolding exact
exact_from s z M zero n C t = omega arith
exact_from s z M (suc k) n C t =
    let c = coefficient s n in
    let test = eqb (C * c.den) (c.num * M) in
    let rest = right_from s M k (suc n) (next s n C) in
    let here = eqb→eq (C * c.den) (c.num * M) (and_l test rest t) in
    let later = exact_from s z M k (suc n) (next s n C) (and_r test rest t) in
    let r = exact (coefficient s) z k (suc n) in
    let H = evaluate (numerators_from s k (suc n) (next s n C)) z.num z.den in
    rw (length_from s k (suc n) (next s n C), pow-succ' z.den k)
    (exact_step.law c.num c.den C M z.num z.den r.num r.den H (z.den ^ k) later (sym here))

right : (s : Series) → T (right_from s (denominator s) (terms s) 0 (denominator s))
unfolding coefficient
right euler = tt
right odd = tt

pub length_numerators : (s : Series) → length (numerators s) ≡ terms s
unfolding numerators
length_numerators s = length_from s (terms s) 0 (denominator s)

-- THE LAW of the numerators
pub exact_is : (s : Series) (z : Quotient) → (exact (coefficient s) z (terms s) 0).num * (denominator s * z.den ^ terms s)
    ≡ evaluate (numerators s) z.num z.den * (exact (coefficient s) z (terms s) 0).den
unfolding numerators
exact_is s z = exact_from s z (denominator s) (terms s) 0 (denominator s) (right s)
