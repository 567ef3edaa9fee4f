-- Small arguments, where the answer is the argument: atan(t) is at most t^3 away from t, ln_1p(a) at most a^2 from a. Assumes
-- nothing.
use Rattle.std.specs.Prelude.{ℕ, ◌+◌, ◌-◌, ◌*◌, ◌≤◌, ◌<◌, [], ◌∷◌}
use Rattle.std.proofs.Common.{le_of_mul-le-mul_right, arith}
use Rattle.algebra.specs.Ring.{con, ◌:+◌, ◌:*◌, ◌≈◌, ◌⊩◌, ◌times◌≼◌, Order}
use Rattle.algebra.proofs.Ring.{by_below}
use Rattle.enclosure.specs.Quotient.{Quotient, ◌≼◌, whole, ◌⊞◌, ◌⊠◌}
use Rattle.enclosure.specs.Order.{≼_refl, ≼_trans, ⊞-mono, ⊠-mono, ≼-more}
use Rattle.enclosure.specs.Enclosure.{sum, odd_power, euler_term, T-lower, T-upper, atan_lower, atan_upper, gain}
use Rattle.enclosure.specs.Enclosure.{loss, double_lower, double_upper, Within}
use Rattle.enclosure.proofs.Enclosure.{gain_proper, loss_proper}
use Rattle.enclosure.proofs.Nested.{T-nested, atan_nested}
use Rattle.enclosure.proofs.Logarithm.{small_square}

-- ---- atan: t - t^3 is at most the first lower end, and the first upper end at most t
first_low : Order 2 (λ n d. n :* (con 1 :* (d :* (d :* d :+ n :* n)) :* (d :* (d :* d)))
    ≈ ((con 0 :* (d :* (d :* d :+ n :* n)) :+ n :* (d :* d) :* con 1) :* (d :* (d :* d)) :+ n :* (n :* n) :*
    (con 1 :* (d :* (d :* d :+ n :* n)))) :* d)
first_low = by_below tt

first_high : Order 2 (λ n d.
    ((con 0 :* (d :* (d :* d :+ n :* n)) :+ n :* (d :* d) :* con 1) :*
    (d :* d :* (d :* (d :* d :+ n :* n) :* con 3 :* (d :* d :+ n :* n)))
    :+ (d :* d :+ n :* n) :* (n :* (d :* d) :* con 2 :* (n :* n)) :* (con 1 :* (d :* (d :* d :+ n :* n)))) :* d
    ≈ n :* (con 1 :* (d :* (d :* d :+ n :* n)) :* (d :* d :* (d :* (d :* d :+ n :* n) :* con 3 :* (d :* d :+ n :* n)))))
first_high = by_below tt

atan_first_low : (t : Quotient) → t ≼ atan_lower t 1 ⊞ t ⊠ (t ⊠ t)
unfolding atan_lower sum euler_term
atan_first_low t = record { cross = first_low.law t.num t.den }

pub atan_first_high : (t : Quotient) → atan_upper t 1 ≼ t
unfolding atan_upper sum euler_term
atan_first_high t = record { cross = first_high.law t.num t.den }

pub atan_tiny : (t : Quotient) → Within (atan_lower t) (atan_upper t) t (t ⊠ (t ⊠ t)) (whole 0)
atan_tiny t = record {
  low = λ n. ≼_trans (atan_first_low t) (⊞-mono (atan_nested t 1 n) ≼_refl);
  high = λ n. ≼_trans (≼_trans (atan_nested t n 1) (atan_first_high t)) (≼-more t (whole 0));
}

-- ---- T: the first lower end is s, and the first upper end at most s + s^3 (w = d^2 - n^2)
T-first-lower : Order 2 (λ n d. n :* (con 1 :* (d :* con 1)) ≈ (con 0 :* (d :* con 1) :+ n :* con 1 :* con 1) :* d)
T-first-lower = by_below tt

T-first-upper : Order 3 (λ n d w. (n :* n :* n :* d :* d :* d :* d :* d times d :* d ≼ con 3 :* w) ∷ []
    ⊩ ((con 0 :* (d :* con 1) :+ n :* con 1 :* con 1) :* (w :* (d :* d :* d :* con 3))
    :+ d :* d :* (n :* n :* n :* con 1) :* (con 1 :* (d :* con 1))) :* (d :* (d :* (d :* d)))
    ≈ (n :* (d :* (d :* d)) :+ n :* (n :* n) :* d) :* (con 1 :* (d :* con 1) :* (w :* (d :* d :* d :* con 3))))
T-first-upper = by_below tt

T-tiny-low : (s : Quotient) (h : s.num < s.den) (n : ℕ) → s ≼ T-upper s h n
unfolding T-lower sum odd_power
T-tiny-low s h n = let first : s ≼ T-lower s 1 = record { cross = T-first-lower.law s.num s.den } in
    ≼_trans first (T-nested s h 1 n)

pub T-tiny-high : (s : Quotient) (h : s.num < s.den) → 5 * s.num ≤ 3 * s.den → (n : ℕ) → T-lower s n ≼ s ⊞ s ⊠ (s ⊠ s)
unfolding T-upper sum odd_power
T-tiny-high s h small n =
    let w = s.den * s.den - s.num * s.num in
    let e : s.den * s.den ≤ 3 * w = omega (arith, small_square s small) in
    let first : T-upper s h 1 ≼ s ⊞ s ⊠ (s ⊠ s) = record { cross = T-first-upper.law s.num s.den w e } in
    ≼_trans (T-nested s h n 1) first

-- ---- ln_1p above 0: a - a^2 ≤ 2s, and 2s + 2s^3 ≤ a, where s = a / (2+a)
gain_least : Order 2 (λ n d. n :* (con 1 :* (con 2 :* d :+ n) :* (d :* d)) ≈
    (con 2 :* n :* (d :* d) :+ n :* n :* (con 1 :* (con 2 :* d :+ n))) :* d)
gain_least = by_below tt

gain_most : Order 2 (λ n d.
    con 2 :* (n :* ((con 2 :* d :+ n) :* ((con 2 :* d :+ n) :* (con 2 :* d :+ n))) :+ n :* (n :* n) :* (con 2 :* d :+ n)) :* d
    ≈ n :* (con 1 :* ((con 2 :* d :+ n) :* ((con 2 :* d :+ n) :* ((con 2 :* d :+ n) :* (con 2 :* d :+ n))))))
gain_most = by_below tt

pub gain_tiny : (a : Quotient) → 4 * a.num ≤ a.den → Within (double_lower (gain a)) (double_upper (gain a) (gain_proper a)) a
    (a ⊠ a) (whole 0)
unfolding double_lower double_upper
gain_tiny a h =
    let s = gain a in
    let least : a ≼ whole 2 ⊠ s ⊞ a ⊠ a = record { cross = gain_least.law a.num a.den } in
    let most : whole 2 ⊠ (s ⊞ s ⊠ (s ⊠ s)) ≼ a = record { cross = gain_most.law a.num a.den } in
    record {
      low = λ n. ≼_trans least (⊞-mono (⊠-mono ≼_refl (T-tiny-low s (gain_proper a) n)) ≼_refl);
      high = λ n. ≼_trans (≼_trans (⊠-mono ≼_refl (T-tiny-high s (gain_proper a) (omega arith) n)) most) (≼-more a (whole 0));
    }

-- ---- ln_1p below 0: a ≤ 2s, and 2s + 2s^3 ≤ a + a^2, where s = a / (2-a) (q is its denominator)
loss_least : Order 3 (λ n d q. (n times q ≼ con 2 :* d) ∷ [] ⊩ n :* (con 1 :* q) ≈ con 2 :* n :* d)
loss_least = by_below tt

loss_most : Order 3 (λ n d q.
    (con 4 :* n :* q :* q :* q :* d :* d times con 2 :* d ≼ q :+ n) ∷ (n :* n :* d :* q :* q :* q times con 7 :* d ≼ con 4 :* q)
    ∷ (con 2 :* n :* n :* q :* d :* d :* d times con 4 :* n ≼ d) ∷ (con 2 :* n :* n :* q :* d :* d :* (d :+ q) times d ≼ q) ∷ []
    ⊩ con 2 :* (n :* (q :* (q :* q)) :+ n :* (n :* n) :* q) :* (d :* (d :* d)) :* con 4
    ≈ (n :* (d :* d) :+ n :* n :* d) :* (con 1 :* (q :* (q :* (q :* q)))) :* con 4)
loss_most = by_below tt

pub loss_tiny : (a : Quotient) (h : a.num < a.den) → 4 * a.num ≤ a.den
    → Within (double_lower (loss a h)) (double_upper (loss a h) (loss_proper a h)) a (whole 0) (a ⊠ a)
unfolding double_lower double_upper
loss_tiny a h small =
    let s = loss a h in
    let n = a.num in
    let d = a.den in
    let q = 2 * d - n in
    let upper : q ≤ 2 * d = omega arith in
    let whole-two : 2 * d ≤ q + n = omega arith in
    let large : 7 * d ≤ 4 * q = omega arith in
    let more-than : d ≤ q = omega arith in
    let least : a ≼ whole 2 ⊠ s = record { cross = loss_least.law n d q upper } in
    let close = loss_most.law n d q whole-two large small more-than in
    let most : whole 2 ⊠ (s ⊞ s ⊠ (s ⊠ s)) ≼ a ⊞ a ⊠ a = record { cross = le_of_mul-le-mul_right close (omega arith) } in
    record {
      low = λ i. ≼_trans (≼_trans least (⊠-mono ≼_refl (T-tiny-low s (loss_proper a h) i)))
          (≼-more (whole 2 ⊠ T-upper s (loss_proper a h) i) (whole 0));
      high = λ i. ≼_trans (⊠-mono ≼_refl (T-tiny-high s (loss_proper a h) (omega arith) i)) most;
    }
