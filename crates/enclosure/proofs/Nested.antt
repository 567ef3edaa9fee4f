-- The enclosures are nested: lower ends rise, upper ends fall, and each lower end is below each upper one. So a bound of one
-- enclosure is a bound of all. T and atan are two cases of one law: each term is at most z times the one before, and the
-- rest is bounded by the next term times a factor k ≥ 1 / (1 - z). Assumes nothing.
use Rattle.std.specs.Prelude.{ℕ, zero, suc, ◌+◌, ◌-◌, ◌*◌, ◌≤◌, ◌<◌, [], ◌∷◌}
use Rattle.std.proofs.Common.{subst, mul-le-mul, arith}
use Rattle.algebra.specs.Ring.{con, nxt, ◌:+◌, ◌:*◌, ◌≈◌, ◌⊩◌, ◌times◌≼◌, Order}
use Rattle.algebra.proofs.Ring.{by_below}
use Rattle.enclosure.specs.Quotient.{Quotient, ◌≼◌, whole, parts, ◌⊞◌, ◌⊠◌}
use Rattle.enclosure.specs.Order.{≼_refl, ≼_trans, ⊞-mono, ⊠-mono, ≼-more, ⊞-under, parts_join, parts_split}
use Rattle.enclosure.specs.Enclosure.{sum, odd_power, T-term, T-factor, T-lower, T-upper, one_and_square, euler_ratio, euler_term, atan_lower, atan_upper, Within}
use Rattle.enclosure.specs.Nested.{Falls, end}

factored : Order 6 (λ a b c d e f. (a :* (d :* (f :* b)) :+ c :* (e :* a) :* b) :* (con 1 :* (d :* f) :* b)
    ≈ (con 1 :* (d :* f) :+ c :* e :* con 1) :* a :* (b :* (d :* (f :* b))))
factored = by_below tt

-- y + k (z y) = (1 + k z) y
common : (y k z : Quotient) → y ⊞ k ⊠ (z ⊠ y) ≼ (whole 1 ⊞ k ⊠ z) ⊠ y
common y k z = record { cross = factored.law y.num y.den k.num k.den z.num z.den }

module _ (a : ℕ → Quotient) (z k : Quotient) (f : Falls a z k) where
  lower_step : (n : ℕ) → sum a n ≼ sum a (suc n)
  unfolding sum
  lower_step n = ≼-more (sum a n) (a n)

  upper_step : (n : ℕ) → end a k (suc n) ≼ end a k n
  unfolding sum
  upper_step n =
      let s = sum a n in
      let p = a n in
      let next : s ⊞ p ⊞ k ⊠ a (suc n) ≼ s ⊞ p ⊞ k ⊠ (z ⊠ p) = ⊞-mono ≼_refl (⊠-mono ≼_refl (f.ratio n)) in
      let rest : p ⊞ k ⊠ (z ⊠ p) ≼ k ⊠ p = ≼_trans (common p k z) (⊠-mono f.factor ≼_refl) in
      ≼_trans next (≼_trans (⊞-under s p (k ⊠ (z ⊠ p))) (⊞-mono ≼_refl rest))

  lower_rises : (n d : ℕ) → sum a n ≼ sum a (d + n)
  lower_rises n zero = subst (λ (i : ℕ). sum a n ≼ sum a i) (omega arith) ≼_refl
  lower_rises n (suc d) = subst (λ (i : ℕ). sum a n ≼ sum a i) (omega arith) (≼_trans (lower_rises n d) (lower_step (d + n)))

  upper_falls : (n d : ℕ) → end a k (d + n) ≼ end a k n
  upper_falls n zero = subst (λ (i : ℕ). end a k i ≼ end a k n) (omega arith) ≼_refl
  upper_falls n (suc d) = subst (λ (i : ℕ). end a k i ≼ end a k n) (omega arith) (≼_trans (upper_step (d + n)) (upper_falls n d))

  -- THE LAW: each lower end is below each upper end
  pub nested : (n m : ℕ) → sum a n ≼ end a k m
  nested n m =
      let high : end a k (m + n) ≼ end a k m = subst (λ (i : ℕ). end a k i ≼ end a k m) (omega arith) (upper_falls m n) in
      ≼_trans (lower_rises n m) (≼_trans (≼-more (sum a (m + n)) (k ⊠ a (m + n))) high)

-- ---- T
T-falling : Order 5 (λ n d p q i. n :* n :* p :* con 1 :* (d :* d :* (q :* nxt (con 2 :* i)))
    ≈ n :* n :* (p :* con 1) :* (d :* d :* q :* nxt (con 2 :* nxt i)))
T-falling = by_below tt

-- (w = d^2 - n^2)
T-sum : Order 3 (λ n d w. (w :* d :* d times w :+ n :* n ≼ d :* d) ∷ []
    ⊩ (con 1 :* (w :* (d :* d)) :+ d :* d :* (n :* n) :* con 1) :* w ≈ d :* d :* (con 1 :* (w :* (d :* d))))
T-sum = by_below tt

pub T-falls : (s : Quotient) (h : s.num < s.den) → Falls (T-term s) (s ⊠ s) (T-factor s h)
unfolding odd_power
T-falls s h =
    let w = s.den * s.den - s.num * s.num in
    let e : w + s.num * s.num ≤ s.den * s.den = omega (arith, mul-le-mul h h) in
    record {
      ratio = λ i. record { cross = T-falling.law s.num s.den (odd_power s i).num (odd_power s i).den i };
      factor = record { cross = T-sum.law s.num s.den w e };
    }

pub T-nested : (s : Quotient) (h : s.num < s.den) (n m : ℕ) → T-lower s n ≼ T-upper s h m
unfolding T-lower T-upper
T-nested s h = nested (T-term s) (s ⊠ s) (T-factor s h) (T-falls s h)

-- ---- atan
euler_falling : Order 5 (λ p q z v i. p :* (con 2 :* nxt i) :* z :* (v :* q) ≈ z :* p :* (q :* nxt (con 2 :* nxt i) :* v))
euler_falling = by_below tt

euler_sum : Order 2 (λ n d. (con 1 :* (d :* d :* (d :* d :+ n :* n)) :+ (d :* d :+ n :* n) :* (n :* n) :* con 1) :* (d :* d)
    ≈ (d :* d :+ n :* n) :* (con 1 :* (d :* d :* (d :* d :+ n :* n))))
euler_sum = by_below tt

pub euler_falls : (t : Quotient) → Falls (euler_term t) (euler_ratio t) (one_and_square t)
unfolding euler_term
euler_falls t =
    let z = euler_ratio t in
    record {
      ratio = λ i. record { cross = euler_falling.law (euler_term t i).num (euler_term t i).den z.num z.den i };
      factor = record { cross = euler_sum.law t.num t.den };
    }

pub atan_nested : (t : Quotient) (n m : ℕ) → atan_lower t n ≼ atan_upper t m
unfolding atan_lower atan_upper
atan_nested t = nested (euler_term t) (euler_ratio t) (one_and_square t) (euler_falls t)

-- ---- so an answer that is near one enclosure, the N-th, is near every one
pub near_all : {lower upper : ℕ → Quotient} → ((n m : ℕ) → lower n ≼ upper m) → (N : ℕ) {v down up : Quotient}
    → v ≼ lower N ⊞ down → upper N ≼ v ⊞ up → Within lower upper v down up
near_all nest N low high = record { low = λ n. ≼_trans low (⊞-mono (nest N n) ≼_refl); high = λ n. ≼_trans (nest n N) high }

-- (a bound of the partial sum and one of the rest, gathered)
pub gathered : {x y : Quotient} (k v a b : ℕ) → x ≼ parts k (v + a) → y ≼ parts k b → x ⊞ y ≼ parts k v ⊞ parts k (a + b)
gathered k v a b h g =
    ≼_trans (⊞-mono (≼_trans h (parts_split k v a)) g)
    (≼_trans (⊞-under (parts k v) (parts k a) (parts k b)) (⊞-mono ≼_refl (parts_join k a b)))
