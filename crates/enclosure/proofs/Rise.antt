-- How fast T rises from x to y: the partial sums by at most (y - x) / (1 - y^2), the upper ends by at least (y - x) / (1 - x^2).
-- A term's rise is bounded by y^(2k+1) - x^(2k+1) ≤ (2k+1) (y - x) y^2k, and from below likewise with x^2k; and these sum up to
-- the factor 1 / (1 - y^2) or 1 / (1 - x^2). Assumes nothing.
use Prim.Native.Nat.{ℕ, zero, suc, ◌+◌, ◌-◌, ◌*◌, ◌≤◌, ◌<◌}
use Rattle.std.specs.Prelude.{[], ◌∷◌}
use Rattle.std.proofs.Common.{mul-le-mul, arith}
use Rattle.algebra.specs.Ring.{con, nxt, ◌:+◌, ◌:*◌, ◌≈◌, ◌⊩◌, ◌times◌≼◌, Order}
use Rattle.algebra.proofs.Ring.{by_below}
use Rattle.enclosure.specs.Quotient.{Quotient, ◌≼◌, whole, ◌⊞◌, ◌⊠◌}
use Rattle.enclosure.specs.Order.{≼_refl, ≼_trans, ⊞-mono, ⊠-mono, ≼-more, ⊞-over}
use Rattle.enclosure.specs.Enclosure.{sum, odd_power, T-term, T-factor, T-lower, T-upper}
use Rattle.enclosure.specs.Nested.{Falls}
use Rattle.enclosure.proofs.Nested.{T-falls, nested}
use Rattle.enclosure.specs.Expansion.{power}

-- ---- a sum is below another where each term is
paired : Order 8 (λ S S' a a' e e' c c'. ((S :* e' :+ e :* S') :* (a' :* c') :+ (a :* c' :+ c :* a') :* (S' :* e')) :*
    (S' :* a' :* (e' :* c'))
    ≈ ((S :* a' :+ a :* S') :* (e' :* c') :+ (e :* c' :+ c :* e') :* (S' :* a')) :* (S' :* e' :* (a' :* c')))
paired = by_below tt

pairs : (s e a c : Quotient) → s ⊞ e ⊞ (a ⊞ c) ≼ s ⊞ a ⊞ (e ⊞ c)
pairs s e a c = record { cross = paired.law s.num s.den a.num a.den e.num e.den c.num c.den }

sum_below : (a b e : ℕ → Quotient) → ((k : ℕ) → a k ≼ b k ⊞ e k) → (n : ℕ) → sum a n ≼ sum b n ⊞ sum e n
unfolding sum
sum_below a b e each zero = record { cross = omega arith }
sum_below a b e each (suc n) = ≼_trans (⊞-mono (sum_below a b e each n) (each n)) (pairs (sum b n) (sum e n) (b n) (e n))

sum_above : (a b e : ℕ → Quotient) → ((k : ℕ) → a k ⊞ e k ≼ b k) → (n : ℕ) → sum a n ⊞ sum e n ≼ sum b n
unfolding sum
sum_above a b e each zero = record { cross = omega arith }
sum_above a b e each (suc n) = ≼_trans (pairs (sum a n) (a n) (sum e n) (e n)) (⊞-mono (sum_above a b e each n) (each n))

-- ---- odd powers: s^(2k+1) keeps the order, and is s times s^2k
odd_mono : {x y : Quotient} → x ≼ y → (k : ℕ) → odd_power x k ≼ odd_power y k
unfolding odd_power
odd_mono h zero = h
odd_mono h (suc k) = ⊠-mono (⊠-mono h h) (odd_mono h k)

pub T-mono : {x y : Quotient} → x ≼ y → (n : ℕ) → T-lower x n ≼ T-lower y n
unfolding T-lower sum
T-mono h zero = ≼_refl
T-mono h (suc n) = ⊞-mono (T-mono h n) (⊠-mono (odd_mono h n) ≼_refl)

reorder : Order 4 (λ s s' w w'. s :* s :* (s :* w) :* (s' :* (s' :* s' :* w')) ≈ s :* (s :* s :* w) :* (s' :* s' :* (s' :* w')))
reorder = by_below tt

order_back : Order 4 (λ s s' w w'. s :* (s :* s :* w) :* (s' :* s' :* (s' :* w'))
    ≈ s :* s :* (s :* w) :* (s' :* (s' :* s' :* w')))
order_back = by_below tt

odd_under : (s : Quotient) (k : ℕ) → odd_power s k ≼ s ⊠ power (s ⊠ s) k
unfolding odd_power power
odd_under s zero = record { cross = omega arith }
odd_under s (suc k) =
    let w = power (s ⊠ s) k in
    ≼_trans (⊠-mono ≼_refl (odd_under s k)) (record { cross = reorder.law s.num s.den w.num w.den })

odd_over : (s : Quotient) (k : ℕ) → s ⊠ power (s ⊠ s) k ≼ odd_power s k
unfolding odd_power power
odd_over s zero = record { cross = omega arith }
odd_over s (suc k) =
    let w = power (s ⊠ s) k in
    ≼_trans (record { cross = order_back.law s.num s.den w.num w.den }) (⊠-mono ≼_refl (odd_over s k))

-- ---- the geometric sums of D z^k, by a factor F = 1 / (1 - z)
geo_ratio : Order 6 (λ D D' z z' w w'. D :* (z :* w) :* (z' :* (D' :* w')) ≈ z :* (D :* w) :* (D' :* (z' :* w')))
geo_ratio = by_below tt

geo_first : Order 4 (λ D D' F F'. (con 0 :* (F' :* (D' :* con 1)) :+ F :* (D :* con 1) :* con 1) :* (D' :* F')
    ≈ D :* F :* (con 1 :* (F' :* (D' :* con 1))))
geo_first = by_below tt

geo_last : Order 4 (λ D D' F F'. D :* F :* (con 1 :* (F' :* (D' :* con 1)))
    ≈ (con 0 :* (F' :* (D' :* con 1)) :+ F :* (D :* con 1) :* con 1) :* (D' :* F'))
geo_last = by_below tt

geo_step : Order 8 (λ F F' z z' D D' w w'. (con 1 :* (F' :* z') :+ F :* z :* con 1) :* (D :* w) :*
    (D' :* w' :* (F' :* (D' :* (z' :* w'))))
    ≈ (D :* w :* (F' :* (D' :* (z' :* w'))) :+ F :* (D :* (z :* w)) :* (D' :* w')) :* (con 1 :* (F' :* z') :* (D' :* w')))
geo_step = by_below tt

module _ (D z F : Quotient) where
  abbrev geo : ℕ → Quotient
  geo k = D ⊠ power z k

  geo_most : whole 1 ⊞ F ⊠ z ≼ F → (n : ℕ) → sum geo n ≼ D ⊠ F
  unfolding power sum
  geo_most f n =
      let falls : Falls geo z F = record {
        ratio = λ i.
            let w = power z i in
            record { cross = geo_ratio.law D.num D.den z.num z.den w.num w.den };
        factor = f;
      } in
      ≼_trans (nested geo z F falls n 0) (record { cross = geo_first.law D.num D.den F.num F.den })

  geo_least : F ≼ whole 1 ⊞ F ⊠ z → (n : ℕ) → D ⊠ F ≼ sum geo n ⊞ F ⊠ geo n
  unfolding power sum
  geo_least f zero = record { cross = geo_last.law D.num D.den F.num F.den }
  geo_least f (suc n) =
      let w = power z n in
      let step = geo_step.law F.num F.den z.num z.den D.num D.den w.num w.den in
      let next : F ⊠ geo n ≼ geo n ⊞ F ⊠ geo (suc n) = ≼_trans (⊠-mono f ≼_refl) (record { cross = step }) in
      ≼_trans (geo_least f n) (≼_trans (⊞-mono ≼_refl next) (⊞-over (sum geo n) (geo n) (F ⊠ geo (suc n))))

-- ---- from x to y, which is x + D at most
rises_step : Order 13 (λ x x' y y' D D' o o' p p' w w' k.
    (x' :* x' :* y :* y :* y' :* y' times p :* (o' :* (con 1 :* (D' :* w')))
    ≼ (o :* (con 1 :* (D' :* w')) :+ nxt (con 2 :* k) :* (D :* w) :* o') :* p')
    ∷ (o :* p' :* w' :* y' :* y' :* (x :* y' :+ x' :* y) times y :* (x' :* D') ≼ (x :* D' :+ D :* x') :* y')
    ∷ (D :* o :* p' :* w' :* x' :* y' :* y' :* y' times x :* y' ≼ y :* x')
    ∷ (con 2 :* D :* p' :* x' :* x' :* y :* y' :* y' times o :* (y' :* w') ≼ y :* w :* o') ∷ []
    ⊩ y :* y :* p :* (x' :* x' :* o' :* (con 1 :* (D' :* (y' :* y' :* w'))))
    ≈ (x :* x :* o :* (con 1 :* (D' :* (y' :* y' :* w'))) :+ nxt (con 2 :* nxt k) :* (D :* (y :* y :* w)) :*
    (x' :* x' :* o')) :* (y' :* y' :* p'))
rises_step = by_below tt

term_rises : Order 9 (λ o o' p p' D D' w w' k.
    (con 2 :* k :+ con 1 times p :* (o' :* (con 1 :* (D' :* w')))
    ≼ (o :* (con 1 :* (D' :* w')) :+ nxt (con 2 :* k) :* (D :* w) :* o') :* p') ∷ []
    ⊩ p :* con 1 :* (o' :* nxt (con 2 :* k) :* (D' :* w'))
    ≈ (o :* con 1 :* (D' :* w') :+ D :* w :* (o' :* nxt (con 2 :* k))) :* (p' :* nxt (con 2 :* k)))
term_rises = by_below tt

module _ (x y D : Quotient) (up : x ≼ y) (near : y ≼ x ⊞ D) where
  odd_rises : (k : ℕ) → odd_power y k ≼ odd_power x k ⊞ whole (suc (2 * k)) ⊠ (D ⊠ power (y ⊠ y) k)
  unfolding odd_power power
  odd_rises zero = record { cross = omega (arith, near.cross) }
  odd_rises (suc k) =
      let o = odd_power x k in
      let p = odd_power y k in
      let w = power (y ⊠ y) k in
      let most : o ≼ y ⊠ w = ≼_trans (odd_mono up k) (odd_under y k) in
      record {
        cross = rises_step.law x.num x.den y.num y.den D.num D.den o.num o.den p.num p.den
            w.num w.den k
            (odd_rises k).cross near.cross up.cross most.cross;
      }

  terms_rise : (k : ℕ) → T-term y k ≼ T-term x k ⊞ D ⊠ power (y ⊠ y) k
  terms_rise k =
      let o = odd_power x k in
      let p = odd_power y k in
      let w = power (y ⊠ y) k in
      record {
        cross = term_rises.law o.num o.den p.num p.den D.num D.den w.num w.den k (odd_rises k).cross;
      }

  -- THE LAW of the partial sums
  pub T-rises : (h : y.num < y.den) (n : ℕ) → T-lower y n ≼ T-lower x n ⊞ D ⊠ T-factor y h
  unfolding T-lower
  T-rises h n =
      ≼_trans (sum_below (T-term y) (T-term x) (λ k. D ⊠ power (y ⊠ y) k) terms_rise n)
      (⊞-mono ≼_refl (geo_most D (y ⊠ y) (T-factor y h) (T-falls y h).factor n))

-- ---- the factor 1 / (1 - s^2) (W and U are the denominators)
factor_sum : Order 3 (λ n d W. (W :* d :* d times d :* d ≼ W :+ n :* n) ∷ []
    ⊩ d :* d :* (con 1 :* (W :* (d :* d))) ≈ (con 1 :* (W :* (d :* d)) :+ d :* d :* (n :* n) :* con 1) :* W)
factor_sum = by_below tt

factor_whole : (s : Quotient) (h : s.num < s.den) → T-factor s h ≼ whole 1 ⊞ T-factor s h ⊠ (s ⊠ s)
factor_whole s h =
    let W = s.den * s.den - s.num * s.num in
    let e : s.den * s.den ≤ W + s.num * s.num = omega arith in
    record { cross = factor_sum.law s.num s.den W e }

factor_more : Order 6 (λ n d W m e U.
    (d :* m :+ e :* n times n :* e ≼ m :* d) ∷ (e :* e times d :* d ≼ W :+ n :* n) ∷ (d :* d times U :+ m :* m ≼ e :* e) ∷ []
    ⊩ d :* d :* U ≈ e :* e :* W)
factor_more = by_below tt

factor_mono : {u v : Quotient} (h : u.num < u.den) (k : v.num < v.den) → u ≼ v → T-factor u h ≼ T-factor v k
factor_mono {u} {v} h k l =
    let W = u.den * u.den - u.num * u.num in
    let U = v.den * v.den - v.num * v.num in
    let e : u.den * u.den ≤ W + u.num * u.num = omega arith in
    let f : U + v.num * v.num ≤ v.den * v.den = omega (arith, mul-le-mul k k) in
    record { cross = factor_more.law u.num u.den W v.num v.den U l.cross e f }

-- ---- from u to v, which is u + D at least
grows_step : Order 13 (λ u u' v v' D D' o o' p p' w w' k.
    (u' :* u' :* u' :* u' :* v :* v times (o :* (con 1 :* (D' :* w')) :+ nxt (con 2 :* k) :* (D :* w) :* o') :* p'
    ≼ p :* (o' :* (con 1 :* (D' :* w'))))
    ∷ (o :* p' :* u' :* u' :* w' :* (u :* v' :+ u' :* v) times (u :* D' :+ D :* u') :* v' ≼ v :* (u' :* D'))
    ∷ (p' :* u' :* u' :* D :* (nxt (con 2 :* k) :* o' :* w :* (u :* v' :+ u' :* v) :+ o :* u' :* v' :* w') times u :* v'
    ≼ v :* u')
    ∷ (con 2 :* D :* p' :* u :* u' :* u' :* v' :* v' times u :* w :* o' ≼ o :* (u' :* w')) ∷ []
    ⊩ (u :* u :* o :* (con 1 :* (D' :* (u' :* u' :* w'))) :+ nxt (con 2 :* nxt k) :* (D :* (u :* u :* w)) :*
    (u' :* u' :* o')) :* (v' :* v' :* p')
    ≈ v :* v :* p :* (u' :* u' :* o' :* (con 1 :* (D' :* (u' :* u' :* w')))))
grows_step = by_below tt

term_grows : Order 9 (λ o o' p p' D D' w w' k.
    (con 2 :* k :+ con 1 times (o :* (con 1 :* (D' :* w')) :+ nxt (con 2 :* k) :* (D :* w) :* o') :* p'
    ≼ p :* (o' :* (con 1 :* (D' :* w')))) ∷ []
    ⊩ (o :* con 1 :* (D' :* w') :+ D :* w :* (o' :* nxt (con 2 :* k))) :* (p' :* nxt (con 2 :* k))
    ≈ p :* con 1 :* (o' :* nxt (con 2 :* k) :* (D' :* w')))
term_grows = by_below tt

shared : Order 6 (λ F F' t t' c c'. (F :* t :* (F' :* c') :+ F :* c :* (F' :* t')) :* (F' :* (t' :* c'))
    ≈ F :* (t :* c' :+ c :* t') :* (F' :* t' :* (F' :* c')))
shared = by_below tt

share : (f t c : Quotient) → f ⊠ t ⊞ f ⊠ c ≼ f ⊠ (t ⊞ c)
share f t c = record { cross = shared.law f.num f.den t.num t.den c.num c.den }

module _ (u v D : Quotient) (apart : u ⊞ D ≼ v) where
  above : u ≼ v
  above = ≼_trans (≼-more u D) apart

  odd_grows : (k : ℕ) → odd_power u k ⊞ whole (suc (2 * k)) ⊠ (D ⊠ power (u ⊠ u) k) ≼ odd_power v k
  unfolding odd_power power
  odd_grows zero = record { cross = omega (arith, apart.cross) }
  odd_grows (suc k) =
      let o = odd_power u k in
      let p = odd_power v k in
      let w = power (u ⊠ u) k in
      record {
        cross = grows_step.law u.num u.den v.num v.den D.num D.den o.num o.den p.num p.den
            w.num w.den k
            (odd_grows k).cross apart.cross above.cross (odd_over u k).cross;
      }

  terms_grow : (k : ℕ) → T-term u k ⊞ D ⊠ power (u ⊠ u) k ≼ T-term v k
  terms_grow k =
      let o = odd_power u k in
      let p = odd_power v k in
      let w = power (u ⊠ u) k in
      record {
        cross = term_grows.law o.num o.den p.num p.den D.num D.den w.num w.den k (odd_grows k).cross;
      }

  -- THE LAW of the upper ends
  pub T-grows : (h : u.num < u.den) (l : v.num < v.den) (n : ℕ) → T-upper u h n ⊞ D ⊠ T-factor u h ≼ T-upper v l n
  unfolding T-upper
  T-grows h l n =
      let F = T-factor u h in
      let geo : ℕ → Quotient = λ k. D ⊠ power (u ⊠ u) k in
      let S = sum (T-term u) n in
      let rest : D ⊠ F ≼ sum geo n ⊞ F ⊠ geo n = geo_least D (u ⊠ u) F (factor_whole u h) n in
      let sums : S ⊞ sum geo n ≼ sum (T-term v) n = sum_above (T-term u) (T-term v) geo terms_grow n in
      let last : F ⊠ T-term u n ⊞ F ⊠ geo n ≼ T-factor v l ⊠ T-term v n =
      ≼_trans (share F (T-term u n) (geo n)) (⊠-mono (factor_mono h l above) (terms_grow n)) in
      ≼_trans (⊞-mono ≼_refl rest) (≼_trans (pairs S (F ⊠ T-term u n) (sum geo n) (F ⊠ geo n)) (⊞-mono sums last))
