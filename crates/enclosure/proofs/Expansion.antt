-- A partial sum of T or of Euler's series is its first factor times an exact polynomial in s^2 or in t^2 / (1 + t^2); and a
-- late term is small. Assumes nothing.
use Prim.Native.Nat.{ℕ, zero, suc, ◌+◌, ◌*◌, ◌^◌, ◌≤◌}
use Rattle.std.specs.Prelude.{◌≡◌, [], ◌∷◌}
use Rattle.std.proofs.Common.{sym, ◌∙◌, ap, le_of_eq, le_of_mul-le-mul_right}
use Rattle.std.proofs.Math.Path.{subst}
use Rattle.std.proofs.Math.Nat.{pow-succ', pow-zero}
use native.Mathlib.Omega.{arith}
use Rattle.algebra.specs.Ring.{con, ◌:+◌, ◌:*◌, ◌≈◌, ◌⊩◌, ◌times◌≼◌, Law, Order}
use Rattle.algebra.proofs.Ring.{by_ring, by_below}
use Rattle.enclosure.specs.Quotient.{Quotient, ◌≼◌, whole, over, ◌⊞◌, ◌⊠◌}
use Rattle.enclosure.specs.Order.{≼_refl, ≼_trans, ⊞-mono, ⊠-mono}
use Rattle.enclosure.specs.Enclosure.{sum, odd_power, T-term, euler_start, euler_ratio, euler_term}
use Rattle.enclosure.specs.Nested.{Falls}
use Rattle.enclosure.specs.Pieces.{Series, euler, odd}
use Rattle.enclosure.specs.Expansion.{Enough, coefficient, exact, power, ◌≃◌}

by_eq : {x y : Quotient} → x.num * y.den ≡ y.num * x.den → x ≃ y
by_eq e = (record { cross = le_of_eq e }, record { cross = le_of_eq (sym e) })

≃-trans : {x y z : Quotient} → x ≃ y → y ≃ z → x ≃ z
≃-trans h g = (≼_trans h.0 g.0, ≼_trans g.1 h.1)

≃-refl : {x : Quotient} → x ≃ x
≃-refl = (≼_refl, ≼_refl)

⊞-same : {x y x' y' : Quotient} → x ≃ x' → y ≃ y' → x ⊞ y ≃ x' ⊞ y'
⊞-same h g = (⊞-mono h.0 g.0, ⊞-mono h.1 g.1)

⊠-same : {x y x' y' : Quotient} → x ≃ x' → y ≃ y' → x ⊠ y ≃ x' ⊠ y'
⊠-same h g = (⊠-mono h.0 g.0, ⊠-mono h.1 g.1)

regrouped : Law 10 (λ s s' g g' c c' z z' e e'.
    (s :* (g' :* (c' :* (z' :* e'))) :+ g :* (c :* (z' :* e') :+ z :* e :* c') :* s') :* (s' :* (g' :* c') :* (z' :* g' :* e'))
    ≈ ((s :* (g' :* c') :+ g :* c :* s') :* (z' :* g' :* e') :+ z :* g :* e :* (s' :* (g' :* c')))
    :* (s' :* (g' :* (c' :* (z' :* e')))))
regrouped = by_ring tt

-- s + g (c + z e) = (s + g c) + (z g) e
regroup : (s g c z e : Quotient) → s ⊞ g ⊠ (c ⊞ z ⊠ e) ≃ s ⊞ g ⊠ c ⊞ z ⊠ g ⊠ e
regroup s g c z e =
    by_eq (regrouped.law s.num s.den g.num g.den c.num c.den z.num z.den e.num e.den)

add_none : Law 4 (λ s s' g g'. (s :* (g' :* con 1) :+ g :* con 0 :* s') :* s' ≈ s :* (s' :* (g' :* con 1)))
add_none = by_ring tt

none_add : Law 2 (λ n d. n :* (con 1 :* d) ≈ (con 0 :* d :+ n :* con 1) :* d)
none_add = by_ring tt

-- ---- the terms are g_i c_i, and g_(i+1) is z g_i
module _ (a g c : ℕ → Quotient) (z : Quotient) (term : (i : ℕ) → g i ⊠ c i ≃ a i) (next : (i : ℕ) → z ⊠ g i ≃ g (suc i)) where
  expand : (k n : ℕ) → sum a n ⊞ g n ⊠ exact c z k n ≃ sum a (n + k)
  unfolding sum exact
  expand zero n =
      let f : n ≡ n + 0 = omega arith in
      let s = sum a n in
      let e : s ⊞ g n ⊠ whole 0 ≃ s = by_eq (add_none.law s.num s.den (g n).num (g n).den) in
      subst (λ (i : ℕ). s ⊞ g n ⊠ whole 0 ≃ sum a i) f e
  expand (suc k) n =
      let s = sum a n in
      let e = exact c z k (suc n) in
      let here : s ⊞ g n ⊠ c n ⊞ z ⊠ g n ⊠ e ≃ s ⊞ a n ⊞ g (suc n) ⊠ e = ⊞-same (⊞-same ≃-refl (term n))
      (⊠-same (next n) ≃-refl) in
      let later : s ⊞ a n ⊞ g (suc n) ⊠ e ≃ sum a (suc n + k) = expand k (suc n) in
      let f : suc n + k ≡ n + suc k = omega arith in
      subst (λ (i : ℕ). s ⊞ g n ⊠ (c n ⊞ z ⊠ e) ≃ sum a i) f (≃-trans (regroup s (g n) (c n) z e) (≃-trans here later))

  expansion : (k : ℕ) → g 0 ⊠ exact c z k 0 ≃ sum a k
  unfolding sum
  expansion k =
      let p = g 0 ⊠ exact c z k 0 in
      let f : 0 + k ≡ k = omega arith in
      let e : whole 0 ⊞ p ≃ sum a k = subst (λ (i : ℕ). whole 0 ⊞ p ≃ sum a i) f (expand k 0) in
      ≃-trans (by_eq (none_add.law p.num p.den)) e

-- ---- T(s)
pub T-expansion : (s : Quotient) (k : ℕ) → s ⊠ exact (coefficient odd) (s ⊠ s) k 0 ≃ sum (T-term s) k
unfolding odd_power coefficient
T-expansion s = expansion (T-term s) (odd_power s) (coefficient odd) (s ⊠ s) (λ i. ≃-refl) (λ i. ≃-refl)

-- ---- atan(t)
unfoldable euler_front : Quotient → ℕ → Quotient
euler_front t k = power (euler_ratio t) k ⊠ (t ⊠ euler_start t)

one_and_one : Law 2 (λ n d. con 1 :* n :* con 1 :* d ≈ n :* (con 1 :* d :* con 1))
one_and_one = by_ring tt

one_first : Law 4 (λ b b' p p'. b :* p :* (con 1 :* b' :* p') ≈ con 1 :* b :* p :* (b' :* p'))
one_first = by_ring tt

reordered : Law 10 (λ z z' w w' b b' c c' f f'. z :* w :* b :* (c :* f) :* (w' :* b' :* c' :* f' :* z')
    ≈ w :* b :* c :* f :* z :* (z' :* w' :* b' :* (c' :* f')))
reordered = by_ring tt

reassociated : Law 6 (λ z z' w w' b b'. z :* (w :* b) :* (z' :* w' :* b') ≈ z :* w :* b :* (z' :* (w' :* b')))
reassociated = by_ring tt

reassociate : (z w b : Quotient) → z ⊠ (w ⊠ b) ≃ z ⊠ w ⊠ b
reassociate z w b = by_eq (reassociated.law z.num z.den w.num w.den b.num b.den)

euler_split : (t : Quotient) (i : ℕ) → euler_front t i ⊠ coefficient euler i ≃ euler_term t i
unfolding euler_front power coefficient euler_term
euler_split t zero = let b = t ⊠ euler_start t in by_eq (one_and_one.law b.num b.den)
euler_split t (suc i) =
    let z = euler_ratio t in
    let b = t ⊠ euler_start t in
    let w = power z i in
    let c = coefficient euler i in
    let f = over (2 * suc i) (2 * suc i) in
    let e : z ⊠ w ⊠ b ⊠ (c ⊠ f) ≃ w ⊠ b ⊠ c ⊠ f ⊠ z =
    by_eq (reordered.law z.num z.den w.num w.den b.num b.den c.num c.den f.num f.den) in
    ≃-trans e (⊠-same (⊠-same (euler_split t i) ≃-refl) ≃-refl)

euler_next : (t : Quotient) (i : ℕ) → euler_ratio t ⊠ euler_front t i ≃ euler_front t (suc i)
unfolding euler_front power
euler_next t i = reassociate (euler_ratio t) (power (euler_ratio t) i) (t ⊠ euler_start t)

pub euler_expansion : (t : Quotient) (k : ℕ)
    → t ⊠ euler_start t ⊠ exact (coefficient euler) (euler_ratio t) k 0 ≃ sum (euler_term t) k
unfolding euler_front power
euler_expansion t k =
    let b = t ⊠ euler_start t in
    let p = exact (coefficient euler) (euler_ratio t) k 0 in
    ≃-trans (by_eq (one_first.law b.num b.den p.num p.den))
    (expansion (euler_term t) (euler_front t) (coefficient euler) (euler_ratio t) (euler_split t) (euler_next t) k)

-- ---- late terms
one_times : Order 2 (λ n d. n :* (con 1 :* d) ≈ con 1 :* n :* d)
one_times = by_below tt

pub late : (a : ℕ → Quotient) (z k : Quotient) → Falls a z k → (i : ℕ) → a i ≼ power z i ⊠ a 0
unfolding power
late a z k f zero = record { cross = one_times.law (a 0).num (a 0).den }
late a z k f (suc i) = ≼_trans (f.ratio i) (≼_trans (⊠-mono ≼_refl (late a z k f i)) (reassociate z (power z i) (a 0)).0)

power_mono : {z y : Quotient} → z ≼ y → (i : ℕ) → power z i ≼ power y i
unfolding power
power_mono h zero = ≼_refl
power_mono h (suc i) = ⊠-mono h (power_mono h i)

power_is : (z : Quotient) (i : ℕ) → ((power z i).num ≡ z.num ^ i) × ((power z i).den ≡ z.den ^ i)
unfolding power
power_is z zero = (sym (pow-zero z.num), sym (pow-zero z.den))
power_is z (suc i) = (
  ap (λ n. z.num * n) (power_is z i).0 ∙ sym (pow-succ' z.num i),
  ap (λ n. z.den * n) (power_is z i).1 ∙ sym (pow-succ' z.den i),
)

by_greater : Order 4 (λ w x n d. (con (2 ^ 62) times w :* d ≼ n :* x) ∷ (x times n :* con (2 ^ 62) ≼ d) ∷ []
    ⊩ w :* con (2 ^ 62) :* d ≈ x :* d)
by_greater = by_below tt

pub enough_by : {z y : Quotient} (k : ℕ) → z ≼ y → y.num ^ k * 2 ^ 62 ≤ y.den ^ k → Enough z k
enough_by {z} {y} k h g =
    let a = power z k in
    let b = power y k in
    let e : b.num * 2 ^ 62 ≤ b.den = rw ((power_is y k).0, (power_is y k).1) g in
    le_of_mul-le-mul_right (by_greater.law a.num a.den b.num b.den (power_mono h k).cross e) b.pos
