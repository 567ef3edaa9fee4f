-- The difference of two floats above zero that a test has shown unequal: it is not zero, whichever is the larger.
use Rattle.std.specs.Prelude.{◌≡◌, ◌⊎◌, ℕ, ◌-◌, ◌≤◌, ◌<◌, Bool, true, false, not, ◌||◌, cond, T, ltb, eqb, Float}
use Rattle.std.proofs.Common.{sym, ◌∙◌, subst, subst₂, inl, inr, lt_irrefl, arith, T_not, ltb→lt, nltb→le}
use Rattle.std.specs.Float.{Format}
use Rattle.std.specs.Float.Ieee.{sub, eq, level}
use Rattle.std.specs.Float.Ieee.Fits.{and_i, eq→eqb}
use Rattle.algebra.specs.Order.{lt_or_le}
use Rattle.scaling.specs.Near.{near}
use Rattle.scaling.specs.Cross.{add_n}
use Rattle.scaling.specs.Units.{eq_units}
use Rattle.scaling.specs.Kind.{Kind, In, level?, sum_k, sum_ok, neg_k}
use Rattle.scaling.proofs.Kind.{nor_l, nor_r}
use Rattle.scaling.proofs.Leaf.{some}
use Rattle.scaling.specs.Two.{Two}
use Rattle.scaling.proofs.Two.{sum_two, summed}
use Rattle.scaling.proofs.One.{neg_two, sub_two}
use Rattle.scaling.proofs.Tests.{eq_two}
use Rattle.scaling.specs.Distinct.{distinct_k}

unlevel : (m n : ℕ) → T (not (level false m false n)) → m ≡ n → ⊥
unlevel m n h e = T_not (level false m false n) h (and_i (eqb m n) true (eq→eqb e) tt)

between : (m n : ℕ) → (m ≡ n → ⊥) → 0 < add_n false m true n
between m n h = go (ltb m n) (ltb→lt m n) (nltb→le m n)
  where
    go : (b : Bool) → (T b → m < n) → (T (not b) → n ≤ m) → 0 < cond b (n - m) (m - n)
    go true p q = let l = p tt in omega arith
    go false p q = let l = q tt in elim (lt_or_eq m n l) [ inl k ↦ omega arith | inr e ↦ absurd (h e) ]
      where
        lt_or_eq : (m n : ℕ) → n ≤ m → (n < m) ⊎ (m ≡ n)
        lt_or_eq m n l = elim (lt_or_le n m) [ inl k ↦ inl k | inr k ↦ inr (let r : m ≡ n = omega arith in r) ]

-- what is not zero is in the kind without it
off_zero : (f : Format) (A B : Kind) {s : Bool} {m : ℕ} → In (sum_k f A (neg_k B)) s m → 0 < m → In (distinct_k f A B) s m
unfolding distinct_k sum_k
off_zero f A B {s} {m} i h = record {
  sign = λ t. absurd t;
  from = elim i.from [ inl p ↦ absurd (lt_irrefl 0 (subst (λ (n : ℕ). 0 < n) p.1 h)) | inr l ↦ inr l ];
  to = i.to;
}

pub distinct_two : {f : Format} {k : ℕ} {A B : Kind} {x x' y y' : Float} (a : Two f k A x x') (b : Two f k B y y')
    → T (not (eq x y)) → T (level? A B)
    → T (not (A.any || B.any)) → T (sum_ok f A (neg_k B)) → Two f k (distinct_k f A B) (sub f x y) (sub f x' y')
unfolding distinct_k sum_k sub_two sum_two summed neg_two
distinct_two {f} {k} {A} {B} a b h w p ok =
    let t = sub_two a b ok in
    let S : a.s ≡ false = a.in_first.sign (nor_l A.any B.any p) in
    let R : b.s ≡ false = b.in_first.sign (nor_r A.any B.any p) in
    let M = some_apart a.m b.m a.s b.s S R (subst (λ (t : Bool). T (not t)) (eq_units a.first b.first) h) in
    let N = some_apart a.n b.n a.s b.s S R
    (subst (λ (t : Bool). T (not t)) (eq_two a b w ∙ eq_units a.second b.second) h) in
    record {
      s = t.s;
      m = t.m;
      n = t.n;
      first = t.first;
      second = t.second;
      in_first = off_zero f A B t.in_first M;
      in_second = off_zero f A B t.in_second N;
      grain = t.grain;
      grain_second = t.grain_second;
      tie = t.tie;
    }
  where
    some_apart : (m n : ℕ) (s t : Bool) → s ≡ false → t ≡ false → T (not (level s m t n)) → 0 < near f (add_n s m (not t) n) 1
    some_apart m n s t e g =
        subst₂ (λ (s t : Bool). T (not (level s m t n)) → 0 < near f (add_n s m (not t) n) 1) (sym e) (sym g)
        (λ q. some f (add_n false m true n) (between m n (unlevel m n q)))
