-- The rules of `Two` for one float: a wider kind, the negative, the size, a constant; and the larger of two.
use Rattle.std.specs.Prelude.{◌≡◌, refl, ℕ, suc, ◌+◌, ◌*◌, ◌/◌, ◌^◌, ◌≤◌, ◌<◌, min, max, Bool, true, false, not, ◌&&◌, ◌||◌, cond, [], ◌∷◌, ℤ, T, ltb, leb, eqb, Float}
use Rattle.std.proofs.Common.{sym, ap, ◌∙◌, subst, subst₂, inl, inr, le_refl, le_trans, le_of_lt, mul-le-mul_right, le_of_mul-le-mul_right, arith, ltb→lt, nltb→le, leb→le, eqb→eq, pow_pos}
use Rattle.std.proofs.Math.Nat.{eq_of_mul-eq-mul_right}
use Rattle.std.specs.Float.{nan, inf, fin, Format}
use Rattle.std.specs.Float.Ieee.{low, up, down, neg, sub, lt, is_nan, fits, of_bits}
use Rattle.std.specs.Float.Ieee.Fits.{and_l, and_r}
use Rattle.algebra.specs.Ring.{◌:*◌, ◌≈◌, ◌⊩◌, ◌times◌≼◌}
use Rattle.algebra.proofs.Ring.{ring}
use Rattle.binary64.specs.Leaves.{absolute, maximum}
use Rattle.scaling.specs.Near.{either}
use Rattle.scaling.specs.Units.{Is, neg_units, lt_units}
use Rattle.scaling.specs.Kind.{Kind, In, level?, sum_k, sum_ok, allows, within, neg_k, abs_k}
use Rattle.scaling.proofs.Kind.{floor_le, and₃, nor_l, nor_r}
use Rattle.scaling.specs.Kind.{max_k, max_ok, same_k}
use Rattle.scaling.specs.Last.{Multiple}
use Rattle.scaling.proofs.Last.{digits_of, coarser, multiple}
use Rattle.scaling.proofs.Within.{least_l, least_r}
use Rattle.scaling.specs.Two.{Two}
use Rattle.scaling.proofs.Two.{twice, sum_two, same_weight}
use Rattle.scaling.specs.One.{clip_k, lit_n, lit_ok, sign}

-- ---- the negative, and the difference
unfoldable pub neg_two : {f : Format} {k : ℕ} {A : Kind} {x y : Float} → Two f k A x y → Two f k (neg_k A) (neg x) (neg y)
neg_two a = record {
  s = not a.s;
  m = a.m;
  n = a.n;
  first = neg_units a.first;
  second = neg_units a.second;
  in_first = record { sign = λ h. absurd h; from = a.in_first.from; to = a.in_first.to };
  in_second = record { sign = λ h. absurd h; from = a.in_second.from; to = a.in_second.to };
  grain = a.grain;
  grain_second = a.grain_second;
  tie = a.tie;
}

unfoldable pub sub_two : {f : Format} {k : ℕ} {A B : Kind} {x y x' y' : Float} → Two f k A x y → Two f k B x' y'
    → T (sum_ok f A (neg_k B))
    → Two f k (sum_k f A (neg_k B)) (sub f x x') (sub f y y')
unfolding sub
sub_two a b ok = sum_two a (neg_two b) ok

-- ---- a constant: the same in both runs
unfoldable pub constant_two : {f : Format} {k : ℕ} {x : Float} {s : Bool} {n : ℕ} → Is f x s n → Two f k (same_k f s n) x x
constant_two {f} {k} {x} {s} {n} a = record {
  s = s;
  m = n;
  n = n;
  first = a;
  second = a;
  in_first = record { sign = plain s; from = inr (le_refl n); to = le_refl n };
  in_second = record { sign = plain s; from = inr (le_refl n); to = le_refl n };
  grain = multiple n (digits_of a) (le_refl n);
  grain_second = multiple n (digits_of a) (le_refl n);
  tie = refl;
}
  where
    plain : (b : Bool) → T (not b) → b ≡ false
    plain true h = absurd h
    plain false h = refl

-- ---- a wider kind; the weight may be written by another pair of the same difference
pub shift : (k u d v e : ℕ) (m n : ℕ) → u + e ≡ v + d → n * 2 ^ (k * d) ≡ m * 2 ^ (k * u) → n * 2 ^ (k * e) ≡ m * 2 ^ (k * v)
shift k u d v e m n w h =
    eq_of_mul-eq-mul_right (2 ^ (k * d)) (pow_pos (k * d)) _ _
    (ring 5 (λ n e d m u. (e times n :* d ≼ m :* u) ∷ [] ⊩ n :* e :* d ≈ m :* (u :* e)) tt n (2 ^ (k * e)) (2 ^ (k * d)) m
    (2 ^ (k * u)) h
    ∙ ap (λ z. m * z) (sym (twice k u e) ∙ ap (λ z. 2 ^ (k * z)) w ∙ twice k v d)
    ∙ ring 3 (λ m v d. m :* (v :* d) ≈ m :* v :* d) tt m (2 ^ (k * v)) (2 ^ (k * d)))

imply : (a b : Bool) → T (not a || b) → T a → T b
imply true b h t = h
imply false b h t = absurd t

back : (a b : Bool) → T (not a || b) → T (not b) → T (not a)
back true true h t = t
back true false h t = h
back false b h t = tt

pub wider : {A B : Kind} {s : Bool} {m : ℕ} → T (allows A B) → In A s m → In B s m
wider {A} {B} {s} {m} ok a =
    let o = and₃ (not A.any || B.any) (not A.zer || B.zer) (leb B.lo A.lo && leb A.hi B.hi) ok in
    let l = leb→le B.lo A.lo (and_l (leb B.lo A.lo) (leb A.hi B.hi) o.2) in
    let h = leb→le A.hi B.hi (and_r (leb B.lo A.lo) (leb A.hi B.hi) o.2) in
    record {
      sign = λ t. a.sign (back A.any B.any o.0 t);
      from = elim a.from [ inl x ↦ inl (imply A.zer B.zer o.1 x.0, x.1) | inr g ↦ inr (le_trans l g) ];
      to = le_trans a.to h;
    }

unfoldable pub widen_two : {f : Format} {k : ℕ} {A B : Kind} {x y : Float} → Two f k A x y → T (within A B) → Two f k B x y
unfolding within
widen_two {f} {k} {A} {B} a ok =
    let o = and₃ (allows A B) (leb B.g A.g) (eqb (A.u + B.d) (B.u + A.d)) ok in
    let l = leb→le B.g A.g o.1 in
    record {
      s = a.s;
      m = a.m;
      n = a.n;
      first = a.first;
      second = a.second;
      in_first = wider o.0 a.in_first;
      in_second = wider o.0 a.in_second;
      grain = coarser A.g B.g l a.grain;
      grain_second = coarser A.g B.g l a.grain_second;
      tie = shift k A.u A.d B.u B.d a.m a.n (eqb→eq (A.u + B.d) (B.u + A.d) o.2) a.tie;
    }

pub clip_two : {f : Format} {k : ℕ} {A : Kind} {x y : Float} (h : ℕ) (a : Two f k A x y) → a.m ≤ h → a.n ≤ h
    → Two f k (clip_k h A) x y
unfolding clip_k
clip_two h a p q = record {
  s = a.s;
  m = a.m;
  n = a.n;
  first = a.first;
  second = a.second;
  in_first = record { sign = a.in_first.sign; from = a.in_first.from; to = p };
  in_second = record { sign = a.in_second.sign; from = a.in_second.from; to = q };
  grain = a.grain;
  grain_second = a.grain_second;
  tie = a.tie;
}

-- ---- the size
abs_fits : (f : Format) (s : Bool) (m : ℕ) (e : ℤ) → T (fits f (fin s m e)) → T (fits f (fin false m e))
unfolding fits
abs_fits f s ℕ.zero e h = h
abs_fits f s (suc m) e h = h

pub abs_units : {f : Format} {x : Float} {s : Bool} {n : ℕ} → Is f x s n → Is f (absolute x) false n
unfolding absolute
abs_units {x = nan} a = absurd a.val
abs_units {x = inf t} a = absurd a.val
abs_units {f} {x = fin t m e} a = record { fit = abs_fits f t m e a.fit; val = (refl, a.val.1) }

unfoldable pub abs_two : {f : Format} {k : ℕ} {A : Kind} {x y : Float} → Two f k A x y
    → Two f k (abs_k A) (absolute x) (absolute y)
abs_two a = record {
  s = false;
  m = a.m;
  n = a.n;
  first = abs_units a.first;
  second = abs_units a.second;
  in_first = record { sign = λ h. refl; from = a.in_first.from; to = a.in_first.to };
  in_second = record { sign = λ h. refl; from = a.in_second.from; to = a.in_second.to };
  grain = a.grain;
  grain_second = a.grain_second;
  tie = a.tie;
}

-- ---- the larger: a NaN is passed over, and of two equals the first is taken
pub number : {f : Format} {x : Float} {s : Bool} {n : ℕ} → Is f x s n → is_nan x ≡ false
unfolding is_nan
number {x = nan} a = absurd a.val
number {x = inf t} a = absurd a.val
number {x = fin t m e} a = refl

pub maximum_units : {f : Format} {x y : Float} {m n : ℕ} → Is f x false m → Is f y false n → Is f (maximum x y) false (max m n)
unfolding maximum
maximum_units {f} {x} {y} {m} {n} a b =
    subst (λ z. Is f (cond z y (cond (lt x y) y x)) false (max m n)) (sym (number a))
    (subst (λ z. Is f (cond z y x) false (max m n)) (sym (lt_units a b)) (go (ltb m n) (ltb→lt m n) (nltb→le m n)))
  where
    go : (t : Bool) → (T t → m < n) → (T (not t) → n ≤ m) → Is f (cond t y x) false (max m n)
    go true h k = let l = h tt in let e : n ≡ max m n = omega arith in subst (Is f y false) e b
    go false h k = let l = k tt in let e : m ≡ max m n = omega arith in subst (Is f x false) e a

pub max_cross : (p q a b m n : ℕ) → 0 < p → 0 < q → a * p ≡ m * q → b * p ≡ n * q → max a b * p ≡ max m n * q
max_cross p q a b m n P Q e e' =
    elim (either a b) [
      | inl h ↦ pick (le_of_mul-le-mul_right (subst₂ ◌≤◌ e e' (mul-le-mul_right p h)) Q) h
      | inr h ↦ pick' (le_of_mul-le-mul_right (subst₂ ◌≤◌ e' e (mul-le-mul_right p (le_of_lt h))) Q) (le_of_lt h)
    ]
  where
    pick : m ≤ n → a ≤ b → max a b * p ≡ max m n * q
    pick k h = let u : max a b ≡ b = omega arith in let v : n ≡ max m n = omega arith in ap (λ z. z * p) u ∙ e'
        ∙ ap (λ z. z * q) v

    pick' : n ≤ m → b ≤ a → max a b * p ≡ max m n * q
    pick' k h = let u : max a b ≡ a = omega arith in let v : m ≡ max m n = omega arith in ap (λ z. z * p) u ∙ e
        ∙ ap (λ z. z * q) v

pub max_in : {A B : Kind} {s t : Bool} {i j : ℕ} → In A s i → In B t j → In (max_k A B) false (max i j)
max_in {A} {B} {i = i} {j} a b =
    let u = floor_le a in
    let v = floor_le b in
    let y = a.to in
    let z = b.to in
    record { sign = λ t. refl; from = inr (omega arith); to = omega arith }

pub max_grain : {g h : ℕ} (m n : ℕ) → Multiple g m → Multiple h n → Multiple (min g h) (max m n)
max_grain {g} {h} m n a b =
    elim (either m n) [
      | inl l ↦ (let e : n ≡ max m n = omega arith in subst (Multiple (min g h)) e (coarser h (min g h) (least_r g h) b))
      | inr l ↦ (let e : m ≡ max m n = omega arith in subst (Multiple (min g h)) e (coarser g (min g h) (least_l g h) a))
    ]

unfoldable pub max_two : {f : Format} {k : ℕ} {A B : Kind} {x y x' y' : Float} → Two f k A x y → Two f k B x' y' → T (max_ok A B)
    → Two f k (max_k A B) (maximum x x') (maximum y y')
max_two {f} {k} {A} {B} {x} {y} {x'} {y'} a b ok =
    let w = and_l (level? A B) (not (A.any || B.any)) ok in
    let o = and_r (level? A B) (not (A.any || B.any)) ok in
    let S : a.s ≡ false = a.in_first.sign (nor_l A.any B.any o) in
    let S' : b.s ≡ false = b.in_first.sign (nor_r A.any B.any o) in
    record {
      s = false;
      m = max a.m b.m;
      n = max a.n b.n;
      first = maximum_units (subst (λ s. Is f x s a.m) S a.first) (subst (λ s. Is f x' s b.m) S' b.first);
      second = maximum_units (subst (λ s. Is f y s a.n) S a.second) (subst (λ s. Is f y' s b.n) S' b.second);
      in_first = max_in a.in_first b.in_first;
      in_second = max_in a.in_second b.in_second;
      grain = max_grain a.m b.m a.grain b.grain;
      grain_second = max_grain a.n b.n a.grain_second b.grain_second;
      tie =
          max_cross (2 ^ (k * A.d)) (2 ^ (k * A.u)) a.n b.n a.m b.m (pow_pos (k * A.d)) (pow_pos (k * A.u))
          a.tie
          (same_weight a b w);
    }

pub lit_is : (f : Format) (x : Float) → T (lit_ok f x) → Is f x (sign x) (lit_n f x)
unfolding lit_ok
lit_is f nan ok = absurd ok
lit_is f (inf s) ok = absurd ok
lit_is f (fin s m e) ok =
    let n = m * up e * 2 ^ low f in
    record {
      fit = and_l (fits f (fin s m e)) (eqb n (n / down e * down e)) ok;
      val =
          (refl, eqb→eq n (n / down e * down e) (and_r (fits f (fin s m e)) (eqb n (n / down e * down e)) ok));
    }

unfoldable pub lit_two : {f : Format} {k : ℕ} (x : Float) → T (lit_ok f x) → Two f k (same_k f (sign x) (lit_n f x)) x x
unfolding constant_two
lit_two {f} x ok = constant_two (lit_is f x ok)
