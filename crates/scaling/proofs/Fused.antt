-- The rule of `Two` for the fused multiply-add. The exact product of two floats is a whole number of units as long as their last
-- places reach so far, which a test on the grains says; then the step is a sum like any other, of any signs, and scales without a
-- bound from below.
use Rattle.std.specs.Prelude.{◌≡◌, refl, ℕ, ◌+◌, ◌-◌, ◌*◌, ◌^◌, ◌≤◌, ◌<◌, min, Bool, true, false, ◌&&◌, cond, [], ◌∷◌, T, ltb, leb, eqb, Float}
use Rattle.std.proofs.Common.{sym, ap, ap₂, ◌∙◌, subst, inl, inr, le_trans, le_of_eq, mul-one, mul-pos, mul-le-mul, mul-le-mul_right, add-le-add, add-mul, zero-lt-suc, le_refl, arith, leb→le, eqb→eq, pow-add, pow_pos}
use Rattle.std.proofs.Math.Nat.{eq_of_mul-eq-mul_right}
use Rattle.std.specs.Bool.{beq}
use Rattle.std.specs.Float.{binary64}
use Rattle.std.specs.Float.Ieee.{unlike, round}
use Rattle.std.specs.Float.Ieee.Fits.{and_l, and_r}
use Rattle.std.specs.Float.Ieee.Scale.{overflow}
use Rattle.algebra.specs.Ring.{◌:*◌, ◌≈◌, ◌⊩◌, ◌times◌≼◌}
use Rattle.algebra.proofs.Ring.{ring}
use Rattle.fused.specs.Fused.{fused}
use Rattle.fused.proofs.Laws.{fused_sum}
use Rattle.scaling.specs.Near.{near, near_mono, near_whole}
use Rattle.scaling.specs.Cross.{add_n, add_s, add_n_cross, add_s_cross}
use Rattle.scaling.specs.Units.{Is, round_units, sum_is}
use Rattle.scaling.specs.Kind.{Kind, In}
use Rattle.scaling.proofs.Kind.{and₃}
use Rattle.scaling.specs.Last.{Multiple}
use Rattle.scaling.proofs.Last.{coarser, sum_grain, sum_from}
use Rattle.scaling.proofs.Within.{least_l, least_r}
use Rattle.scaling.specs.Two.{Two}
use Rattle.scaling.proofs.Two.{twice, under, products}
use Rattle.scaling.specs.Fused.{Whole, fused_k, fused_ok}

-- ---- the step on units: x * y + z, where the product of the units is p * 2 ^ 1074
module _ {x y z : Float} {s t u : Bool} {l m n : ℕ} (X : Is binary64 x s l) (Y : Is binary64 y t m) (Z : Is binary64 z u n)
    (p : ℕ)
    (whole : l * m ≡ p * 2 ^ 1074) where
  abbrev v : Bool
  v = unlike s t

  abbrev L : ℕ
  L = 2 ^ 1074

  left : (l m p L : ℕ) → l * m ≡ p * L → l * m * L * 1 ≡ p * (L * L)
  left l m p L h =
      mul-one (l * m * L) ∙ ring 4 (λ l m p L. (L times l :* m ≼ p :* L) ∷ [] ⊩ l :* m :* L ≈ p :* (L :* L)) tt l m p L h

  pub fused_units : near binary64 (add_n v p u n) 1 < overflow binary64
      → Is binary64 (fused x y z) (add_s v p u n) (near binary64 (add_n v p u n) 1)
  fused_units h =
      let q = L * L in
      let Q : 0 < q = mul-pos (pow_pos 1074) (pow_pos 1074) in
      let one : 0 < 1 = zero-lt-suc 0 in
      let a = l * m * L in
      let b = n * (L * L) in
      let N = add_n_cross 1 q a b p n one Q (left l m p L whole) (mul-one b) v u in
      let S = add_s_cross 1 q a b p n one Q (left l m p L whole) (mul-one b) v u in
      let e = fused_sum x y z s t u l m n L L L (pow_pos 1074) (pow_pos 1074) (pow_pos 1074) X.val Y.val Z.val in
      subst (λ r. Is binary64 r (add_s v p u n) (near binary64 (add_n v p u n) 1)) (sym (e ∙ sum_is binary64 v a u b (q * L)))
      (subst (λ b'. Is binary64 (round binary64 (add_s v a u b) (add_n v a u b) (q * L)) b' (near binary64 (add_n v p u n) 1)) S
      (round_units binary64 (add_s v a u b) (add_n v a u b) (q * L) (add_n v p u n) 1 (mul-pos Q (pow_pos 1074)) one
      (scaled (add_n v a u b) (add_n v p u n) L N) h))
    where
      scaled : (a n L : ℕ) → a * 1 ≡ n * (L * L) → a * L * 1 ≡ n * (L * L * L)
      scaled a n L e =
          mul-one (a * L) ∙ ring 3 (λ a n L. (L times a ≼ n :* (L :* L)) ∷ [] ⊩ a :* L ≈ n :* (L :* L :* L)) tt a n L
          (sym (mul-one a) ∙ e)

whole_of : (g h m n : ℕ) → Multiple g m → Multiple h n → 1074 ≤ g + h → Whole (g + h - 1074) m n
whole_of g h m n a b l =
    let i : ℕ = g + h - 1074 in
    let e : 2 ^ g * 2 ^ h ≡ 2 ^ i * 2 ^ 1074 =
    sym (pow-add 2 g h) ∙ ap (λ (z : ℕ). 2 ^ z) (let r : g + h ≡ i + 1074 = omega arith in r) ∙ pow-add 2 i 1074 in
    record {
      p = a.c * b.c * 2 ^ i;
      is =
          ap₂ ◌*◌ a.is b.is
          ∙ ring 6 (λ c d g h i L. (c :* d times g :* h ≼ i :* L) ∷ []
          ⊩ c :* g :* (d :* h) ≈ c :* d :* i :* L) tt a.c b.c (2 ^ g) (2 ^ h) (2 ^ i) (2 ^ 1074) e;
      grain = record { c = a.c * b.c; is = refl };
    }

fused_in : {A B C : Kind} {s t u : Bool} {l m n : ℕ} → In A s l → In B t m → In C u n → (w : Whole (A.g + B.g - 1074) l m)
    → Multiple C.g n
    → In (fused_k A B C) (add_s (unlike s t) w.p u n) (near binary64 (add_n (unlike s t) w.p u n) 1)
unfolding fused_k
fused_in {A} {B} {C} {s} {t} {u} {l} {m} {n} a b c w M =
    let v = unlike s t in
    let g = A.g + B.g - 1074 in
    let h = min g C.g in
    record {
      sign = λ i. absurd i;
      from =
          elim (sum_from binary64 v w.p u n h (coarser g h (least_l g C.g) w.grain)
          (coarser C.g h (least_r g C.g) M)) [
            | inl z ↦ inl (tt, z)
            | inr k ↦ inr k
          ];
      to =
          near_mono binary64 (add_n v w.p u n) 1 (A.hi * B.hi + C.hi * 2 ^ 1074) (2 ^ 1074) (zero-lt-suc 0) (pow_pos 1074)
          (le_trans (mul-le-mul_right (2 ^ 1074) (sum_le v u w.p n))
          (le_trans (le_of_eq (add-mul w.p n (2 ^ 1074) ∙ ap (λ z. z + n * 2 ^ 1074) (sym w.is)))
          (le_trans (add-le-add (mul-le-mul a.to b.to) (mul-le-mul_right (2 ^ 1074) c.to))
          (le_of_eq (sym (mul-one _))))));
    }
  where
    sum_le : (v u : Bool) (p n : ℕ) → add_n v p u n ≤ p + n
    sum_le v u p n = go (beq v u) (ltb p n)
      where
        go : (x y : Bool) → cond x (p + n) (cond y (n - p) (p - n)) ≤ p + n
        go true y = le_refl (p + n)
        go false true = omega arith
        go false false = omega arith

pub fused_two : {k : ℕ} {A B C : Kind} {x y z x' y' z' : Float} → Two binary64 k A x x' → Two binary64 k B y y'
    → Two binary64 k C z z'
    → T (fused_ok A B C) → Two binary64 k (fused_k A B C) (fused x y z) (fused x' y' z')
unfolding fused_k fused_ok
fused_two {k} {A} {B} {C} {x} {y} {z} {x'} {y'} {z'} a b c ok =
    let e₁ = eqb (A.u + B.u) C.u in
    let e₂ = eqb (A.d + B.d) C.d in
    let o = and₃ (e₁ && e₂) (ltb (fused_k A B C).hi (overflow binary64)) (leb 1074 (A.g + B.g)) ok in
    let U = eqb→eq (A.u + B.u) C.u (and_l e₁ e₂ o.0) in
    let D = eqb→eq (A.d + B.d) C.d (and_r e₁ e₂ o.0) in
    let l = leb→le 1074 (A.g + B.g) o.2 in
    let w = whole_of A.g B.g a.m b.m a.grain b.grain l in
    let w' = whole_of A.g B.g a.n b.n a.grain_second b.grain_second l in
    let g = A.g + B.g - 1074 in
    let h = min g C.g in
    let v = unlike a.s b.s in
    let p = 2 ^ (k * C.d) in
    let q = 2 ^ (k * C.u) in
    let P = pow_pos (k * C.d) in
    let Q = pow_pos (k * C.u) in
    let e =
    product_tie k A.u A.d B.u B.d C.u C.d a.m a.n b.m b.n w.p w'.p U D a.tie b.tie
    w.is w'.is in
    let S = add_s_cross p q w'.p c.n w.p c.m P Q e c.tie v c.s in
    let N = add_n_cross p q w'.p c.n w.p c.m P Q e c.tie v c.s in
    let i = fused_in a.in_first b.in_first c.in_first w c.grain in
    let j = fused_in a.in_second b.in_second c.in_second w' c.grain_second in
    let x₁ = fused_units a.first b.first c.first w.p w.is (under binary64 i o.1) in
    let y₁ = fused_units a.second b.second c.second w'.p w'.is (under binary64 j o.1) in
    let n' = near binary64 (add_n v w'.p c.s c.n) 1 in
    record {
      s = add_s v w.p c.s c.m;
      m = near binary64 (add_n v w.p c.s c.m) 1;
      n = n';
      first = x₁;
      second = subst (λ r. Is binary64 (fused x' y' z') r n') S y₁;
      in_first = i;
      in_second = subst (λ r. In (fused_k A B C) r n') S j;
      grain =
          sum_grain binary64 v w.p c.s c.m h (coarser g h (least_l g C.g) w.grain)
          (coarser C.g h (least_r g C.g) c.grain);
      grain_second =
          sum_grain binary64 v w'.p c.s c.n h (coarser g h (least_l g C.g) w'.grain)
          (coarser C.g h (least_r g C.g) c.grain_second);
      tie =
          sym (near_whole binary64 (add_n v w'.p c.s c.n) (k * C.d))
          ∙ ap (λ r. near binary64 r 1) N
          ∙ near_whole binary64 (add_n v w.p c.s c.m) (k * C.u);
    }
  where
    product_tie : (k au ad bu bd cu cd m n m' n' p p' : ℕ) → au + bu ≡ cu → ad + bd ≡ cd → n * 2 ^ (k * ad) ≡ m * 2 ^ (k * au)
        → n' * 2 ^ (k * bd) ≡ m' * 2 ^ (k * bu) → m * m' ≡ p * 2 ^ 1074 → n * n' ≡ p' * 2 ^ 1074
        → p' * 2 ^ (k * cd) ≡ p * 2 ^ (k * cu)
    product_tie k au ad bu bd cu cd m n m' n' p p' U D e e' w w' =
        let L = 2 ^ 1074 in
        eq_of_mul-eq-mul_right L (pow_pos 1074) (p' * 2 ^ (k * cd)) (p * 2 ^ (k * cu))
        (ap (λ z. p' * z * L) (ap (λ z. 2 ^ (k * z)) (sym D) ∙ twice k ad bd)
        ∙ ring 4 (λ p' L nn d. (d times p' :* L ≼ nn) ∷ [] ⊩ p' :* d :* L ≈ nn :* d) tt p' L (n * n')
        (2 ^ (k * ad) * 2 ^ (k * bd)) (sym w')
        ∙ sym (mul-one _)
        ∙ products n m n' m' (2 ^ (k * ad)) (2 ^ (k * au)) (2 ^ (k * bd)) (2 ^ (k * bu)) 1 e e'
        ∙ mul-one _
        ∙ ring 4 (λ p L mm u. (u times mm ≼ p :* L) ∷ [] ⊩ mm :* u ≈ p :* u :* L) tt p L (m * m') (2 ^ (k * au) * 2 ^ (k * bu)) w
        ∙ ap (λ z. p * z * L) (sym (twice k au bu) ∙ ap (λ z. 2 ^ (k * z)) U))
