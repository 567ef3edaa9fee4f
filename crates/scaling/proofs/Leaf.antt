-- Two rules more. A difference whose sign a test has shown is above zero. And a function of a float that is the same in both runs
-- gives the same in both: of it only bounds are asked.
use Rattle.std.specs.Prelude.{◌≡◌, refl, ◌⊎◌, ℕ, ◌-◌, ◌*◌, ◌^◌, ◌<◌, Bool, true, false, not, ◌&&◌, ◌||◌, cond, T, ltb, Float}
use Rattle.std.proofs.Common.{sym, ap, ap₂, ◌∙◌, subst, inl, inr, le_trans, le_of_eq, lt_irrefl, lt_of_lt_of_le, zero-lt-suc, arith, ltb→lt}
use Rattle.std.proofs.Math.Pow.{pow-lt}
use Rattle.std.specs.Float.{nan, Format}
use Rattle.std.specs.Float.Ieee.{sub, lt, below}
use Rattle.std.specs.Float.Ieee.Fits.{and_l, and_r}
use Rattle.std.specs.Float.Ieee.Scale.{overflow}
use Rattle.scaling.specs.Near.{near, digits, near_exact}
use Rattle.scaling.specs.Cross.{add_n, add_s}
use Rattle.scaling.specs.Units.{Is, lt_units}
use Rattle.scaling.specs.Kind.{Kind, In, level?, last, sum_k, sum_ok, neg_k}
use Rattle.scaling.proofs.Kind.{near_le, nor_l, nor_r}
use Rattle.scaling.specs.Last.{Multiple}
use Rattle.scaling.proofs.Last.{digits_of, last_grain}
use Rattle.scaling.proofs.Within.{sum_in}
use Rattle.scaling.specs.Two.{Two}
use Rattle.scaling.proofs.Two.{summed, lt_two}
use Rattle.scaling.proofs.One.{neg_two}
use Rattle.scaling.proofs.Tests.{same_float}
use Rattle.scaling.specs.Leaf.{Leaf, gap_k, gap_ok}

-- a whole number of units above zero is not rounded to zero
pub some : (f : Format) (c : ℕ) → 0 < c → 0 < near f c 1
some f c h =
    lt_of_lt_of_le (zero-lt-suc 0)
    (le_trans (le_of_eq (sym (near_exact f 1 0 1 (zero-lt-suc 0) (pow-lt (digits f))))) (near_le f 1 (zero-lt-suc 0) h))

-- the exact difference of n and a smaller m, as `add` sees it
apart : (m n : ℕ) → m < n → (add_s false n true m ≡ false) × (0 < add_n false n true m)
apart m n h = go (ltb n m) (ltb→lt n m)
  where
    go : (b : Bool) → (T b → n < m) → (cond b true false ≡ false) × (0 < cond b (m - n) (n - m))
    go true k = absurd (lt_irrefl n (let l = k tt in let r : n < n = omega arith in r))
    go false k = (refl, omega arith)

pub gap_in : (f : Format) (A B : Kind) {s t : Bool} {m n : ℕ} → s ≡ false → t ≡ true → m < n
    → In (sum_k f B (neg_k A)) (add_s s n t m) (near f (add_n s n t m) 1) → In (gap_k f B A) (add_s s n t m) (near f (add_n s n t m) 1)
unfolding gap_k sum_k
gap_in f A B {s} {t} {m} {n} S N h i =
    let r = apart m n h in
    record {
      sign = λ z. ap₂ (λ s t. add_s s n t m) S N ∙ r.0;
      from =
          elim i.from [
            | inl p ↦
                absurd (lt_irrefl 0 (subst (λ z. 0 < z) p.1
                (some f (add_n s n t m) (subst (λ z. 0 < z) (sym (ap₂ (λ s t. add_n s n t m) S N)) r.1))))
            | inr l ↦ inr l
          ];
      to = i.to;
    }

unfoldable pub gap_two : {f : Format} {k : ℕ} {A B : Kind} {x y x' y' : Float} (a : Two f k A x x') (b : Two f k B y y')
    → T (lt x y) → T (level? A B)
    → T (gap_ok f B A) → Two f k (gap_k f B A) (sub f y x) (sub f y' x')
unfolding sub gap_k gap_ok sum_k sum_ok neg_two summed
gap_two {f} {k} {A} {B} a b t w ok =
    let c = neg_two a in
    let o = and_l (sum_ok f B (neg_k A)) (not (A.any || B.any)) ok in
    let p = and_r (sum_ok f B (neg_k A)) (not (A.any || B.any)) ok in
    let S : a.s ≡ false = a.in_first.sign (nor_l A.any B.any p) in
    let S' : b.s ≡ false = b.in_first.sign (nor_r A.any B.any p) in
    let h = ltb→lt a.m b.m (subst T (lt_units a.first b.first ∙ ap₂ (λ s t. below s a.m t b.m) S S') t) in
    let h' = ltb→lt a.n b.n
    (subst T (lt_two a b w ∙ lt_units a.second b.second ∙ ap₂ (λ s t. below s a.n t b.n) S S') t) in
    let N : not a.s ≡ true = ap not S in
    summed b c (gap_k f B A) refl refl (and_l (level? B (neg_k A)) (ltb (sum_k f B (neg_k A)).hi (overflow f)) o)
    (and_r (level? B (neg_k A)) (ltb (sum_k f B (neg_k A)).hi (overflow f)) o)
    (gap_in f A B S' N h (sum_in f b.in_first c.in_first b.grain c.grain))
    (gap_in f A B S' N h' (sum_in f b.in_second c.in_second b.grain_second c.grain_second)) (inr refl)

-- its units: the difference, rounded
pub gap_units : {f : Format} {k : ℕ} {A B : Kind} {x y x' y' : Float} (a : Two f k A x x') (b : Two f k B y y') (t : T (lt x y))
    (w : T (level? A B))
    (ok : T (gap_ok f B A))
    → (a.m < b.m) × (a.n < b.n) × ((gap_two a b t w ok).m ≡ near f (b.m - a.m) 1)
    × ((gap_two a b t w ok).n ≡ near f (b.n - a.n) 1)
unfolding gap_two gap_ok
gap_units {f} {k} {A} {B} a b t w ok =
    let p = and_r (sum_ok f B (neg_k A)) (not (A.any || B.any)) ok in
    let S : a.s ≡ false = a.in_first.sign (nor_l A.any B.any p) in
    let S' : b.s ≡ false = b.in_first.sign (nor_r A.any B.any p) in
    let h = ltb→lt a.m b.m (subst T (lt_units a.first b.first ∙ ap₂ (λ s t. below s a.m t b.m) S S') t) in
    let h' = ltb→lt a.n b.n
    (subst T (lt_two a b w ∙ lt_units a.second b.second ∙ ap₂ (λ s t. below s a.n t b.n) S S') t) in
    let at : (m n : ℕ) → m < n → near f (add_n b.s n (not a.s) m) 1 ≡ near f (n - m) 1 =
    λ m n l. ap (λ z. near f z 1) (ap₂ (λ s t. add_n s n (not t) m) S' S ∙ larger m n l) in
    (h, h', at a.m b.m h, at a.n b.n h')
  where
    larger : (m n : ℕ) → m < n → add_n false n true m ≡ n - m
    larger m n h = go (ltb n m) (ltb→lt n m)
      where
        go : (b : Bool) → (T b → n < m) → cond b (m - n) (n - m) ≡ n - m
        go true k = absurd (lt_irrefl n (let l = k tt in let r : n < n = omega arith in r))
        go false k = refl

pub leaf_two : {f : Format} {k : ℕ} (g : Float → Float) {A B : Kind} {x y : Float} → Leaf f g A B → A.u ≡ A.d → B.u ≡ B.d
    → B.g ≡ last f B.lo
    → Two f k A x y → ((g x ≡ nan) × (g y ≡ nan)) ⊎ Two f k B (g x) (g y)
leaf_two {f} {k} g {A} {B} {x} {y} L e e' q a =
    subst (λ z. ((g x ≡ nan) × (g z ≡ nan)) ⊎ Two f k B (g x) (g z)) (same_float a e)
    (elim (L x (record { s = a.s; n = a.m; is = a.first; within = a.in_first })) [
      | inl z ↦ inl (z, z)
      | inr v ↦
          inr
          (let m = subst (λ z. Multiple z v.n) (sym q) (last_grain v.within (digits_of v.is)) in
          record {
            s = v.s;
            m = v.n;
            n = v.n;
            first = v.is;
            second = v.is;
            in_first = v.within;
            in_second = v.within;
            grain = m;
            grain_second = m;
            tie = ap (λ z. v.n * 2 ^ (k * z)) (sym e');
          })
    ])
