-- Two runs of one computation, the second with its arguments multiplied by powers of two. `Two f k K x y`: x of the first run and
-- y of the second are floats of the kind K, of one sign, and y is x times 2 ^ (k * K.u) / 2 ^ (k * K.d), exactly. Each
-- operation keeps this: the rules below, one for each, ask for a test that computes.
use Rattle.std.specs.Prelude.{◌≡◌, ◌⊎◌, ℕ, ◌+◌, ◌-◌, ◌*◌, ◌^◌, ◌<◌, min, Bool, not, ◌&&◌, ◌||◌, [], ◌∷◌, T, leb, eqb, Float}
use Rattle.std.proofs.Math.Path.{refl}
use Rattle.std.proofs.Common.{sym, ap, ◌∙◌, subst, inl, inr, lt_of_lt_of_le, lt_of_le_of_lt, mul-add, ltb→lt, eqb→eq, pow-add, pow_pos}
use Rattle.std.proofs.Math.Dec.{ltb}
use Rattle.std.specs.Float.{Format}
use Rattle.std.specs.Float.Ieee.{prec, low, unlike, add, mul, div, lt}
use Rattle.std.specs.Float.Ieee.Fits.{and_l, and_r}
use Rattle.std.specs.Float.Ieee.Scale.{overflow}
use Rattle.algebra.specs.Ring.{◌:*◌, ◌≈◌, ◌⊩◌, ◌times◌≼◌}
use Rattle.algebra.proofs.Ring.{ring}
use Rattle.scaling.specs.Near.{near, near_whole}
use Rattle.scaling.specs.Cross.{add_n, add_s, add_n_cross, add_s_cross, below_cross}
use Rattle.scaling.specs.Units.{Is, mul_units, div_units, add_units, lt_units}
use Rattle.scaling.specs.Kind.{Kind, In, floor, level?, mul_k, mul_ok, div_k, div_ok, plus_k, plus_ok}
use Rattle.scaling.proofs.Kind.{near_tie, and₃, or_cases}
use Rattle.scaling.specs.Kind.{sum_k}
use Rattle.scaling.specs.Kind.{sum_ok, nudge_k, nudge_ok, last}
use Rattle.scaling.specs.Last.{Digits, Multiple}
use Rattle.scaling.proofs.Last.{digits_of, coarser, last_grain, sum_grain}
use Rattle.scaling.proofs.Within.{mul_in, mul_norm, div_in, div_norm, divisor, plus_in, sum_in, nudge_in, least_l, least_r}
use Rattle.scaling.specs.Two.{Two}

-- ---- powers
pub twice : (k a b : ℕ) → 2 ^ (k * (a + b)) ≡ 2 ^ (k * a) * 2 ^ (k * b)
twice k a b = ap (λ z. 2 ^ z) (mul-add k a b) ∙ pow-add 2 (k * a) (k * b)

pub under : (f : Format) {K : Kind} {s : Bool} {m : ℕ} → In K s m → T (ltb K.hi (overflow f)) → m < overflow f
under f {K} a t = lt_of_le_of_lt a.to (ltb→lt K.hi (overflow f) t)

-- where the weights cancel, the powers are the same; elsewhere a test says that both fractions are normal
pub powers : (k a b : ℕ) (t : Bool) {X : Type 0} → (T t → X) → T (eqb a b || t) → (k * a ≡ k * b) ⊎ X
powers k a b t g h = elim (or_cases (eqb a b) t h) [ inl w ↦ inl (ap (λ z. k * z) (eqb→eq a b w)) | inr n ↦ inr (g n) ]

-- ---- the product
-- n / m is p / q, and n' / m' is p' / q'
pub products : (n m n' m' p q p' q' l : ℕ) → n * p ≡ m * q → n' * p' ≡ m' * q' → n * n' * (p * p') * l ≡ m * m' * (q * q') * l
products =
    ring 9 (λ n m n' m' p q p' q' l. (n' :* p' :* l times n :* p ≼ m :* q) ∷ (m :* q :* l times n' :* p' ≼ m' :* q') ∷ []
    ⊩ n :* n' :* (p :* p') :* l ≈ m :* m' :* (q :* q') :* l) tt

unfoldable pub mul_two : {f : Format} {k : ℕ} {A B : Kind} {x y x' y' : Float} → Two f k A x y → Two f k B x' y' → T (mul_ok f A B)
    → Two f k (mul_k f A B) (mul f x x') (mul f y y')
unfolding mul_k mul_ok
mul_two {f} {k} {A} {B} a b ok =
    let D = 2 ^ low f in
    let D-pos = pow_pos (low f) in
    let normal = leb (2 ^ (prec f - 1) * D) (A.lo * B.lo) in
    let small = and_l (ltb (mul_k f A B).hi (overflow f)) _ ok in
    let i = mul_in f a.in_first b.in_first in
    let j = mul_in f a.in_second b.in_second in
    let x = mul_units a.first b.first (under f i small) in
    let y = mul_units a.second b.second (under f j small) in
    record {
      s = unlike a.s b.s;
      m = near f (a.m * b.m) D;
      n = near f (a.n * b.n) D;
      first = x;
      second = y;
      in_first = i;
      in_second = j;
      grain = last_grain i (digits_of x);
      grain_second = last_grain j (digits_of y);
      tie =
          near_tie f (a.m * b.m) D (a.n * b.n) D (k * (A.u + B.u)) (k * (A.d + B.d)) D-pos D-pos
          (ap (λ z. a.n * b.n * z * D) (twice k A.d B.d)
          ∙ products a.n a.m b.n b.m _ _ _ _ D a.tie b.tie
          ∙ ap (λ z. a.m * b.m * z * D) (sym (twice k A.u B.u)))
          (powers k (A.u + B.u) (A.d + B.d) normal
          (λ h. (mul_norm f a.in_first b.in_first h, mul_norm f a.in_second b.in_second h))
          (and_r (ltb (mul_k f A B).hi (overflow f)) _ ok));
    }

-- ---- the quotient
pub quotients : (n m n' m' p q p' q' l : ℕ) → n * p ≡ m * q → n' * p' ≡ m' * q' → n * l * (p * q') * m' ≡ m * l * (q * p') * n'
quotients n m n' m' p q p' q' l e e' =
    ring 9 (λ n m n' m' p q p' q' l. (l :* q' :* m' times n :* p ≼ m :* q) ∷ (m :* q :* l times m' :* q' ≼ n' :* p') ∷ []
    ⊩ n :* l :* (p :* q') :* m' ≈ m :* l :* (q :* p') :* n') tt
    n m n' m' p q p' q' l e (sym e')

unfoldable pub div_two : {f : Format} {k : ℕ} {A B : Kind} {x y x' y' : Float} → Two f k A x y → Two f k B x' y' → T (div_ok f A B)
    → Two f k (div_k f A B) (div f x x') (div f y y')
unfolding div_k div_ok
div_two {f} {k} {A} {B} a b ok =
    let l = 2 ^ low f in
    let normal = leb (2 ^ (prec f - 1) * B.hi) (A.lo * l) in
    let o = and₃ (ltb 0 (floor B)) (ltb (div_k f A B).hi (overflow f)) (eqb (A.u + B.d) (A.d + B.u) || normal) ok in
    let i = div_in f a.in_first b.in_first ok in
    let j = div_in f a.in_second b.in_second ok in
    let M = let r = divisor f a.in_first b.in_first ok in lt_of_lt_of_le r.0 r.1 in
    let N = let r = divisor f a.in_second b.in_second ok in lt_of_lt_of_le r.0 r.1 in
    let x = div_units a.first b.first M (under f i o.1) in
    let y = div_units a.second b.second N (under f j o.1) in
    record {
      s = unlike a.s b.s;
      m = near f (a.m * l) b.m;
      n = near f (a.n * l) b.n;
      first = x;
      second = y;
      in_first = i;
      in_second = j;
      grain = last_grain i (digits_of x);
      grain_second = last_grain j (digits_of y);
      tie =
          near_tie f (a.m * l) b.m (a.n * l) b.n (k * (A.u + B.d)) (k * (A.d + B.u)) M N
          (ap (λ z. a.n * l * z * b.m) (twice k A.d B.u)
          ∙ quotients a.n a.m b.n b.m _ _ _ _ l a.tie b.tie
          ∙ ap (λ z. a.m * l * z * b.n) (sym (twice k A.u B.d)))
          (powers k (A.u + B.d) (A.d + B.u) normal
          (λ h. (div_norm f a.in_first b.in_first h, div_norm f a.in_second b.in_second h))
          o.2);
    }

-- ---- sums: of one weight, and of a kind K with that weight
module _ {f : Format} {k : ℕ} {A B : Kind} {x₀ y₀ x' y' : Float} (a : Two f k A x₀ y₀) (b : Two f k B x' y') where
  pub same_weight : T (level? A B) → b.n * 2 ^ (k * A.d) ≡ b.m * 2 ^ (k * A.u)
  same_weight t =
      let e = eqb→eq A.u B.u (and_l (eqb A.u B.u) (eqb A.d B.d) t) in
      let e' = eqb→eq A.d B.d (and_r (eqb A.u B.u) (eqb A.d B.d) t) in
      ap (λ z. b.n * 2 ^ (k * z)) e' ∙ b.tie ∙ ap (λ z. b.m * 2 ^ (k * z)) (sym e)

  -- its grain: the last place of its bound, or what divides both
  pub grained : (K : Kind) (s t r : Bool) (m n : ℕ) → In K r (near f (add_n s m t n) 1) → Digits f (near f (add_n s m t n) 1)
      → Multiple A.g m
      → Multiple B.g n
      → (K.g ≡ last f K.lo) ⊎ (K.g ≡ min A.g B.g) → Multiple K.g (near f (add_n s m t n) 1)
  grained K s t r m n i D M N (inl e) = subst (λ z. Multiple z (near f (add_n s m t n) 1)) (sym e) (last_grain i D)
  grained K s t r m n i D M N (inr e) =
      let p = min A.g B.g in
      subst (λ z. Multiple z (near f (add_n s m t n) 1)) (sym e)
      (sum_grain f s m t n p (coarser A.g p (least_l A.g B.g) M) (coarser B.g p (least_r A.g B.g) N))

  unfoldable pub summed : (K : Kind) → K.u ≡ A.u → K.d ≡ A.d → T (level? A B) → T (ltb K.hi (overflow f))
      → In K (add_s a.s a.m b.s b.m) (near f (add_n a.s a.m b.s b.m) 1)
      → In K (add_s a.s a.n b.s b.n) (near f (add_n a.s a.n b.s b.n) 1)
      → (K.g ≡ last f K.lo) ⊎ (K.g ≡ min A.g B.g)
      → Two f k K (add f x₀ x') (add f y₀ y')
  summed K U D w small i j G =
      let p = 2 ^ (k * A.d) in
      let q = 2 ^ (k * A.u) in
      let S = add_s_cross p q a.n b.n a.m b.m (pow_pos (k * A.d)) (pow_pos (k * A.u)) a.tie (same_weight w) a.s
      b.s in
      let N = add_n_cross p q a.n b.n a.m b.m (pow_pos (k * A.d)) (pow_pos (k * A.u)) a.tie (same_weight w) a.s
      b.s in
      let x = add_units a.first b.first (under f i small) in
      let y = add_units a.second b.second (under f j small) in
      record {
        s = add_s a.s a.m b.s b.m;
        m = near f (add_n a.s a.m b.s b.m) 1;
        n = near f (add_n a.s a.n b.s b.n) 1;
        first = x;
        second = subst (λ z. Is f (add f y₀ y') z (near f (add_n a.s a.n b.s b.n) 1)) S y;
        in_first = i;
        in_second = subst (λ z. In K z (near f (add_n a.s a.n b.s b.n) 1)) S j;
        grain = grained K a.s b.s _ a.m b.m i (digits_of x) a.grain b.grain G;
        grain_second = grained K a.s b.s _ a.n b.n j (digits_of y) a.grain_second b.grain_second G;
        tie =
            ap (λ z. near f (add_n a.s a.n b.s b.n) 1 * 2 ^ (k * z)) D
            ∙ sym (near_whole f (add_n a.s a.n b.s b.n) (k * A.d))
            ∙ ap (λ z. near f z 1) N
            ∙ near_whole f (add_n a.s a.m b.s b.m) (k * A.u)
            ∙ ap (λ z. near f (add_n a.s a.m b.s b.m) 1 * 2 ^ (k * z)) (sym U);
      }

  unfoldable pub plus_two : T (plus_ok f A B) → Two f k (plus_k f A B) (add f x₀ x') (add f y₀ y')
  unfolding plus_k plus_ok
  plus_two ok =
      let o = and₃ (level? A B) (ltb (plus_k f A B).hi (overflow f)) (not (A.any || B.any)) ok in
      summed (plus_k f A B) refl refl o.0 o.1 (plus_in f a.in_first b.in_first ok)
      (plus_in f a.in_second b.in_second ok) (inl refl)

  unfoldable pub nudge_two : T (nudge_ok f A B) → Two f k (nudge_k f A B) (add f x₀ x') (add f y₀ y')
  unfolding nudge_k nudge_ok
  nudge_two ok =
      let o = and₃ (level? A B) (ltb (nudge_k f A B).hi (overflow f)) (not A.any && ltb B.hi (floor A)) ok in
      summed (nudge_k f A B) refl refl o.0 o.1 (nudge_in f a.in_first b.in_first ok)
      (nudge_in f a.in_second b.in_second ok)
      (inl refl)

  unfoldable pub sum_two : T (sum_ok f A B) → Two f k (sum_k f A B) (add f x₀ x') (add f y₀ y')
  unfolding sum_k sum_ok
  sum_two ok =
      summed (sum_k f A B) refl refl (and_l (level? A B) (ltb (sum_k f A B).hi (overflow f)) ok)
      (and_r (level? A B) (ltb (sum_k f A B).hi (overflow f)) ok)
      (sum_in f a.in_first b.in_first a.grain b.grain)
      (sum_in f a.in_second b.in_second a.grain_second b.grain_second)
      (inr refl)

  -- ---- a comparison says the same in both runs
  pub lt_two : T (level? A B) → lt x₀ x' ≡ lt y₀ y'
  lt_two w =
      lt_units a.first b.first
      ∙ sym (below_cross (2 ^ (k * A.d)) (2 ^ (k * A.u)) a.n b.n a.m b.m (pow_pos (k * A.d)) (pow_pos (k * A.u))
      a.tie
      (same_weight w) a.s b.s)
      ∙ sym (lt_units a.second b.second)
