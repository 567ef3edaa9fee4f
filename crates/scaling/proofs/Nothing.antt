-- A zero of either sign, the same in both runs: a product with it is one, and in a sum it changes nothing.
use Rattle.std.specs.Prelude.{◌≡◌, ℕ, zero, suc, ◌+◌, ◌-◌, ◌*◌, ◌^◌, ◌<◌, Bool, true, false, not, ◌&&◌, cond, T, ltb, ℤ, Float}
use Rattle.std.proofs.Math.Path.{refl}
use Rattle.std.proofs.Common.{sym, ap, ◌∙◌, subst, subst₂, inl, zero-le, zero-add, zero-mul, zero-lt-suc, lt_of_lt_of_le, lt_irrefl, mul-zero, mul-pos, arith, T_not, ltb→lt, lt→ltb, pow_pos}
use Rattle.std.specs.Float.{fin, Format, binary64}
use Rattle.std.specs.Float.Ieee.{low, up, down, unlike, add, mul}
use Rattle.std.specs.Float.Ieee.Fits.{up_pos}
use Rattle.std.specs.Float.Ieee.Scale.{overflow}
use Rattle.scaling.specs.Near.{near, near_zero_lem}
use Rattle.scaling.specs.Cross.{add_n, add_s}
use Rattle.root.specs.Root.{root}
use Rattle.scaling.specs.Units.{Is, form, mul_units, add_units}
use Rattle.scaling.specs.Kind.{Kind, In, floor}
use Rattle.scaling.proofs.Kind.{floor_le}
use Rattle.scaling.proofs.Last.{digits_of}
use Rattle.scaling.proofs.Lead.{on_grid}
use Rattle.scaling.specs.Two.{Two}
use Rattle.scaling.proofs.Two.{under}
use Rattle.scaling.specs.Nothing.{Nothing}

no_product : (f : Format) {x y : Float} {s t : Bool} {n : ℕ} → Is f x s 0 → Is f y t n → 0 < overflow f
    → Is f (mul f x y) (unlike s t) 0
no_product f {x} {y} {s} {t} {n} X Y o =
    let e : near f (0 * n) (2 ^ low f) ≡ 0 = ap (λ (z : ℕ). near f z (2 ^ low f)) (zero-mul n)
    ∙ near_zero_lem f (2 ^ low f) (pow_pos (low f)) in
    subst (Is f (mul f x y) (unlike s t)) e (mul_units X Y (subst (λ (z : ℕ). z < overflow f) (sym e) o))

-- ---- a float above zero and a zero, in either order
zero_first : (f : Format) {x w : Float} {s : Bool} {n : ℕ} → Is f x s 0 → Is f w false n → 0 < n → n < overflow f
    → Is f (add f x w) false n
zero_first f {x} {w} {s} {n} X W h o = go s X
  where
    same : near f n 1 ≡ n
    same = on_grid (digits_of W)

    go : (s : Bool) → Is f x s 0 → Is f (add f x w) false n
    go false X =
        let e : near f (0 + n) 1 ≡ n = ap (λ (z : ℕ). near f z 1) (zero-add n) ∙ same in
        subst (Is f (add f x w) false) e (add_units X W (subst (λ (z : ℕ). z < overflow f) (sym e) o))
    go true X =
        let l = lt→ltb 0 n h in
        let u : add_n true 0 false n ≡ n = pick (ltb 0 n) l in
        let v : add_s true 0 false n ≡ false = pick' (ltb 0 n) l in
        let e : near f (add_n true 0 false n) 1 ≡ n = ap (λ (z : ℕ). near f z 1) u ∙ same in
        subst₂ (Is f (add f x w)) v e (add_units X W (subst (λ (z : ℕ). z < overflow f) (sym e) o))
      where
        pick : (b : Bool) → T b → cond b (n - 0) (0 - n) ≡ n
        pick true t = omega arith
        pick false t = absurd t

        pick' : (b : Bool) → T b → cond b false (true && ltb n 0) ≡ false
        pick' true t = refl
        pick' false t = absurd t

zero_last : (f : Format) {x w : Float} {s : Bool} {n : ℕ} → Is f x s 0 → Is f w false n → n < overflow f
    → Is f (add f w x) false n
zero_last f {x} {w} {s} {n} X W o = go s X
  where
    same : near f n 1 ≡ n
    same = on_grid (digits_of W)

    go : (s : Bool) → Is f x s 0 → Is f (add f w x) false n
    go false X =
        let u : n + 0 ≡ n = omega arith in
        let e : near f (n + 0) 1 ≡ n = ap (λ (z : ℕ). near f z 1) u ∙ same in
        subst (Is f (add f w x) false) e (add_units W X (subst (λ (z : ℕ). z < overflow f) (sym e) o))
    go true X =
        let u : add_n false n true 0 ≡ n = pick (ltb n 0) (ltb→lt n 0) in
        let v : add_s false n true 0 ≡ false = pick' (ltb n 0) (ltb→lt n 0) in
        let e : near f (add_n false n true 0) 1 ≡ n = ap (λ (z : ℕ). near f z 1) u ∙ same in
        subst₂ (Is f (add f w x)) v e (add_units W X (subst (λ (z : ℕ). z < overflow f) (sym e) o))
      where
        pick : (b : Bool) → (T b → n < 0) → cond b (0 - n) (n - 0) ≡ n
        pick true t = absurd (let h = t tt in let r : ⊥ = omega arith in r)
        pick false t = omega arith

        pick' : (b : Bool) → (T b → n < 0) → cond b true (false && ltb 0 n) ≡ false
        pick' true t = absurd (let h = t tt in let r : ⊥ = omega arith in r)
        pick' false t = refl

two_zeros : (f : Format) {x y : Float} {s t : Bool} → Is f x s 0 → Is f y t 0 → 0 < overflow f → Is f (add f x y) (add_s s 0 t 0) 0
two_zeros f {x} {y} {s} {t} X Y o =
    let e : near f (add_n s 0 t 0) 1 ≡ 0 = ap (λ (z : ℕ). near f z 1) (none s t) ∙ near_zero_lem f 1 (zero-lt-suc 0) in
    subst (Is f (add f x y) (add_s s 0 t 0)) e (add_units X Y (subst (λ (z : ℕ). z < overflow f) (sym e) o))
  where
    none : (s t : Bool) → add_n s 0 t 0 ≡ 0
    none false false = refl
    none false true = refl
    none true false = refl
    none true true = refl

-- ---- the rules
module _ {f : Format} (o : 0 < overflow f) {x y : Float} (z : Nothing f x y) where
  pub no_product_first : {k : ℕ} {K : Kind} {w w' : Float} → Two f k K w w' → Nothing f (mul f x w) (mul f y w')
  no_product_first a = record {
    s = unlike z.s a.s;
    first = no_product f z.first a.first o;
    second = no_product f z.second
        a.second o;
  }

  pub no_products : {x' y' : Float} → Nothing f x' y' → Nothing f (mul f x x') (mul f y y')
  no_products w = record {
    s = unlike z.s w.s;
    first = no_product f z.first w.first o;
    second = no_product f
        z.second w.second o;
  }

  pub no_sum : {x' y' : Float} → Nothing f x' y' → Nothing f (add f x x') (add f y y')
  no_sum w = record {
    s = add_s z.s 0 w.s 0;
    first = two_zeros f z.first w.first o;
    second = two_zeros f z.second
        w.second o;
  }

  module _ {k : ℕ} {K : Kind} {w w' : Float} (a : Two f k K w w') (plus : T (not K.any)) (some : T (ltb 0 (floor K)))
      (small : T (ltb K.hi (overflow f))) where
    S : a.s ≡ false
    S = a.in_first.sign plus

    M : 0 < a.m
    M = lt_of_lt_of_le (ltb→lt 0 (floor K) some) (floor_le a.in_first)

    N : 0 < a.n
    N = lt_of_lt_of_le (ltb→lt 0 (floor K) some) (floor_le a.in_second)

    W : Is f w false a.m
    W = subst (λ (s : Bool). Is f w s a.m) S a.first

    W' : Is f w' false a.n
    W' = subst (λ (s : Bool). Is f w' s a.n) S a.second

    as_is : {v v' : Float} → Is f v false a.m → Is f v' false a.n → Two f k K v v'
    as_is R R' = record {
      s = false;
      m = a.m;
      n = a.n;
      first = R;
      second = R';
      in_first = subst (λ (s : Bool). In K s a.m) S a.in_first;
      in_second = subst (λ (s : Bool). In K s a.n) S a.in_second;
      grain = a.grain;
      grain_second = a.grain_second;
      tie = a.tie;
    }

    pub skip_first : Two f k K (add f x w) (add f y w')
    skip_first = as_is (zero_first f z.first W M (under f a.in_first small))
        (zero_first f z.second W' N (under f a.in_second small))

    pub skip_last : Two f k K (add f w x) (add f w' y)
    skip_last = as_is (zero_last f z.first W (under f a.in_first small))
        (zero_last f z.second W' (under f a.in_second small))

    -- of as many units
    pub skip_first_units : (skip_first.s ≡ false) × (skip_first.m ≡ a.m) × (skip_first.n ≡ a.n)
    unfolding skip_first as_is
    skip_first_units = (refl, refl, refl)

    pub skip_last_units : (skip_last.s ≡ false) × (skip_last.m ≡ a.m) × (skip_last.n ≡ a.n)
    unfolding skip_last as_is
    skip_last_units = (refl, refl, refl)

    pub no_product_last : Nothing f (mul f w x) (mul f w' y)
    no_product_last = record { s = unlike false z.s; first = none a.m z.first W; second = none a.n z.second W' }
      where
        none : (n : ℕ) {v u : Float} → Is f v z.s 0 → Is f u false n → Is f (mul f u v) (unlike false z.s) 0
        none n {v} {u} R U =
            let e : near f (n * 0) (2 ^ low f) ≡ 0 = ap (λ (i : ℕ). near f i (2 ^ low f)) (mul-zero n)
            ∙ near_zero_lem f (2 ^ low f) (pow_pos (low f)) in
            subst (Is f (mul f u v) (unlike false z.s)) e (mul_units U R (subst (λ (i : ℕ). i < overflow f) (sym e) o))

-- ---- its root, and a zero as a float of any weight
pub root_itself : {x : Float} {s : Bool} → Is binary64 x s 0 → root x ≡ x
root_itself {x} {s} a = let r = form a in go r.m r.e r.is r.units
  where
    kept : (e : ℤ) → root (fin s zero e) ≡ fin s zero e
    kept e = unfold root in refl

    go : (m : ℕ) (e : ℤ) → x ≡ fin s m e → m * up e * 2 ^ low binary64 ≡ 0 * down e → root x ≡ x
    go zero e i u = ap root i ∙ kept e ∙ sym i
    go (suc m) e i u =
        absurd (lt_irrefl 0 (subst (λ (n : ℕ). 0 < n) (u ∙ zero-mul (down e))
        (mul-pos (mul-pos (zero-lt-suc m) (up_pos e)) (pow_pos (low binary64)))))

pub root_nothing : {x y : Float} → Nothing binary64 x y → Nothing binary64 (root x) (root y)
root_nothing {x} {y} z = record {
  s = z.s;
  first = subst (λ (v : Float). Is binary64 v z.s 0) (sym (root_itself z.first)) z.first;
  second = subst (λ (v : Float). Is binary64 v z.s 0) (sym (root_itself z.second)) z.second;
}

-- of a kind that allows any sign
pub signed_nothing_two : {f : Format} {k : ℕ} {x y : Float} (K : Kind) (z : Nothing f x y) → T K.any → T K.zer
    → Two f k K x y
signed_nothing_two {f} {k} K z any t = record {
  s = z.s;
  m = 0;
  n = 0;
  first = z.first;
  second = z.second;
  in_first = record { sign = λ i. absurd (T_not K.any i any); from = inl (t, refl); to = zero-le };
  in_second = record { sign = λ i. absurd (T_not K.any i any); from = inl (t, refl); to = zero-le };
  grain = record { c = 0; is = sym (zero-mul (2 ^ K.g)) };
  grain_second = record { c = 0; is = sym (zero-mul (2 ^ K.g)) };
  tie = zero-mul (2 ^ (k * K.d)) ∙ sym (zero-mul (2 ^ (k * K.u)));
}
