-- A float that may be a zero of either sign, in two runs: sums and products of such floats, none below zero. Which of them are
-- zero is a Boolean that computes from those of the parts, so that one proof serves whichever argument is the zero.
use Rattle.std.specs.Prelude.{◌≡◌, ℕ, ◌+◌, ◌-◌, ◌*◌, ◌^◌, ◌≤◌, ◌<◌, Bool, true, not, ◌&&◌, ◌||◌, T, ltb, leb, Float}
use Rattle.std.proofs.Math.Path.{refl}
use Rattle.std.proofs.Common.{sym, ap, ◌∙◌, zero-le, le_trans, le_of_eq, le-add_right, le-add_left, mul-le-mul, zero-mul, mul-zero, zero-lt-suc, arith, pow_pos}
use Rattle.std.proofs.Math.Bool.{false}
use Rattle.std.proofs.Math.Dec.{leb→le}
use Rattle.std.specs.Float.{Format}
use Rattle.std.specs.Float.Ieee.{prec, low, add, mul}
use Rattle.std.specs.Float.Ieee.Fits.{and_l, and_r}
use Rattle.std.specs.Float.Ieee.Scale.{overflow}
use Rattle.scaling.specs.Near.{near}
use Rattle.scaling.specs.Cross.{add_n}
use Rattle.scaling.specs.Half.{half_less, half_more, whole_more}
use Rattle.scaling.specs.Kind.{Kind, floor, level?, mul_k, mul_ok, plus_k, plus_ok, within}
use Rattle.scaling.proofs.Kind.{floor_le, near_le, nor_l, nor_r}
use Rattle.scaling.proofs.Kind.{and₃}
use Rattle.scaling.specs.Last.{Digits}
use Rattle.scaling.proofs.Last.{digits_of}
use Rattle.scaling.proofs.Lead.{on_grid}
use Rattle.scaling.specs.Two.{Two}
use Rattle.scaling.proofs.Two.{mul_two, plus_two, summed}
use Rattle.scaling.proofs.One.{widen_two}
use Rattle.scaling.specs.Nothing.{Nothing}
use Rattle.scaling.proofs.Nothing.{no_product_last, skip_first, skip_last}
use Rattle.scaling.proofs.Nothing.{no_products, no_product_first, no_sum}
use Rattle.scaling.proofs.Nothing.{skip_first_units, skip_last_units}
use Rattle.scaling.specs.Maybe.{Maybe, Product, Sum, none, normal?, solid?, some, some?, units, units'}

pub force : {f : Format} {k : ℕ} {K : Kind} {x x' : Float} (a : Maybe f k K x x') → T (some? a) → Two f k K x x'
force (none z) t = absurd t
force (some a) t = a

module _ {f : Format} {k : ℕ} {A B : Kind} {x x' y y' : Float} (o : 0 < overflow f) where
  -- ---- a product
  pub mul_maybe : Maybe f k A x x' → Maybe f k B y y' → T (solid? f A) → T (mul_ok f A B)
      → Maybe f k (mul_k f A B) (mul f x y) (mul f x' y')
  unfolding solid?
  mul_maybe (none z) (none w) s t = none (no_products o z w)
  mul_maybe (none z) (some b) s t = none (no_product_first o z b)
  mul_maybe (some a) (none z) s t =
      let r = and₃ (not A.any) (ltb 0 (floor A)) (ltb A.hi (overflow f)) s in
      none (no_product_last o z a r.0 r.1 r.2)
  mul_maybe (some a) (some b) s t = some (mul_two a b t)

  pub mul_some : (a : Maybe f k A x x') (b : Maybe f k B y y') (s : T (solid? f A)) (t : T (mul_ok f A B))
      → some? (mul_maybe a b s t) ≡ some? a && some? b
  unfolding mul_maybe
  mul_some (none z) (none w) s t = refl
  mul_some (none z) (some b) s t = refl
  mul_some (some a) (none z) s t = refl
  mul_some (some a) (some b) s t = refl

  -- ---- a sum, of a kind C that holds either part and both together
  pub add_maybe : (C : Kind) → Maybe f k A x x' → Maybe f k B y y' → T (solid? f A && solid? f B) → T (plus_ok f A B)
      → T (within A C)
      → T (within B C) → T (within (plus_k f A B) C)
      → Maybe f k C (add f x y) (add f x' y')
  unfolding solid?
  add_maybe C (none z) (none w) s t p q r = none (no_sum o z w)
  add_maybe C (none z) (some b) s t p q r =
      let h = and₃ (not B.any) (ltb 0 (floor B)) (ltb B.hi (overflow f)) (and_r (solid? f A) (solid? f B) s) in
      some (widen_two (skip_first o z b h.0 h.1 h.2) q)
  add_maybe C (some a) (none z) s t p q r =
      let h = and₃ (not A.any) (ltb 0 (floor A)) (ltb A.hi (overflow f)) (and_l (solid? f A) (solid? f B) s) in
      some (widen_two (skip_last o z a h.0 h.1 h.2) p)
  add_maybe C (some a) (some b) s t p q r = some (widen_two (plus_two a b t) r)

  pub add_some : (C : Kind) (a : Maybe f k A x x') (b : Maybe f k B y y') (s : T (solid? f A && solid? f B))
      (t : T (plus_ok f A B))
      (p : T (within A C)) (q : T (within B C))
      (r : T (within (plus_k f A B) C)) → some? (add_maybe C a b s t p q r) ≡ some? a || some? b
  unfolding add_maybe
  add_some C (none z) (none w) s t p q r = refl
  add_some C (none z) (some b) s t p q r = refl
  add_some C (some a) (none z) s t p q r = refl
  add_some C (some a) (some b) s t p q r = refl

sum_law : (f : Format) (m n : ℕ) (s t : Bool) → s ≡ false → t ≡ false → Digits f m → Digits f n
    → Sum m n (near f (add_n s m t n) 1)
sum_law f m n s t e g M N = rw (e, g) (
  le_trans (le_of_eq (sym (on_grid M))) (near_le f 1 (zero-lt-suc 0) (le-add_right m n)),
  le_trans (le_of_eq (sym (on_grid N))) (near_le f 1 (zero-lt-suc 0) (le-add_left n m)),
  whole_more f (m + n),
)

only_first : (a b c : ℕ) → b ≡ 0 → c ≡ a → Sum a b c
only_first a b c e g = (omega arith, omega arith, omega arith)

only_last : (a b c : ℕ) → a ≡ 0 → c ≡ b → Sum a b c
only_last a b c e g = (omega arith, omega arith, omega arith)

module _ {f : Format} {k : ℕ} {A B : Kind} {x x' y y' : Float} (o : 0 < overflow f) (C : Kind) where
  pub add_law : (a : Maybe f k A x x') (b : Maybe f k B y y') (s : T (solid? f A && solid? f B)) (t : T (plus_ok f A B))
      (p : T (within A C))
      (q : T (within B C))
      (r : T (within (plus_k f A B) C))
      → Sum (units a) (units b) (units (add_maybe o C a b s t p q r)) × Sum (units' a) (units' b)
      (units' (add_maybe o C a b s t p q r))
  unfolding add_maybe solid? widen_two plus_two summed plus_ok
  add_law (none z) (none w) s t p q r = (only_first 0 0 0 refl refl, only_first 0 0 0 refl refl)
  add_law (none z) (some b) s t p q r =
      let h = and₃ (not B.any) (ltb 0 (floor B)) (ltb B.hi (overflow f)) (and_r (solid? f A) (solid? f B) s) in
      let u = skip_first_units o z b h.0 h.1 h.2 in
      (only_last 0 b.m _ refl u.1, only_last 0 b.n _ refl u.2)
  add_law (some a) (none z) s t p q r =
      let h = and₃ (not A.any) (ltb 0 (floor A)) (ltb A.hi (overflow f)) (and_l (solid? f A) (solid? f B) s) in
      let u = skip_last_units o z a h.0 h.1 h.2 in
      (only_first a.m 0 _ refl u.1, only_first a.n 0 _ refl u.2)
  add_law (some a) (some b) s t p q r =
      let c = and₃ (level? A B) (ltb (plus_k f A B).hi (overflow f)) (not (A.any || B.any)) t in
      let S : a.s ≡ false = a.in_first.sign (nor_l A.any B.any c.2) in
      let R : b.s ≡ false = b.in_first.sign (nor_r A.any B.any c.2) in (
        sum_law f a.m b.m a.s b.s S R (digits_of a.first) (digits_of b.first),
        sum_law f a.n b.n a.s b.s S R (digits_of a.second) (digits_of b.second),
      )

no_product_law : (l a b c : ℕ) → c ≡ 0 → a * b ≡ 0 → Product l a b c
no_product_law l a b c e g = (le_trans (le_of_eq (ap (λ (i : ℕ). i * l) e ∙ zero-mul l)) zero-le, le_trans (le_of_eq g) zero-le)

product_law : (f : Format) (a b : ℕ) → 2 ^ (prec f - 1) * 2 ^ low f ≤ a * b → Product (2 ^ low f) a b (near f (a * b) (2 ^ low f))
product_law f a b h = (half_more f (a * b) (2 ^ low f) (pow_pos (low f)) h, half_less f (a * b) (2 ^ low f) (pow_pos (low f)) h)

module _ {f : Format} {k : ℕ} {A B : Kind} {x x' y y' : Float} (o : 0 < overflow f) where
  pub mul_law : (a : Maybe f k A x x') (b : Maybe f k B y y') (s : T (solid? f A)) (t : T (mul_ok f A B)) → T (normal? f A B)
      → Product (2 ^ low f) (units a) (units b) (units (mul_maybe o a b s t))
      × Product (2 ^ low f) (units' a) (units' b) (units' (mul_maybe o a b s t))
  unfolding mul_maybe mul_two normal?
  mul_law (none z) (none w) s t n = (no_product_law _ 0 0 0 refl refl, no_product_law _ 0 0 0 refl refl)
  mul_law (none z) (some b) s t
      n = (no_product_law _ 0 b.m 0 refl (zero-mul b.m), no_product_law _ 0 b.n 0 refl (zero-mul b.n))
  mul_law (some a) (none z) s t
      n = (no_product_law _ a.m 0 0 refl (mul-zero a.m), no_product_law _ a.n 0 0 refl (mul-zero a.n))
  mul_law (some a) (some b) s t n =
      let h = leb→le (2 ^ (prec f - 1) * 2 ^ low f) (floor A * floor B) n in (
        product_law f a.m b.m (le_trans h (mul-le-mul (floor_le a.in_first) (floor_le b.in_first))),
        product_law f a.n b.n (le_trans h (mul-le-mul (floor_le a.in_second) (floor_le b.in_second))),
      )
