-- A finite float as a sign and a whole number of its format's smallest value (units), and each operation on those numbers.
-- `Is f x s n`: x is a value of the format f with the sign s and n units. It determines x.
use Rattle.std.specs.Prelude.{◌≡◌, refl, Bool, true, false, not, ◌&&◌, cond, ℤ, T, ltb, eqb, Float}
use Rattle.std.proofs.Common.{sym, ap, ◌∙◌, mul-one, mul-div_cancel, zero-lt-suc, lt_irrefl, eqb→eq, pow_pos}
use Rattle.std.proofs.Math.Path.{subst}
use Prim.Native.Nat.{ℕ, ◌+◌, ◌-◌, ◌*◌, ◌/◌, ◌^◌, ◌<◌}
use Rattle.std.proofs.Math.Nat.{mul-pos}
use Rattle.std.specs.Bool.{beq}
use mathlib.Core.List.{[], ◌∷◌}
use Rattle.std.proofs.Math.Dec.{not_T}
use Rattle.std.specs.Float.{nan, inf, fin, Format}
use Rattle.std.specs.Float.Ieee.{prec, low, up, down, unlike, size, units, round, neg, sum, add, mul, div, below, level, lt, eq, fits, top, hid, of_bits, to_bits}
use Rattle.std.specs.Float.Ieee.Fits.{down_pos, round-fits, round_is, neg-fits}
use Rattle.std.specs.Float.Ieee.Bits.{of_bits-to_bits, cond_no}
use Rattle.std.specs.Float.Ieee.Positive.{first_pos}
use Rattle.std.specs.Float.Ieee.Exact.{HasValue, units_val}
use Rattle.std.specs.Float.Ieee.Order.{drop, kept}
use Rattle.std.specs.Float.Ieee.Scale.{overflow}
use Rattle.algebra.specs.Ring.{◌:*◌, ◌≈◌, ◌⊩◌, ◌times◌≼◌}
use Rattle.algebra.proofs.Ring.{ring}
use Rattle.scaling.specs.Near.{near, near_same}
use Rattle.scaling.specs.Cross.{add_n, add_s, below_cross, level_cross, add_n_cross, add_s_cross}

pub record Is (f : Format) (x : Float) (s : Bool) (n : ℕ) : Type 0 where
  pub fit : T (fits f x)
  pub val : HasValue x s n (2 ^ low f)

-- the data of such an x
pub record Form (f : Format) (x : Float) (s : Bool) (n : ℕ) : Type 0 where
  pub m : ℕ
  pub e : ℤ
  pub is : x ≡ fin s m e
  pub units : m * up e * 2 ^ low f ≡ n * down e

pub form : {f : Format} {x : Float} {s : Bool} {n : ℕ} → Is f x s n → Form f x s n
form {x = nan} a = absurd a.val
form {x = inf t} a = absurd a.val
form {x = fin t m e} a = record { m = m; e = e; is = ap (λ (b : Bool). fin b m e) a.val.0; units = a.val.1 }

-- ---- it determines x: by the bit pattern, which is made of the sign and the units
unfoldable pub bits : Format → Bool → ℕ → ℕ
bits f s n = cond s (top f) 0 + (size n - prec f) * hid f + n / 2 ^ (size n - prec f)

pub is_bits : (f : Format) (x : Float) (s : Bool) (n : ℕ) → Is f x s n → to_bits f x ≡ bits f s n
unfolding bits to_bits
is_bits f x s n a =
    let r = form a in
    ap (λ (z : Float). to_bits f z) r.is
    ∙ ap (λ (z : ℕ). cond s (top f) 0 + (size z - prec f) * hid f + z / 2 ^ (size z - prec f))
    (ap (λ (z : ℕ). z / down r.e) r.units ∙ mul-div_cancel n (down_pos r.e))

pub unique : {f : Format} {x y : Float} {s : Bool} {n : ℕ} → Is f x s n → Is f y s n → x ≡ y
unique {f} {x} {y} {s} {n} a b =
    sym (of_bits-to_bits f x a.fit) ∙ ap (of_bits f) (is_bits f x s n a ∙ sym (is_bits f y s n b)) ∙ of_bits-to_bits f y b.fit

not_zero : (m : ℕ) → 0 < m → T (not (eqb m 0))
not_zero m h = not_T (eqb m 0) (λ t. lt_irrefl 0 (subst (λ (z : ℕ). 0 < z) (eqb→eq m 0 t) h))

-- ---- what `round` makes
pub round_units : (f : Format) (s : Bool) (a c n d : ℕ) → 0 < c → 0 < d → a * 2 ^ low f * d ≡ n * c → near f n d < overflow f
    → Is f (round f s a c) s (near f n d)
round_units f s a c n d C D e h =
    let g : near f (a * 2 ^ low f) c ≡ near f n d = near_same f (a * 2 ^ low f) c n d C D e in
    record {
      fit = round-fits f s a c;
      val = subst (λ (z : ℕ). HasValue (round f s a c) s z (2 ^ low f)) g (value (subst (λ (z : ℕ). z < overflow f) (sym g) h));
    }
  where
    value : near f (a * 2 ^ low f) c < overflow f → HasValue (round f s a c) s (near f (a * 2 ^ low f) c) (2 ^ low f)
    value k =
        unfold near in subst (λ (z : Float). HasValue z s (near f (a * 2 ^ low f) c) (2 ^ low f)) (sym (round_is f s a c))
        (units_val f s (kept (prec f) (a * 2 ^ low f) c) (drop (prec f) (a * 2 ^ low f) c) k)

-- ---- the operations, on x with m units and y with n
pub sum_is : (f : Format) (s : Bool) (a : ℕ) (t : Bool) (b c : ℕ) → sum f s a t b c ≡ round f (add_s s a t b) (add_n s a t b) c
unfolding sum
sum_is f s a t b c = go (beq s t) (ltb a b)
  where
    go : (p q : Bool)
        → cond p (round f s (a + b) c) (cond q (round f t (b - a) c) (round f (s && ltb b a) (a - b) c))
        ≡ round f (cond p s (cond q t (s && ltb b a))) (cond p (a + b) (cond q (b - a) (a - b))) c
    go true q = refl
    go false true = refl
    go false false = refl

module _ {f : Format} {x y : Float} {s t : Bool} {m n : ℕ} (X : Is f x s m) (Y : Is f y t n) where
  A : ℕ
  A = (form X).m * up (form X).e

  B : ℕ
  B = (form Y).m * up (form Y).e

  -- both over the same denominator
  C : ℕ
  C = down (form X).e * down (form Y).e

  C-pos : 0 < C
  unfolding C
  C-pos = mul-pos (down_pos (form X).e) (down_pos (form Y).e)

  left : A * down (form Y).e * 2 ^ low f ≡ m * C
  unfolding A C
  left = ring 5 (λ a l m c d. (d times a :* l ≼ m :* c) ∷ [] ⊩ a :* d :* l ≈ m :* (c :* d)) tt _ _ _ _ _ (form X).units

  right : B * down (form X).e * 2 ^ low f ≡ n * C
  unfolding B C
  right = ring 5 (λ a l m c d. (d times a :* l ≼ m :* c) ∷ [] ⊩ a :* d :* l ≈ m :* (d :* c)) tt _ _ _ _ _ (form Y).units

  pub mul_units : near f (m * n) (2 ^ low f) < overflow f → Is f (mul f x y) (unlike s t) (near f (m * n) (2 ^ low f))
  unfolding mul A B C
  mul_units h =
      rw ((form X).is, (form Y).is)
      (round_units f (unlike s t) (A * B) C (m * n) (2 ^ low f) C-pos (pow_pos (low f))
      (ring 7 (λ a b l m n c d. (b :* l times a :* l ≼ m :* c) ∷ (m :* c times b :* l ≼ n :* d) ∷ []
      ⊩ a :* b :* l :* l ≈ m :* n :* (c :* d)) tt _ _ _ _ _ _ _ (form X).units (form Y).units) h)

  pub div_units : 0 < n → near f (m * 2 ^ low f) n < overflow f → Is f (div f x y) (unlike s t) (near f (m * 2 ^ low f) n)
  unfolding div A B
  div_units N h =
      let d-pos : 0 < B * 2 ^ low f = subst (λ (z : ℕ). 0 < z) (sym (form Y).units) (mul-pos N (down_pos (form Y).e)) in
      let b-pos : 0 < B = first_pos B (2 ^ low f) d-pos in
      let q : ℕ = B * down (form X).e in
      rw ((form X).is, (form Y).is)
      (subst (λ (z : Float). Is f z (unlike s t) (near f (m * 2 ^ low f) n))
      (sym (cond_no (eqb (form Y).m 0) _ _ (not_zero (form Y).m (first_pos (form Y).m (up (form Y).e) b-pos))))
      (round_units f (unlike s t) (A * down (form Y).e) q (m * 2 ^ low f) n (mul-pos b-pos (down_pos (form X).e)) N
      (ring 7 (λ a b l m n c d. (d :* n times a :* l ≼ m :* c) ∷ (m :* c times n :* d ≼ b :* l) ∷ []
      ⊩ a :* d :* l :* n ≈ m :* l :* (b :* c)) tt _ _ _ _ _ _ _ (form X).units (sym (form Y).units)) h))

  pub add_units : near f (add_n s m t n) 1 < overflow f → Is f (add f x y) (add_s s m t n) (near f (add_n s m t n) 1)
  unfolding add A B C
  add_units h =
      let a : ℕ = A * down (form Y).e in
      let b : ℕ = B * down (form X).e in
      rw ((form X).is, (form Y).is)
      (subst (λ (z : Float). Is f z (add_s s m t n) (near f (add_n s m t n) 1)) (sym (sum_is f s a t b C))
      (subst (λ (z : Bool). Is f (round f (add_s s a t b) (add_n s a t b) C) z (near f (add_n s m t n) 1))
      (add_s_cross (2 ^ low f) C a b m n (pow_pos (low f)) C-pos left right s t)
      (round_units f (add_s s a t b) (add_n s a t b) C (add_n s m t n) 1 C-pos (zero-lt-suc 0)
      (mul-one _ ∙ add_n_cross (2 ^ low f) C a b m n (pow_pos (low f)) C-pos left right s t) h)))

  pub lt_units : lt x y ≡ below s m t n
  unfolding lt A B C
  lt_units = rw ((form X).is, (form Y).is) (below_cross (2 ^ low f) C _ _ m n (pow_pos (low f)) C-pos left right s t)

  pub eq_units : eq x y ≡ level s m t n
  unfolding eq A B C
  eq_units = rw ((form X).is, (form Y).is) (level_cross (2 ^ low f) C _ _ m n (pow_pos (low f)) C-pos left right s t)

pub neg_units : {f : Format} {x : Float} {s : Bool} {n : ℕ} → Is f x s n → Is f (neg x) (not s) n
unfolding neg
neg_units {x = nan} a = absurd a.val
neg_units {x = inf t} a = absurd a.val
neg_units {f} {x = fin t m e} a = record { fit = neg-fits f (fin t m e) a.fit; val = (ap not a.val.0, a.val.1) }
