-- The result of each operation is of the kind that `Kind` computes for it, for one run. `Two` has the same for two.
use Rattle.std.specs.Prelude.{◌≡◌, ◌⊎◌, Bool, not, ◌&&◌, ◌||◌, T, leb}
use Rattle.std.proofs.Math.Path.{refl, ap, ap₂}
use Rattle.std.proofs.Common.{sym, ◌∙◌, subst, le_refl, le_trans, lt_irrefl, lt_trans, mul-zero, mul-le-mul, mul-le-mul_left, mul-le-mul_right, zero-lt-suc, add-le-add, arith, leb→le, pow_pos}
use Rattle.std.proofs.Math.Logic.{inl, inr}
use Prim.Native.Nat.{ℕ, ◌+◌, ◌-◌, ◌*◌, ◌^◌, ◌≤◌, ◌<◌, zero-le, min}
use Rattle.std.proofs.Math.Nat.{lt_of_lt_of_le, lt_of_le_of_lt, zero-mul}
use Rattle.std.proofs.Math.Bool.{true, false, cond}
use Rattle.std.specs.Bool.{beq}
use Rattle.std.proofs.Math.Dec.{ltb, ltb→lt}
use Rattle.std.specs.Float.{Format}
use Rattle.std.specs.Float.Ieee.{prec, low, unlike}
use Rattle.std.specs.Float.Ieee.Fits.{and_l, and_r}
use Rattle.std.specs.Float.Ieee.Scale.{overflow}
use Rattle.scaling.specs.Near.{near, near_mono, near_zero_lem}
use Rattle.scaling.specs.Cross.{add_n, add_s}
use Rattle.scaling.specs.Kind.{Kind, In, floor, Norm, level?}
use Rattle.scaling.proofs.Kind.{floor_le, and₃, solid, or_l, or_r, nor_l, nor_r, near_le}
use Rattle.scaling.specs.Kind.{mul_k, div_k}
use Rattle.scaling.specs.Kind.{div_ok, plus_k, plus_ok, sum_k, nudge_k, nudge_ok}
use Rattle.scaling.specs.Last.{Multiple}
use Rattle.scaling.proofs.Last.{coarser, sum_from}

pub least_l : (p q : ℕ) → min p q ≤ p
least_l p q = omega arith

pub least_r : (p q : ℕ) → min p q ≤ q
least_r p q = omega arith

module _ (f : Format) {A B : Kind} {s t : Bool} {m n : ℕ} (a : In A s m) (b : In B t n) where
  unlike_sign : T (not (A.any || B.any)) → unlike s t ≡ false
  unlike_sign h = ap₂ unlike (a.sign (nor_l A.any B.any h)) (b.sign (nor_r A.any B.any h))

  -- ---- the product
  product : (T (A.zer || B.zer) × (m * n ≡ 0)) ⊎ (A.lo * B.lo ≤ m * n)
  product = go a.from b.from
    where
      go : (T A.zer × (m ≡ 0)) ⊎ (A.lo ≤ m) → (T B.zer × (n ≡ 0)) ⊎ (B.lo ≤ n)
          → (T (A.zer || B.zer) × (m * n ≡ 0)) ⊎ (A.lo * B.lo ≤ m * n)
      go (inl x) q = inl (or_l A.zer B.zer x.0, ap (λ z. z * n) x.1 ∙ zero-mul n)
      go (inr x) (inl y) = inl (or_r A.zer B.zer y.0, ap (λ z. m * z) y.1 ∙ mul-zero m)
      go (inr x) (inr y) = inr (mul-le-mul x y)

  pub mul_in : In (mul_k f A B) (unlike s t) (near f (m * n) (2 ^ low f))
  unfolding mul_k
  mul_in = record {
    sign = unlike_sign;
    from =
        elim product [
          | inl x ↦ inl (x.0, ap (λ z. near f z (2 ^ low f)) x.1 ∙ near_zero_lem f (2 ^ low f) (pow_pos (low f)))
          | inr h ↦ inr (near_le f (2 ^ low f) (pow_pos (low f)) h)
        ];
    to = near_le f (2 ^ low f) (pow_pos (low f)) (mul-le-mul a.to b.to);
  }

  pub mul_norm : T (leb (2 ^ (prec f - 1) * 2 ^ low f) (A.lo * B.lo)) → Norm f (m * n) (2 ^ low f)
  mul_norm h = elim product
      [ inl x ↦ inl x.1 | inr l ↦ inr (le_trans (leb→le (2 ^ (prec f - 1) * 2 ^ low f) (A.lo * B.lo) h) l) ]

  -- ---- the quotient
  pub divisor : T (div_ok f A B) → (0 < B.lo) × (B.lo ≤ n)
  unfolding div_ok
  divisor ok = solid b (ltb→lt 0 (floor B) (and₃ (ltb 0 (floor B)) _ _ ok).0)

  pub div_in : T (div_ok f A B) → In (div_k f A B) (unlike s t) (near f (m * 2 ^ low f) n)
  unfolding div_k
  div_in ok =
      let lo-pos = (divisor ok).0 in
      let n_pos = lt_of_lt_of_le lo-pos (divisor ok).1 in
      record {
        sign = unlike_sign;
        from =
            elim a.from [
              | inl x ↦ inl (
                x.0,
                ap (λ z. near f z n) (ap (λ z. z * 2 ^ low f) x.1 ∙ zero-mul (2 ^ low f))
                    ∙ near_zero_lem f n n_pos,
              )
              | inr h ↦
                  inr (near_mono f (A.lo * 2 ^ low f) B.hi (m * 2 ^ low f) n (lt_of_lt_of_le n_pos b.to) n_pos
                  (mul-le-mul (mul-le-mul_right (2 ^ low f) h) b.to))
            ];
        to =
            near_mono f (m * 2 ^ low f) n (A.hi * 2 ^ low f) B.lo n_pos lo-pos
            (mul-le-mul (mul-le-mul_right (2 ^ low f) a.to) (divisor ok).1);
      }

  pub div_norm : T (leb (2 ^ (prec f - 1) * B.hi) (A.lo * 2 ^ low f)) → Norm f (m * 2 ^ low f) n
  div_norm h =
      elim a.from [
        | inl x ↦ inl (ap (λ z. z * 2 ^ low f) x.1 ∙ zero-mul (2 ^ low f))
        | inr l ↦
            inr (le_trans (mul-le-mul_left (2 ^ (prec f - 1)) b.to)
            (le_trans (leb→le (2 ^ (prec f - 1) * B.hi) (A.lo * 2 ^ low f) h) (mul-le-mul_right (2 ^ low f) l)))
      ]

  -- ---- sums
  add_n_le : add_n s m t n ≤ m + n
  add_n_le = go (beq s t) (ltb m n)
    where
      go : (x y : Bool) → cond x (m + n) (cond y (n - m) (m - n)) ≤ m + n
      go true y = le_refl (m + n)
      go false true = omega arith
      go false false = omega arith

  to_sum : near f (add_n s m t n) 1 ≤ near f (A.hi + B.hi) 1
  to_sum = near_le f 1 (zero-lt-suc 0) (le_trans add_n_le (add-le-add a.to b.to))

  pub plus_in : T (plus_ok f A B) → In (plus_k f A B) (add_s s m t n) (near f (add_n s m t n) 1)
  unfolding plus_k plus_ok
  plus_in ok =
      let o = (and₃ (level? A B) (ltb (plus_k f A B).hi (overflow f)) (not (A.any || B.any)) ok).2 in
      let S : s ≡ false = a.sign (nor_l A.any B.any o) in
      let S' : t ≡ false = b.sign (nor_r A.any B.any o) in
      record {
        sign = λ h. ap₂ (λ x y. add_s x m y n) S S';
        from =
            inr (near_le f 1 (zero-lt-suc 0)
            (subst (λ z. floor A + floor B ≤ z) (sym (ap₂ (λ x y. add_n x m y n) S S')) (add-le-add (floor_le a) (floor_le b))));
        to = to_sum;
      }

  pub nudge_in : T (nudge_ok f A B) → In (nudge_k f A B) (add_s s m t n) (near f (add_n s m t n) 1)
  unfolding nudge_k nudge_ok
  nudge_in ok =
      let o = (and₃ (level? A B) (ltb (nudge_k f A B).hi (overflow f)) (not A.any && ltb B.hi (floor A)) ok).2 in
      let S : s ≡ false = a.sign (and_l (not A.any) (ltb B.hi (floor A)) o) in
      let w = ltb→lt B.hi (floor A) (and_r (not A.any) (ltb B.hi (floor A)) o) in
      let l = (solid a (lt_of_le_of_lt zero-le w)).1 in
      let l' : n < m = lt_of_le_of_lt b.to (lt_of_lt_of_le w (floor_le a)) in
      record {
        sign = λ h. ap (λ x. add_s x m t n) S ∙ positive t (ltb m n) (ltb→lt m n) l';
        from = inr (near_le f 1 (zero-lt-suc 0) (le_trans (under l b.to) (least (beq s t) (ltb m n) (ltb→lt m n))));
        to = to_sum;
      }
    where
      positive : (t' y : Bool) → (T y → m < n) → n < m → cond (beq false t') false (cond y t' false) ≡ false
      positive false y h l = refl
      positive true true h l = absurd (lt_irrefl n (lt_trans l (h tt)))
      positive true false h l = refl

      under : {i j : ℕ} → i ≤ m → n ≤ j → i - j ≤ m - n
      under h k = omega arith

      least : (x y : Bool) → (T y → m < n) → m - n ≤ cond x (m + n) (cond y (n - m) (m - n))
      least true y h = omega arith
      least false true h = let r = h tt in omega arith
      least false false h = le_refl (m - n)

  pub sum_in : Multiple A.g m → Multiple B.g n → In (sum_k f A B) (add_s s m t n) (near f (add_n s m t n) 1)
  unfolding sum_k
  sum_in M N =
      let p = min A.g B.g in
      record {
        sign = λ h. absurd h;
        from =
            let a = coarser A.g p (least_l A.g B.g) M in
            let b = coarser B.g p (least_r A.g B.g) N in
            elim (sum_from f s m t n p a b) [
              | inl z ↦ inl
                  (tt, z)
              | inr h ↦ inr h
            ];
        to = to_sum;
      }
