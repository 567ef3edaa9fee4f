-- What `Figures` hold of the digits that have come, whose number is w; and that one digit more keeps it. Assumes nothing.
use Prim.Native.Nat.{ℕ, suc, ◌+◌, ◌-◌, ◌*◌, ◌/◌, ◌^◌, ◌≤◌, ◌<◌}
use Rattle.std.specs.Prelude.{◌≡◌, Bool, ◌⊎◌, [], ◌∷◌}
use Rattle.std.proofs.Math.Path.{refl, ap, subst}
use Rattle.std.proofs.Common.{sym, ◌∙◌, mul_comm, mul-one, pow-suc, le-div_iff_mul-le, leb→le}
use Rattle.std.proofs.Math.Bool.{true, false, cond}
use Rattle.std.proofs.Math.Logic.{inl, inr}
use Rattle.std.proofs.Math.Nat.{lt_of_lt_of_le, one-le-pow, pow-le-pow_right, div-one, div-div-eq-div-mul}
use native.Mathlib.Omega.{arith}
use borrow.Author.Tests.{lt-ltb, le-ltb, eqb-true, eqb-false}
use Rattle.std.proofs.Math.Dec.{eqb}
use Rattle.std.proofs.Math.Pow.{pow-add}
use Rattle.algebra.specs.Order.{lt_or_le}
use Rattle.algebra.specs.Ring.{con, ◌:+◌, ◌:*◌, ◌≈◌, ◌⊩◌, ◌times◌≼◌}
use Rattle.algebra.proofs.Ring.{ring}
use Rattle.decimal_scan.specs.declared.figures.Figures.{Figures}
use Rattle.decimal_scan.specs.Figures.{no_figures, first_of, grown_by, figures_after}

pub record Held (w : ℕ) (f : Figures) : Type 0 where
  -- w has so many digits, the first of them not 0
  pub under : w < 10 ^ f.digits
  pub reaches : (f.digits ≡ 0) ⊎ (10 ^ f.digits ≤ w * 10)
  -- the first 19, or all
  pub first : f.value ≡ w / 10 ^ (f.digits - 19)
  -- zeros follow those that are kept
  pub within : f.kept ≤ f.digits
  pub zeros : (q : ℕ) × (w ≡ q * 10 ^ (f.digits - f.kept))

pub held_none : Held 0 no_figures
unfolding no_figures
held_none = record { under = omega arith; reaches = inl refl; first = refl; within = omega arith; zeros = (0, refl) }

-- ---- a digit more
-- the digits from the 20th on fall away
dropped : (w d k : ℕ) → d < 10 → (w * 10 + d) / 10 ^ suc k ≡ w / 10 ^ k
dropped w d k D =
    let t : (w * 10 + d) / 10 ≡ w = omega arith in
    ap (λ (z : ℕ). (w * 10 + d) / z) (pow-suc 10 k ∙ mul_comm (10 ^ k) 10)
    ∙ sym (div-div-eq-div-mul (w * 10 + d) 10 (10 ^ k))
    ∙ ap (λ (z : ℕ). z / 10 ^ k) t

full : (p w : ℕ) → 1000000000000000000 * 10 * p ≤ w * 10 → 1000000000000000000 * p ≤ w
full p w h = omega arith

trailing : (w q p : ℕ) → w ≡ q * p → w * 10 + 0 ≡ q * (p * 10)
trailing = ring 3 (λ w q p. (con 10 times w ≼ q :* p) ∷ [] ⊩ w :* con 10 :+ con 0 ≈ q :* (p :* con 10)) tt

module _ (w d : ℕ) (f : Figures) (D : d < 10) (h : Held w f) where
  abbrev n : ℕ
  n = f.digits

  longer : w * 10 + d < 10 ^ suc n
  longer = rw (pow-suc 10 n) (omega (arith, h.under))

  -- until there are 19 digits the number grows, and then it stays
  few : n < 19 → first_of f.value d ≡ (w * 10 + d) / 10 ^ (suc n - 19)
  unfolding first_of
  few l =
      let a : n - 19 ≡ 0 = omega arith in
      let b : suc n - 19 ≡ 0 = omega arith in
      let v : f.value ≡ w = h.first ∙ ap (λ (k : ℕ). w / 10 ^ k) a ∙ div-one w in
      let s : n ≤ 18 = omega arith in
      let u : w < 1000000000000000000 = lt_of_lt_of_le h.under (pow-le-pow_right (leb→le 1 10 tt) s) in
      rw (v, b, lt-ltb w 1000000000000000000 u) (sym (div-one (w * 10 + d)))

  many : 19 ≤ n → 10 ^ n ≤ w * 10 → first_of f.value d ≡ (w * 10 + d) / 10 ^ (suc n - 19)
  unfolding first_of
  many l r =
      let k = n - 19 in
      let a : n ≡ 19 + k = omega arith in
      let b : suc n - 19 ≡ suc k = omega arith in
      let e : 10 ^ n ≡ 1000000000000000000 * 10 * 10 ^ k = ap (λ (z : ℕ). 10 ^ z) a ∙ pow-add 10 19 k in
      let u : 1000000000000000000 ≤ w / 10 ^ k =
      (le-div_iff_mul-le (one-le-pow k 10 (leb→le 1 10 tt))).1 (full (10 ^ k) w (subst (λ (z : ℕ). z ≤ w * 10) e r)) in
      rw (h.first, le-ltb (w / 10 ^ k) 1000000000000000000 u, b) (sym (dropped w d k D))

  first_after : (n ≡ 0) ⊎ (10 ^ n ≤ w * 10) → first_of f.value d ≡ (w * 10 + d) / 10 ^ (suc n - 19)
  first_after (inl z) = few (omega arith)
  first_after (inr r) = elim (lt_or_le n 19) [ inl l ↦ few l | inr l ↦ many l r ]

  zeros_after : (t : Bool) → eqb d 0 ≡ t
      → (q : ℕ) × (w * 10 + d ≡ q * 10 ^ (suc n - cond t f.kept (suc n)))
  zeros_after true e =
      let z : d ≡ 0 = eqb-true d 0 e in
      let k : suc n - f.kept ≡ suc (n - f.kept) = omega (arith, h.within) in
      let g : w * 10 + d ≡ w * 10 + 0 = omega arith in (
        h.zeros.0,
        g ∙ trailing w h.zeros.0 (10 ^ (n - f.kept)) h.zeros.1
            ∙ ap (λ (x : ℕ). h.zeros.0 * x) (sym (pow-suc 10 (n - f.kept)) ∙ ap (λ (x : ℕ). 10 ^ x) (sym k)),
      )
  zeros_after false e =
      let k : suc n - suc n ≡ 0 = omega arith in
      (w * 10 + d, sym (ap (λ (x : ℕ). (w * 10 + d) * 10 ^ x) k ∙ mul-one (w * 10 + d)))

  kept_after : (t : Bool) → cond t f.kept (suc n) ≤ suc n
  kept_after true = omega (arith, h.within)
  kept_after false = omega arith

  -- the first digit is not 0
  begun : (n ≡ 0 → 0 < d) → 10 ^ suc n ≤ (w * 10 + d) * 10
  begun p = rw (pow-suc 10 n) (elim h.reaches [
    | inl z ↦ let u : w < 10 ^ 0 = subst (λ (k : ℕ). w < 10 ^ k) z h.under in
        let o : 10 ^ n ≡ 1 = ap (λ (k : ℕ). 10 ^ k) z in omega (arith, p z)
    | inr r ↦ omega arith
  ])

  held_grown : (n ≡ 0 → 0 < d) → Held (w * 10 + d) (grown_by f d)
  unfolding grown_by
  held_grown p =
      let s : n + 1 ≡ suc n = omega arith in
      record {
        under = subst (λ (k : ℕ). w * 10 + d < 10 ^ k) (sym s) longer;
        reaches = inr (subst (λ (k : ℕ). 10 ^ k ≤ (w * 10 + d) * 10) (sym s) (begun p));
        first = first_after h.reaches ∙ ap (λ (k : ℕ). (w * 10 + d) / 10 ^ (k - 19)) (sym s);
        within = subst (λ (k : ℕ). cond (eqb d 0) f.kept k ≤ k) (sym s) (kept_after (eqb d 0));
        zeros = subst (λ (k : ℕ). (q : ℕ) × (w * 10 + d ≡ q * 10 ^ (k - cond (eqb d 0) f.kept k))) (sym s)
            (zeros_after (eqb d 0) refl);
      }

  -- zeros in front: w is 0, and stays so
  in_front : n ≡ 0 → d ≡ 0 → w * 10 + d ≡ w
  in_front z e = let u : w < 10 ^ 0 = subst (λ (k : ℕ). w < 10 ^ k) z h.under in omega arith

  pub held_digit : Held (w * 10 + d) (figures_after f d)
  unfolding figures_after
  held_digit = go (eqb n 0) refl (eqb d 0) refl
    where
      go : (t : Bool) → eqb n 0 ≡ t → (u : Bool) → eqb d 0 ≡ u → Held (w * 10 + d) (cond t (cond u f (grown_by f d)) (grown_by f d))
      go true e true g = subst (λ (k : ℕ). Held k f) (sym (in_front (eqb-true n 0 e) (eqb-true d 0 g))) h
      go true e false g = held_grown (λ z. elim (lt_or_le 0 d) [ inl l ↦ l | inr l ↦ absurd (eqb-false d 0 g (omega arith)) ])
      go false e u g = held_grown (λ z. absurd (eqb-false n 0 e z))
