-- How far `near` can be off: a fraction in the normal range is changed by at most 2 ^ (1 - prec) of itself, either way. Two
-- bounds, from below and from above.
use Rattle.std.specs.Prelude.{◌≡◌}
use Rattle.std.proofs.Common.{sym, ap, le_of_eq, le-div_iff_mul-le, pow-add, pow_pos}
use Prim.Native.Nat.{ℕ, suc, ◌+◌, ◌-◌, ◌*◌, ◌/◌, ◌%◌, ◌^◌, ◌≤◌, ◌<◌, compare}
use Rattle.std.proofs.Math.Nat.{le_trans, mul-pos, div-mul-le_self, lt-div-mul-add, div-div-eq-div-mul}
use native.Mathlib.Omega.{arith}
use mathlib.Core.List.{[], ◌∷◌}
use Rattle.std.specs.Float.{Format}
use Rattle.std.specs.Float.Ieee.{prec, size}
use Rattle.std.specs.Float.Ieee.Digits.{size_reaches}
use Rattle.std.specs.Float.Ieee.Fits.{nearest-le}
use Rattle.std.specs.Float.Ieee.Nearest.{closest, nearest-ge}
use Rattle.std.specs.Float.Ieee.Order.{drop}
use Rattle.algebra.specs.Ring.{nxt, ◌:+◌, ◌:*◌, ◌≈◌, ◌⊩◌, ◌times◌≼◌}
use Rattle.algebra.proofs.Ring.{ring, below}
use Rattle.scaling.specs.Near.{near, digits, size_above}

module _ (f : Format) (n d : ℕ) (D : 0 < d) (normal : 2 ^ (prec f - 1) * d ≤ n) where
  k : ℕ
  k = drop (prec f) n d

  -- the place that is rounded to, and the quotient by it, cut and rounded
  u : ℕ
  unfolding k
  u = d * 2 ^ k

  q : ℕ
  unfolding u
  q = n / u

  c : ℕ
  unfolding u
  c = closest n u

  near_is : near f n d * d ≡ c * u
  unfolding near c u k
  near_is = ring 3 (λ c p d. c :* p :* d ≈ c :* (d :* p)) tt _ _ _

  many : 2 ^ (prec f - 1) ≤ q
  unfolding q u k
  many =
      let w = n / d in
      let p = prec f in
      let P = digits f in
      let h : p - 1 < size w = size_above w (p - 1) ((le-div_iff_mul-le D).1 normal) in
      let i : p - 1 + (size w - p) < size w = omega arith in
      le_trans ((le-div_iff_mul-le (pow_pos k)).1 (le_trans (le_of_eq (sym (pow-add 2 (p - 1) k))) (size_reaches w (p - 1 + k) i)))
      (le_of_eq (div-div-eq-div-mul n d (2 ^ k)))

  u_pos : 0 < u
  unfolding u
  u_pos = mul-pos D (pow_pos k)

  pub near_not_less : 2 ^ (prec f - 1) * n ≤ suc (2 ^ (prec f - 1)) * (near f n d * d)
  unfolding q c
  near_not_less =
      let h : n < q * u + u = lt-div-mul-add u_pos in
      let g : q ≤ c = nearest-ge q (compare (n % u * 2) u) in
      le_trans
      (below 5 (λ t n q u c. (t times nxt n ≼ q :* u :+ u) ∷ (t :* u times q ≼ c) ∷ (u times t ≼ q) ∷ (u times q ≼ c) ∷ []
      ⊩ t :* n ≈ nxt t :* (c :* u)) tt (2 ^ (prec f - 1)) n q u c h g many g)
      (le_of_eq (ap (λ z. suc (2 ^ (prec f - 1)) * z) (sym near_is)))

  pub near_not_more : 2 ^ (prec f - 1) * (near f n d * d) ≤ suc (2 ^ (prec f - 1)) * n
  unfolding q c
  near_not_more =
      let h : q * u ≤ n = div-mul-le_self n u in
      let g : c ≤ suc q = nearest-le q (compare (n % u * 2) u) in
      le_trans (le_of_eq (ap (λ z. 2 ^ (prec f - 1) * z) near_is))
      (below 5 (λ t n q u c. (t :* u times c ≼ nxt q) ∷ (u times t ≼ q) ∷ (nxt t times q :* u ≼ n)
      ∷ [] ⊩ t :* (c :* u) ≈ nxt t :* n) tt
      (2 ^ (prec f - 1)) n q u c g many h)
