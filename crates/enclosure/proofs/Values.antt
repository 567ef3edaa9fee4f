-- `value` is near the exact partial sum: 6 parts of 2 ^ -63 too low at most where its argument is exact, and 2 more for each
-- part of 2 ^ -64 that the argument is off. Assumes nothing.
use Rattle.std.specs.Prelude.{ℕ, zero, suc, ◌+◌, ◌*◌, ◌%◌, ◌^◌, ◌≤◌, ◌<◌, ◌≡◌, List, [], ◌∷◌, length}
use Rattle.std.proofs.Common.{sym, ◌∙◌, ap, mul-pos, mul-le-mul, mod-lt, div-add-mod', le_of_eq, le_of_lt, arith, pow_pos}
use Rattle.std.proofs.Math.Nat.{le_of_mul-le-mul_right, one-le-pow}
use Rattle.std.proofs.Math.Dec.{leb→le}
use Rattle.algebra.specs.Ring.{con, ◌:+◌, ◌:*◌, ◌≈◌, ◌⊩◌, ◌times◌≼◌, Order}
use Rattle.algebra.proofs.Ring.{by_below}
use Rattle.enclosure.specs.Quotient.{Quotient, ◌≼◌, whole, parts, ◌⊞◌}
use Rattle.enclosure.specs.Order.{≼_refl, ≼_trans, ⊞-mono}
use Rattle.enclosure.specs.Pieces.{
  Series,
  euler,
  odd,
  terms,
  pieces,
  denominator,
  row_length,
  row_denominator,
  numerators,
  shifted,
  row,
  piece,
  value,
}
use Rattle.enclosure.specs.Expansion.{coefficient, exact}
use Rattle.enclosure.specs.Shifted.{evaluate}
use Rattle.enclosure.proofs.Shifted.{length_shifted, shifted_value, mul_pow, length_numerators, exact_is}
use Rattle.enclosure.specs.Floors.{left_out}
use Rattle.enclosure.proofs.Floors.{floors_low, floors_high}
use Rattle.enclosure.proofs.Rows.{rest_fits}
use Rattle.enclosure.specs.Slope.{half}
use Rattle.enclosure.proofs.Slope.{exact_rises}
use Rattle.enclosure.specs.Values.{Near, partial}

coefficient_small : (s : Series) (i : ℕ) → coefficient s i ≼ whole 1
unfolding coefficient
coefficient_small euler zero = ≼_refl
coefficient_small euler (suc i) =
    let c = coefficient euler i in
    let before : c.num ≤ c.den = omega (arith, (coefficient_small euler i).cross) in
    let now : 2 * suc i ≤ suc (2 * suc i) = omega arith in
    record { cross = omega (arith, mul-le-mul before now) }
coefficient_small odd i = record { cross = omega arith }

-- ---- at the argument itself. v is the rule's value, e / e' the exact one and n over W Q the same, R what the row leaves out
at_low : Order 6 (λ v e e' W Q n. (e' times v :* (W :* Q) ≼ con (2 ^ 63) :* n) ∷ (con (2 ^ 63) times n :* e' ≼ e :* (W :* Q)) ∷ []
    ⊩ v :* e' :* (W :* Q) ≈ e :* con (2 ^ 63) :* (W :* Q))
at_low = by_below tt

at_high : Order 7 (λ v e e' W Q n R.
    (e' times con (2 ^ 63) :* n ≼ ((v :+ con 3) :* W :+ con (2 ^ 63) :* R) :* Q) ∷ (e' :* Q times con (2 ^ 63) :* R ≼ con 3 :* W)
    ∷ (con (2 ^ 63) times e :* (W :* Q) ≼ n :* e') ∷ []
    ⊩ e :* con (2 ^ 63) :* (W :* Q) ≈ (v :+ con 6) :* e' :* (W :* Q))
at_high = by_below tt

product_pos : (s : Series) → 0 < denominator s
product_pos euler = leb→le _ _ tt
product_pos odd = leb→le _ _ tt

module _ (s : Series) (x : ℕ) (inside : piece x < pieces s) where
  abbrev i : ℕ
  i = piece x

  abbrev p : ℕ
  p = x % 2 ^ 58

  abbrev bs : List ℕ
  bs = shifted i (numerators s)

  abbrev W : ℕ
  W = row_denominator s

  abbrev Q : ℕ
  Q = (2 ^ 58) ^ terms s

  abbrev e : Quotient
  e = partial s (parts 64 x)

  W-pos : 0 < W
  W-pos = mul-pos (product_pos s) (one-le-pow (terms s) 64 (omega arith))

  p_fits : p ≤ 2 ^ 58
  p_fits = le_of_lt (mod-lt x (pow_pos 58))

  bs_length : length bs ≡ terms s
  bs_length = length_shifted i (numerators s) ∙ length_numerators s

  same_point : i * 2 ^ 58 + p ≡ x
  same_point = div-add-mod' x (2 ^ 58)

  same_value : evaluate bs p (2 ^ 58) ≡ evaluate (numerators s) x (2 ^ 64)
  same_value = shifted_value i (numerators s) p (2 ^ 58) ∙ ap (λ (y : ℕ). evaluate (numerators s) y (2 ^ 64)) same_point

  same_scale : denominator s * (2 ^ 64) ^ terms s ≡ W * Q
  same_scale = rw (mul_pow 64 (2 ^ 58) (terms s)) (omega arith)

  same_number : e.num * (W * Q) ≡ evaluate bs p (2 ^ 58) * e.den
  same_number = rw (← same_scale, same_value) (exact_is s (parts 64 x))

  scale_pos : 0 < W * Q
  scale_pos = mul-pos W-pos (one-le-pow (terms s) (2 ^ 58) (omega arith))

  value_below : parts 63 (value s x) ≼ e
  unfolding value row
  value_below =
      let low = rw bs_length at (floors_low W W-pos p p_fits row_length (2 ^ 63) bs) in
      let k = at_low.law (value s x) e.num e.den W Q (evaluate bs p (2 ^ 58)) low (le_of_eq (sym same_number)) in
      record { cross = le_of_mul-le-mul_right k scale_pos }

  value_above : e ≼ parts 63 (value s x + 6)
  unfolding value row
  value_above =
      let high = rw bs_length at (floors_high W W-pos p p_fits row_length (2 ^ 63) bs) in
      let rest = leb→le (2 ^ 63 * left_out row_length bs) (3 * W) (rest_fits s i inside) in
      let k = at_high.law (value s x) e.num e.den W Q (evaluate bs p (2 ^ 58)) (left_out row_length bs) high rest
      (le_of_eq same_number) in
      record { cross = le_of_mul-le-mul_right k scale_pos }

point_low : Order 4 (λ x al n d. (con (2 ^ 64) times x :* d ≼ n :* con (2 ^ 64) :+ al :* d) ∷ []
    ⊩ x :* (d :* con (2 ^ 64)) ≈ (n :* con (2 ^ 64) :+ al :* d) :* con (2 ^ 64))
point_low = by_below tt

point_high : Order 4 (λ x be n d. (con (2 ^ 64) times n :* con (2 ^ 64) ≼ (x :+ be) :* d) ∷ []
    ⊩ n :* (con (2 ^ 64) :* con (2 ^ 64)) ≈ (x :* con (2 ^ 64) :+ be :* con (2 ^ 64)) :* d)
point_high = by_below tt

-- (parts of 2 ^ -64 taken four times are parts of 2 ^ -63 taken twice)
sum_low : Order 4 (λ v a n d. (con 1 times v :* (d :* (con 1 :* con (2 ^ 64)))
    ≼ (n :* (con 1 :* con (2 ^ 64)) :+ con 4 :* a :* d) :* con (2 ^ 63)) ∷ []
    ⊩ v :* d :* con (2 ^ 64) ≈ (n :* con (2 ^ 63) :+ con 2 :* a :* d) :* con (2 ^ 64))
sum_low = by_below tt

sum_high : Order 4 (λ v b n d.
    (con 1 times n :* (con (2 ^ 63) :* (con 1 :* con (2 ^ 64))) ≼
    ((v :+ con 6) :* (con 1 :* con (2 ^ 64)) :+ con 4 :* b :* con (2 ^ 63)) :* d) ∷ []
    ⊩ n :* con (2 ^ 63) :* con (2 ^ 64) ≈ (v :+ con 6 :+ con 2 :* b) :* d :* con (2 ^ 64))
sum_high = by_below tt

-- THE LAWS
module _ (s : Series) (z : Quotient) (x al be : ℕ) (near : Near s z x al be) where
  abbrev here : Quotient
  here = parts 64 x

  here_half : here ≼ half
  here_half = record { cross = omega (arith, near.fits) }

  z_half : z ≼ half
  z_half = record { cross = omega (arith, near.half) }

  pub value_low : value s x * (partial s z).den ≤ (partial s z).num * 2 ^ 63 + 2 * al * (partial s z).den
  value_low =
      let e = partial s z in
      let point : here ≼ z ⊞ parts 64 al = record { cross = point_low.law x al z.num z.den near.low } in
      let rise = exact_rises (coefficient s) (coefficient_small s) (parts 64 al) point here_half z_half (terms s) 0 in
      let h = ≼_trans (value_below s x near.inside) rise in
      le_of_mul-le-mul_right (sum_low.law (value s x) al e.num e.den h.cross) (pow_pos 64)

  pub value_high : (partial s z).num * 2 ^ 63 ≤ (value s x + 6 + 2 * be) * (partial s z).den
  value_high =
      let e = partial s z in
      let point : z ≼ here ⊞ parts 64 be = record { cross = point_high.law x be z.num z.den near.high } in
      let rise = exact_rises (coefficient s) (coefficient_small s) (parts 64 be) point z_half here_half (terms s) 0 in
      let h = ≼_trans rise (⊞-mono (value_above s x near.inside) ≼_refl) in
      le_of_mul-le-mul_right (sum_high.law (value s x) be e.num e.den h.cross) (pow_pos 64)
