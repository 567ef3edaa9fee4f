-- From the claim's premises to the rules: two arguments in range, the second the first times 4 ^ k, are of the kind `argument_k`
-- in two runs.
-- And what the checks on them say is the same in both runs.
use Rattle.std.specs.Prelude.{◌≡◌, ◌⊎◌, ℕ, ◌+◌, ◌*◌, ◌^◌, ◌≤◌, ◌<◌, Bool, true, false, not, ◌&&◌, ◌||◌, cond, T, ltb, eqb, Float}
use Rattle.std.proofs.Common.{sym, ap, ◌∙◌, subst, inl, inr, zero-le, mul_assoc, mul-one, mul-zero, arith, T_not, ltb→lt, lt→ltb, nltb→le, eqb→eq, pow-add, pow_pos}
use Rattle.std.proofs.Math.Nat.{eq_of_mul-eq-mul_right}
use Rattle.std.specs.Bool.{beq}
use Rattle.std.proofs.Math.Dec.{not_T}
use Rattle.std.specs.Float.{binary64}
use Rattle.std.specs.Float.Ieee.{lt, eq, le, below}
use Rattle.std.specs.Float.Ieee.Fits.{and_l}
use Rattle.scaling.specs.Units.{Is, lt_units, eq_units}
use Rattle.scaling.specs.Kind.{In}
use Rattle.scaling.proofs.Last.{digits_of, last_grain}
use Rattle.scaling.specs.Two.{Two}
use Rattle.scaling.specs.One as one
use Rattle.scaling.proofs.One as one_laws
use Rattle.scaling.proofs.Tests.{zero_is, no_units}
use Rattle.scaling.proofs.Signs.{above_two}
use Rattle.scaling.proofs.Plain.{whole_units_of, times_units, le_units}
use Rattle.binary64.specs.Leaves.{absolute, minimum}
use Rattle.carlson.specs.Constants.{zero}
use Rattle.units.specs.Statement.{InRange, TimesFour, least, most}
use Rattle.units.specs.Kinds.{argument_k, mean_k}
use Rattle.units.specs.Arguments.{Argument}

pub no_units_of : {x : Float} {s : Bool} {n : ℕ} → Is binary64 x s n → T (eq x zero) → n ≡ 0
no_units_of {x} {s} {n} X h = eqb→eq n 0
    (and_l (eqb n 0) (beq s false || eqb n 0) (subst T (eq_units X (zero_is binary64)) h))

-- ---- one argument
in_range : {x : Float} {s : Bool} {n : ℕ} → Is binary64 x s n
    → T (eq x zero) ⊎ (T (le least (absolute x)) × T (le (absolute x) most))
    → In argument_k s n
unfolding one.lit_ok
in_range {x} {s} {n} X (inl z) =
    let e = no_units_of X z in
    record { sign = λ h. absurd h; from = inl (tt, e); to = subst (λ i. i ≤ 2 ^ 1138) (sym e) zero-le }
in_range {x} {s} {n} X (inr h) = record {
  sign = λ i. absurd i;
  from = inr (le_units (one_laws.lit_is binary64 least tt) (one_laws.abs_units X) h.0);
  to = le_units (one_laws.abs_units X) (one_laws.lit_is binary64 most tt) h.1;
}

-- ---- two, where 4 ^ u / 4 ^ d is 4 ^ k
whole_power : (k d m n : ℕ) → n * 2 ^ (2 * d) ≡ m * 2 ^ (2 * (k + d)) → n * 2 ^ (k * 0) ≡ m * 2 ^ (k * 2)
whole_power k d m n e =
    let q : 2 * (k + d) ≡ k * 2 + 2 * d = omega arith in
    ap (λ z. n * 2 ^ z) (mul-zero k)
    ∙ mul-one n
    ∙ eq_of_mul-eq-mul_right (2 ^ (2 * d)) (pow_pos (2 * d)) n (m * 2 ^ (k * 2))
    (e ∙ ap (λ z. m * 2 ^ z) q ∙ ap (λ z. m * z) (pow-add 2 (k * 2) (2 * d)) ∙ sym (mul_assoc m (2 ^ (k * 2)) (2 ^ (2 * d))))

pub argument : (k d : ℕ) {x y : Float} → InRange x → InRange y → TimesFour (k + d) d x y → Two binary64 k argument_k x y
argument k d {x} {y} X Y t =
    let m = whole_units_of binary64 x X.fit t.finite_first in
    let n = whole_units_of binary64 y Y.fit t.finite_second in
    let i = in_range m.1 X.size in
    let j = subst (λ s. In argument_k s n.0) (sym t.signs) (in_range n.1 Y.size) in
    record {
      s = one.sign x;
      m = m.0;
      n = n.0;
      first = m.1;
      second = subst (λ s. Is binary64 y s n.0) (sym t.signs) n.1;
      in_first = i;
      in_second = j;
      grain = last_grain i (digits_of m.1);
      grain_second = last_grain j (digits_of n.1);
      tie = whole_power k d m.0 n.0 (times_units m.1 n.1 (2 * (k + d)) (2 * d) t.sizes);
    }

pub above : {k : ℕ} {x y : Float} → Argument k x y → T (not (eq x zero)) → Two binary64 k mean_k x y
above a h = above_two a.two a.plus h

-- not both
pub other : (a b : Bool) → T (not (a && b)) → T a → T (not b)
other true b h t = h
other false b h t = absurd t

-- of two equals that are not both zero neither is
pub distinct : {k : ℕ} {x y x' y' : Float} → Argument k x x' → Argument k y y' → T (eq x y) → T (not (eq x zero && eq y zero))
    → T (not (eq x zero))
distinct {k} {x} {y} p q e h =
    let a = p.two in
    let b = q.two in
    not_T (eq x zero)
    (λ t.
    let i = eqb→eq a.m b.m
    (and_l (eqb a.m b.m) (beq a.s b.s || eqb a.m 0) (subst T (eq_units a.first b.first) e)) in
    (no_units b (other (eq x zero) (eq y zero) h t)).0 (sym i ∙ no_units_of a.first t))

-- ---- the checks. The smaller of two is not below zero: neither is.
smaller_first : (s t : Bool) (m n : ℕ) → T (below t n s m) → T (not (below t n false 0)) → T (not (below s m false 0))
smaller_first false t m n h g = not_T (ltb m 0) (λ r. let l = ltb→lt m 0 r in let q : ⊥ = omega arith in q)
smaller_first true false m n h g = absurd h
smaller_first true true m n h g = absurd
    (T_not (ltb 0 (n + 0)) g (lt→ltb 0 (n + 0) (let l = ltb→lt m n h in let q : 0 < n + 0 = omega arith in q)))

smaller_second : (s t : Bool) (m n : ℕ) → T (not (below t n s m)) → T (not (below s m false 0)) → T (not (below t n false 0))
smaller_second s false m n h g = not_T (ltb n 0) (λ r. let l = ltb→lt n 0 r in let q : ⊥ = omega arith in q)
smaller_second false true m n h g =
    not_T (ltb 0 (n + 0)) (λ r. T_not (ltb 0 (n + m)) h
    (lt→ltb 0 (n + m) (let l = ltb→lt 0 (n + 0) r in let q : 0 < n + m = omega arith in q)))
smaller_second true true m n h g =
    not_T (ltb 0 (n + 0))
    (λ r.
    let l = ltb→lt 0 (n + 0) r in
    let i = nltb→le m n h in
    T_not (ltb 0 (m + 0)) g (lt→ltb 0 (m + 0) (let q : 0 < m + 0 = omega arith in q)))

pub neither_below : {x y : Float} {s t : Bool} {m n : ℕ} → Is binary64 x s m → Is binary64 y t n → T (not (lt (minimum x y) zero))
    → T (not (lt x zero)) × T (not (lt y zero))
unfolding minimum
neither_below {x} {y} {s} {t} {m} {n} X Y h =
    go (lt y x) (lt_units Y X) (subst (λ b. T (not (lt (cond b y (cond (lt y x) y x)) zero))) (one_laws.number X) h)
  where
    x_zero : lt x zero ≡ below s m false 0
    x_zero = lt_units X (zero_is binary64)

    y_zero : lt y zero ≡ below t n false 0
    y_zero = lt_units Y (zero_is binary64)

    go : (b : Bool) → b ≡ below t n s m → T (not (lt (cond b y x) zero)) → T (not (lt x zero)) × T (not (lt y zero))
    go true e g =
        (subst (λ b. T (not b)) (sym x_zero) (smaller_first s t m n (subst T e tt) (subst (λ b. T (not b)) y_zero g)), g)
    go false e g = (
      g,
      subst (λ b. T (not b)) (sym y_zero)
          (smaller_second s t m n (subst (λ b. T (not b)) e tt) (subst (λ b. T (not b)) x_zero g)),
    )
