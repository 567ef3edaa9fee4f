-- Which arguments reach each branch of RC(1, 1 + y) (document 02, 2026-08): the tests that lead to it hold of those and of no
-- others. Past the first test there is no zero; RJ meets the last branch at -1/2 and NaN alone. Assumes nothing.
use Rattle.std.specs.Prelude.{◌≡◌, ℕ, zero as none, suc, ◌+◌, ◌*◌, ◌%◌, ◌^◌, ◌<◌, ◌≤◌, Bool, true, false, cond, not, ◌&&◌, ◌||◌, T, ltb, ◌⊎◌, ℤ, pos, negsuc, ◌==◌, ◌≢◌, nat_eq, nat_le, nat_lt, Float}
use Rattle.std.proofs.Math.Path.{refl}
use Rattle.std.proofs.Common.{sym, ap, ◌∙◌, subst, inl, inr, eq-or-lt_of_le, pow-suc, arith, lt-ltb, le-ltb, eq-eqb, ne_eqb, ltb→lt, lt→ltb, nltb→le, eqb→eq}
use Rattle.std.specs.Bool.{beq}
use Rattle.std.proofs.Math.Bool.{and_comm, and-false}
use Rattle.std.proofs.Math.Dec.{not_T}
use Rattle.std.specs.Float.{nan, inf, fin, binary64}
use Rattle.std.specs.Float.Ieee.{up, down, neg, add, div, lt, le, eq, fits, of_bits}
use Rattle.std.specs.Float.Ieee.Fits.{and_l, and_r, down_pos}
use Rattle.std.specs.Float.Ieee.Bits.{is_false}
use Rattle.algebra.specs.Order.{lt_or_le}
use Rattle.rounding.specs.Cut.{value, rounded}
use Rattle.binary64.specs.Leaves.{absolute}
use Rattle.root.specs.Root.{root}
use Rattle.polynomial.specs.Polynomial.{horner}
use Rattle.carlson.specs.Constants.{zero, one, two, half}
use Rattle.carlson.specs.Answer.{closed_at}
use Rattle.carlson.specs.declared.answer.Found.{Found}
use Rattle.rj_term.specs.Helper.{hundredth, three_halves, Outside, AtHalf, ln_argument}
use Rattle.rj_term.specs.Helper.{by_atan1p, by_logs1p, by_rc1p, by_ln1p, rc1p}
use Rattle.rj_term.specs.Borders.{past, to_atan, to_ln, to_logs, to_rc}

-- ---- tests
and_first : (p q : Bool) → (T p → T q) → (p && q) ≡ p
and_first true true f = refl
and_first true false f = absurd (f tt)
and_first false q f = refl

and_last : (p q : Bool) → (T q → T p) → (p && q) ≡ q
and_last true q f = refl
and_last false true f = absurd (f tt)
and_last false false f = refl

nothing : (p : Bool) → (T p → ⊥) → p ≡ false
nothing p f = is_false p (not_T p f)

not_le : (u v : ℕ) → not (nat_lt u v || (u == v && true)) ≡ nat_lt v u
not_le u v = elim (lt_or_le v u) [
  | inl l ↦ rw (lt-ltb v u l, le-ltb u v (omega arith), ne_eqb u v (λ e. omega arith))
  | inr l ↦ elim (eq-or-lt_of_le l) [
    | inl e ↦ rw (le-ltb v u l, le-ltb u v (omega arith), eq-eqb u v e)
    | inr g ↦ rw (le-ltb v u l, lt-ltb u v g)
  ]
]

-- ---- a finite y is a / d, with its sign; 0.01 is n / 2 ^ 59
abbrev n : ℕ
n = 0x14_7AE1_47AE_147B

past_is : (s : Bool) (m : ℕ) (e : ℤ) → past (fin s m e) ≡ nat_lt (n * 1 * down e) (m * up e * 2 ^ 59)
unfolding le lt eq of_bits absolute
past_is s m e = not_le (m * up e * 2 ^ 59) (n * 1 * down e)

past_some : (s : Bool) (m : ℕ) (e : ℤ) → T (past (fin s m e)) → 0 < m * up e
past_some s m e t = some (m * up e) (down e) (ltb→lt (n * 1 * down e) (m * up e * 2 ^ 59) (subst T (past_is s m e) t))
  where
    some : (a d : ℕ) → n * 1 * d < a * 2 ^ 59 → 0 < a
    some a d h = omega arith

-- ---- THE LAWS
-- no zero is past the first test
pub never_zero : (y : Float) → T (past y) → eq y zero ≡ false
unfolding eq of_bits
never_zero nan t = refl
never_zero (inf s) t = refl
never_zero (fin s m e) t =
    ap (λ b. b && (beq s false || m * up e * 1 == 0)) (apart (m * up e) (down e) (past_some s m e t))
  where
    apart : (a d : ℕ) → 0 < a → (a * 1 == 0 * 1 * d) ≡ false
    apart a d h = ne_eqb (a * 1) (0 * 1 * d) (λ e. omega arith)

-- atan: y > 0.01
pub atan_reached : (y : Float) → to_atan y ≡ lt hundredth y
unfolding le lt eq of_bits absolute
atan_reached nan = refl
atan_reached (inf true) = refl
atan_reached (inf false) = refl
atan_reached (fin true m e) = and-false (past (fin true m e))
atan_reached (fin false m e) =
    ap (λ b. b && lt zero (fin false m e)) (past_is false m e) ∙ above (m * up e) (down e)
  where
    above : (a d : ℕ) → (nat_lt (n * 1 * d) (a * 2 ^ 59) && nat_lt (0 * 1 * d) (a * 1)) ≡ nat_lt (n * 1 * d) (a * 2 ^ 59)
    above a d =
        and_first (nat_lt (n * 1 * d) (a * 2 ^ 59)) (nat_lt (0 * 1 * d) (a * 1))
        (λ t. let h = ltb→lt (n * 1 * d) (a * 2 ^ 59) t in lt→ltb (0 * 1 * d) (a * 1) (omega arith))

-- two logarithms: -1/2 < y < -0.01
pub logs_reached : (y : Float) → to_logs y ≡ (lt (neg half) y && lt y (neg hundredth))
unfolding le lt eq of_bits absolute neg
logs_reached nan = refl
logs_reached (inf true) = refl
logs_reached (inf false) = refl
logs_reached (fin true m e) =
    let q = ltb (m * up e * 2) (1 * 1 * down e) in
    ap (λ b. b && q) (past_is true m e) ∙ and_comm (nat_lt (n * 1 * down e) (m * up e * 2 ^ 59)) q
logs_reached (fin false m e) =
    let y = fin false m e in
    let q = lt (neg half) y in
    nothing (to_logs y)
    (λ t.
    let h = past_some false m e (and_l (past y) _ t) in
    let k = nltb→le (0 * 1 * down e) (m * up e * 1) (and_l (not (lt zero y)) q (and_r (past y) _ t)) in
    none_above (m * up e) (down e) h k)
    ∙ sym (and-false q)
  where
    none_above : (a d : ℕ) → 0 < a → a * 1 ≤ 0 * 1 * d → ⊥
    none_above a d h k = omega arith

-- RC: y < -1
pub rc_reached : (y : Float) → to_rc y ≡ lt y (neg one)
unfolding le lt eq of_bits absolute neg
rc_reached nan = refl
rc_reached (inf true) = refl
rc_reached (inf false) = refl
rc_reached (fin false m e) =
    let y = fin false m e in
    nothing (to_rc y) (λ t. and_r (not (lt (neg half) y)) false (and_r (not (lt zero y)) _ (and_r (past y) _ t)))
rc_reached (fin true m e) =
    let y = fin true m e in
    let a = m * up e in
    let d = down e in
    let r = ltb (1 * 1 * d) (a * 1) in
    and_last (past y) (not (nat_lt (a * 2) (1 * 1 * d)) && r)
    (λ t.
    subst T (sym (past_is true m e))
    (lt→ltb (n * 1 * d) (a * 2 ^ 59) (more a d (ltb→lt (1 * 1 * d) (a * 1) (and_r (not (nat_lt (a * 2) (1 * 1 * d))) r t)))))
    ∙ and_last (not (nat_lt (a * 2) (1 * 1 * d))) r
    (λ t. not_T (nat_lt (a * 2) (1 * 1 * d)) (λ u. apart a d (ltb→lt (1 * 1 * d) (a * 1) t) (ltb→lt (a * 2) (1 * 1 * d) u)))
  where
    more : (a d : ℕ) → 1 * 1 * d < a * 1 → n * 1 * d < a * 2 ^ 59
    more a d h = omega arith

    apart : (a d : ℕ) → 1 * 1 * d < a * 1 → a * 2 < 1 * 1 * d → ⊥
    apart a d h k = omega arith

-- from RJ: y <= -3/2
pub rc_reached_from_rj : (y : Float) → Outside y → lt y (neg one) ≡ le y (neg three_halves)
unfolding le lt eq of_bits neg
rc_reached_from_rj nan o = refl
rc_reached_from_rj (inf true) o = refl
rc_reached_from_rj (inf false) o = refl
rc_reached_from_rj (fin false m e) o =
    sym (nothing (le (fin false m e) (neg three_halves)) (unequal (m * up e) (down e) (down_pos e)))
  where
    unequal : (a d : ℕ) → 0 < d → T (a * 2 == 3 * 1 * d && a * 2 == 0) → ⊥
    unequal a d p t =
        let h = eqb→eq (a * 2) (3 * 1 * d) (and_l (a * 2 == 3 * 1 * d) (a * 2 == 0) t) in
        let k = eqb→eq (a * 2) 0 (and_r (a * 2 == 3 * 1 * d) (a * 2 == 0) t) in
        omega arith
rc_reached_from_rj (fin true m e) o = farther (m * up e) (down e) (down_pos e) o
  where
    farther : (a d : ℕ) → 0 < d → (T (nat_lt (1 * 1 * d) (a * 2)) → T (not (nat_lt (a * 2) (3 * 1 * d))))
        → nat_lt (1 * 1 * d) (a * 1) ≡ (nat_lt (3 * 1 * d) (a * 2) || (a * 2 == 3 * 1 * d && true))
    farther a d p o = elim (lt_or_le (1 * 1 * d) (a * 1)) [
      | inl l ↦
          let h = nltb→le (a * 2) (3 * 1 * d) (o (lt→ltb (1 * 1 * d) (a * 2) (omega arith))) in
          elim (eq-or-lt_of_le h) [
            | inl q ↦
                let k = le-ltb (3 * 1 * d) (a * 2) (omega arith) in
                rw (lt-ltb (1 * 1 * d) (a * 1) l, k, eq-eqb (a * 2) (3 * 1 * d) (sym q))
            | inr g ↦ rw (lt-ltb (1 * 1 * d) (a * 1) l, lt-ltb (3 * 1 * d) (a * 2) g)
          ]
      | inr l ↦
          let k = le-ltb (3 * 1 * d) (a * 2) (omega arith) in
          rw (le-ltb (1 * 1 * d) (a * 1) l, k, ne_eqb (a * 2) (3 * 1 * d) (λ q. omega arith))
    ]

-- ln, from RJ: -1/2, or NaN. It determines the f64, whose digits are odd.
odd_digits : (m : ℕ) (e : ℤ) → T (fits binary64 (fin true (suc m) e)) → suc m % 2 ≡ 1
unfolding fits
odd_digits m e f =
    let o = nat_eq (suc m % 2) 1 in
    let l = ltb (suc m) (2 ^ 53) in
    let h = nat_le (down e) (2 ^ 1074) in
    eqb→eq (suc m % 2) 1 (and_l o l (and_l (o && l) h (and_l (o && l && h) (nat_lt (suc m * up e) (2 ^ 1024 * down e)) f)))

exact : (m : ℕ) (e : ℤ) → T (fits binary64 (fin true m e)) → m * up e * 2 ≡ 1 * 1 * down e → fin true m e ≡ neg half
unfolding of_bits neg
exact none e f h = let p = down_pos e in absurd (omega arith)
exact (suc m) (pos k) f h = let r : ⊥ = omega arith in absurd r
exact (suc m) (negsuc none) f h = let z : m ≡ 0 = omega arith in ap (λ i. fin true (suc i) (negsuc 0)) z
exact (suc m) (negsuc (suc k)) f h =
    absurd
    (even (suc m) (2 ^ k) (odd_digits m (negsuc (suc k)) f)
    (h ∙ ap (λ q. 1 * 1 * q) (pow-suc 2 (suc k) ∙ ap (λ q. q * 2) (pow-suc 2 k))))
  where
    even : (i q : ℕ) → i % 2 ≡ 1 → i * 1 * 2 ≢ 1 * 1 * (q * 2 * 2)
    even i q o h = let e : i ≡ q * 2 = omega arith in let z : q * 2 % 2 ≡ 1 = subst (λ n. n % 2 ≡ 1) e o in omega arith

halfway : (a d : ℕ) → 0 < d → (T (nat_lt (1 * 1 * d) (a * 2)) → T (not (nat_lt (a * 2) (3 * 1 * d))))
    → T (not (nat_lt (a * 2) (1 * 1 * d))) → T (not (nat_lt (1 * 1 * d) (a * 1))) → a * 2 ≡ 1 * 1 * d
halfway a d p o t u =
    let h = nltb→le (a * 2) (1 * 1 * d) t in
    let k = nltb→le (1 * 1 * d) (a * 1) u in
    elim (eq-or-lt_of_le h) [
      | inl q ↦ sym q
      | inr g ↦ let l = nltb→le (a * 2) (3 * 1 * d) (o (lt→ltb (1 * 1 * d) (a * 2) g)) in absurd (omega arith)
    ]

pub ln_reached_from_rj : (y : Float) → T (fits binary64 y) → Outside y → T (to_ln y) → AtHalf y
unfolding le lt eq of_bits neg absolute
ln_reached_from_rj nan f o t = inr refl
ln_reached_from_rj (inf true) f o t = absurd t
ln_reached_from_rj (inf false) f o t = absurd t
ln_reached_from_rj (fin false m e) f o t =
    let y = fin false m e in
    let r = and_r (not (lt zero y)) _ (and_r (past y) _ t) in
    let k = nltb→le 0 (1 * 1 * down e + m * up e * 2) (and_l (not (lt (neg half) y)) true r) in
    let p = down_pos e in
    absurd (omega arith)
ln_reached_from_rj (fin true m e) f o t =
    let q = ltb (m * up e * 2) (1 * 1 * down e) in
    let r = and_r (past (fin true m e)) _ t in
    inl (exact m e f (halfway (m * up e) (down e) (down_pos e) o (and_l (not q) _ r) (and_r (not q) _ r)))

-- there ln is asked at 2 or more, or at NaN: no number below 2 is left for it
pub ln_from_two : (y : Float) → AtHalf y → T (le two (ln_argument y)) ⊎ (ln_argument y ≡ nan)
ln_from_two y (inl e) = inl (subst (λ v. T (le two (ln_argument v))) (sym e) at_half)
  where
    at_half : T (le two (ln_argument (neg half)))
    at_half = unfold le lt eq of_bits neg add div root rounded value in tt
ln_from_two y (inr e) = inr (ap ln_argument e ∙ at_nan)
  where
    at_nan : ln_argument nan ≡ nan
    at_nan = unfold neg add div root of_bits in refl

-- so y's place alone decides, and the polynomial has just the sizes up to 0.01
pub rc1p_by_place : (y : Float) → rc1p y ≡
    cond (le (absolute y) hundredth) (closed_at (horner y))
    (cond (lt hundredth y) (closed_at (by_atan1p y))
    (cond (lt (neg half) y && lt y (neg hundredth)) (closed_at (by_logs1p y))
    (cond (lt y (neg one)) (by_rc1p y) (closed_at (by_ln1p y)))))
unfolding rc1p
rc1p_by_place y =
    in_order (le (absolute y) hundredth) (lt zero y) (lt (neg half) y) (lt y (neg one)) _ _ _ _ _
    ∙ ap (λ b. places b (to_logs y) (to_rc y)) (atan_reached y)
    ∙ ap (λ b. places (lt hundredth y) b (to_rc y)) (logs_reached y)
    ∙ ap (λ b. places (lt hundredth y) (lt (neg half) y && lt y (neg hundredth)) b) (rc_reached y)
  where
    places : Bool → Bool → Bool → Found
    places a l r =
        cond (le (absolute y) hundredth) (closed_at (horner y))
        (cond a (closed_at (by_atan1p y)) (cond l (closed_at (by_logs1p y)) (cond r (by_rc1p y) (closed_at (by_ln1p y)))))

    in_order : (a b c d : Bool) (u v w x z : Found) → cond a u (cond b v (cond c w (cond d x z)))
        ≡ cond a u (cond (not a && b) v (cond (not a && (not b && c)) w (cond (not a && (not b && (not c && d))) x z)))
    in_order true b c d u v w x z = refl
    in_order false true c d u v w x z = refl
    in_order false false true d u v w x z = refl
    in_order false false false d u v w x z = refl

-- no answer changes: these are the Rust's steps, with their case y = 0
pub rc1p_as_before : (y : Float) → rc1p y ≡
    cond (le (absolute y) hundredth) (closed_at (horner y))
    (cond (lt zero y) (closed_at (by_atan1p y))
    (cond (eq y zero) (closed_at one)
    (cond (lt (neg half) y) (closed_at (by_logs1p y))
    (cond (lt y (neg one)) (by_rc1p y) (closed_at (by_ln1p y))))))
unfolding rc1p
rc1p_as_before y = passed (le (absolute y) hundredth) (lt zero y) (eq y zero) _ _ _ _ (never_zero y)
  where
    passed : (b c d : Bool) (u v w x : Found) → (T (not b) → d ≡ false) → cond b u (cond c v w) ≡ cond b u (cond c v (cond d x w))
    passed true c d u v w x h = refl
    passed false c d u v w x h = rw (h tt)
