-- Which pattern is the answer: tests of patterns, and from a pattern that passes them to `power`. Assumes nothing.
use Rattle.std.proofs.Common.{◌≡◌, ℕ, zero, suc, ◌+◌, ◌-◌, ◌*◌, ◌%◌, ◌^◌, ◌<◌, ◌≤◌, Bool, true, false, not, T, [], ◌∷◌, sym, refl, ap, ◌∙◌, subst, true≢false, lt_irrefl, mul-pos, zero-mul, add-one, arith, pow_mono, le-ltb, lt-ltb}
use native.Mathlib.Nat.{two-pow-succ}
use lib.Ieee.{Float, nan, inf, fin, binary64, up, down, of_bits}
use lib.Ieee.Fits.{down_pos}
use lib.Ieee.Exact.{HasValue}
use Rattle.algebra.specs.Ring.{◌:*◌, ◌≈◌, ◌⊩◌, ◌times◌≼◌}
use Rattle.algebra.proofs.Ring.{ring}
use Rattle.rounding.specs.Cut.{Cut, infinity, value, passed, reached, rounded}
use Rattle.rounding.proofs.Value.{value_lt, value_is}
use Rattle.rounding.specs.Laws.{Number, middle}
use Rattle.rounding.proofs.Laws.{lt_passed, gt_passed, unreached, rounded_at}
use Rattle.root.specs.Parts.{four, Scaled}
use Rattle.power.specs.Power.{power_of, power}
use Rattle.power.specs.Laws.{power_number, same_power}
use Rattle.power.specs.Parts.{cut_at, Held, Told, Answer}
use Rattle.power.specs.declared.bound.Side.{Side}
use Rattle.power.specs.declared.bound.Side.TheVariants.{Below, Above}
use Rattle.power.proofs.OneWord.{shifted}
use Rattle.power.proofs.Fours.{four_pos, four_add, four_is}

-- ---- a pattern is reached, or it is not
pub reached_zero : (v : Cut) (r : ℕ) → r ≡ 0 → true ≡ reached v r
unfolding reached
reached_zero v r e = ap (reached v) (sym e)

pub reached_past : (v : Cut) (r : ℕ) → infinity < r → false ≡ reached v r
unfolding reached
reached_past v zero h = absurd (omega arith)
reached_past v (suc b) h = rw (le-ltb b infinity (omega arith))

pub reached_at : (v : Cut) (r : ℕ) → (r ≡ 0 → ⊥) → r ≤ infinity → passed v (r - 1) ≡ reached v r
unfolding reached
reached_at v zero z h = absurd (z refl)
reached_at v (suc b) z h = let e : suc b - 1 ≡ b = omega arith in rw (lt-ltb b infinity (omega arith), e)

-- ---- the two tests, by their answers
pub holds : {t : Bool} → t ≡ true → T t
holds e = subst T (sym e) tt

pub answer : (v : Cut) (r : ℕ) (s t : Bool) → r ≤ infinity → s ≡ reached v r → s ≡ true → t ≡ reached v (r + 1) → not t ≡ true
    → Answer v r
answer v r s t h e p f q = record { held = h; here = holds (sym e ∙ p); last = holds (ap not (sym f) ∙ q) }

-- (where bounds tell of both middles)
pub clear : (v : Cut) (r : ℕ) (s t : Side) → (r ≡ 0 → ⊥) → r < infinity → Told s (v (middle (r - 1) (suc (r - 1))) (2 ^ 1075))
    → s ≡ Below
    → Told t (v (middle r (suc r)) (2 ^ 1075)) → t ≡ Above → Answer v r
clear v r s t z h p e q f =
    let l = subst (λ (k : Side). Told k (v (middle (r - 1) (suc (r - 1))) (2 ^ 1075))) e p in
    let u = subst (λ (k : Side). Told k (v (middle r (suc r)) (2 ^ 1075))) f q in
    record {
      held = omega arith;
      here = subst T (reached_at v r z (omega arith)) (lt_passed v (r - 1) l);
      last = subst (λ (k : ℕ). T (not (reached v k))) (sym (add-one r)) (unreached v r (gt_passed v r u));
    }

-- ---- a turn of the search adds 2 ^ (k - 1), half of what is left
pub record Step (k : ℕ) : Type 0 where
  pub small : 2 ^ (k - 1) ≤ 2 ^ 62
  pub double : 2 ^ k ≡ 2 ^ (k - 1) + 2 ^ (k - 1)
  pub shift : 1 * 2 ^ (k - 1) % 2 ^ 64 ≡ 2 ^ (k - 1)

pub step : (k : ℕ) → 0 < k → k ≤ 63 → Step k
step k p h =
    let e : k ≡ suc (k - 1) = omega arith in
    let l : k - 1 ≤ 62 = omega arith in
    record { small = pow_mono l; double = ap (λ (z : ℕ). 2 ^ z) e ∙ two-pow-succ (k - 1); shift = shifted (k - 1) (omega arith) }

-- ---- a float that is w units
power_is : (x z : Float) (w : ℕ) → HasValue x false w (2 ^ 1074) → 0 < w
    → ((p q : ℕ) → 0 < q → p * 2 ^ 1074 ≡ w * q → rounded (power_of p q) ≡ z) → power x ≡ z
unfolding power
power_is nan z w h W f = absurd h
power_is (inf s) z w h W f = absurd h
power_is (fin true m e) z w h W f = absurd (true≢false h.0)
power_is (fin false zero e) z w h W f =
    let n : w * down e ≡ 0 = sym h.1 ∙ ap (λ (k : ℕ). k * 2 ^ 1074) (zero-mul (up e)) ∙ zero-mul (2 ^ 1074) in
    absurd (lt_irrefl 0 (subst (λ (k : ℕ). 0 < k) n (mul-pos W (down_pos e))))
power_is (fin false (suc m) e) z w h W f = f (suc m * up e) (down e) (down_pos e) h.1

pub held : {b n y : ℕ} → b < infinity → Scaled b n y → Held n y
held h s = (s.low, omega (arith, s.high), s.small h)

-- p / q is w units, and w units are n * 4 ^ y / 4 ^ 1048
crossed : (p q w n y : ℕ) → p * 2 ^ 1074 ≡ w * q → w * four 511 ≡ n * four y → p * four 1048 ≡ n * four y * q
crossed p q w n y e s =
    ap (λ (z : ℕ). p * z) (four_add 537 511 ∙ ap (λ (z : ℕ). z * four 511) (sym (four_is 537 1074 (omega arith))))
    ∙ regroup p (2 ^ 1074) w q (four 511) (n * four y) e s
  where
    regroup : (p k w q f x : ℕ) → p * k ≡ w * q → w * f ≡ x → p * (k * f) ≡ x * q
    regroup = ring 6 (λ p k w q f x. (f times p :* k ≼ w :* q) ∷ (q times w :* f ≼ x) ∷ [] ⊩ p :* (k :* f) ≈ x :* q) tt

-- THE LAW
pub power_pattern : {b n y : ℕ} (r : ℕ) → (0 < b) × (b < infinity) → Scaled b n y → Answer (cut_at n y) r
    → power (of_bits binary64 b) ≡ of_bits binary64 r
power_pattern {b} {n} {y} r h s a =
    power_is (of_bits binary64 b) (of_bits binary64 r) (value b) (value_is b h.1) (omega (arith, value_lt 0 b h.0))
    (λ p q Q e. ap rounded (same_power p q (n * four y) (four 1048) Q (four_pos 1048) (crossed p q (value b) n y e s.same))
    ∙ at)
  where
    num : Number (cut_at n y)
    num = power_number (n * four y) (four 1048) (mul-pos (omega (arith, s.low)) (four_pos y))

    at : rounded (cut_at n y) ≡ of_bits binary64 r
    at = rounded_at (cut_at n y) num r a.here (subst (λ (z : ℕ). T (not (reached (cut_at n y) z))) (add-one r) a.last)
