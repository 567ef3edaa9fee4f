-- Document 01's ln, which has no answer below 2, agrees with the wider one wherever RC or RJ's helper may ask. Assumes nothing.
use Rattle.std.specs.Prelude.{◌≡◌, refl, Bool, true, false, ◌&&◌, ◌||◌, cond, ℕ, ◌*◌, ◌^◌, ◌<◌, T, ltb, eqb, ℤ}
use Rattle.std.proofs.Common.{sym, ap, subst, inl, inr, le_of_eq, le_of_lt, mul-pos, zero-lt-suc, arith, le-ltb, ltb→lt, eqb→eq}
use Rattle.std.specs.Float.{nan, inf, fin}
use Rattle.std.specs.Float.Ieee.{up, down, lt, le, eq, below, level, of_bits, to_bits}
use Rattle.std.specs.Float.Ieee.Fits.{and_l, and_r, down_pos}
use Rattle.series.specs.Ln.{ln}
use Rattle.scaling.proofs.Kind.{or_cases}
use Rattle.carlson.specs.Constants.{two}
use Rattle.asked.specs.With.{Agrees, ln_before}

-- of two numbers, the first above zero: what is no less is not below
not_both : (s : Bool) (a b : ℕ) → 0 < a → T (below false a s b || level false a s b) → below s b false a ≡ false
not_both true a b p t = let z = eqb→eq a 0 (and_r (eqb a b) (eqb a 0) t) in let r : ⊥ = omega arith in absurd r
not_both false a b p t = le-ltb b a (elim (or_cases (ltb a b) (eqb a b && true) t) [
  | inl l ↦ le_of_lt (ltb→lt a b l)
  | inr e ↦ le_of_eq (eqb→eq a b (and_l (eqb a b) true e))
])

not_lower : (s : Bool) (m : ℕ) (e : ℤ) → le two (fin s m e) ≡ true → lt (fin s m e) two ≡ false
unfolding le lt eq of_bits
not_lower s m e h =
    not_both s (1 * 2 ^ 1 * down e) (m * up e * 1) (mul-pos (zero-lt-suc 1) (down_pos e)) (subst T (sym h) tt)

pub before_agrees : Agrees ln_before
unfolding ln_before ln lt of_bits to_bits
before_agrees nan h = refl
before_agrees (inf true) h = refl
before_agrees (inf false) h = refl
before_agrees (fin s m e) h = ap (λ b. cond b nan (ln (fin s m e))) (not_lower s m e (h refl))
