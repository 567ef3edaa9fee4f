-- RJ with p above zero stays so when it is rescaled. Assumes nothing.
use Prim.Native.Nat.{ℕ, zero, suc, ◌+◌, ◌-◌, ◌*◌, ◌/◌, ◌%◌, ◌^◌, compare}
use Rattle.std.specs.Prelude.{◌≡◌, refl, Bool, true, false, ◌||◌, not, ltb, eqb, ℤ, pos, Float}
use Rattle.std.proofs.Common.{sym, ◌∙◌, true≢false, arith, le-ltb}
use Rattle.std.specs.Float.{nan, inf, fin, binary64}
use Rattle.std.specs.Float.Ieee.{of_bits, is_nan, up, down, low, emax, prec, size, nearest, odd, units, round, div, lt, le, eq, ne}
use Rattle.std.specs.Float.Ieee.Scale.{finite}
use Rattle.binary64.specs.Operators.{◌⊘◌}
use Rattle.carlson.specs.Constants.{zero as +0}
use Rattle.carlson_arguments.proofs.DoorLaws.{both_true}
use Rattle.carlson.proofs.Only.{chosen}
use Rattle.carlson_arguments.specs.Rescaling.{beyond_limits, survive3, rescales4}
use Rattle.sorting.specs.Order.{not_below_le}

-- ---- what has a plus is not below zero
abbrev Plus : Float → Type 0
Plus x = lt x +0 ≡ false

never : (a b : ℕ) → ltb a (0 * b) ≡ false
never a b = le-ltb a (0 * b) (omega arith)

plus_fin : (m : ℕ) (e : ℤ) → Plus (fin false m e)
unfolding lt of_bits
plus_fin m e = never (m * up e * down (pos 0)) (down e)

plus_odd : (d q k l : ℕ) → Plus (odd d false q k l)
unfolding odd
plus_odd d zero k l = plus_fin _ _
plus_odd d (suc q) k l = plus_fin _ _

plus_inf : Plus (inf false)
unfolding lt of_bits
plus_inf = refl

plus_units : (q k : ℕ) → Plus (units binary64 false q k)
unfolding units
plus_units q k =
    chosen Plus (ltb (q * 2 ^ k) (2 ^ (low binary64 + suc (emax binary64)))) (plus_odd (suc (prec binary64)) q k (low binary64))
    plus_inf

plus_round : (a c : ℕ) → Plus (round binary64 false a c)
unfolding round
plus_round a c =
    let n = a * 2 ^ low binary64 in
    let k = size (n / c) - prec binary64 in
    let u = c * 2 ^ k in
    plus_units (nearest (n / u) (compare (n % u * 2) u)) k

-- ---- a quotient of two that are above zero, or NaN
no_minus : (m : ℕ) (e : ℤ) → le (fin true m e) +0 ≡ true
unfolding lt is_nan of_bits
no_minus m e = not_below_le (fin true m e) +0 refl refl refl

plus_quotient : (p s : Float) → le p +0 ≡ false → lt +0 s ≡ true → Plus (p ⊘ s)
unfolding div le lt eq of_bits
plus_quotient nan s h g = refl
plus_quotient (inf true) s h g = absurd (true≢false h)
plus_quotient (inf false) nan h g = refl
plus_quotient (inf false) (inf t) h g = refl
plus_quotient (inf false) (fin true n d) h g = absurd (true≢false (sym g))
plus_quotient (inf false) (fin false n d) h g = refl
plus_quotient (fin true m e) s h g = absurd (true≢false (sym (no_minus m e) ∙ h))
plus_quotient (fin false m e) nan h g = refl
plus_quotient (fin false m e) (inf true) h g = absurd (true≢false (sym g))
plus_quotient (fin false m e) (inf false) h g = plus_fin 0 (pos 0)
plus_quotient (fin false m e) (fin true n d) h g = absurd (true≢false (sym g))
plus_quotient (fin false m e) (fin false n d) h g =
    chosen Plus (eqb n 0) (chosen Plus (eqb m 0) refl refl) (plus_round (m * up e * down d) (n * up d * down e))

-- ---- the tests
or_false : (a b : Bool) → (a || b) ≡ false → (a ≡ false) × (b ≡ false)
or_false true b e = absurd (true≢false e)
or_false false b e = (refl, e)

not-true : (b : Bool) → not b ≡ true → b ≡ false
not-true true e = absurd (true≢false (sym e))
not-true false e = refl

apart : (p s : Float) → le p +0 ≡ false → lt +0 s ≡ true → (eq p +0 || ne (p ⊘ s) +0) ≡ true → le (p ⊘ s) +0 ≡ false
unfolding le ne
apart p s h g k =
    let e = (or_false (lt p +0) (eq p +0) h).1 in
    let n : ne (p ⊘ s) +0 ≡ true = rw e at k in
    rw (plus_quotient p s h g, not-true (eq (p ⊘ s) +0) n)

pub still_above : (x y z p s : Float) → le p +0 ≡ false → rescales4 x y z p s ≡ true → le (p ⊘ s) +0 ≡ false
still_above x y z p s h r =
    let both = both_true (beyond_limits s) _ r in
    let above = (both_true (finite s) _ both.0).1 in
    apart p s h (both_true (lt +0 s) _ above).0 (both_true (survive3 x y z s) _ both.1).1
