-- Of two plain floats one is below the other, or they are the same: of all numbers `<` fails to tell only -0 and +0 apart. Sizes
-- are plain, and so is a plain float that is not below zero, over a scale. Assumes nothing.
use Rattle.std.specs.Prelude.{ℕ, suc, ◌+◌, ◌*◌, ◌^◌, ◌≤◌, ◌≡◌, Bool, true, false, ℤ, T, ltb, Float}
use Rattle.std.proofs.Math.Path.{refl}
use Rattle.std.proofs.Common.{sym, ap, ◌∙◌, subst, true≢false, zero-mul, arith, le-ltb, ltb-false, ne_eqb}
use Rattle.std.specs.Float.{nan, inf, fin, binary64}
use Rattle.std.specs.Float.Ieee.{up, down, odd, units, round, fits, is_nan, lt, neg, div, below, of_bits}
use Rattle.std.specs.Float.Ieee.Fits.{inf-fits, div-fits, round_is}
use Rattle.std.specs.Float.Ieee.Scale.{finite}
use Rattle.binary64.specs.Leaves.{absolute, maximum}
use Rattle.binary64.specs.Operators.{◌⊘◌}
use Rattle.scaling.specs.Units.{Is, unique, lt_units, neg_units}
use Rattle.scaling.specs.One.{sign}
use Rattle.scaling.proofs.One.{abs_units}
use Rattle.scaling.proofs.Plain.{whole_units_of}
use Rattle.scaling.proofs.Tests.{zero_is}
use Rattle.carlson.specs.Constants.{zero}
use Rattle.carlson.proofs.Only.{chosen}
use Rattle.sorting.specs.Permuted.{ToldApart}
use Rattle.rg_order.specs.Plain.{Plain}

-- ---- -0 is the only f64 with a sign and no units
minus_zero_only : {x : Float} {n : ℕ} → Plain x → Is binary64 x true n → n ≡ 0 → ⊥
minus_zero_only {x} p i e = p.not_minus_zero (unique (subst (Is binary64 x true) e i) (neg_units (zero_is binary64)))

-- ---- `<` tells plain floats apart
module _ {x y : Float} (p : Plain x) (q : Plain y) where
  same_number : {s t : Bool} {m n : ℕ} → Is binary64 x s m → Is binary64 y t n → below s m t n ≡ false → below t n s m ≡ false
      → x ≡ y
  same_number {s = false} {t = false} {m = m} {n = n} i j g h =
      let a = ltb-false m n g in
      let b = ltb-false n m h in
      let e : m ≡ n = omega arith in
      unique i (subst (Is binary64 y false) (sym e) j)
  same_number {s = true} {t = true} {m = m} {n = n} i j g h =
      let a = ltb-false n m g in
      let b = ltb-false m n h in
      let e : m ≡ n = omega arith in
      unique i (subst (Is binary64 y true) (sym e) j)
  same_number {s = false} {t = true} {m = m} {n = n} i j g h =
      let a = ltb-false 0 (n + m) h in
      absurd (minus_zero_only q j (omega arith))
  same_number {s = true} {t = false} {m = m} {n = n} i j g h =
      let a = ltb-false 0 (m + n) g in
      absurd (minus_zero_only p i (omega arith))

same : (x y : Float) → Plain x → Plain y → lt x y ≡ false → lt y x ≡ false → x ≡ y
unfolding lt is_nan
same nan y p q g h = absurd (true≢false p.number)
same (inf s) nan p q g h = absurd (true≢false q.number)
same (inf true) (inf true) p q g h = refl
same (inf true) (inf false) p q g h = absurd (true≢false g)
same (inf false) (inf true) p q g h = absurd (true≢false h)
same (inf false) (inf false) p q g h = refl
same (inf true) (fin t n d) p q g h = absurd (true≢false g)
same (inf false) (fin t n d) p q g h = absurd (true≢false h)
same (fin s m e) nan p q g h = absurd (true≢false q.number)
same (fin s m e) (inf true) p q g h = absurd (true≢false h)
same (fin s m e) (inf false) p q g h = absurd (true≢false g)
same (fin s m e) (fin t n d) p q g h =
    let i = (whole_units_of binary64 (fin s m e) p.fit tt).1 in
    let j = (whole_units_of binary64 (fin t n d) q.fit tt).1 in
    same_number p q i j (sym (lt_units i j) ∙ g) (sym (lt_units j i) ∙ h)

pub told_apart : ToldApart Plain
told_apart = record { number = λ p. p.number; apart = λ {a} {b} p q g h. same a b p q g h }

-- ---- a number without a sign is plain
record Plus (x : Float) : Type 0 where
  number : is_nan x ≡ false
  sign : sign x ≡ false

plus_plain : {x : Float} → T (fits binary64 x) → Plus x → Plain x
unfolding neg of_bits
plus_plain f s = record { fit = f; number = s.number; not_minus_zero = λ e. true≢false (sym (ap sign e) ∙ s.sign) }

pub size_plain : (x : Float) → Plain x → Plain (absolute x)
unfolding absolute is_nan
size_plain nan p = absurd (true≢false p.number)
size_plain (inf s) p = plus_plain (inf-fits binary64 false) (record { number = refl; sign = refl })
size_plain (fin s m e) p =
    plus_plain (abs_units (whole_units_of binary64 (fin s m e) p.fit tt).1).fit (record { number = refl; sign = refl })

pub larger_plain : {x y : Float} → Plain x → Plain y → Plain (maximum x y)
unfolding maximum
larger_plain {x} {y} p q = chosen Plain (is_nan x) q (chosen Plain (lt x y) q p)

-- ---- over a scale
-- what is not below zero has no sign
unsigned : (x : Float) → Plain x → lt x zero ≡ false → Plus x
unfolding lt is_nan of_bits
unsigned nan p h = absurd (true≢false p.number)
unsigned (inf true) p h = absurd (true≢false h)
unsigned (inf false) p h = record { number = refl; sign = refl }
unsigned (fin false m e) p h = record { number = refl; sign = refl }
unsigned (fin true m e) p h =
    let i = whole_units_of binary64 (fin true m e) p.fit tt in
    absurd (minus_zero_only p i.1 (none i.0 (ltb-false 0 (i.0 + 0) (sym (lt_units i.1 (zero_is binary64)) ∙ h))))
  where
    none : (n : ℕ) → n + 0 ≤ 0 → n ≡ 0
    none n h = omega arith

-- nor has a fraction that is rounded without one
written_plus : (d q k l : ℕ) → Plus (odd d false q k l)
unfolding odd is_nan
written_plus d ℕ.zero k l = record { number = refl; sign = refl }
written_plus d (suc q) k l = record { number = refl; sign = refl }

endless_plus : Plus (inf false)
unfolding is_nan
endless_plus = record { number = refl; sign = refl }

in_range_plus : (q k : ℕ) → Plus (units binary64 false q k)
unfolding units
in_range_plus q k = chosen Plus (ltb (q * 2 ^ k) (2 ^ (1074 + 1024))) (written_plus 54 q k 1074) endless_plus

rounded_plus : (a b : ℕ) → Plus (round binary64 false a b)
rounded_plus a b = subst Plus (sym (round_is binary64 false a b)) (in_range_plus _ _)

-- what is above zero has units
some_units : (d : ℤ) → lt zero (fin false 0 d) ≡ false
unfolding lt of_bits
some_units d = le-ltb (0 * 1 * down d) (0 * up d * 1) (let e = zero-mul (up d) in omega arith)

divided : (x s : Float) → Plus x → finite s ≡ true → lt zero s ≡ true → Plus (x ⊘ s)
unfolding div lt is_nan of_bits
divided nan s p f h = absurd (true≢false p.number)
divided (inf true) s p f h = absurd (true≢false p.sign)
divided (inf false) nan p f h = absurd (true≢false (sym f))
divided (inf false) (inf t) p f h = absurd (true≢false (sym f))
divided (inf false) (fin true n d) p f h = absurd (true≢false (sym h))
divided (inf false) (fin false n d) p f h = record { number = refl; sign = refl }
divided (fin true m e) s p f h = absurd (true≢false p.sign)
divided (fin false m e) nan p f h = absurd (true≢false (sym f))
divided (fin false m e) (inf t) p f h = absurd (true≢false (sym f))
divided (fin false m e) (fin true n d) p f h = absurd (true≢false (sym h))
divided (fin false m e) (fin false ℕ.zero d) p f h = absurd (true≢false (sym h ∙ some_units d))
divided (fin false m e) (fin false (suc n) d) p f h =
    rw (ne_eqb (suc n) 0 (λ z. omega arith)) (rounded_plus (m * up e * down d) (suc n * up d * down e))

pub quotient_plain : (x s : Float) → Plain x → lt x zero ≡ false → finite s ≡ true → lt zero s ≡ true → Plain (x ⊘ s)
quotient_plain x s p h f g = plus_plain (div-fits binary64 x s) (divided x s (unsigned x p h) f g)
