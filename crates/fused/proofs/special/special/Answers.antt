-- `special` meets its contract: `numbers` has the finite numbers, `Zeros` the rest. Assumes nothing.
use Rattle.std.proofs.Common.{◌≡◌, true, T, sym, ◌∙◌, subst, rules}
use borrow.Author.Tests.{not-true, not-false}
use lib.Ieee.{binary64, fits}
use lib.Ieee.Scale.{finite}
use Rattle.binary64.specs.Tests.{number, is_number, is_zero}
use Rattle.fused.proofs.Pattern.{pattern, no_nan}
use Rattle.fused.proofs.Zeros.{first_special, second_special, third_special, first_zero, second_zero, third_zero}
use Rattle.fused.proofs.special.special.Goals as goal
use Rattle.fused.proofs.special.special.Goals.{Else-a, Else-b, Else-c, Else-not-is_finite, Else-not-is_finite-2, Else-not-is_finite-3, Start}

-- what the tests told
finite-a : (c : Else-not-is_finite) → finite c.args.a ≡ true
finite-a c = sym c.is_finite.ensures ∙ c.if-not-is_finite.false

finite-b : (c : Else-not-is_finite-2) → finite c.args.b ≡ true
finite-b c = sym c.is_finite-2.ensures ∙ c.if-not-is_finite-2.false

finite-c : (c : Else-not-is_finite-3) → finite c.args.c ≡ true
finite-c c = sym c.is_finite-3.ensures ∙ c.if-not-is_finite-3.false

number-a : (c : Else-a) → T (number c.args.a)
number-a c = is_number _ (finite-a c.before.before.before.before.before) c.if-a.false

number-b : (c : Else-b) → T (number c.args.b)
number-b c = is_number _ (finite-b c.before.before.before.before) c.if-b.false

number-c : (c : Else-c) → T (number c.args.c)
number-c c = is_number _ (finite-c c.before.before.before) c.if-c.false

-- what owning an f64 tells: the format holds it
held-a : (c : Start) → T (fits binary64 c.args.a)
held-a c = subst T (sym c.well_formed.0.1) tt

held-b : (c : Start) → T (fits binary64 c.args.b)
held-b c = subst T (sym c.well_formed.1.0.1) tt

held-c : (c : Start) → T (fits binary64 c.args.c)
held-c c = subst T (sym c.well_formed.1.1.0.1) tt

pub returns-then-not-is_finite : goal.returns-then-not-is_finite
returns-then-not-is_finite c =
    let a = c.args in first_special a.a a.b a.c
    (sym c.is_finite.ensures ∙ c.if-not-is_finite.true)

pub returns-then-not-is_finite-2 : goal.returns-then-not-is_finite-2
returns-then-not-is_finite-2 c =
    let a = c.args in
    second_special a.a a.b a.c (sym c.is_finite-2.ensures ∙ c.if-not-is_finite-2.true)

pub returns-then-not-is_finite-3 : goal.returns-then-not-is_finite-3
returns-then-not-is_finite-3 c =
    let a = c.args in
    third_special a.a a.b a.c (finite-a (goal.at.returns-then-not-is_finite-3 c).Else-not-is_finite) (finite-b (goal.at.returns-then-not-is_finite-3 c).Else-not-is_finite-2)
    (sym c.is_finite-3.ensures ∙ c.if-not-is_finite-3.true)

pub returns-then-a : goal.returns-then-a
returns-then-a c =
    let a = c.args in
    first_zero a.b a.c (finite-b (goal.at.returns-then-a c).Else-not-is_finite-2) (finite-c (goal.at.returns-then-a c).Else-not-is_finite-3) (is_zero a.a c.if-a.true)

pub returns-then-b : goal.returns-then-b
returns-then-b c =
    let a = c.args in
    second_zero a.a a.c (finite-a (goal.at.returns-then-b c).Else-not-is_finite) (finite-c (goal.at.returns-then-b c).Else-not-is_finite-3) (is_zero a.b c.if-b.true)

pub returns-then-c : goal.returns-then-c
returns-then-c c =
    let a = c.args in
    third_zero a.a a.b (number-a (goal.at.returns-then-c c).Else-a) (number-b (goal.at.returns-then-c c).Else-b) (is_zero a.c c.if-c.true)

pub float_to_bits-ab : goal.float_to_bits-ab
float_to_bits-ab c =
    no_nan _ (number-a (goal.at.float_to_bits-ab c).Else-a)

pub float_to_bits-bb : goal.float_to_bits-bb
float_to_bits-bb c =
    no_nan _ (number-b (goal.at.float_to_bits-bb c).Else-b)

pub float_to_bits-cb : goal.float_to_bits-cb
float_to_bits-cb c =
    no_nan _ (number-c (goal.at.float_to_bits-cb c).Else-c)

pub split-requires : goal.split-requires
split-requires c =
    pattern _ (held-a (goal.at.split-requires c).Start) (number-a (goal.at.split-requires c).Else-a)

pub split-requires-2 : goal.split-requires-2
split-requires-2 c =
    pattern _ (held-b (goal.at.split-requires-2 c).Start) (number-b (goal.at.split-requires-2 c).Else-b)

pub split-requires-3 : goal.split-requires-3
split-requires-3 c =
    pattern _ (held-c (goal.at.split-requires-3 c).Start) (number-c (goal.at.split-requires-3 c).Else-c)

pub numbers-requires : goal.numbers-requires
numbers-requires c = (
  record { some = no_nan _ (number-a (goal.at.numbers-requires c).Else-a); parts = c.split.ensures },
  record { some = no_nan _ (number-b (goal.at.numbers-requires c).Else-b); parts = c.split-2.ensures },
  record { some = no_nan _ (number-c (goal.at.numbers-requires c).Else-c); parts = c.split-3.ensures },
)
