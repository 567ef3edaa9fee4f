-- `laid_out` meets its contract: its tests are those of the definition. Assumes nothing.
use Prim.Native.Nat.{ℕ, ◌+◌, ◌-◌, ◌*◌, ◌^◌, ◌≤◌, ◌<◌}
use mathlib.Core.Path.{◌≡◌, ◌∙◌, subst}
use native.Mathlib.Omega.{arith}
use borrow.Author.Rules.{rules}
use Rattle.writing.specs.Decimal.{places_of}
use Rattle.writing.specs.Places.{places_some}
use Rattle.decimal_text.specs.Bounds.{digits_few, whole_small}
use Rattle.decimal_text.proofs.Laid.{as_point, as_low, as_whole, as_high}
use Rattle.decimal_text.proofs.shape.laid_out.Goals as goal
use Rattle.decimal_text.proofs.shape.laid_out.Goals.{After-width-n}

-- one digit to seventeen
few : (c : After-width-n) → c.width-n.result ≤ 17
few c = omega (arith, c.width-n.ensures, digits_few c.args.d c.requires.0)

some : (c : After-width-n) → 1 ≤ c.width-n.result
some c = omega (arith, c.width-n.ensures, places_some 19 c.args.d)

written_out : (d t n : ℕ) → d < 10 ^ 17 → n ≡ places_of 19 d → n + t ≤ 1217 → d * 10 ^ (t - 1200) < 2 ^ 64
written_out d t n h e w = below (d * 10 ^ (t - 1200)) (whole_small d h t (subst (λ (i : ℕ). i + t ≤ 1217) e w))
  where
    below : (p : ℕ) → p < 10 ^ 17 → p < 2 ^ 64
    below p h = omega arith

pub overflow_add-n : goal.overflow_add-n
overflow_add-n c =
    omega (arith, few (goal.at.overflow_add-n c).After-width-n)

pub returns-then-n-t-gt-LEAST : goal.returns-then-n-t-gt-LEAST
returns-then-n-t-gt-LEAST c =
    c.point.ensures ∙ as_point _ _ _ c.width-n.ensures c.if-t-lt-ONES.true c.if-n-t-gt-LEAST.true

pub overflow_sub-n : goal.overflow_sub-n
overflow_sub-n c =
    some (goal.at.overflow_sub-n c).After-width-n

pub power-requires : goal.power-requires
power-requires c =
    (omega (arith, few (goal.at.power-requires c).After-width-n), c.requires.1)

pub returns-then-t-lt-ONES : goal.returns-then-t-lt-ONES
returns-then-t-lt-ONES c =
    c.power.ensures ∙ as_low _ _ _ c.width-n.ensures c.if-t-lt-ONES.true c.if-n-t-gt-LEAST.false

pub overflow_add-n-2 : goal.overflow_add-n-2
overflow_add-n-2 c =
    omega (arith, few (goal.at.overflow_add-n-2 c).After-width-n)

pub whole-requires : goal.whole-requires
whole-requires c = (
  c.if-t-lt-ONES.false,
  omega (arith, some (goal.at.whole-requires c).After-width-n, c.if-n-t-le-WIDEST.true),
  written_out c.args.d c.args.t _ c.requires.0 c.width-n.ensures c.if-n-t-le-WIDEST.true,
)

pub returns-then-n-t-le-WIDEST : goal.returns-then-n-t-le-WIDEST
returns-then-n-t-le-WIDEST c =
    c.whole.ensures ∙ as_whole _ _ _ c.width-n.ensures c.if-t-lt-ONES.false c.if-n-t-le-WIDEST.true

pub overflow_sub-n-2 : goal.overflow_sub-n-2
overflow_sub-n-2 c =
    some (goal.at.overflow_sub-n-2 c).After-width-n

pub power-requires-2 : goal.power-requires-2
power-requires-2 c =
    (omega (arith, few (goal.at.power-requires-2 c).After-width-n), c.requires.1)

pub returns : goal.returns
returns c =
    c.power-2.ensures ∙ as_high _ _ _ c.width-n.ensures c.if-t-lt-ONES.false c.if-n-t-le-WIDEST.false
