-- `held` meets its contract: the digits that are left, after the number so far, give what all give. Assumes nothing.
use Rattle.std.proofs.Common.{ℕ, ◌≡◌, ◌+◌, ◌*◌, ◌^◌, ◌≤◌, ◌<◌, List, Some, None, length, get_or, drop, arith, add-one, pow-suc, drop-cons, drop_of_length-le, lit<, lt-ltb, le-ltb, ◌∙◌}
use Rattle.std.proofs.Math.Nat.{mul-le-mul_left, pow-le-pow_right}
use Rattle.digits.specs.Digits.{digit_of, number_from}
use Rattle.digits.proofs.held.Goals as goal
use Rattle.digits.proofs.held.Goals.{Else-d-base}

-- the digit d at i
module _ (base v : ℕ) (l : List ℕ) (i d : ℕ) (inside : i < length l) (is : d ≡ digit_of (get_or l i 0)) where
  digit_more : d < base → number_from base (v * base + d) (drop (i + 1) l) ≡ number_from base v (drop i l)
  unfolding number_from
  digit_more h = rw (add-one, drop-cons l i 0 inside, ← is, lt-ltb d base h)

  digit_none : base ≤ d → None ≡ number_from base v (drop i l)
  unfolding number_from
  digit_none h = rw (drop-cons l i 0 inside, ← is, le-ltb d base h)

whole : (base v : ℕ) (l : List ℕ) (i : ℕ) → length l ≤ i → Some v ≡ number_from base v (drop i l)
unfolding number_from
whole base v l i h = rw (drop_of_length-le l {i = i} h)

-- sixteen digits fill a word, in a base up to 16
grown : (c : Else-d-base) → c.loop-b.value * c.args.base + c.digit-d.result < 16 ^ (c.loop-b.b-index + 1)
grown c = rw (add-one, pow-suc) (omega (arith, mul-le-mul_left c.loop-b.value c.requires.base_within.1))

fits : (v i : ℕ) → i ≤ 16 → v < 16 ^ i → v < 2 ^ 64
fits v i h k = omega (arith, pow-le-pow_right {n = 16} (lit< tt) h)

more-fits : (c : Else-d-base) → c.loop-b.value * c.args.base + c.digit-d.result < 2 ^ 64
more-fits c = fits _ _ (omega (arith, c.requires.text_len)) (grown c)

pub returns-then-d-base : goal.returns-then-d-base
returns-then-d-base c =
    digit_none _ c.loop-b.value c.args.text.now c.loop-b.b-index _ (omega arith) c.digit-d.ensures c.if-d-base.true
    ∙ c.loop-b.invariant.1

pub overflow_mul-value : goal.overflow_mul-value
overflow_mul-value c = omega (arith, more-fits (goal.at.overflow_mul-value c).Else-d-base)

pub overflow_add-value : goal.overflow_add-value
overflow_add-value c = omega (arith, more-fits (goal.at.overflow_add-value c).Else-d-base)

pub loop-b-preserved : goal.loop-b-preserved
loop-b-preserved c = (
  grown (goal.at.loop-b-preserved c).Else-d-base,
  digit_more _ c.loop-b.value c.args.text.now c.loop-b.b-index _ (omega arith) c.digit-d.ensures c.if-d-base.false
      ∙ c.loop-b.invariant.1,
)

pub returns : goal.returns
returns c = whole _ c.loop-b.value c.args.text.now c.loop-b.b-index (omega arith) ∙ c.loop-b.invariant.1
