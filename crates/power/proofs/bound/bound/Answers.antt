-- `power::bound::bound` meets its contract, by `OneWord`: x is a bound from below, and x + 4 is above. Assumes nothing.
use Rattle.std.proofs.Common.{◌≡◌, ℕ, ◌+◌, ◌-◌, ◌*◌, ◌^◌, ◌<◌, ◌≤◌, subst, arith}
use Rattle.power.specs.Power.{cube}
use Rattle.power.proofs.OneWord.{High, high_word, at_least, less_than, told_above, told_below, shifted}
use Rattle.power.proofs.bound.bound.Goals as goal
use Rattle.power.proofs.bound.bound.Goals.{After-high-x}

abbrev x : After-high-x → ℕ
x c = c.high-x.result

-- the words that x is made of
module _ (c : After-high-x) where
  abbrev g : ℕ
  g = c.args.g

  abbrev m : ℕ
  m = c.args.m

  abbrev a : ℕ
  a = c.high-2.result

  abbrev b : ℕ
  b = c.high.result

  abbrev top : ℕ
  top = c.high-3.result

  A : High (m * m) a
  A = high_word (m * m) a c.high-2.ensures

  U : High (a * m) top
  U = high_word (a * m) top c.high-3.ensures

  B : High (g * g) b
  B = high_word (g * g) b c.high.ensures

  X : High (b * top) (x c)
  X = high_word (b * top) (x c) c.high-x.ensures

  lower : x c * 2 ^ 256 ≤ g * g * cube m
  lower = at_least g m a b top (x c) A U B X

  upper : g * g * cube m < (x c + 4) * 2 ^ 256
  upper = less_than g m a b top (x c) A U B X c.ranges.m.fits c.high.type_inv
      c.high-3.type_inv

sum : (to t : ℕ) → 2 * t ≤ to → to - 2 * t + 2 * t ≡ to
sum to t h = omega arith

room : (one x : ℕ) → x ≤ one → 4 ≤ one - x → x + 4 ≤ one
room one x h l = omega arith

pub returns-then-one-x : goal.returns-then-one-x
returns-then-one-x c n d z M G E =
    let a = (goal.at.returns-then-one-x c).After-high-x in
    let s = a.args.to - 2 * a.args.t in
    let l : 2 ^ s < x (goal.at.returns-then-one-x c).After-high-x = subst (λ (k : ℕ). k < x (goal.at.returns-then-one-x c).After-high-x) (shifted s c.if-places-gt63.false) c.if-one-x.true in
    told_above _ _ a.args.to a.args.t s (x (goal.at.returns-then-one-x c).After-high-x) n d z M G E (sum a.args.to a.args.t c.if-to-t.false) l
    (lower (goal.at.returns-then-one-x c).After-high-x)

pub returns-then-one-x-ge4 : goal.returns-then-one-x-ge4
returns-then-one-x-ge4 c n d z M G E =
    let a = (goal.at.returns-then-one-x-ge4 c).After-high-x in
    let s = a.args.to - 2 * a.args.t in
    let h = room _ (x (goal.at.returns-then-one-x-ge4 c).After-high-x) c.if-one-x.false c.if-one-x-ge4.true in
    let l : x (goal.at.returns-then-one-x-ge4 c).After-high-x + 4 ≤ 2 ^ s = subst (λ (k : ℕ). x (goal.at.returns-then-one-x-ge4 c).After-high-x + 4 ≤ k) (shifted s c.if-places-gt63.false) h in
    told_below _ _ a.args.to a.args.t s (x (goal.at.returns-then-one-x-ge4 c).After-high-x) n d z M G E (sum a.args.to a.args.t c.if-to-t.false) l
    (upper (goal.at.returns-then-one-x-ge4 c).After-high-x)
