-- `lines_in` meets its contract. Assumes nothing.
use Rattle.std.proofs.Common.{◌≡◌, ◌+◌, ◌≤◌, ℕ, List, ◌++◌, length, take, ap, ◌∙◌, zero-add, arith, length-take}
use Rattle.pace.specs.Numbers.{newlines}
use Rattle.pace.specs.NumberLaws.{newlines_both, newlines_most, newlines_all}
use Rattle.pace.proofs.ends.lines_in.Goals as goal

-- a part more, and no part more
more : (n r : ℕ) (rest part next : List ℕ) (all : ℕ) → rest ≡ part ++ next → r ≡ newlines part → n + newlines rest ≡ all
    → (n + r) + newlines next ≡ all
more n r rest part next all e f g = omega (arith, f, g, ap newlines e ∙ newlines_both part next)

none : (n : ℕ) (rest : List ℕ) (all : ℕ) → length rest ≡ 0 → n + newlines rest ≡ all → n ≡ all
none n rest all e g = omega (arith, g, newlines_most rest)

few : (n k : ℕ) (l : List ℕ) → n ≤ newlines (take k l) → n ≤ k
few n k l g = omega (arith, g, newlines_most (take k l), length-take k l)

pub loop-part-init : goal.loop-part-init
loop-part-init c =
    let e = c.into_iter-part-iterator.ensures.into_iter_gives in
    let s = c.chunks-part-items.ensures in
    record { size = ap (λ i. i.size) e ∙ s.size; all = zero-add _ ∙ ap (λ i. newlines i.rest.now) e ∙ ap newlines s.rest }

pub overflow_add-lines : goal.overflow_add-lines
overflow_add-lines c =
    let s = c.in-Some.ensures.steps in
    let e = more _ _ _ _ _ _ s.1.0 (c.from-lines.ensures ∙ c.count.ensures) c.loop-part.invariant.all in
    record { fits = omega (arith, few (c.loop-part.lines + c.from-lines.result) c.min-end.result c.args.block.now (omega (arith, e))) }

pub loop-part-preserved : goal.loop-part-preserved
loop-part-preserved c =
    let s = c.in-Some.ensures.steps in
    let i = c.loop-part.invariant in
    record { size = s.0 ∙ i.size; all = more _ _ _ _ _ _ s.1.0 (c.from-lines.ensures ∙ c.count.ensures) i.all }

pub returns : goal.returns
returns c =
    let a = c.args in
    let e = none _ _ _ c.in-None.ensures.steps.1.0 c.loop-part.invariant.all in
    newlines_all a.block.now a.size c.min-end.result c.min-end.result _ c.min-end.ensures (omega arith) (omega arith) e
