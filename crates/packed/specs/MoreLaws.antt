-- "14 is given where the bytes seen so far are good": what is read otherwise stays so, whatever comes after. Assumes nothing.
use Rattle.refusals.specs.declared.Refusal.{Refusal}
use Rattle.refusals.specs.declared.Refusal.TheVariants.{ListCut, NumberBad, UnknownFunction}
use Rattle.std.specs.Prelude.{None, Result, Ok, Err}
use Rattle.std.specs.Prelude.{ℕ, zero, suc, ◌+◌, ◌-◌, ◌*◌, ◌≤◌, ◌<◌, ◌≡◌, refl, Bool, true, false, cond, List, [], ◌∷◌, ◌++◌, eqb, ltb, length, drop}
use Rattle.std.proofs.Common.{sym, ap, ◌∙◌, ⊎_elim, arith, lt-ltb, length-append, length-drop, drop_of_length-le}
use Rattle.std.proofs.lemmas.List.{drop-append-le}
use Rattle.algebra.specs.Order.{lt_or_le}
use Rattle.packed_number.specs.Numbers.{whole, number_from, number_at, last_group}
use Rattle.packed.specs.Jobs.{arity_of, with_argument}
use Rattle.packed.specs.Reading.{begun, function_read, argument_read, argument_at, argument_after, job_at, Read, found, read_at}
use Rattle.packed_number.proofs.NumberLaws.{whole_next}
use Rattle.packed_number.specs.declared.Number.{Number}
use Rattle.packed.specs.declared.read.Got.{Got}

-- ---- a number
from_more : (left w v at : ℕ) (xs ys : List ℕ) → (number_from left w v at xs ≡ Err ListCut → ⊥)
    → number_from left w v at (xs ++ ys) ≡ number_from left w v at xs
unfolding number_from
from_more zero w v at [] ys h = absurd (h refl)
from_more zero w v at (b ∷ xs) ys h = refl
from_more (suc left) w v at [] ys h = absurd (h refl)
from_more (suc left) w v at (b ∷ xs) ys h =
    go (ltb b 128) h (from_more left (w * 128) (v + (b - 128) * w) (at + 1) xs ys)
  where
    go :
        (t : Bool)
        → (cond t (last_group w v (at + 1) b) (number_from left (w * 128) (v + (b - 128) * w) (at + 1) xs) ≡ Err ListCut → ⊥)
        → ((number_from left (w * 128) (v + (b - 128) * w) (at + 1) xs ≡ Err ListCut → ⊥)
        → number_from left (w * 128) (v + (b - 128) * w) (at + 1) (xs ++ ys)
        ≡ number_from left (w * 128) (v + (b - 128) * w) (at + 1) xs)
        → cond t (last_group w v (at + 1) b) (number_from left (w * 128) (v + (b - 128) * w) (at + 1) (xs ++ ys))
        ≡ cond t (last_group w v (at + 1) b) (number_from left (w * 128) (v + (b - 128) * w) (at + 1) xs)
    go true h more = refl
    go false h more = more h

from_none : (left w v at : ℕ) → number_from left w v at [] ≡ Err ListCut
unfolding number_from
from_none zero w v at = refl
from_none (suc left) w v at = refl

number_more : (l m : List ℕ) (at : ℕ) → (number_at l at ≡ Err ListCut → ⊥) → number_at (l ++ m) at ≡ number_at l at
unfolding number_at
number_more l m at h = ⊎_elim beyond inside (lt_or_le (length l) at)
  where
    beyond : length l < at → number_from 9 1 0 at (drop at (l ++ m)) ≡ number_from 9 1 0 at (drop at l)
    beyond k = absurd (h (rw (drop_of_length-le l {i = at} (omega arith)) (from_none 9 1 0 at)))

    inside : at ≤ length l → number_from 9 1 0 at (drop at (l ++ m)) ≡ number_from 9 1 0 at (drop at l)
    inside k = rw (drop-append-le at l m k) (from_more 9 1 0 at (drop at l) m h)

-- ---- a job
-- it is not cut so far; a refusal stays through the arguments that come after it
abbrev Uncut : Result Got Refusal → Type 0
Uncut r = r ≡ Err ListCut → ⊥

abbrev pub Good : Read → Type 0
Good r = r ≡ Err ListCut → ⊥

uncut : (r : Result Got Refusal) → Good (found r) → Uncut r
unfolding found
uncut r h e = h (ap found e)

before : (l : List ℕ) (r : Result Got Refusal) (k : ℕ) → Uncut (argument_after l r k) → Uncut r
unfolding argument_after
before l (Ok g) k h e = let z : ◌≡◌ {A = ℕ} 0 1 = cc in omega arith
before l (Err n) k h e = h e

argument_more : (l m : List ℕ) (g : Got) (k : ℕ) → Uncut (argument_at l g k) → argument_at (l ++ m) g k ≡ argument_at l g k
unfolding argument_at argument_read
argument_more l m g k h = go (ltb k (arity_of g.job.function)) h
  where
    go :
        (t : Bool) → Uncut (cond t (argument_read g.job k (number_at l g.next)) (Ok g))
        → cond t (argument_read g.job k (number_at (l ++ m) g.next)) (Ok g)
        ≡ cond t (argument_read g.job k (number_at l g.next)) (Ok g)
    go true h =
        ap (λ (n : Result Number Refusal). argument_read g.job k n) (number_more l m g.next
        (λ e. h (ap (λ (n : Result Number Refusal). argument_read g.job k n) e)))
    go false h = refl

after_more : (l m : List ℕ) (r : Result Got Refusal) (k : ℕ) → Uncut (argument_after l r k)
    → argument_after (l ++ m) r k ≡ argument_after l r k
unfolding argument_after
after_more l m (Ok g) k h = argument_more l m g k h
after_more l m (Err n) k h = refl

function_more : (l m : List ℕ) (at : ℕ) → Uncut (function_read (number_at l at))
    → function_read (number_at (l ++ m) at) ≡ function_read (number_at l at)
unfolding function_read
function_more l m at h = ap function_read (number_more l m at (λ e. h (ap function_read e)))

job_more : (l m : List ℕ) (at : ℕ) → Uncut (job_at l at) → job_at (l ++ m) at ≡ job_at l at
unfolding job_at
job_more l m at h =
    let g2 = before l _ 3 h in
    let g1 = before l _ 2 g2 in
    let g0 = before l _ 1 g1 in
    let f = before l _ 0 g0 in
    rw (function_more l m at f, after_more l m _ 0 g0, after_more l m _ 1 g1, after_more l m _ 2 g2, after_more l m _ 3 h)

-- a job that was read, or a refusal that is not 14, stays
pub read_more : (l m : List ℕ) (at : ℕ) → at < length l → Good (read_at l at) → read_at (l ++ m) at ≡ read_at l at
unfolding read_at
read_more l m at i h =
    rw (lt-ltb at (length l) i, lt-ltb at (length (l ++ m)) (rw length-append (omega arith)))
    (ap found (job_more l m at (uncut (job_at l at) (rw (lt-ltb at (length l) i) at h))))

-- ---- how much may be waited for
last_whole : (w v next b : ℕ) → last_group w v next b ≡ Err ListCut → ⊥
unfolding last_group
last_whole w v next b = go (eqb b 0) (ltb 1 w)
  where
    go : (t u : Bool) → cond t (cond u (Err NumberBad) (whole v next)) (whole (v + b * w) next) ≡ Err ListCut → ⊥
    go true true e = let z : ◌≡◌ {A = ℕ} 0 1 = cc in omega arith
    go true false e = let z : ◌≡◌ {A = ℕ} 0 1 = cc in omega arith
    go false u e = let z : ◌≡◌ {A = ℕ} 0 1 = cc in omega arith

last_next : (w v at b x next : ℕ) → last_group w v at b ≡ whole x next → next ≡ at
unfolding last_group
last_next w v at b x next = go (eqb b 0) (ltb 1 w)
  where
    go : (t u : Bool) → cond t (cond u (Err NumberBad) (whole v at)) (whole (v + b * w) at) ≡ whole x next → next ≡ at
    go true true e = let z : ◌≡◌ {A = ℕ} 0 1 = cc in absurd (omega arith)
    go true false e = sym (whole_next e)
    go false u e = sym (whole_next e)

from_cut : (left w v at : ℕ) (xs : List ℕ) → number_from left w v at xs ≡ Err ListCut → length xs ≤ left
unfolding number_from
from_cut zero w v at [] e = omega arith
from_cut zero w v at (b ∷ xs) e = go (eqb b 1) e
  where
    go : (t : Bool) → cond t (whole (v + w) (at + 1)) (Err NumberBad) ≡ Err ListCut → length (b ∷ xs) ≤ 0
    go true e = let z : ◌≡◌ {A = ℕ} 0 1 = cc in absurd (omega arith)
    go false e = let z : ◌≡◌ {A = ℕ} 0 1 = cc in absurd (omega arith)
from_cut (suc left) w v at [] e = omega arith
from_cut (suc left) w v at (b ∷ xs) e = go (ltb b 128) e (from_cut left (w * 128) (v + (b - 128) * w) (at + 1) xs)
  where
    go :
        (t : Bool) → cond t (last_group w v (at + 1) b) (number_from left (w * 128) (v + (b - 128) * w) (at + 1) xs)
        ≡ Err ListCut
        → (number_from left (w * 128) (v + (b - 128) * w) (at + 1) xs ≡ Err ListCut → length xs ≤ left)
        → suc (length xs) ≤ suc left
    go true e more = absurd (last_whole w v (at + 1) b e)
    go false e more = omega (arith, more e)

from_next : (left w v at : ℕ) (xs : List ℕ) (x next : ℕ) → number_from left w v at xs ≡ whole x next → next ≤ at + suc left
unfolding number_from
from_next zero w v at [] x next e = let z : ◌≡◌ {A = ℕ} 0 1 = cc in absurd (omega arith)
from_next zero w v at (b ∷ xs) x next e = go (eqb b 1) e
  where
    go : (t : Bool) → cond t (whole (v + w) (at + 1)) (Err NumberBad) ≡ whole x next → next ≤ at + 1
    go true e = let z : at + 1 ≡ next = whole_next e in omega arith
    go false e = let z : ◌≡◌ {A = ℕ} 0 1 = cc in absurd (omega arith)
from_next (suc left) w v at [] x next e = let z : ◌≡◌ {A = ℕ} 0 1 = cc in absurd (omega arith)
from_next (suc left) w v at (b ∷ xs) x next e = go (ltb b 128) e (from_next left (w * 128) (v + (b - 128) * w) (at + 1) xs x next)
  where
    go :
        (t : Bool) → cond t (last_group w v (at + 1) b) (number_from left (w * 128) (v + (b - 128) * w) (at + 1) xs)
        ≡ whole x next
        → (number_from left (w * 128) (v + (b - 128) * w) (at + 1) xs ≡ whole x next → next ≤ at + 1 + suc left)
        → next ≤ at + suc (suc left)
    go true e more = omega (arith, last_next w v (at + 1) b x next e)
    go false e more = omega (arith, more e)

number_cut : (l : List ℕ) (at : ℕ) → number_at l at ≡ Err ListCut → length l ≤ at + 9
unfolding number_at
number_cut l at e = omega (arith, length-drop at l, from_cut 9 1 0 at (drop at l) e)

number_next : (l : List ℕ) (at x next : ℕ) → number_at l at ≡ whole x next → next ≤ at + 10
unfolding number_at
number_next l at x next e = from_next 9 1 0 at (drop at l) x next e

-- cut so far only where so few bytes are there; and a job found ends by there
record Near (l : List ℕ) (b : ℕ) (r : Result Got Refusal) : Type 0 where
  cut : r ≡ Err ListCut → length l ≤ b
  found : (g : Got) → r ≡ Ok g → g.next ≤ b

argument_near : (l : List ℕ) (b : ℕ) (g : Got) (k : ℕ) → g.next ≤ b → Near l (b + 10) (argument_at l g k)
unfolding argument_at argument_read
argument_near l b g k h = go (ltb k (arity_of g.job.function)) (number_at l g.next) refl
  where
    go : (t : Bool) (n : Result Number Refusal) → number_at l g.next ≡ n
        → Near l (b + 10) (cond t (argument_read g.job k n) (Ok g))
    go true (Ok n) e = record {
      cut = λ f. let z : ◌≡◌ {A = ℕ} 0 1 = cc in absurd (omega arith);
      found = λ g' f. let y : ◌≡◌ {A = Got} (record { job = with_argument g.job k n.value; next = n.next }) g' = cc in
          let z : n.next ≡ g'.next = ap (λ (x : Got). x.next) y in
          omega (arith, number_next l g.next n.value n.next e);
    }
    go true (Err n) e = record {
      cut = λ f. let z : n ≡ ListCut = cc in omega (arith, number_cut l g.next (e ∙ ap (λ (r : Refusal). Err r) z));
      found = λ g' f. let z : ◌≡◌ {A = ℕ} 0 1 = cc in absurd (omega arith);
    }
    go false n e = record {
      cut = λ f. let z : ◌≡◌ {A = ℕ} 0 1 = cc in absurd (omega arith);
      found = λ g' f. let z : g ≡ g' = cc in let y : g.next ≡ g'.next = ap (λ (x : Got). x.next) z in omega arith;
    }

after_near : (l : List ℕ) (b : ℕ) (r : Result Got Refusal) (k : ℕ) → Near l b r → Near l (b + 10) (argument_after l r k)
unfolding argument_after
after_near l b (Ok g) k h = argument_near l b g k (h.found g refl)
after_near l b (Err n) k h = record {
  cut = λ f. omega (arith, h.cut f);
  found = λ g f. let z : ◌≡◌ {A = ℕ} 0 1 = cc in absurd (omega arith);
}

function_near : (l : List ℕ) (n : Result Number Refusal) → number_at l 0 ≡ n → Near l 10 (function_read n)
unfolding function_read begun
function_near l (Ok n) e = go (eqb (arity_of n.value) 0)
  where
    go : (t : Bool) → Near l 10 (cond t (Err UnknownFunction) (Ok (begun n.value n.next)))
    go true = record {
      cut = λ f. let z : ◌≡◌ {A = ℕ} 0 1 = cc in absurd (omega arith);
      found = λ g f. let z : ◌≡◌ {A = ℕ} 0 1 = cc in absurd (omega arith);
    }
    go false = record {
      cut = λ f. let z : ◌≡◌ {A = ℕ} 0 1 = cc in absurd (omega arith);
      found = λ g h.
          let y : begun n.value n.next ≡ g = cc in
          let z : n.next ≡ g.next = ap (λ (x : Got). x.next) y in
          omega (arith, number_next l 0 n.value n.next e);
    }
function_near l (Err n) e = record {
  cut = λ f. let z : n ≡ ListCut = cc in omega (arith, number_cut l 0 (e ∙ ap (λ (r : Refusal). Err r) z));
  found = λ g f. let z : ◌≡◌ {A = ℕ} 0 1 = cc in absurd (omega arith);
}

was_cut : (r : Result Got Refusal) → found r ≡ Err ListCut → r ≡ Err ListCut
unfolding found
was_cut (Ok got) e = let z : ◌≡◌ {A = ℕ} 0 1 = cc in absurd (omega arith)
was_cut (Err r) e = let z : r ≡ ListCut = cc in ap (λ (r : Refusal). Err r) z

-- no more than fifty bytes are ever waited over
pub cut_short : (l : List ℕ) → read_at l 0 ≡ Err ListCut → length l ≤ 50
unfolding read_at job_at
cut_short l e = go (ltb 0 (length l)) refl e
  where
    near : Near l 50 (job_at l 0)
    near = after_near l 40 _ 3 (after_near l 30 _ 2 (after_near l 20 _ 1
        (after_near l 10 _ 0 (function_near l (number_at l 0) refl))))

    go : (t : Bool) → ltb 0 (length l) ≡ t → cond t (found (job_at l 0)) (Ok None) ≡ Err ListCut → length l ≤ 50
    go true t e = near.cut (was_cut (job_at l 0) e)
    go false t e = let z : ◌≡◌ {A = ℕ} 0 1 = cc in absurd (omega arith)
