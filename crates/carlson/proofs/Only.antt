-- Demand 1 (document 01): the only answers are a finite value, or one number out of a list. And how that, or any other property
-- of what may be answered, goes through the steps that the entries share. Assumes nothing.
use Rattle.std.specs.Prelude.{◌≡◌, ℕ, Bool, true, false, cond, ◌&&◌, ◌||◌, T, List, [], ◌∷◌, ◌==◌, refl}
use Rattle.std.proofs.Common.{sym, subst, eqb-true, Ok, Err}
use Rattle.std.specs.Float.Ieee.{of_bits}
use Rattle.std.specs.Float.Ieee.Fits.{and_l, and_r}
use Rattle.std.specs.Float.Ieee.Scale.{finite}
use Rattle.refusals.specs.declared.Refusal.TheVariants.{NanGiven}
use Rattle.refusals.specs.Numbers.{refusal_number}
use Rattle.refusals.specs.declared.Refusal.{Refusal}
use Rattle.carlson.specs.Answer.{infinite_at, settled, settled_told, settled_late}
use Rattle.carlson.specs.declared.answer.Found.{Found}
use Rattle.carlson.specs.Answer.{Answer}
use Rattle.carlson.specs.Only.{Any, Finite, Only, among, part, refused, value}

-- ---- through the steps
-- a list may be longer
pub among_part : (n : ℕ) (ns ms : List ℕ) → T (part ns ms) → T (among n ns) → T (among n ms)
among_part n [] ms p h = absurd h
among_part n (m ∷ ns) ms p h = go (n == m) refl h (among_part n ns ms (and_r (among m ms) (part ns ms) p))
  where
    go : (b : Bool) → (n == m) ≡ b → T (b || among n ns) → (T (among n ns) → T (among n ms)) → T (among n ms)
    go true e h rest = subst (λ (k : ℕ). T (among k ms)) (sym (eqb-true n m e)) (and_l (among m ms) (part ns ms) p)
    go false e h rest = rest h

pub longer : {P : Found → Type 0} {a : Answer} (ns ms : List ℕ) → T (part ns ms) → Only P ns a → Only P ms a
longer ns ms p (value v) = value v
longer ns ms p (refused {r} h) = refused (among_part (refusal_number r) ns ms p h)

-- whichever is chosen, with what the test said
pub asked : {A : Type 0} (Q : A → Type 0) (b : Bool) {u v : A} → (b ≡ true → Q u) → (b ≡ false → Q v) → Q (cond b u v)
asked Q true p q = p refl
asked Q false p q = q refl

pub chosen : {A : Type 0} (Q : A → Type 0) (b : Bool) {u v : A} → Q u → Q v → Q (cond b u v)
chosen Q b p q = asked Q b (λ e. p) (λ e. q)

-- side by side, by one test
pub chosen_both : {A B : Type 0} (R : A → B → Type 0) (b : Bool) {u v : A} {u' v' : B} → R u u' → R v v'
    → R (cond b u v) (cond b u' v')
chosen_both R true p q = p
chosen_both R false p q = q

-- settled: a value that is handed out is finite; else what stands in its place
pub finite_or : {numbers : List ℕ} (f : Found) {a : Answer} → Only Finite numbers a
    → Only Finite numbers (cond (finite f.value) (Ok f) a)
finite_or {numbers} f {a} h = go (finite f.value) refl
  where
    go : (b : Bool) → finite f.value ≡ b → Only Finite numbers (cond b (Ok f) a)
    go true e = value e
    go false e = h

pub settled_only : (numbers : List ℕ) (f : Found) (r : Refusal) → T (among (refusal_number r) numbers) → Only Finite numbers (settled f r)
unfolding settled
settled_only numbers f r h = finite_or f (refused h)

pub infinite_only : (numbers : List ℕ) → Only Finite numbers infinite_at
unfolding infinite_at of_bits
infinite_only numbers = value refl

pub late_only : (numbers : List ℕ) (f : Found) (nan unbounded : Bool) (r : Refusal) → T (among (refusal_number NanGiven) numbers)
    → T (among (refusal_number r) numbers) → Only Finite numbers (settled_late f nan unbounded r)
unfolding settled_told
late_only numbers f nan unbounded r g h =
    let Q = Only Finite numbers in
    finite_or f (chosen Q nan (refused g) (chosen Q unbounded (infinite_only numbers) (refused h)))

-- what the inner parts answered: a value is settled, their own numbers go through
pub told_only : {ns : List ℕ} (ms : List ℕ) (settle : Answer → Answer) → ((f : Found) → Only Finite ms (settle (Ok f)))
    → ((r : Refusal) → settle (Err r) ≡ Err r) → T (part ns ms) → (a : Answer) → Only Any ns a → Only Finite ms (settle a)
told_only ms settle each through p (Ok f) (value v) = each f
told_only {ns} ms settle each through p (Err r) (refused h) =
    subst (Only Finite ms) (sym (through r)) (refused (among_part (refusal_number r) ns ms p h))
