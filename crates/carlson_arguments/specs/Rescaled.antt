-- How a property goes through the rescaling, whatever is rescaled. Assumes nothing.
use Rattle.std.specs.Prelude.{Float}
use Rattle.binary64.specs.Operators.{◌⊘◌}
use Rattle.carlson.proofs.Only.{chosen, chosen_both}
use Rattle.carlson_arguments.specs.Rescaling.{scale_of2, scale_of3, rescales2, rescales3, rescaling2, rescaling3}

-- rescaled or not: P of what the steps give, Q of that and of what comes back
pub rescaled2_to : {A : Type 0} (P Q : A → Type 0) (back : A → Float → A) (steps : Float → Float → A)
    → ((x y : Float) → P (steps x y)) → ((a : A) → P a → Q a) → ((a : A) (s : Float) → P a → Q (back a s)) → (x y : Float)
    → Q (rescaling2 back steps x y)
unfolding rescaling2
rescaled2_to P Q back steps each plain kept x y =
    let s = scale_of2 x y in
    chosen Q (rescales2 x y s) (kept (steps (x ⊘ s) (y ⊘ s)) s (each (x ⊘ s) (y ⊘ s))) (plain (steps x y) (each x y))

pub rescaled3_to : {A : Type 0} (P Q : A → Type 0) (back : A → Float → A) (steps : Float → Float → Float → A)
    → ((x y z : Float) → P (steps x y z))
    → ((a : A) → P a → Q a) → ((a : A) (s : Float) → P a → Q (back a s)) → (x y z : Float) → Q (rescaling3 back steps x y z)
unfolding rescaling3
rescaled3_to P Q back steps each plain kept x y z =
    let s = scale_of3 x y z in
    chosen Q (rescales3 x y z s) (kept (steps (x ⊘ s) (y ⊘ s) (z ⊘ s)) s (each (x ⊘ s) (y ⊘ s) (z ⊘ s)))
    (plain (steps x y z) (each x y z))

-- side by side
pub rescaled3_both : {A B : Type 0} (R : A → B → Type 0) (back : A → Float → A) (back' : B → Float → B)
    (steps : Float → Float → Float → A) (steps' : Float → Float → Float → B) → ((x y z : Float) → R (steps x y z) (steps' x y z))
    → ((a : A) (b : B) (s : Float) → R a b → R (back a s) (back' b s))
    → (x y z : Float) → R (rescaling3 back steps x y z) (rescaling3 back' steps' x y z)
unfolding rescaling3
rescaled3_both R back back' steps steps' each kept x y z =
    let s = scale_of3 x y z in
    let a = x ⊘ s in
    let b = y ⊘ s in
    let c = z ⊘ s in
    chosen_both R (rescales3 x y z s) (kept (steps a b c) (steps' a b c) s (each a b c)) (each x y z)

-- what coming back keeps
pub rescaled2 : {A : Type 0} (Q : A → Type 0) (back : A → Float → A) (steps : Float → Float → A) → ((x y : Float) → Q (steps x y))
    → ((a : A) (s : Float) → Q a → Q (back a s)) → (x y : Float) → Q (rescaling2 back steps x y)
rescaled2 Q back steps each kept = rescaled2_to Q Q back steps each (λ a h. h) kept

pub rescaled3 : {A : Type 0} (Q : A → Type 0) (back : A → Float → A) (steps : Float → Float → Float → A)
    → ((x y z : Float) → Q (steps x y z))
    → ((a : A) (s : Float) → Q a → Q (back a s)) → (x y z : Float) → Q (rescaling3 back steps x y z)
rescaled3 Q back steps each kept = rescaled3_to Q Q back steps each (λ a h. h) kept
