-- Two runs of an entry's steps: what they find is the same with the counts equal, or neither is a number. And a capped loop in
-- two runs, for every loop of the five entries: of a relation between the states that a pass keeps.
use Rattle.std.specs.Prelude.{◌≡◌, refl, ◌⊎◌, Bool, T, Float}
use Rattle.std.proofs.Common.{sym, subst₂, inl, inr, le_of_lt}
use Rattle.std.proofs.Math.Path.{subst}
use Prim.Native.Nat.{ℕ, zero, suc, ◌<◌, ◌≤◌}
use Rattle.std.proofs.Math.Bool.{true, false}
use Rattle.std.specs.Float.{nan, binary64}
use Rattle.scaling.specs.Kind.{Kind, within}
use Rattle.scaling.specs.Two.{Two}
use Rattle.scaling.proofs.One.{widen_two}
use Rattle.carlson.specs.Answer.{way_of, closed_at, carried_at, agm_at, duplication_at, duplication_over, joint_at}
use Rattle.carlson.specs.Loop.{capped}
use Rattle.carlson.specs.declared.answer.Road.{Road}
use Rattle.carlson.specs.declared.answer.Road.TheVariants.{Closed, Agm, Duplication, Joint}
use Rattle.carlson.specs.declared.answer.Way.{Way}
use Rattle.carlson.specs.declared.answer.Found.{Found}

-- two values that scale, or neither is a number
abbrev pub Fair : ℕ → Kind → Float → Float → Type 0
Fair k K v w = ((v ≡ nan) × (w ≡ nan)) ⊎ Two binary64 k K v w

-- with a road and a way, which are the same
pub data Same (k : ℕ) (K : Kind) : Found → Found → Type 0 where
  both : {v w : Float} {r : Road} {c : Way} → Two binary64 k K v w
      → Same k K (record { value = v; road = r; way = c }) (record { value = w; road = r; way = c })
  lost : {r : Road} {c : Way} → Same k K (record { value = nan; road = r; way = c }) (record { value = nan; road = r; way = c })

-- what the two found, alone, and that their ways are one
pub value_fair : {k : ℕ} {K : Kind} {f g : Found} → Same k K f g → Fair k K f.value g.value
value_fair (both a) = inr a
value_fair lost = inl (refl, refl)

pub same_way : {k : ℕ} {K : Kind} {f g : Found} → Same k K f g → f.way ≡ g.way
same_way (both a) = refl
same_way lost = refl

-- ---- of whatever is made with one road and one way
pub made : {k : ℕ} {K : Kind} {v w : Float} (r : Road) (c : Way) → Fair k K v w
    → Same k K (record { value = v; road = r; way = c }) (record { value = w; road = r; way = c })
made {k} {K} r c (inl p) =
    subst₂ (λ a b. Same k K (record { value = a; road = r; way = c }) (record { value = b; road = r; way = c })) (sym p.0)
    (sym p.1) lost
made r c (inr a) = both a

pub closed : {k : ℕ} {K : Kind} {v w : Float} → Two binary64 k K v w → Same k K (closed_at v) (closed_at w)
unfolding closed_at
closed a = both a

pub fair : {k : ℕ} {K : Kind} {v w : Float} → Fair k K v w → Same k K (closed_at v) (closed_at w)
unfolding closed_at
fair a = made Closed (way_of 0) a

-- a formula of what was found on ways that are the same
pub carried : {k : ℕ} {K : Kind} {v w : Float} {c d : Way} → c ≡ d → Fair k K v w → Same k K (carried_at v c) (carried_at w d)
unfolding carried_at
carried {k} {K} {v} {w} {c} e a =
    subst (λ d. Same k K (record { value = v; road = Closed; way = c }) (record { value = w; road = Closed; way = d })) e
    (made Closed c a)

-- the loops count their passes
pub mean : {k : ℕ} {K : Kind} {v w : Float} (c : ℕ) → Fair k K v w → Same k K (agm_at v c) (agm_at w c)
unfolding agm_at
mean c a = made Agm (way_of c) a

pub duplicated : {k : ℕ} {K : Kind} {v w : Float} (c : ℕ) → Fair k K v w → Same k K (duplication_at v c) (duplication_at w c)
unfolding duplication_at
duplicated c a = made Duplication (way_of c) a

-- and RJ's the rescalings, as many in both
pub duplicated_over : {k : ℕ} {K : Kind} {v w : Float} (c : ℕ) {m n : ℕ} → m ≡ n → Fair k K v w
    → Same k K (duplication_over v c m) (duplication_over w c n)
unfolding duplication_over
duplicated_over {k} {K} {v} {w} c {m} e a = subst (λ n. Same k K (duplication_over v c m) (duplication_over w c n)) e
    (made Duplication (record { rounds = c; rescalings = m }) a)

pub jointly : {k : ℕ} {K : Kind} {v w : Float} (c : ℕ) → Fair k K v w → Same k K (joint_at v c) (joint_at w c)
unfolding joint_at
jointly c a = made Joint (way_of c) a

-- neither is a number
pub neither : {k : ℕ} {K : Kind} → Fair k K nan nan
neither = inl (refl, refl)

pub wider_fair : {k : ℕ} {K L : Kind} {v w : Float} → Fair k K v w → T (within K L) → Fair k L v w
wider_fair (inl p) ok = inl p
wider_fair (inr a) ok = inr (widen_two a ok)

-- ---- the capped loop, whose step and test may hold what each run began with. `I j` holds between the states of the two runs
-- where j passes are left.
module _ {S A : Type 0} (step step' : S → S) (stop stop' : S → Bool) (found spent found' spent' : S → ℕ → A) (R : A → A → Type 0)
    (I : ℕ → S → S → Type 0) (cap : ℕ)
    (pass : (j : ℕ) (s t : S) → j < cap → I (suc j) s t → I j (step s) (step' t))
    (test : (j : ℕ) (s t : S) → j < cap → I j s t → stop s ≡ stop' t)
    (ends : (j : ℕ) (s t : S) (n : ℕ) → j ≤ cap → I j s t → T (stop s) → R (found s n) (found' t n))
    (runs-out : (s t : S) (n : ℕ) → I 0 s t → R (spent s n) (spent' t n)) where
  pub loops_two : (j : ℕ) (b : Bool) (s t : S) (n : ℕ) → j ≤ cap → (T b → T (stop s)) → I j s t
      → R (capped step stop found spent j b s n) (capped step' stop' found' spent' j b t n)
  unfolding capped
  loops_two zero true s t n h p i = ends zero s t n h i (p tt)
  loops_two zero false s t n h p i = runs-out s t n i
  loops_two (suc j) true s t n h p i = ends (suc j) s t n h i (p tt)
  loops_two (suc j) false s t n h p i =
      let i' = pass j s t h i in
      subst (λ b. R (capped step stop found spent j (stop (step s)) (step s) (suc n))
      (capped step' stop' found' spent' j b (step' t) (suc n)))
      (test j (step s) (step' t) h i')
      (loops_two j (stop (step s)) (step s) (step' t) (suc n) (le_of_lt h) (λ q. q) i')

-- of one step and one test
pub loop_two : {S A : Type 0} (step : S → S) (stop : S → Bool) (found spent found' spent' : S → ℕ → A) (R : A → A → Type 0)
    (I : ℕ → S → S → Type 0) (cap : ℕ)
    → ((j : ℕ) (s t : S) → j < cap → I (suc j) s t → I j (step s) (step t))
    → ((j : ℕ) (s t : S) → j < cap → I j s t → stop s ≡ stop t)
    → ((j : ℕ) (s t : S) (n : ℕ) → j ≤ cap → I j s t → T (stop s) → R (found s n) (found' t n))
    → ((s t : S) (n : ℕ) → I 0 s t → R (spent s n) (spent' t n))
    → (j : ℕ) (b : Bool) (s t : S) (n : ℕ) → j ≤ cap → (T b → T (stop s)) → I j s t
    → R (capped step stop found spent j b s n) (capped step stop found' spent' j b t n)
loop_two step stop = loops_two step step stop stop
