-- A capped loop that is left with its result (document 01, Required forms), and its laws: all the loops of the five entries are
-- this one.
use Rattle.std.specs.Prelude.{◌≡◌, ℕ, zero, suc, ◌+◌, ◌-◌, ◌<◌, ◌≤◌, Bool, true, false}
use Rattle.std.proofs.Math.Path.{refl}
use Rattle.std.proofs.Common.{sym, subst, ◌∙◌, add-one}
use native.Mathlib.Omega.{arith}

module _ {S A : Type 0} (step : S → S) (stop : S → Bool) (found spent : S → ℕ → A) where
  -- So many passes are left; whether the state may stop the loop; the state; the passes made. Stopped, the state is `found`;
  -- with no pass left, `spent`.
  unfoldable pub capped : ℕ → Bool → S → ℕ → A
  capped zero true s n = found s n
  capped zero false s n = spent s n
  capped (suc left) true s n = found s n
  capped (suc left) false s n = capped left (stop (step s)) (step s) (suc n)

  turn : (cap : ℕ) (s : S) (n : ℕ) → n < cap → capped (cap - n) false s n
      ≡ capped (cap - (n + 1)) (stop (step s)) (step s) (n + 1)
  unfolding capped
  turn cap s n h = let e : cap - n ≡ suc (cap - (n + 1)) = omega arith in rw (e, add-one)

  stopped : (left : ℕ) (s : S) (n : ℕ) → capped left true s n ≡ found s n
  unfolding capped
  stopped zero s n = refl
  stopped (suc left) s n = refl

  -- ---- the invariant of a loop in code: what is left of it gives a. b is what the test of s said.
  pub record Rest (cap : ℕ) (a : A) (b : Bool) (s : S) (n : ℕ) : Type 0 where
    pub few : n ≤ cap
    pub gives : capped (cap - n) b s n ≡ a

  -- where a is what the whole loop gives: b₀ is what the test of s₀ said
  abbrev pub Left : ℕ → Bool → S → Bool → S → ℕ → Type 0
  Left cap b₀ s₀ b s n = Rest cap (capped cap b₀ s₀ 0) b s n

  -- ---- what holds of the first state and is kept by each pass holds of the state that the loop is left with: so a property of
  -- that state, after at most `cap` passes, is one of what the loop gives
  pub capped_keeps : (P : A → Type 0) (Q : S → ℕ → Type 0) (cap : ℕ) → ((s : S) (n : ℕ) → Q s n → Q (step s) (suc n))
      → ((s : S) (n : ℕ) → n ≤ cap → Q s n → P (found s n)) → ((s : S) (n : ℕ) → n ≤ cap → Q s n → P (spent s n))
      → (left : ℕ) (b : Bool) (s : S) (n : ℕ) → n + left ≤ cap → Q s n → P (capped left b s n)
  unfolding capped
  capped_keeps P Q cap k f g zero true s n h q = f s n (omega arith) q
  capped_keeps P Q cap k f g zero false s n h q = g s n (omega arith) q
  capped_keeps P Q cap k f g (suc left) true s n h q = f s n (omega arith) q
  capped_keeps P Q cap k f g (suc left) false s n h q =
      capped_keeps P Q cap k f g left (stop (step s)) (step s) (suc n) (omega arith) (k s n q)

  -- what holds of whatever it can be left with needs no such property
  pub capped_holds : (P : A → Type 0) (cap : ℕ) → ((s : S) (n : ℕ) → n ≤ cap → P (found s n))
      → ((s : S) (n : ℕ) → n ≤ cap → P (spent s n))
      → (left : ℕ) (b : Bool) (s : S) (n : ℕ) → n + left ≤ cap → P (capped left b s n)
  capped_holds P cap f g left b s n h =
      capped_keeps P (λ s n. Unit {0}) cap (λ s n q. tt) (λ s n h q. f s n h) (λ s n h q. g s n h) left b s n h tt

  -- so the count is at most the cap, where the loop counts its passes
  pub capped_count : (count : A → ℕ) (cap : ℕ) → ((s : S) (n : ℕ) → count (found s n) ≡ n)
      → ((s : S) (n : ℕ) → count (spent s n) ≡ n)
      → (b : Bool) (s : S) → count (capped cap b s 0) ≤ cap
  capped_count count cap f g b s =
      capped_holds (λ a. count a ≤ cap) cap (λ t n h. omega (arith, f t n)) (λ t n h. omega (arith, g t n)) cap b s 0
      (omega arith)

-- ---- two loops with the same passes, left each in its own way, side by side
module _ {S A B : Type 0} (step : S → S) (stop : S → Bool) (found spent : S → ℕ → A) (found' spent' : S → ℕ → B) where
  pub capped_both : (R : A → B → Type 0) (cap : ℕ) → ((s : S) (n : ℕ) → n ≤ cap → R (found s n) (found' s n))
      → ((s : S) (n : ℕ) → n ≤ cap → R (spent s n) (spent' s n))
      → (left : ℕ) (b : Bool) (s : S) (n : ℕ) → n + left ≤ cap
      → R (capped step stop found spent left b s n) (capped step stop found' spent' left b s n)
  unfolding capped
  capped_both R cap f g zero true s n h = f s n (omega arith)
  capped_both R cap f g zero false s n h = g s n (omega arith)
  capped_both R cap f g (suc left) true s n h = f s n (omega arith)
  capped_both R cap f g (suc left) false s n h = capped_both R cap f g left (stop (step s)) (step s) (suc n) (omega arith)

module _ {S A : Type 0} {step : S → S} {stop : S → Bool} {found spent : S → ℕ → A} {cap : ℕ} where
  -- it begins
  pub left_begins : {b₀ : Bool} {s₀ : S} → Left step stop found spent cap b₀ s₀ b₀ s₀ 0
  left_begins = record { few = omega arith; gives = let e : cap - 0 ≡ cap = omega arith in rw e }

  -- it begins in the middle
  pub rest_begins : {b : Bool} {s : S} {n : ℕ} → n ≤ cap
      → Rest step stop found spent cap (capped step stop found spent (cap - n) b s n) b s n
  rest_begins h = record { few = h; gives = refl }

  module _ {a : A} {b : Bool} {s : S} {n : ℕ} (l : Rest step stop found spent cap a b s n) where
    -- another pass brings it to the state t, of which the test says d
    pub left_on : {d : Bool} {t : S} → b ≡ false → n < cap → t ≡ step s → d ≡ stop t
        → Rest step stop found spent cap a d t (n + 1)
    left_on e h f g = record {
      few = omega arith;
      gives =
          rw (g, f) (sym (turn step stop found spent cap s n h) ∙ (rw e at l.gives));
    }

    -- the cap is spent
    pub left_spent : b ≡ false → n ≡ cap → spent s n ≡ a
    unfolding capped
    left_spent e h = let z : cap - n ≡ 0 = omega arith in rw (z, e) at l.gives

    -- no pass is left, and the count is the cap
    pub left_over : b ≡ false → n ≡ cap → spent s cap ≡ a
    left_over e h = subst (λ (m : ℕ). spent s m ≡ a) h (left_spent e h)

    -- no pass is left, whatever the test says, of a loop that answers alike both times
    pub left_either : found s n ≡ spent s n → n ≡ cap → spent s cap ≡ a
    left_either e h = go b refl
      where
        go : (t : Bool) → b ≡ t → spent s cap ≡ a
        go true f = subst (λ (m : ℕ). spent s m ≡ a) h (sym e ∙ sym (stopped step stop found spent (cap - n) s n) ∙ (rw f at l.gives))
        go false f = left_over f h

    -- the loop stops
    pub left_found : b ≡ true → found s n ≡ a
    left_found e = sym (stopped step stop found spent (cap - n) s n) ∙ (rw e at l.gives)
