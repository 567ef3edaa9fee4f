-- HOW MUCH WORK A CALL CAN BE (document 02, 2026-12): the rounds of every answer, and the passes begun inside also where a call
-- ends in a refusal, which carries no count. Assumes nothing.
use Rattle.std.specs.Prelude.{ℕ, ◌-◌, ◌≤◌, ◌≡◌, Bool, true, false, ◌&&◌, ◌||◌, cond, Float}
use Rattle.std.proofs.Math.Path.{refl}
use Rattle.std.proofs.Common.{sym, arith, Ok, Err}
use Rattle.std.specs.Float.Ieee.{lt, le, eq}
use Rattle.std.specs.Float.Ieee.Scale.{finite}
use Rattle.binary64.specs.Leaves.{minimum}
use Rattle.refusals.specs.declared.Refusal.{Refusal}
use Rattle.carlson.specs.Constants.{zero as +0}
use Rattle.carlson_arguments.specs.Checks.{any_nan2, any_nan3, any_nan4, any_infinite2, any_infinite3, any_infinite4, below3, zeros_of3}
use Rattle.carlson.specs.Answer.{infinite_at, loop_at, settled, settled_told, settled_late}
use Rattle.carlson.specs.Loop.{capped_holds}
use Rattle.carlson.proofs.Only.{asked, chosen, chosen_both}
use Rattle.carlson.specs.declared.answer.Found.{Found}
use Rattle.carlson.specs.declared.answer.Road.TheVariants.{Infinite}
use Rattle.carlson.specs.Answer.{Answer}
use Rattle.elliprc.specs.Rc.{rc_unchecked, rc}
use Rattle.elliprc.specs.Few.{rc_within}
use Rattle.rf_duplicate.specs.Duplicate.{rf_cap}
use Rattle.elliprf.specs.Rf.{rf_unchecked, rf}
use Rattle.elliprf.proofs.Few.{rf_within}
use Rattle.rd_duplicate.specs.Duplicate.{rd_cap}
use Rattle.elliprd.specs.Rd.{rd_unchecked, rd_settled, rd}
use Rattle.rg_joint.specs.Joint.{joint_cap}
use Rattle.elliprg.specs.Rg.{rg_unchecked, rg_settled, rg}
use Rattle.rj_positive.specs.Duplicate.{rj_cap}
use Rattle.rj_calls.specs.Few.{run_most}
use Rattle.elliprj.specs.Rj.{rj_settled, rj_rest, rj_signed, rj, rj_of_positive, rj_of_negative}
use Rattle.rj_calls.specs.Run.{plan_of, rj_unchecked}
use Rattle.cel_passes.specs.Passes.{cel_next, cel_near, cel_found, cel_spent, cel_cap, cel_from, cel_pass, cel_begin, cel_steps}
use Rattle.cel.specs.Cel.{cel_unsettled, cel_settled, several_unbounded, either_unbounded, cel}
use Rattle.calls.specs.declared.Call.{Call}
use Rattle.calls.specs.declared.Call.TheVariants.{Rc, Rf, Rd, Rg, Rj, Cel}
use Rattle.answers.specs.Answers.{number, answer_of}
use Rattle.rounds.specs.Inside.{
  rounds_in,
  rd_inside,
  rg_inside,
  rj_done_inside,
  rj_run_inside,
  rf_begun,
  rd_begun,
  rg_begun,
  rj_signed_begun,
  rj_begun,
  cel_begun,
  begun_of,
}
use Rattle.rounds.specs.Exact.{Exactly, rd_inside_lem, rg_inside_lem}
use Rattle.rounds.specs.Runs.{rj_inside, rj_above_inside}
use Rattle.rounds.specs.Bounds.{Begun, Counted, above_most, below_most, cel_most, infinite, most_of, refused, rounds_of, value}

-- ---- how an entry settles what was found inside
module _ {m k n : ℕ} (f : Found) (h : k ≤ m) (i : Exactly k (Ok f) n) where
  stands : Begun m (Ok f) n
  stands = record { most = omega (arith, i.most); counts = value i.exact }

  no : {r : Refusal} → Begun m (Err r) n
  no = record { most = omega (arith, i.most); counts = refused }

  zero_given : Begun m infinite_at n
  unfolding infinite_at
  zero_given = record { most = omega (arith, i.most); counts = infinite refl refl }

  plainly : (r : Refusal) → Begun m (settled f r) n
  unfolding settled
  plainly r = chosen (λ a. Begun m a n) (finite f.value) stands no

  late : (nan unbounded : Bool) (r : Refusal) → Begun m (settled_late f nan unbounded r) n
  unfolding settled_told
  late nan unbounded r =
      chosen (λ a. Begun m a n) (finite f.value) stands
      (chosen (λ a. Begun m a n) nan no (chosen (λ a. Begun m a n) unbounded zero_given no))

-- refused by its arguments, or zero for an infinite one
unbegun : {m : ℕ} {r : Refusal} → Begun m (Err r) 0
unbegun = record { most = omega arith; counts = refused }

unbegun_zero : {m : ℕ} → Begun m infinite_at 0
unfolding infinite_at
unbegun_zero = record { most = omega arith; counts = value refl }

of_found : {m : ℕ} (f : Found) → rounds_in f ≤ m → Exactly m (Ok f) (rounds_in f)
of_found f h = record { most = h; exact = refl }

-- ---- the entries, with any m that is at least the cap
rc_begun : (x y : Float) → Begun 0 (rc x y) 0
unfolding rc
rc_begun x y =
    let f = rc_unchecked x y in
    let none : Exactly 0 (Ok f) 0 = record { most = omega arith; exact = omega (arith, (rc_within x y).begun) } in
    chosen (λ a. Begun 0 a 0) (lt x +0) unbegun
    (chosen (λ a. Begun 0 a 0) (eq y +0) unbegun (late f (omega arith) none (any_nan2 x y) (any_infinite2 x y) _))

rf_begun_lem : {m : ℕ} → rf_cap ≤ m → (x y z : Float) → Begun m (rf x y z) (rf_begun x y z)
unfolding rf rf_begun
rf_begun_lem {m} h x y z =
    let f = rf_unchecked x y z in
    chosen_both (Begun m) (any_nan3 x y z) unbegun
    (chosen_both (Begun m) (below3 x y z) unbegun
    (chosen_both (Begun m) (zeros_of3 x y z) unbegun
    (chosen_both (Begun m) (any_infinite3 x y z) unbegun_zero (plainly f h (of_found f (rf_within x y z).begun) _))))

rd_settled_lem : {m k : ℕ} → k ≤ m → (a : Answer) (n : ℕ) (nan unbounded : Bool) → Exactly k a n
    → Begun m (rd_settled a nan unbounded) n
unfolding rd_settled
rd_settled_lem h (Ok f) n nan unbounded i = late f h i nan unbounded _
rd_settled_lem h (Err r) n nan unbounded i = record { most = omega (arith, i.most); counts = refused }

rd_begun_lem : {m : ℕ} → rd_cap ≤ m → (x y z : Float) → Begun m (rd x y z) (rd_begun x y z)
unfolding rd rd_begun
rd_begun_lem {m} h x y z =
    chosen_both (Begun m) (lt (minimum x y) +0) unbegun
    (chosen_both (Begun m) (eq x +0 && eq y +0) unbegun
    (chosen_both (Begun m) (le z +0) unbegun
    (rd_settled_lem h (rd_unchecked x y z) (rd_inside x y z) (any_nan3 x y z) (any_infinite3 x y z) (rd_inside_lem x y z))))

rg_settled_lem : {m k : ℕ} → k ≤ m → (a : Answer) (n : ℕ) (nan : Bool) → Exactly k a n → Begun m (rg_settled a nan) n
unfolding rg_settled
rg_settled_lem h (Ok f) n nan i = late f h i nan false _
rg_settled_lem h (Err r) n nan i = record { most = omega (arith, i.most); counts = refused }

rg_begun_lem : {m : ℕ} → joint_cap ≤ m → (x y z : Float) → Begun m (rg x y z) (rg_begun x y z)
unfolding rg rg_begun
rg_begun_lem {m} h x y z =
    chosen_both (Begun m) (below3 x y z) unbegun
    (rg_settled_lem h (rg_unchecked x y z) (rg_inside x y z) (any_nan3 x y z) (rg_inside_lem x y z))

-- ---- RJ, where p is no zero and has not the wrong sign
rj_settled_lem : {m k : ℕ} → k ≤ m → (a : Answer) (n : ℕ) → Exactly k a n → Begun m (rj_settled a) n
unfolding rj_settled
rj_settled_lem h (Ok f) n i = plainly f h i _
rj_settled_lem h (Err r) n i = record { most = omega (arith, i.most); counts = refused }

unless : {A B : Type 0} (R : A → B → Type 0) (b : Bool) {u v : A} {u' v' : B} → R u u' → (b ≡ false → R v v')
    → R (cond b u v) (cond b u' v')
unless R true p q = p
unless R false p q = q refl

signed_begun : {m : ℕ} (k : ℕ) → k ≤ m → (wrong : Bool) (x y z p : Float)
    → (eq p +0 ≡ false → wrong ≡ false → Exactly k (rj_unchecked x y z p) (rj_run_inside 4 (plan_of x y z p) (rj_done_inside x y z p)))
    → Begun m (rj_signed wrong x y z p) (rj_signed_begun wrong x y z p)
unfolding rj_signed rj_rest rj_signed_begun
signed_begun {m} k h wrong x y z p i =
    let R = Begun m in
    chosen_both R (any_nan4 x y z p) unbegun
    (unless R (eq p +0) unbegun
    (λ e. unless R wrong unbegun
    (λ f. chosen_both R (below3 x y z) unbegun
    (chosen_both R (zeros_of3 x y z) unbegun
    (chosen_both R (any_infinite4 x y z p) unbegun_zero
    (rj_settled_lem h (rj_unchecked x y z p) (rj_run_inside 4 (plan_of x y z p) (rj_done_inside x y z p)) (i e f)))))))

not_below : (p : Float) → lt p +0 ≡ false → eq p +0 ≡ false → le p +0 ≡ false
unfolding le
not_below p h g = rw (h, g)

any_sign : {m : ℕ} → run_most 4 ≤ m → (wrong : Bool) (x y z p : Float)
    → Begun m (rj_signed wrong x y z p) (rj_signed_begun wrong x y z p)
unfolding rj_unchecked
any_sign h wrong x y z p = signed_begun (run_most 4) h wrong x y z p (λ e f. rj_inside 4 x y z p)

above_zero : {m : ℕ} → rj_cap ≤ m → (wrong : Bool) (x y z p : Float) → (wrong ≡ false → lt p +0 ≡ false)
    → Begun m (rj_signed wrong x y z p) (rj_signed_begun wrong x y z p)
unfolding rj_unchecked
above_zero h wrong x y z p k =
    signed_begun rj_cap h wrong x y z p (λ e f. rj_above_inside 4 x y z p (not_below p (k f) e))

rj_begun_lem : (x y z p : Float) → Begun (cond (lt p +0) below_most above_most) (rj x y z p) (rj_begun x y z p)
unfolding rj rj_begun
rj_begun_lem x y z p =
    asked (λ m. Begun m (rj_signed false x y z p) (rj_signed_begun false x y z p)) (lt p +0)
    (λ h. any_sign (omega arith) false x y z p) (λ h. above_zero (omega arith) false x y z p (λ f. h))

-- of each entry alone
pub rj_positive_begun : (x y z p : Float) → Begun above_most (rj_of_positive x y z p) (rj_signed_begun (lt p +0) x y z p)
unfolding rj_of_positive
rj_positive_begun x y z p = above_zero (omega arith) (lt p +0) x y z p (λ f. f)

pub rj_negative_begun : (x y z p : Float) → Begun below_most (rj_of_negative x y z p) (rj_signed_begun (lt +0 p) x y z p)
unfolding rj_of_negative
rj_negative_begun x y z p = any_sign (omega arith) (lt +0 p) x y z p

-- ---- cel: the first pass, and those of the loop
cel_steps_lem : (kc p a b : Float) → rounds_in (cel_steps kc p a b) ≤ cel_cap
unfolding cel_steps cel_from loop_at
cel_steps_lem kc p a b =
    let s = cel_pass (cel_begin kc p a b) in
    capped_holds cel_next cel_near cel_found cel_spent (λ f. rounds_in f ≤ cel_cap) (cel_cap - 1) (λ t n h. omega arith)
    (λ t n h. omega arith) (cel_cap - 1) (cel_near s) s 0 (omega arith)

pub cel_begun_lem : (kc p a b : Float) → Begun cel_most (cel kc p a b) (cel_begun kc p a b)
unfolding cel cel_begun cel_settled cel_unsettled
cel_begun_lem kc p a b =
    let f = cel_steps kc p a b in
    let i = of_found f (cel_steps_lem kc p a b) in
    let h : cel_cap ≤ cel_most = omega arith in
    chosen_both (Begun cel_most) (eq kc +0 || eq p +0) unbegun
    (chosen (λ a. Begun cel_most a (rounds_in f)) (finite f.value) (stands f h i)
    (chosen (λ a. Begun cel_most a (rounds_in f)) (any_nan4 kc p a b) (no f h i)
    (chosen (λ a. Begun cel_most a (rounds_in f)) (several_unbounded kc p a b) (no f h i)
    (chosen (λ a. Begun cel_most a (rounds_in f)) (either_unbounded kc p) (zero_given f h i)
    (chosen (λ a. Begun cel_most a (rounds_in f)) (either_unbounded a b) (no f h i) (no f h i))))))

-- ---- THE LAWS, over a call
pub begun : (c : Call) → Begun (most_of c) (answer_of c) (begun_of c)
unfolding answer_of begun_of
begun (Rc x y) = rc_begun (number x) (number y)
begun (Rf x y z) = rf_begun_lem (omega arith) (number x) (number y) (number z)
begun (Rd x y z) = rd_begun_lem (omega arith) (number x) (number y) (number z)
begun (Rg x y z) = rg_begun_lem (omega arith) (number x) (number y) (number z)
begun (Rj x y z p) = rj_begun_lem (number x) (number y) (number z) (number p)
begun (Cel kc p a b) = cel_begun_lem (number kc) (number p) (number a) (number b)

-- whether it ends in a value or in a refusal
pub begun_bound : (c : Call) → begun_of c ≤ most_of c
begun_bound c = (begun c).most

-- it is the count, but for the zero of an infinite argument
pub begun_counts : (c : Call) (f : Found) → answer_of c ≡ Ok f → (f.road ≡ Infinite → ⊥) → begun_of c ≡ f.way.rounds
begun_counts c f e k = exact (rw e at (begun c).counts)
  where
    exact : Counted (begun_of c) (Ok f) → begun_of c ≡ f.way.rounds
    exact (value g) = sym g
    exact (infinite r g) = absurd (k r)

-- and never less
counted_most : {m n : ℕ} (a : Answer) → Begun m a n → rounds_of a ≤ n
counted_most (Ok f) b = go b.counts
  where
    go : {n : ℕ} → Counted n (Ok f) → f.way.rounds ≤ n
    go (value g) = omega arith
    go (infinite r g) = omega arith
counted_most (Err r) b = omega arith

pub rounds_begun : (c : Call) → rounds_of (answer_of c) ≤ begun_of c
rounds_begun c = counted_most (answer_of c) (begun c)

-- THE BOUND of every answer
pub rounds_bound : (c : Call) → rounds_of (answer_of c) ≤ most_of c
rounds_bound c = omega (arith, rounds_begun c, begun_bound c)

-- "100 for RJ with p above zero and 133 with p below": of RJ's two entries
pub rj_positive_bound : (x y z p : Float) → rounds_of (rj_of_positive x y z p) ≤ above_most
rj_positive_bound x y z p =
    let b = rj_positive_begun x y z p in omega (arith, counted_most (rj_of_positive x y z p) b, b.most)

pub rj_negative_bound : (x y z p : Float) → rounds_of (rj_of_negative x y z p) ≤ below_most
rj_negative_bound x y z p =
    let b = rj_negative_begun x y z p in omega (arith, counted_most (rj_of_negative x y z p) b, b.most)
