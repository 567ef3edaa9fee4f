-- No answer's rescalings come near 2 ^ 32: the modulus with which the definitions count them, as u32 do, never acts (carlson's
-- `rescaled_plain`). Assumes nothing.
use Rattle.std.specs.Prelude.{ℕ, ◌+◌, ◌-◌, ◌≤◌, Bool, false, ◌&&◌, ◌||◌, Float, Ok, Err}
use Rattle.std.proofs.Common.{arith}
use Rattle.std.specs.Float.Ieee.{lt, le, eq}
use Rattle.std.specs.Float.Ieee.Scale.{finite}
use Rattle.binary64.specs.Leaves.{minimum}
use Rattle.refusals.specs.declared.Refusal.{Refusal}
use Rattle.carlson.specs.Constants.{zero as +0}
use Rattle.carlson_arguments.specs.Checks.{any_nan2, any_nan3, any_nan4, any_infinite2, any_infinite3, any_infinite4, below3, zeros_of3}
use Rattle.carlson.specs.Answer.{infinite_at, loop_at, settled, settled_told, settled_late}
use Rattle.carlson.specs.Loop.{capped_holds}
use Rattle.carlson.proofs.Only.{chosen}
use Rattle.carlson.specs.Ways.{Within, Few}
use Rattle.carlson.proofs.Ways.{counted}
use Rattle.carlson.specs.declared.answer.Found.{Found}
use Rattle.carlson.specs.Answer.{Answer}
use Rattle.elliprc.specs.Rc.{rc_unchecked, rc}
use Rattle.elliprc.specs.Few.{rc_within}
use Rattle.elliprf.specs.Rf.{rf_unchecked, rf}
use Rattle.elliprf.proofs.Few.{rf_within}
use Rattle.elliprd.specs.Rd.{rd_unchecked, rd_settled, rd}
use Rattle.elliprd.proofs.Few.{rd_few}
use Rattle.elliprg.specs.Rg.{rg_unchecked, rg_settled, rg}
use Rattle.elliprg.specs.Few.{rg_few}
use Rattle.rj_calls.specs.Few.{run_few}
use Rattle.elliprj.specs.Rj.{rj_settled, rj_rest, rj_signed, rj}
use Rattle.rj_calls.specs.Run.{rj_unchecked}
use Rattle.cel_passes.specs.Passes.{cel_next, cel_near, cel_found, cel_spent, cel_cap, cel_from, cel_pass, cel_begin, cel_steps}
use Rattle.cel.specs.Cel.{cel_unsettled, cel_settled, several_unbounded, either_unbounded, cel}
use Rattle.calls.specs.declared.Call.{Call}
use Rattle.calls.specs.declared.Call.TheVariants.{Rc, Rf, Rd, Rg, Rj, Cel}
use Rattle.answers.specs.Answers.{number, answer_of}

-- ---- the statement
abbrev pub rescalings_of : Answer → ℕ
rescalings_of (Ok f) = f.way.rescalings
rescalings_of (Err n) = 0

-- RC and RD rescale once, RF and RG beside an RC; RJ once a pass, by RC, and three times a call
abbrev pub most_rescalings : Call → ℕ
most_rescalings (Rc x y) = 1
most_rescalings (Rf x y z) = 2
most_rescalings (Rd x y z) = 1
most_rescalings (Rg x y z) = 2
most_rescalings (Rj x y z p) = 109
most_rescalings (Cel kc p a b) = 0

-- ---- how an entry settles it
zero_few : (m k : ℕ) → Few m k infinite_at
unfolding infinite_at
zero_few m k = counted 0 (omega arith)

module _ (m k : ℕ) (f : Found) (h : Within m k f.way) where
  settled_few : (n : Refusal) → Few m k (settled f n)
  unfolding settled
  settled_few n = chosen (Few m k) (finite f.value) h tt

  late_few : (nan unbounded : Bool) (n : Refusal) → Few m k (settled_late f nan unbounded n)
  unfolding settled_told
  late_few nan unbounded n =
      chosen (Few m k) (finite f.value) h (chosen (Few m k) nan tt (chosen (Few m k) unbounded (zero_few m k) tt))

-- ---- the entries
rc_entry : (x y : Float) → Few 0 1 (rc x y)
unfolding rc
rc_entry x y =
    chosen (Few 0 1) (lt x +0) tt
    (chosen (Few 0 1) (eq y +0) tt (late_few 0 1 (rc_unchecked x y) (rc_within x y) (any_nan2 x y) (any_infinite2 x y) _))

rf_entry : (x y z : Float) → Few 11 2 (rf x y z)
unfolding rf
rf_entry x y z =
    let Q = Few 11 2 in
    chosen Q (any_nan3 x y z) tt
    (chosen Q (below3 x y z) tt
    (chosen Q (zeros_of3 x y z) tt
    (chosen Q (any_infinite3 x y z) (zero_few 11 2) (settled_few 11 2 (rf_unchecked x y z) (rf_within x y z) _))))

rd_settled_lem : (a : Answer) (nan unbounded : Bool) → Few 50 1 a → Few 50 1 (rd_settled a nan unbounded)
unfolding rd_settled
rd_settled_lem (Ok f) nan unbounded h = late_few 50 1 f h nan unbounded _
rd_settled_lem (Err n) nan unbounded h = tt

rd_entry : (x y z : Float) → Few 50 1 (rd x y z)
unfolding rd
rd_entry x y z =
    let Q = Few 50 1 in
    chosen Q (lt (minimum x y) +0) tt
    (chosen Q (eq x +0 && eq y +0) tt
    (chosen Q (le z +0) tt (rd_settled_lem (rd_unchecked x y z) (any_nan3 x y z) (any_infinite3 x y z) (rd_few x y z))))

rg_settled_lem : (a : Answer) (nan : Bool) → Few 50 2 a → Few 50 2 (rg_settled a nan)
unfolding rg_settled
rg_settled_lem (Ok f) nan h = late_few 50 2 f h nan false _
rg_settled_lem (Err n) nan h = tt

rg_entry : (x y z : Float) → Few 50 2 (rg x y z)
unfolding rg
rg_entry x y z = chosen (Few 50 2) (below3 x y z) tt (rg_settled_lem (rg_unchecked x y z) (any_nan3 x y z) (rg_few x y z))

rj_settled_lem : (a : Answer) → Few 133 109 a → Few 133 109 (rj_settled a)
unfolding rj_settled
rj_settled_lem (Ok f) h = settled_few 133 109 f h _
rj_settled_lem (Err n) h = tt

rj_entry : (x y z p : Float) → Few 133 109 (rj x y z p)
unfolding rj rj_signed rj_rest rj_unchecked
rj_entry x y z p =
    let Q = Few 133 109 in
    chosen Q (any_nan4 x y z p) tt
    (chosen Q (eq p +0) tt
    (chosen Q (below3 x y z) tt
    (chosen Q (zeros_of3 x y z) tt
    (chosen Q (any_infinite4 x y z p) (zero_few 133 109) (rj_settled_lem (rj_unchecked x y z p) (run_few 4 x y z p))))))

-- cel does not rescale
cel_steps_lem : (kc p a b : Float) → Within 30 0 (cel_steps kc p a b).way
unfolding cel_steps cel_from loop_at
cel_steps_lem kc p a b =
    let s = cel_pass (cel_begin kc p a b) in
    capped_holds cel_next cel_near cel_found cel_spent (λ f. Within 30 0 f.way) (cel_cap - 1)
    (λ t n h. counted (n + 1) (omega arith))
    (λ t n h. counted (n + 1) (omega arith)) (cel_cap - 1) (cel_near s) s 0 (omega arith)

cel_entry : (kc p a b : Float) → Few 30 0 (cel kc p a b)
unfolding cel cel_settled cel_unsettled
cel_entry kc p a b =
    let Q = Few 30 0 in
    chosen Q (eq kc +0 || eq p +0) tt
    (chosen Q (finite (cel_steps kc p a b).value) (cel_steps_lem kc p a b)
    (chosen Q (any_nan4 kc p a b) tt
    (chosen Q (several_unbounded kc p a b) tt
    (chosen Q (either_unbounded kc p) (zero_few 30 0) (chosen Q (either_unbounded a b) tt tt)))))

-- ---- THE LAW
few_rescalings : (m k : ℕ) (a : Answer) → Few m k a → rescalings_of a ≤ k
few_rescalings m k (Ok f) h = h.scaled
few_rescalings m k (Err n) h = omega arith

pub rescalings_bound : (c : Call) → rescalings_of (answer_of c) ≤ most_rescalings c
unfolding answer_of
rescalings_bound (Rc x y) = few_rescalings 0 1 (answer_of (Rc x y)) (rc_entry (number x) (number y))
rescalings_bound (Rf x y z) = few_rescalings 11 2 (answer_of (Rf x y z)) (rf_entry (number x) (number y) (number z))
rescalings_bound (Rd x y z) = few_rescalings 50 1 (answer_of (Rd x y z)) (rd_entry (number x) (number y) (number z))
rescalings_bound (Rg x y z) = few_rescalings 50 2 (answer_of (Rg x y z)) (rg_entry (number x) (number y) (number z))
rescalings_bound (Rj x y z p) = few_rescalings 133 109 (answer_of (Rj x y z p))
    (rj_entry (number x) (number y) (number z) (number p))
rescalings_bound (Cel kc p a b) = few_rescalings 30 0 (answer_of (Cel kc p a b))
    (cel_entry (number kc) (number p) (number a) (number b))
