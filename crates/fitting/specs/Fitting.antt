-- Every value that an entry hands out is one that an f64 holds: the last operation of every road to it rounds. So it has bits
-- of its own. Assumes nothing.
use Rattle.std.specs.Prelude.{ℕ, zero, suc, ◌*◌, Bool, false, ◌&&◌, ◌||◌, T, Float, Ok, Err, Option, Some, None}
use Rattle.std.proofs.Common.{arith}
use Rattle.std.specs.Float.{nan, inf, fin}
use Rattle.std.specs.Float.Ieee.{binary64, up, down, fits, lt, le, eq, neg}
use Rattle.std.specs.Float.Ieee.Bits.{of_bits-fits}
use Rattle.std.specs.Float.Ieee.Fits.{nan-fits, inf-fits, add-fits, mul-fits, div-fits}
use Rattle.std.specs.Float.Ieee.Scale.{finite}
use Rattle.refusals.specs.declared.Refusal.TheVariants.{NoResult, RcNoResult, RgNoResult}
use Rattle.rounding.specs.Cut.{last, rounded}
use Rattle.binary64.specs.Leaves.{minimum, maximum}
use Rattle.binary64.specs.Operators.{◌⊗◌, ◌⊘◌, bits}
use Rattle.root.specs.Root.{root_of, root}
use Rattle.refusals.specs.declared.Refusal.{Refusal}
use Rattle.carlson.specs.Constants.{zero as +0, half, one, four, epsilon}
use Rattle.carlson_arguments.specs.Checks.{any_nan2, any_nan3, any_nan4, any_infinite2, any_infinite3, any_infinite4, below3, zeros_of3}
use Rattle.carlson_arguments.specs.Rescaling.{scale_of3, scale_of4, rescales3, rescales4, rescaling3}
use Rattle.carlson.specs.Common.{mean_cap}
use Rattle.carlson.specs.Answer.{
  closed_at,
  carried_at,
  infinite_at,
  agm_at,
  duplication_at,
  duplication_over,
  joint_at,
  taylor_at,
  reduction_at,
  loop_at,
  rescaled_at,
  settled,
  settled_told,
  settled_late,
}
use Rattle.carlson.specs.Loop.{capped_holds}
use Rattle.carlson.proofs.Only.{chosen}
use Rattle.carlson_arguments.specs.Rescaled.{rescaled2, rescaled3}
use Rattle.carlson.specs.declared.answer.Found.{Found}
use Rattle.carlson.specs.Answer.{Answer}
use Rattle.sorting.specs.declared.Triple.{Triple}
use Rattle.sorting.specs.Sorting.{rise_yz, fall_xy, fall_xz, largest_first, rising}
use Rattle.sorting.specs.Permuted.{Each}
use Rattle.elliprc.specs.Rc.{rc_found, over_root, rc_unchecked, rc}
use Rattle.rc_cases.specs.Cases.{rc_at_zero, rc_at_equal, rc_by_atan, rc_by_ln1p, rc_by_ln, rc_cases, rc_steps}
use Rattle.elliprf.specs.Means.{rf_means_of, rf_agm_value, rf_agm_count, rf_together, rf_agm_start, rf_agm_of}
use Rattle.rf_duplicate.specs.Duplicate.{rf_begin, rf_step, rf_close, rf_found, rf_spent, rf_series, rf_cap, rf_duplication}
use Rattle.elliprf.specs.Rf.{rf_equal, rf_zero, rf_two, rf_general, rf_steps, rf_unchecked, rf}
use Rattle.rd_duplicate.specs.Duplicate.{rd_begin, rd_step, rd_close, rd_found, rd_spent, rd_series, rd_cap, rd_duplication}
use Rattle.elliprd.specs.Means.{sums_of, rd_together, rd_mean_value, rd_agm_found, rd_agm_spent, rd_agm_start, rd_agm_of}
use Rattle.elliprd.specs.Rd.{rd_equal, rd_zero, rd_general, rd_ordered, rd_steps, over_scale, rd_unchecked, rd_settled, rd}
use Rattle.rg_means.specs.Means.{rg_begin, rg_next, rg_together, rg_mean_value, rg_agm_found, rg_agm_spent, rg_agm_of}
use Rattle.rg_joint.specs.Joint.{rg_value, rg_joint}
use Rattle.elliprg.specs.Rg.{rg_equal, rg_zero, rg_two, rg_alone, rg_top, rg_low, rg_sorted, rg_steps}
use Rattle.elliprg.specs.Rg.{times_root, rg_unchecked, rg_settled, rg}
use Rattle.rj_positive.specs.Duplicate.{rj_begin, rj_start, rj_step, rj_close, rj_found, rj_spent, rj_series, rj_cap, rj_duplication}
use Rattle.rj_positive.specs.Positive.{well_apart, rj_all, rj_three, rj_two, rj_last, rj_pair, rj_cases, rj_positive}
use Rattle.rj_negative.specs.declared.reduction.Reduced.{Reduced}
use Rattle.rj_near_zero.specs.NearZero.{deltas_of, largest_of, distant, taylor_of, near_zero}
use Rattle.rj_negative.specs.Reduction.{reduced_value, reduced_found, reduced_answer}
use Rattle.rj_calls.specs.declared.plan.Plan.{Plan}
use Rattle.rj_calls.specs.declared.plan.Plan.TheVariants.{Done, Rescale, Reduce}
use Rattle.elliprj.specs.Rj.{rj_settled, rj_rest, rj_signed, rj}
use Rattle.rj_calls.specs.Run.{plan_unscaled, plan_scaled, plan_near, plan_of, rj_run, rj_unchecked}
use Rattle.cel_passes.specs.Passes.{cel_next, cel_near, cel_found, cel_spent, cel_value, cel_from, cel_pass, cel_begin, cel_steps}
use Rattle.cel.specs.Cel.{several_unbounded, either_unbounded, cel_unsettled, cel_settled, cel}
use Rattle.calls.specs.declared.Call.{Call}
use Rattle.calls.specs.declared.Call.TheVariants.{Rc, Rf, Rd, Rg, Rj, Cel}
use Rattle.answers.specs.Answers.{number, answer_of}

-- ---- the statements
abbrev pub Fit : Float → Type 0
Fit x = T (fits binary64 x)

abbrev FitFound : Found → Type 0
FitFound f = Fit f.value

abbrev pub Fits : Answer → Type 0
Fits (Ok f) = Fit f.value
Fits (Err n) = Unit {0}

-- ---- the root of an f64, the one operation that can hand its argument back
root_fits : (x : Float) → Fit x → Fit (root x)
unfolding root rounded
root_fits nan h = nan-fits binary64
root_fits (inf s) h = chosen Fit s (nan-fits binary64) (inf-fits binary64 false)
root_fits (fin s zero e) h = h
root_fits (fin s (suc m) e) h =
    chosen Fit s (nan-fits binary64) (of_bits-fits binary64 (last (root_of (suc m * up e) (down e)) 63 0))

-- ---- how an entry settles
infinite_fits : Fits infinite_at
unfolding infinite_at
infinite_fits = of_bits-fits binary64 0

settled_fits : (f : Found) (n : Refusal) → FitFound f → Fits (settled f n)
unfolding settled
settled_fits f n h = chosen Fits (finite f.value) h tt

late_fits : (f : Found) (bad unbounded : Bool) (n : Refusal) → FitFound f → Fits (settled_late f bad unbounded n)
unfolding settled_told
late_fits f bad unbounded n h =
    chosen Fits (finite f.value) h (chosen Fits bad tt (chosen Fits unbounded infinite_fits tt))

-- ---- RC
rc_cases_lem : (prefix x y : Float) → Fit (rc_cases prefix x y)
unfolding rc_cases rc_at_zero rc_at_equal rc_by_atan rc_by_ln1p rc_by_ln
rc_cases_lem prefix x y =
    chosen Fit (eq x +0) (div-fits binary64 _ _)
    (chosen Fit (eq x y) (div-fits binary64 _ _)
    (chosen Fit (lt x y) (div-fits binary64 _ _) (chosen Fit (lt half (y ⊘ x)) (div-fits binary64 _ _) (div-fits binary64 _ _))))

rc_found_lem : (x y : Float) → FitFound (rc_found x y)
unfolding rc_found closed_at rc_steps
rc_found_lem x y = chosen Fit (lt y +0) (rc_cases_lem _ _ _) (rc_cases_lem one x y)

over_root_lem : (f : Found) (s : Float) → FitFound f → FitFound (over_root f s)
unfolding over_root rescaled_at
over_root_lem f s h = div-fits binary64 _ _

rc_unchecked_lem : (x y : Float) → FitFound (rc_unchecked x y)
unfolding rc_unchecked
rc_unchecked_lem x y = rescaled2 FitFound over_root rc_found rc_found_lem over_root_lem x y

rc_fits : (x y : Float) → Fits (rc x y)
unfolding rc
rc_fits x y =
    chosen Fits (lt x +0) tt
    (chosen Fits (eq y +0) tt (late_fits (rc_unchecked x y) (any_nan2 x y) (any_infinite2 x y) RcNoResult (rc_unchecked_lem x y)))

-- ---- RF
rf_agm : (x y : Float) → FitFound (rf_agm_of x y)
unfolding rf_agm_of agm_at rf_agm_value
rf_agm x y =
    let s = rf_agm_start x y in
    capped_holds rf_means_of rf_together rf_agm_count rf_agm_count FitFound rf_cap (λ t n h. div-fits binary64 _ _)
    (λ t n h. div-fits binary64 _ _) rf_cap
    (rf_together s) s 0 (omega arith)

rf_duplication_lem : (x y z : Float) → FitFound (rf_duplication x y z)
unfolding rf_duplication duplication_at rf_series
rf_duplication_lem x y z =
    capped_holds rf_step rf_close (rf_found x y (rf_begin x y z).an) rf_spent FitFound rf_cap (λ t n h. div-fits binary64 _ _)
    (λ t n h. nan-fits binary64) rf_cap
    false (rf_begin x y z) 0 (omega arith)

rf_general_lem : (x y z : Float) → FitFound (rf_general x y z)
unfolding rf_general
rf_general_lem x y z =
    chosen FitFound (eq x +0) (rf_agm z y)
    (chosen FitFound (eq y +0) (rf_agm x z) (chosen FitFound (eq z +0) (rf_agm x y) (rf_duplication_lem x y z)))

rf_steps_lem : (x y z : Float) → FitFound (rf_steps x y z)
unfolding rf_steps rf_equal rf_zero rf_two closed_at
rf_steps_lem x y z =
    chosen FitFound (eq x y)
    (chosen FitFound (eq x z) (div-fits binary64 _ _) (chosen FitFound (eq z +0) (div-fits binary64 _ _) (rc_unchecked_lem z x)))
    (chosen FitFound (eq x z) (chosen FitFound (eq y +0) (div-fits binary64 _ _) (rc_unchecked_lem y x))
    (chosen FitFound (eq y z) (chosen FitFound (eq x +0) (div-fits binary64 _ _) (rc_unchecked_lem x y)) (rf_general_lem x y z)))

rf_unchecked_lem : (x y z : Float) → FitFound (rf_unchecked x y z)
unfolding rf_unchecked
rf_unchecked_lem x y z = rescaled3 FitFound over_root rf_steps rf_steps_lem over_root_lem x y z

rf_fits : (x y z : Float) → Fits (rf x y z)
unfolding rf
rf_fits x y z =
    chosen Fits (any_nan3 x y z) tt
    (chosen Fits (below3 x y z) tt
    (chosen Fits (zeros_of3 x y z) tt
    (chosen Fits (any_infinite3 x y z) infinite_fits (settled_fits (rf_unchecked x y z) NoResult (rf_unchecked_lem x y z)))))

-- ---- RD
rd_agm : (y z : Float) → Fits (rd_agm_of y z)
unfolding rd_agm_of agm_at rd_mean_value
rd_agm y z =
    let s = rd_agm_start y z in
    capped_holds sums_of rd_together (rd_agm_found (root y) (root z) y z) rd_agm_spent Fits mean_cap (λ t n h. mul-fits binary64 _ _)
    (λ t n h. tt) mean_cap
    (rd_together s) s 0 (omega arith)

rd_duplication_lem : (x y z : Float) → FitFound (rd_duplication x y z)
unfolding rd_duplication duplication_at rd_series
rd_duplication_lem x y z =
    capped_holds rd_step rd_close (rd_found x y (rd_begin x y z).an) rd_spent FitFound rd_cap (λ t n h. add-fits binary64 _ _)
    (λ t n h. nan-fits binary64) rd_cap
    false (rd_begin x y z) 0 (omega arith)

rd_general_lem : (x y z : Float) → Fits (rd_general x y z)
unfolding rd_general
rd_general_lem x y z =
    chosen Fits (eq x +0)
    (chosen Fits (le y (bits 0x4030_0000_0000_0000 ⊗ z)) (rd_agm y z) (rd_duplication_lem x y z)) (rd_duplication_lem x y z)

rd_ordered_lem : (x y z : Float) → Fits (rd_ordered x y z)
unfolding rd_ordered rd_equal rd_zero closed_at
rd_ordered_lem x y z =
    chosen Fits (eq y z)
    (chosen Fits (eq x y) (div-fits binary64 _ _) (chosen Fits (eq x +0) (div-fits binary64 _ _) (rd_general_lem x y z)))
    (rd_general_lem x y z)

rd_steps_lem : (x y z : Float) → Fits (rd_steps x y z)
unfolding rd_steps
rd_steps_lem x y z = chosen Fits (eq x z) (rd_ordered_lem y x z) (rd_ordered_lem x y z)

over_scale_lem : (a : Answer) (s : Float) → Fits a → Fits (over_scale a s)
unfolding over_scale rescaled_at
over_scale_lem (Ok f) s h = div-fits binary64 _ _
over_scale_lem (Err n) s h = tt

rd_unchecked_lem : (x y z : Float) → Fits (rd_unchecked x y z)
unfolding rd_unchecked
rd_unchecked_lem x y z = rescaled3 Fits over_scale rd_steps rd_steps_lem over_scale_lem x y z

rd_settled_lem : (a : Answer) (bad unbounded : Bool) → Fits a → Fits (rd_settled a bad unbounded)
unfolding rd_settled
rd_settled_lem (Ok f) bad unbounded h = late_fits f bad unbounded NoResult h
rd_settled_lem (Err n) bad unbounded h = tt

rd_fits : (x y z : Float) → Fits (rd x y z)
unfolding rd
rd_fits x y z =
    chosen Fits (lt (minimum x y) +0) tt
    (chosen Fits (eq x +0 && eq y +0) tt
    (chosen Fits (le z +0) tt (rd_settled_lem (rd_unchecked x y z) (any_nan3 x y z) (any_infinite3 x y z) (rd_unchecked_lem x y z))))

-- ---- RG: where all are equal it is the root of an argument
abbrev FitThree : Triple → Type 0
FitThree t = Each Fit t

largest_fits : (t : Triple) → FitThree t → FitThree (largest_first t)
unfolding largest_first rise_yz fall_xy fall_xz
largest_fits t h = low _ (top _ (front t h))
  where
    front : (t : Triple) → FitThree t → FitThree (fall_xy t)
    front t h = chosen FitThree (lt t.x t.y) (record { x = h.y; y = h.x; z = h.z }) h

    top : (t : Triple) → FitThree t → FitThree (fall_xz t)
    top t h = chosen FitThree (lt t.x t.z) (record { x = h.z; y = h.y; z = h.x }) h

    low : (t : Triple) → FitThree t → FitThree (rise_yz t)
    low t h = chosen FitThree (lt t.z t.y) (record { x = h.x; y = h.z; z = h.y }) h

rg_agm : (x z : Float) → Fits (rg_agm_of x z)
unfolding rg_agm_of agm_at rg_mean_value
rg_agm x z =
    let s = rg_begin (root x) (root z) in
    capped_holds rg_next rg_together rg_agm_found rg_agm_spent Fits mean_cap (λ t n h. div-fits binary64 _ _) (λ t n h. tt) mean_cap
    (rg_together s) s 0 (omega arith)

rg_sorted_lem : (x y z : Float) → Fit x → Fits (rg_sorted x y z)
unfolding rg_sorted rg_top rg_low rg_equal rg_zero rg_two rg_alone rg_joint closed_at carried_at joint_at rg_value
rg_sorted_lem x y z h =
    chosen Fits (eq x z)
    (chosen Fits (eq y z) (root_fits x h) (chosen Fits (eq y +0) (div-fits binary64 _ _) (div-fits binary64 _ _)))
    (chosen Fits (eq y z) (chosen Fits (eq y +0) (div-fits binary64 _ _) (div-fits binary64 _ _))
    (chosen Fits (eq y +0) (rg_agm x z) (div-fits binary64 _ _)))

rg_steps_lem : (x y z : Float) → Fit x → Fit y → Fit z → Fits (rg_steps x y z)
unfolding rg_steps
rg_steps_lem x y z hx hy hz =
    rg_sorted_lem _ _ _ (largest_fits (record { x = x; y = y; z = z }) (record { x = hx; y = hy; z = hz })).x

times_root_lem : (a : Answer) (s : Float) → Fits (times_root a s)
unfolding times_root rescaled_at
times_root_lem (Ok f) s = mul-fits binary64 _ _
times_root_lem (Err n) s = tt

rg_unchecked_lem : (x y z : Float) → Fit x → Fit y → Fit z → Fits (rg_unchecked x y z)
unfolding rg_unchecked rescaling3
rg_unchecked_lem x y z hx hy hz =
    let s = scale_of3 x y z in
    chosen Fits (rescales3 x y z s) (times_root_lem (rg_steps (x ⊘ s) (y ⊘ s) (z ⊘ s)) s) (rg_steps_lem x y z hx hy hz)

rg_settled_lem : (a : Answer) (bad : Bool) → Fits a → Fits (rg_settled a bad)
unfolding rg_settled
rg_settled_lem (Ok f) bad h = late_fits f bad false RgNoResult h
rg_settled_lem (Err n) bad h = tt

rg_fits : (x y z : Float) → Fit x → Fit y → Fit z → Fits (rg x y z)
unfolding rg
rg_fits x y z hx hy hz =
    chosen Fits (below3 x y z) tt (rg_settled_lem (rg_unchecked x y z) (any_nan3 x y z) (rg_unchecked_lem x y z hx hy hz))

-- ---- RJ
rj_duplication_lem : (x y z p : Float) → FitFound (rj_duplication x y z p)
unfolding rj_duplication duplication_over rj_series
rj_duplication_lem x y z p =
    let s = rj_begin x y z p in
    capped_holds rj_step (rj_close (rj_start s.an x y z p)) (rj_found x y z s.an) rj_spent FitFound rj_cap
    (λ t n h. add-fits binary64 _ _)
    (λ t n h. nan-fits binary64) rj_cap
    false s 0 (omega arith)

rj_positive_lem : (x y z p : Float) → Fits (rj_positive x y z p)
unfolding rj_positive rj_all rj_three closed_at carried_at
rj_positive_lem x y z p =
    chosen Fits (eq x y)
    (chosen Fits (eq x z)
    (chosen Fits (eq x p) (div-fits binary64 _ _) (chosen Fits (well_apart p x) (mul-fits binary64 _ _) (cases x y z)))
    (cases z y x)) (cases x y z)
  where
    final : (x y z : Float) → Fits (rj_last x y z p)
    final x y z = unfold rj_last in chosen Fits (eq z p) (rd_unchecked_lem x y z) (rj_duplication_lem x y z p)

    pair : (x y z : Float) → Fits (rj_pair x y z p)
    pair x y z = unfold rj_pair rj_two carried_at in
        chosen Fits (eq y p) (rd_unchecked_lem x y y)
        (chosen Fits (well_apart p y) (chosen Fits (le x (maximum y p)) (div-fits binary64 _ _) (final x y z)) (final x y z))

    cases : (x y z : Float) → Fits (rj_cases x y z p)
    cases x y z = unfold rj_cases in chosen Fits (eq y z) (pair x y z) (final x y z)

-- what a call is done with at once
abbrev Planned : Plan → Type 0
Planned (Done a) = Fits a
Planned (Rescale c) = Unit {0}
Planned (Reduce r) = Unit {0}

scaled : (x y z p : Float) → Planned (plan_scaled x y z p)
unfolding plan_scaled plan_unscaled
scaled x y z p =
    chosen Planned (rescales4 x y z p (scale_of4 x y z p)) tt (chosen Planned (le p +0) tt (rj_positive_lem x y z p))

abbrev FitNear : Option Float → Type 0
FitNear (Some v) = Fit v
FitNear None = Unit {0}

near_fits : (x y z q : Float) → FitNear (near_zero x y z q)
unfolding near_zero taylor_of
near_fits x y z q =
    let radius = q ⊗ root epsilon in
    let d = deltas_of x y z q in
    chosen FitNear (distant x y z q radius) tt
    (chosen FitNear (le (largest_of d.x d.y d.z) (radius ⊘ four)) (div-fits binary64 _ _) tt)

near : (n : Option Float) (x y z p : Float) → FitNear n → Planned (plan_near n x y z p)
unfolding plan_near taylor_at
near (Some v) x y z p h = h
near None x y z p h = scaled x y z p

planned : (x y z p : Float) → Planned (plan_of x y z p)
unfolding plan_of
planned x y z p =
    let t = rising (record { x = x; y = y; z = z }) in
    chosen Planned (le p +0)
    (near (near_zero t.x t.y t.z (neg p)) t.x t.y t.z p (near_fits t.x t.y t.z (neg p)))
    (scaled x y z p)

reduced : (r : Reduced) (a : Answer) → Fits (reduced_answer r a)
unfolding reduced_answer reduced_found reduction_at reduced_value
reduced r (Ok f) = div-fits binary64 _ _
reduced r (Err n) = tt

run : (left : ℕ) (p : Plan) → Planned p → Fits (rj_run left p)
unfolding rj_run
run zero p h = tt
run (suc left) (Done a) h = h
run (suc left) (Rescale c) h =
    over_scale_lem _ c.scale (run left (plan_of c.x c.y c.z c.p) (planned c.x c.y c.z c.p))
run (suc left) (Reduce r) h = reduced r _

rj_settled_lem : (a : Answer) → Fits a → Fits (rj_settled a)
unfolding rj_settled
rj_settled_lem (Ok f) h = settled_fits f NoResult h
rj_settled_lem (Err n) h = tt

rj_fits : (x y z p : Float) → Fits (rj x y z p)
unfolding rj rj_signed rj_rest rj_unchecked
rj_fits x y z p =
    chosen Fits (any_nan4 x y z p) tt
    (chosen Fits (eq p +0) tt
    (chosen Fits (below3 x y z) tt
    (chosen Fits (zeros_of3 x y z) tt
    (chosen Fits (any_infinite4 x y z p) infinite_fits (rj_settled_lem _ (run 4 (plan_of x y z p) (planned x y z p)))))))

-- ---- cel
cel_steps_lem : (kc p a b : Float) → FitFound (cel_steps kc p a b)
unfolding cel_steps cel_from loop_at cel_value
cel_steps_lem kc p a b =
    let s = cel_pass (cel_begin kc p a b) in
    capped_holds cel_next cel_near cel_found cel_spent FitFound 29 (λ t n h. div-fits binary64 _ _) (λ t n h. nan-fits binary64) 29
    (cel_near s) s 0 (omega arith)

cel_fits : (kc p a b : Float) → Fits (cel kc p a b)
unfolding cel cel_settled cel_unsettled
cel_fits kc p a b =
    chosen Fits (eq kc +0 || eq p +0) tt
    (chosen Fits (finite (cel_steps kc p a b).value) (cel_steps_lem kc p a b)
    (chosen Fits (any_nan4 kc p a b) tt
    (chosen Fits (several_unbounded kc p a b) tt
    (chosen Fits (either_unbounded kc p) infinite_fits (chosen Fits (either_unbounded a b) tt tt)))))

-- ---- THE THEOREM, over a call
pub fitting : (c : Call) → Fits (answer_of c)
unfolding answer_of
fitting (Rc x y) = rc_fits (number x) (number y)
fitting (Rf x y z) = rf_fits (number x) (number y) (number z)
fitting (Rd x y z) = rd_fits (number x) (number y) (number z)
fitting (Rg x y z) =
    rg_fits (number x) (number y) (number z) (of_bits-fits binary64 x) (of_bits-fits binary64 y) (of_bits-fits binary64 z)
fitting (Rj x y z p) = rj_fits (number x) (number y) (number z) (number p)
fitting (Cel kc p a b) = cel_fits (number kc) (number p) (number a) (number b)
