-- The counts of Inside are those of the answers that they mirror: RD and RG. Assumes nothing.
use Rattle.std.specs.Prelude.{ℕ, ◌≤◌, ◌≡◌, Float, Ok, Err}
use Rattle.std.proofs.Math.Path.{refl}
use Rattle.std.proofs.Common.{arith}
use Rattle.std.specs.Float.Ieee.{le, eq}
use Rattle.binary64.specs.Operators.{◌⊗◌, bits}
use Rattle.root.specs.Root.{root}
use Rattle.refusals.specs.declared.Refusal.{Refusal}
use Rattle.carlson.specs.Constants.{zero as +0}
use Rattle.carlson.specs.Common.{mean_cap}
use Rattle.carlson.specs.Answer.{closed_at, carried_at, agm_at, rescaled_at}
use Rattle.carlson.specs.Loop.{capped_both}
use Rattle.carlson.proofs.Only.{chosen, chosen_both}
use Rattle.carlson_arguments.specs.Rescaled.{rescaled3_both}
use Rattle.carlson.specs.Ways.{Within}
use Rattle.carlson.specs.declared.answer.Found.{Found}
use Rattle.carlson.specs.Answer.{Answer}
use Rattle.sorting.specs.Sorting.{largest_first}
use Rattle.elliprc.specs.Few.{rc_within}
use Rattle.elliprd.specs.Means.{sums_of, rd_together, rd_agm_found, rd_agm_spent, rd_agm_start, rd_agm_of}
use Rattle.rd_duplicate.specs.Duplicate.{rd_cap, rd_duplication}
use Rattle.elliprd.specs.Rd.{rd_equal, rd_zero, rd_general, rd_ordered, rd_steps, over_scale, rd_unchecked}
use Rattle.elliprd.proofs.Few.{rd_duplicated}
use Rattle.rg_means.specs.Means.{rg_begin, rg_next, rg_together, rg_agm_found, rg_agm_spent, rg_agm_of}
use Rattle.rg_joint.specs.Joint.{joint_cap, rg_joint}
use Rattle.rg_joint.proofs.Few.{joint_within}
use Rattle.elliprg.specs.Rg.{rg_equal, rg_zero, rg_two, rg_alone, rg_top, rg_low, rg_sorted, rg_steps, times_root, rg_unchecked}
use Rattle.rounds.specs.Inside.{
  rounds_in,
  made,
  same,
  rd_means_inside,
  rd_general_inside,
  rd_ordered_inside,
  rd_steps_inside,
  rd_inside,
  rg_means_inside,
  rg_sorted_inside,
  rg_steps_inside,
  rg_inside,
}

-- ---- n passes are begun, at most m, and a value counts just those; inside no road is infinite
abbrev pub Exact : Answer → ℕ → Type 0
Exact (Ok f) n = f.way.rounds ≡ n
Exact (Err m) n = Unit {0}

pub record Exactly (m : ℕ) (a : Answer) (n : ℕ) : Type 0 where
  pub most : n ≤ m
  pub exact : Exact a n

pub found : {m : ℕ} (f : Found) → rounds_in f ≤ m → Exactly m (Ok f) (rounds_in f)
found f h = record { most = h; exact = refl }

pub closed : {m k : ℕ} (f : Found) → Within 0 k f.way → Exactly m (Ok f) 0
closed f h = record { most = omega arith; exact = omega (arith, h.begun) }

pub none : {m : ℕ} (f : Found) → rounds_in f ≡ 0 → Exactly m (Ok f) 0
none f h = record { most = omega arith; exact = h }

pub more : {m m' n : ℕ} (a : Answer) → m ≤ m' → Exactly m a n → Exactly m' a n
more a h i = record { most = omega (arith, i.most); exact = i.exact }

-- a mean is a value, or refused with its cap spent
module _ {m n : ℕ} (h : n ≤ mean_cap) (g : mean_cap ≤ m) where
  agm_found : (v : Float) → Exactly m (Ok (agm_at v n)) n
  unfolding agm_at
  agm_found v = record { most = omega arith; exact = refl }

  agm_refused : (r : Refusal) → Exactly m (Err r) n
  agm_refused k = record { most = omega arith; exact = tt }

-- ---- RD
rd_means : (y z : Float) → Exactly rd_cap (rd_agm_of y z) (rd_means_inside y z)
unfolding rd_agm_of rd_means_inside
rd_means y z =
    let s = rd_agm_start y z in
    capped_both sums_of rd_together (rd_agm_found (root y) (root z) y z) rd_agm_spent made made (Exactly rd_cap) mean_cap
    (λ t n h. agm_found h (omega arith) _) (λ t n h. agm_refused h (omega arith) _) mean_cap (rd_together s) s 0 (omega arith)

rd_general_lem : (x y z : Float) → Exactly rd_cap (rd_general x y z) (rd_general_inside x y z)
unfolding rd_general rd_general_inside
rd_general_lem x y z =
    let d = found {m = rd_cap} (rd_duplication x y z) (rd_duplicated x y z).begun in
    chosen_both (Exactly rd_cap) (eq x +0) (chosen_both (Exactly rd_cap) (le y (bits 0x4030_0000_0000_0000 ⊗ z)) (rd_means y z) d) d

rd_ordered_lem : (x y z : Float) → Exactly rd_cap (rd_ordered x y z) (rd_ordered_inside x y z)
unfolding rd_ordered rd_ordered_inside rd_equal rd_zero closed_at
rd_ordered_lem x y z =
    let R = Exactly rd_cap in
    chosen_both R (eq y z) (chosen_both R (eq x y) (none _ refl) (chosen_both R (eq x +0) (none _ refl) (rd_general_lem x y z)))
    (rd_general_lem x y z)

rd_steps_lem : (x y z : Float) → Exactly rd_cap (rd_steps x y z) (rd_steps_inside x y z)
unfolding rd_steps rd_steps_inside
rd_steps_lem x y z = chosen_both (Exactly rd_cap) (eq x z) (rd_ordered_lem y x z) (rd_ordered_lem x y z)

pub over_scale_lem : (m : ℕ) (a : Answer) (n : ℕ) (s : Float) → Exactly m a n → Exactly m (over_scale a s) n
unfolding over_scale rescaled_at
over_scale_lem m (Ok f) n s i = record { most = i.most; exact = i.exact }
over_scale_lem m (Err k) n s i = record { most = i.most; exact = tt }

pub rd_inside_lem : (x y z : Float) → Exactly rd_cap (rd_unchecked x y z) (rd_inside x y z)
unfolding rd_unchecked rd_inside
rd_inside_lem = rescaled3_both (Exactly rd_cap) over_scale same rd_steps rd_steps_inside rd_steps_lem (over_scale_lem rd_cap)

-- ---- RG
rg_means : (x z : Float) → Exactly joint_cap (rg_agm_of x z) (rg_means_inside x z)
unfolding rg_agm_of rg_means_inside
rg_means x z =
    let s = rg_begin (root x) (root z) in
    capped_both rg_next rg_together rg_agm_found rg_agm_spent made made (Exactly joint_cap) mean_cap
    (λ t n h. agm_found h (omega arith) _) (λ t n h. agm_refused h (omega arith) _) mean_cap (rg_together s) s 0 (omega arith)

-- the closed forms begin none
abbrev None : Answer → Type 0
None a = Exactly joint_cap a 0

rg_two_lem : (x y : Float) → Exactly joint_cap (rg_two x y) 0
unfolding rg_two carried_at
rg_two_lem x y = closed _ (rc_within x y)

rg_top_lem : (x y z : Float) → Exactly joint_cap (rg_top x y z) 0
unfolding rg_top rg_equal rg_zero closed_at
rg_top_lem x y z =
    chosen None (eq y z) (none _ refl) (chosen None (eq y +0) (none _ refl) (rg_two_lem y x))

rg_low_lem : (x y : Float) → Exactly joint_cap (rg_low x y) 0
unfolding rg_low rg_alone closed_at
rg_low_lem x y = chosen None (eq y +0) (none _ refl) (rg_two_lem x y)

rg_sorted_lem : (x y z : Float) → Exactly joint_cap (rg_sorted x y z) (rg_sorted_inside x y z)
unfolding rg_sorted rg_sorted_inside
rg_sorted_lem x y z =
    let R = Exactly joint_cap in
    chosen_both R (eq x z) (rg_top_lem x y z)
    (chosen_both R (eq y z) (rg_low_lem x y)
    (chosen_both R (eq y +0) (rg_means x z) (found (rg_joint x y z) (joint_within x y z).begun)))

rg_steps_lem : (x y z : Float) → Exactly joint_cap (rg_steps x y z) (rg_steps_inside x y z)
unfolding rg_steps rg_steps_inside
rg_steps_lem x y z = let t = largest_first (record { x = x; y = y; z = z }) in rg_sorted_lem t.x t.y t.z

times_root_lem : (a : Answer) (n : ℕ) (s : Float) → Exactly joint_cap a n → Exactly joint_cap (times_root a s) n
unfolding times_root rescaled_at
times_root_lem (Ok f) n s i = record { most = i.most; exact = i.exact }
times_root_lem (Err k) n s i = record { most = i.most; exact = tt }

pub rg_inside_lem : (x y z : Float) → Exactly joint_cap (rg_unchecked x y z) (rg_inside x y z)
unfolding rg_unchecked rg_inside
rg_inside_lem = rescaled3_both (Exactly joint_cap) times_root same rg_steps rg_steps_inside rg_steps_lem times_root_lem
