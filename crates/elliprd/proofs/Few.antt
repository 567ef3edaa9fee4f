-- RD begins at most its cap's rounds, and rescales at most once (document 02, 2026-12). Assumes nothing.
use Rattle.std.specs.Prelude.{ℕ, ◌+◌, false, Float}
use Rattle.std.proofs.Common.{arith, Ok, Err}
use Rattle.std.specs.Float.Ieee.{le, eq}
use Rattle.binary64.specs.Operators.{◌⊗◌, ◌⊘◌, bits}
use Rattle.root.specs.Root.{root}
use Rattle.carlson.specs.Constants.{zero}
use Rattle.carlson.specs.Common.{mean_cap}
use Rattle.carlson.specs.Answer.{closed_at, agm_at, duplication_at}
use Rattle.carlson.specs.Loop.{capped_holds}
use Rattle.carlson.proofs.Only.{chosen}
use Rattle.carlson_arguments.specs.Rescaled.{rescaled3_to}
use Rattle.carlson.specs.Ways.{Within, Few}
use Rattle.carlson.proofs.Ways.{counted, few_wider, rescaled_within}
use Rattle.carlson.specs.Answer.{Answer}
use Rattle.elliprd.specs.Means.{sums_of, rd_together, rd_agm_found, rd_agm_spent, rd_agm_start, rd_agm_of}
use Rattle.rd_duplicate.specs.Duplicate.{rd_cap, rd_begin, rd_step, rd_close, rd_found, rd_spent, rd_duplication}
use Rattle.elliprd.specs.Rd.{rd_equal, rd_zero, rd_general, rd_ordered, rd_steps, over_scale, rd_unchecked}

abbrev Steps : Answer → Type 0
Steps = Few rd_cap 0

pub rd_duplicated : (x y z : Float) → Within rd_cap 0 (rd_duplication x y z).way
unfolding rd_duplication duplication_at
rd_duplicated x y z =
    capped_holds rd_step rd_close (rd_found x y (rd_begin x y z).an) rd_spent (λ f. Within rd_cap 0 f.way) rd_cap
    (λ s n h. counted n h) (λ s n h. counted n h) rd_cap false (rd_begin x y z) 0 (omega arith)

means : (y z : Float) → Steps (rd_agm_of y z)
unfolding rd_agm_of agm_at
means y z =
    let s = rd_agm_start y z in
    capped_holds sums_of rd_together (rd_agm_found (root y) (root z) y z) rd_agm_spent Steps mean_cap
    (λ t n h. counted n (omega arith)) (λ t n h. tt) mean_cap (rd_together s) s 0 (omega arith)

general : (x y z : Float) → Steps (rd_general x y z)
unfolding rd_general
general x y z =
    let duplicated : Steps (Ok (rd_duplication x y z)) = rd_duplicated x y z in
    chosen Steps (eq x zero) (chosen Steps (le y (bits 0x4030_0000_0000_0000 ⊗ z)) (means y z) duplicated) duplicated

ordered : (x y z : Float) → Steps (rd_ordered x y z)
unfolding rd_ordered rd_equal rd_zero closed_at
ordered x y z =
    chosen Steps (eq y z) (chosen Steps (eq x y) (counted 0 (omega arith))
    (chosen Steps (eq x zero) (counted 0 (omega arith)) (general x y z))) (general x y z)

steps : (x y z : Float) → Steps (rd_steps x y z)
unfolding rd_steps
steps x y z = chosen Steps (eq x z) (ordered y x z) (ordered x y z)

-- a rescaling more, for RJ too
pub over_scale_few : (m k : ℕ) (a : Answer) (s : Float) → Few m k a → Few m (k + 1) (over_scale a s)
unfolding over_scale
over_scale_few m k (Ok f) s h = rescaled_within f (f.value ⊘ s ⊘ root s) h
over_scale_few m k (Err n) s h = tt

pub rd_few : (x y z : Float) → Few rd_cap 1 (rd_unchecked x y z)
unfolding rd_unchecked
rd_few = rescaled3_to Steps (Few rd_cap 1) over_scale rd_steps steps (few_wider (omega arith) (omega arith))
    (over_scale_few rd_cap 0)
