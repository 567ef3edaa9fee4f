-- RJ for p below zero, by an RJ at another p (elliprj.rs; DLMF 19.20.14). Definitions only.
use Rattle.std.specs.Prelude.{Float, Ok, Err}
use Rattle.binary64.specs.Operators.{◌⊕◌, ◌⊖◌, ◌⊗◌, ◌⊘◌}
use Rattle.root.specs.Root.{root}
use Rattle.carlson.specs.Constants.{three}
use Rattle.carlson.specs.Answer.{both_ways, wrapped_ways, reduction_at}
use Rattle.carlson.specs.declared.answer.Found.{Found}
use Rattle.carlson.specs.Answer.{Answer}
use Rattle.elliprc.specs.Rc.{rc_unchecked}
use Rattle.elliprf.specs.Rf.{rf_unchecked}
use Rattle.rj_negative.specs.declared.reduction.Reduced.{Reduced}

-- ---- the inner call's arguments: its p is (z (x + y + q) - xy) / (z + q)
unfoldable pub reduce_of : Float → Float → Float → Float → Reduced
reduce_of x y z q = record { x = x; y = y; z = z; p = (z ⊗ (x ⊕ y ⊕ q) ⊖ x ⊗ y) ⊘ (z ⊕ q); q = q }

-- RC at the two products xy + pq and pq
unfoldable pub reduced_rc : Reduced → Found
reduced_rc r = let pq = r.p ⊗ r.q in rc_unchecked (r.x ⊗ r.y ⊕ pq) pq

-- the value, from that of the inner RJ, of RF and of RC
unfoldable pub reduced_value : Reduced → Float → Float → Float → Float
reduced_value r rj rf rc =
    let xy = r.x ⊗ r.y in
    let both = xy ⊕ r.p ⊗ r.q in
    ((r.p ⊖ r.z) ⊗ rj ⊖ three ⊗ rf ⊕ three ⊗ root (xy ⊗ r.z ⊘ both) ⊗ rc) ⊘ (r.z ⊕ r.q)

-- with the ways of all three
unfoldable pub reduced_found : Reduced → Found → Found → Found → Found
reduced_found r rj rf rc =
    reduction_at (reduced_value r rj.value rf.value rc.value) (both_ways (both_ways rj.way rf.way) rc.way)

unfoldable pub reduced_answer : Reduced → Answer → Answer
reduced_answer r (Ok rj) = Ok (reduced_found r rj (rf_unchecked r.x r.y r.z) (reduced_rc r))
reduced_answer r (Err n) = Err n

-- ---- what the code makes of any inner answer, its sums being of u32; of a call's it is the same (Few, `carried_plain`)
unfoldable pub wrapped_found : Reduced → Found → Found → Found → Found
wrapped_found r rj rf rc =
    reduction_at (reduced_value r rj.value rf.value rc.value) (wrapped_ways (wrapped_ways rj.way rf.way) rc.way)

unfoldable pub wrapped_answer : Reduced → Answer → Answer
wrapped_answer r (Ok rj) = Ok (wrapped_found r rj (rf_unchecked r.x r.y r.z) (reduced_rc r))
wrapped_answer r (Err n) = Err n
