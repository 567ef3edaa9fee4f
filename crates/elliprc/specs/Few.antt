-- RC counts no round, and is rescaled at most once (document 02, 2026-12). Assumes nothing.
use Rattle.std.specs.Prelude.{◌≡◌, Float}
use Rattle.std.proofs.Common.{arith}
use Rattle.binary64.specs.Operators.{◌⊘◌}
use Rattle.root.specs.Root.{root}
use Rattle.carlson.specs.Answer.{both_ways, wrapped_ways, closed_at}
use Rattle.carlson_arguments.specs.Rescaled.{rescaled2_to}
use Rattle.carlson.specs.Ways.{Within}
use Rattle.carlson.proofs.Ways.{counted, wider, rescaled_within, within_ways}
use Rattle.elliprc.specs.Rc.{rc_found, over_root, rc_unchecked}

pub rc_within : (x y : Float) → Within 0 1 (rc_unchecked x y).way
unfolding rc_unchecked rc_found closed_at over_root
rc_within = rescaled2_to (λ f. Within 0 0 f.way) (λ f. Within 0 1 f.way) over_root rc_found
    (λ x y. counted 0 (omega arith)) (λ f h. wider (omega arith) (omega arith) h)
    (λ f s h. rescaled_within f (f.value ⊘ root s) h)

-- so two of them add up plainly
pub rc_ways : (x y u v : Float)
    → wrapped_ways (rc_unchecked x y).way (rc_unchecked u v).way ≡ both_ways (rc_unchecked x y).way (rc_unchecked u v).way
rc_ways x y u v = within_ways (omega arith) (omega arith) (rc_within x y) (rc_within u v)
