-- RF with one zero: the arithmetic-geometric mean (elliprf.rs; document 01, Rounds). Definitions only.
use Rattle.std.specs.Prelude.{ℕ, Bool, not, Float}
use Rattle.binary64.specs.Operators.{◌⊕◌, ◌⊗◌, ◌⊘◌}
use Rattle.root.specs.Root.{root}
use Rattle.carlson.specs.Constants.{two, pi}
use Rattle.carlson.specs.Common.{apart}
use Rattle.carlson.specs.Loop.{capped}
use Rattle.carlson.specs.Answer.{agm_at}
use Rattle.carlson.specs.declared.answer.Found.{Found}
use Rattle.rf_duplicate.specs.Duplicate.{rf_cap}
use Rattle.elliprf.specs.declared.means.Means.{Means}

unfoldable pub rf_means_of : Means → Means
rf_means_of m = record { xn = (m.xn ⊕ m.yn) ⊘ two; yn = root (m.xn ⊗ m.yn) }

unfoldable pub rf_agm_value : Means → Float
rf_agm_value m = pi ⊘ (m.xn ⊕ m.yn)

unfoldable pub rf_agm_start : Float → Float → Means
rf_agm_start x y = record { xn = root x; yn = root y }

abbrev pub rf_agm_count : Means → ℕ → Found
rf_agm_count m n = agm_at (rf_agm_value m) n

abbrev pub rf_together : Means → Bool
rf_together m = not (apart m.xn m.yn)

-- document 01, Rounds: with RF's cap spent the mean answers all the same. Counted are the passes that replaced the means.
unfoldable pub rf_agm_of : Float → Float → Found
rf_agm_of x y = capped rf_means_of rf_together rf_agm_count rf_agm_count rf_cap (rf_together (rf_agm_start x y)) (rf_agm_start x y) 0
