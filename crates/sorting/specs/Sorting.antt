-- Three values brought into order by exchanges, as elliprg.rs and elliprj.rs have them, and what it is to be the same three in
-- another order. Definitions only.
use Rattle.std.specs.Prelude.{cond, Float}
use Rattle.std.specs.Float.Ieee.{lt}
use Rattle.sorting.specs.declared.Triple.{Triple}

-- two are exchanged where they stand wrong
unfoldable pub rise_xy : Triple → Triple
rise_xy t = cond (lt t.y t.x) (record { x = t.y; y = t.x; z = t.z }) t

unfoldable pub rise_yz : Triple → Triple
rise_yz t = cond (lt t.z t.y) (record { x = t.x; y = t.z; z = t.y }) t

unfoldable pub fall_xy : Triple → Triple
fall_xy t = cond (lt t.x t.y) (record { x = t.y; y = t.x; z = t.z }) t

unfoldable pub fall_xz : Triple → Triple
fall_xz t = cond (lt t.x t.z) (record { x = t.z; y = t.y; z = t.x }) t

-- rising, for RJ with p below zero
unfoldable pub rising : Triple → Triple
rising t = rise_xy (rise_yz (rise_xy t))

-- RG's own order: the largest first, then the smallest
unfoldable pub largest_first : Triple → Triple
largest_first t = rise_yz (fall_xz (fall_xy t))

-- ---- the same three in another order
abbrev pub three : Float → Float → Float → Triple
three x y z = record { x = x; y = y; z = z }

-- exchanges of the first two and of the last two, one after the other
pub data Permuted : Triple → Triple → Type 0 where
  as_it_is : {t : Triple} → Permuted t t
  first_two : {x y z : Float} → Permuted (three x y z) (three y x z)
  last_two : {x y z : Float} → Permuted (three x y z) (three x z y)
  and_then : {t u v : Triple} → Permuted t u → Permuted u v → Permuted t v
