-- What the exchanges come to: none is below the one before it, and they are the same three. NaNs are in: a NaN is below nothing,
-- and nothing is below it; where none is NaN, the three are in order. Assumes nothing.
use Rattle.std.specs.Prelude.{◌≡◌, refl, Bool, true, false, cond, Float}
use Rattle.std.proofs.Common.{ap}
use Rattle.std.specs.Float.Ieee.{is_nan, lt, le}
use Rattle.sorting.specs.declared.Triple.{Triple}
use Rattle.sorting.specs.Sorting.{rise_xy, rise_yz, fall_xy, fall_xz, rising, largest_first}
use Rattle.sorting.specs.Sorting.{three, Permuted, as_it_is, first_two, last_two, and_then}
use Rattle.sorting.specs.Permuted.{Each, Rises, Upward, ToldApart}
use Rattle.sorting.proofs.Permuted.{undone, turned, ends, each_permuted, upward_only}
use Rattle.sorting.specs.Order.{lt_once, not_below_through, not_below_le}
use Rattle.sorting.specs.SortingLaws.{InOrder, LargestFirst, Number}

pub rising_rises : (t : Triple) → Upward (rising t)
unfolding rising rise_xy rise_yz
rising_rises t = start (lt t.y t.x) refl
  where
    -- x is not above y; of y and z the smaller comes before, and is held against x
    last : (x y z : Float) (b : Bool) → lt z x ≡ b → lt y x ≡ false → lt z y ≡ true
        → Upward (cond b (record { x = z; y = x; z = y }) (record { x = x; y = z; z = y }))
    last x y z true e h g = record { second = lt_once z x e; third = h }
    last x y z false e h g = record { second = e; third = lt_once z y g }

    middle : (x y z : Float) (b : Bool) → lt z y ≡ b → lt y x ≡ false
        → Upward (rise_xy (cond b (record { x = x; y = z; z = y }) (record { x = x; y = y; z = z })))
    middle x y z true e h = last x y z (lt z x) refl h e
    middle x y z false e h = rw h (record { second = h; third = e })

    start : (b : Bool) → lt t.y t.x ≡ b → Upward (rise_xy (rise_yz (cond b (record { x = t.y; y = t.x; z = t.z }) t)))
    start true e = middle t.y t.x t.z (lt t.z t.x) refl (lt_once t.y t.x e)
    start false e = middle t.x t.y t.z (lt t.z t.y) refl e

pub largest_first_rises : (t : Triple) → LargestFirst (largest_first t)
unfolding largest_first fall_xy fall_xz rise_yz
largest_first_rises t = start (lt t.x t.y) refl
  where
    -- nothing is above x; of y and z the smaller comes before
    last : (x y z : Float) (b : Bool) → lt z y ≡ b → lt x y ≡ false → lt x z ≡ false
        → LargestFirst (cond b (record { x = x; y = z; z = y }) (record { x = x; y = y; z = z }))
    last x y z true e h g = record { second = lt_once z y e; third = h }
    last x y z false e h g = record { second = e; third = g }

    -- x is not below y, and is held against z
    middle : (x y z : Float) (b : Bool) → lt x z ≡ b → lt x y ≡ false
        → LargestFirst (rise_yz (cond b (record { x = z; y = y; z = x }) (record { x = x; y = y; z = z })))
    middle x y z true e h = rw h (record { second = h; third = lt_once x z e })
    middle x y z false e h = last x y z (lt z y) refl h e

    start : (b : Bool) → lt t.x t.y ≡ b
        → LargestFirst (rise_yz (fall_xz (cond b (record { x = t.y; y = t.x; z = t.z }) t)))
    start true e = middle t.y t.x t.z (lt t.y t.z) refl (lt_once t.x t.y e)
    start false e = middle t.x t.y t.z (lt t.x t.z) refl e

-- ---- they are the same three
either : (b : Bool) {t u : Triple} → Permuted t u → Permuted t (cond b u t)
either true p = p
either false p = as_it_is

rise_xy_lem : (t : Triple) → Permuted t (rise_xy t)
unfolding rise_xy
rise_xy_lem t = either (lt t.y t.x) first_two

rise_yz_lem : (t : Triple) → Permuted t (rise_yz t)
unfolding rise_yz
rise_yz_lem t = either (lt t.z t.y) last_two

fall_xy_lem : (t : Triple) → Permuted t (fall_xy t)
unfolding fall_xy
fall_xy_lem t = either (lt t.x t.y) first_two

fall_xz_lem : (t : Triple) → Permuted t (fall_xz t)
unfolding fall_xz
fall_xz_lem t = either (lt t.x t.z) ends

pub rising_permuted : (t : Triple) → Permuted t (rising t)
unfolding rising
rising_permuted t = and_then (rise_xy_lem t) (and_then (rise_yz_lem (rise_xy t)) (rise_xy_lem (rise_yz (rise_xy t))))

pub largest_first_permuted : (t : Triple) → Permuted t (largest_first t)
unfolding largest_first
largest_first_permuted t = and_then (fall_xy_lem t) (and_then (fall_xz_lem (fall_xy t)) (rise_yz_lem (fall_xz (fall_xy t))))

in_order : {a b c : Float} → Each Number (three a b c) → Rises a b c → InOrder a b c
in_order {a} {b} {c} n r = record {
  lower = not_below_le a b n.x n.y r.second;
  upper = not_below_le b c n.y n.z r.third;
  ends = not_below_le a c n.x n.z (not_below_through a b c n.y r.second r.third);
}

pub rising_in_order : (t : Triple) → Each Number t → let r = rising t in InOrder r.x r.y r.z
rising_in_order t n = in_order (each_permuted (rising_permuted t) n) (rising_rises t)

pub largest_first_in_order : (t : Triple) → Each Number t → let r = largest_first t in InOrder r.y r.z r.x
largest_first_in_order t n = in_order (each_permuted (and_then (largest_first_permuted t) turned) n) (largest_first_rises t)

-- ---- and the order in which they were given is lost, where `<` tells any two of them apart
pub largest_first_only : {P : Float → Type 0} {t u : Triple} → ToldApart P → Permuted t u → Each P t
    → largest_first t ≡ largest_first u
largest_first_only {t = t} {u = u} told p e =
    let a = and_then (largest_first_permuted t) turned in
    let b = and_then (largest_first_permuted u) turned in
    ap (λ (r : Triple). three r.z r.x r.y)
    (upward_only told (and_then (undone a) (and_then p b)) (each_permuted a e) (largest_first_rises t) (largest_first_rises u))

pub rising_only : {P : Float → Type 0} {t u : Triple} → ToldApart P → Permuted t u → Each P t → rising t ≡ rising u
rising_only {t = t} {u = u} told p e =
    let a = rising_permuted t in
    upward_only told (and_then (undone a) (and_then p (rising_permuted u))) (each_permuted a e) (rising_rises t) (rising_rises u)

-- and of the first two alone
pub first_two_only : {P : Float → Type 0} {x y : Float} (z : Float) → ToldApart P → P x → P y
    → rise_xy (three x y z) ≡ rise_xy (three y x z)
unfolding rise_xy
first_two_only {x = x} {y} z told p q = go (lt y x) (lt x y) refl refl
  where
    go : (b c : Bool) → lt y x ≡ b → lt x y ≡ c → cond b (three y x z) (three x y z) ≡ cond c (three x y z) (three y x z)
    go true true e f = rw (told.apart p q (lt_once y x e) (lt_once x y f))
    go true false e f = refl
    go false true e f = refl
    go false false e f = rw (told.apart p q f e)
