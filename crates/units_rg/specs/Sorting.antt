-- RG's order of its arguments in two runs: both choose alike, zeros of both signs included. What its order gives is kept as far
-- as zeros go: of the sorted three z is no zero if y is none, and x is none if z is none. Assumes nothing.
use Rattle.std.specs.Prelude.{◌≡◌, ℕ, ◌+◌, ◌<◌, Bool, true, false, not, T, ltb, Float}
use Rattle.std.proofs.Common.{sym, ap, ◌∙◌, subst, arith, T_not, ltb→lt, lt→ltb}
use Rattle.std.proofs.Math.Dec.{not_T}
use Rattle.std.specs.Float.{binary64}
use Rattle.std.specs.Float.Ieee.{lt, eq, below}
use Rattle.scaling.specs.Units.{lt_units}
use Rattle.scaling.proofs.Two.{lt_two}
use Rattle.scaling.proofs.Tests.{zero_is, no_units}
use Rattle.scaling.proofs.Signs.{plus}
use Rattle.scaling.proofs.Pick.{choose}
use Rattle.carlson.specs.Constants.{zero}
use Rattle.sorting.specs.Sorting.{fall_xy, fall_xz, rise_yz, largest_first}
use Rattle.sorting.specs.declared.Triple.{Triple}
use Rattle.units.specs.Arguments.{Argument}
use Rattle.units.proofs.Arguments.{no_units_of}

-- ---- of two that are not below zero: what a comparison says of zeros
nothing_below : (s t : Bool) (m n : ℕ) → n ≡ 0 → T (not (below s m false 0)) → T (below s m t n) → ⊥
nothing_below s false m n z p b = T_not (below s m false 0) p (subst (λ i. T (below s m false i)) z b)
nothing_below false true m n z p b = absurd b
nothing_below true true m n z p b =
    T_not (ltb 0 (m + 0)) p (lt→ltb 0 (m + 0) (let l = ltb→lt n m b in let r : 0 < m + 0 = omega arith in r))

zero_below : (s : Bool) (m n : ℕ) → m ≡ 0 → 0 < n → T (below s m false n)
zero_below false m n z h = lt→ltb m n (let r : m < n = omega arith in r)
zero_below true m n z h = lt→ltb 0 (m + n) (let r : 0 < m + n = omega arith in r)

module _ {k : ℕ} {x x' y y' : Float} (X : Argument k x x') (Y : Argument k y y') where
  -- what something is below is no zero
  larger_some : T (lt x y) → T (not (eq y zero))
  larger_some h =
      not_T (eq y zero)
      (λ z.
      nothing_below X.two.s Y.two.s X.two.m Y.two.m (no_units_of Y.two.first z)
      (subst (λ b. T (not b)) (lt_units X.two.first (zero_is binary64)) X.plus)
      (subst T (lt_units X.two.first Y.two.first) h))

  -- what is not below one that is no zero is none
  rest_some : T (not (lt x y)) → T (not (eq y zero)) → T (not (eq x zero))
  rest_some h n =
      not_T (eq x zero)
      (λ z.
      T_not (lt x y) h
      (subst T (sym (lt_units X.two.first Y.two.first
      ∙ ap (λ t. below X.two.s X.two.m t Y.two.m) (plus Y.two Y.plus n)))
      (zero_below X.two.s X.two.m Y.two.m (no_units_of X.two.first z)
      (some Y.two.m (no_units Y.two n).0))))
    where
      some : (m : ℕ) → (m ≡ 0 → ⊥) → 0 < m
      some m h = omega arith

-- ---- the three, and what each step adds
record Three (k : ℕ) (t t' : Triple) : Type 0 where
  x : Argument k t.x t'.x
  y : Argument k t.y t'.y
  z : Argument k t.z t'.z

abbrev Some : Float → Type 0
Some x = T (not (eq x zero))

record First (k : ℕ) (t t' : Triple) : Type 0 where
  three : Three k t t'
  xy : Some t.y → Some t.x

record Second (k : ℕ) (t t' : Triple) : Type 0 where
  three : Three k t t'
  xy : Some t.y → Some t.x
  xz : Some t.z → Some t.x

pub record Sorted (k : ℕ) (t t' : Triple) : Type 0 where
  pub x : Argument k t.x t'.x
  pub y : Argument k t.y t'.y
  pub z : Argument k t.z t'.z
  pub zy : Some t.y → Some t.z
  pub xz : Some t.z → Some t.x

first : {k : ℕ} (t t' : Triple) → Three k t t' → First k (fall_xy t) (fall_xy t')
unfolding fall_xy
first {k} t t' a =
    choose (First k) (lt t.x t.y) (lt t'.x t'.y) (lt_two a.x.two a.y.two tt)
    (λ h. record { three = record { x = a.y; y = a.x; z = a.z }; xy = λ n. larger_some a.x a.y h })
    (λ h. record { three = a; xy = rest_some a.x a.y h })

second : {k : ℕ} (t t' : Triple) → First k t t' → Second k (fall_xz t) (fall_xz t')
unfolding fall_xz
second {k} t t' f =
    let a = f.three in
    choose (Second k) (lt t.x t.z) (lt t'.x t'.z) (lt_two a.x.two a.z.two tt)
    (λ h. record {
      three = record { x = a.z; y = a.y; z = a.x };
      xy = λ n. larger_some a.x a.z h;
      xz =
          λ n. larger_some a.x a.z h;
    })
    (λ h. record { three = a; xy = f.xy; xz = rest_some a.x a.z h })

third : {k : ℕ} (t t' : Triple) → Second k t t' → Sorted k (rise_yz t) (rise_yz t')
unfolding rise_yz
third {k} t t' f =
    let a = f.three in
    choose (Sorted k) (lt t.z t.y) (lt t'.z t'.y) (lt_two a.z.two a.y.two tt)
    (λ h. record { x = a.x; y = a.z; z = a.y; zy = λ n. larger_some a.z a.y h; xz = f.xy })
    (λ h. record { x = a.x; y = a.y; z = a.z; zy = rest_some a.z a.y h; xz = f.xz })

pub sorted_two : {k : ℕ} (t t' : Triple) → Argument k t.x t'.x → Argument k t.y t'.y → Argument k t.z t'.z
    → Sorted k (largest_first t) (largest_first t')
unfolding largest_first
sorted_two t t' x y z = third (fall_xz (fall_xy t)) (fall_xz (fall_xy t'))
    (second (fall_xy t) (fall_xy t') (first t t' (record { x = x; y = y; z = z })))
