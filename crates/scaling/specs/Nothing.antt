-- A zero of either sign, the same in both runs: a product with it is one, and in a sum it changes nothing.
use Rattle.std.specs.Prelude.{◌≡◌, ℕ, zero, suc, ◌+◌, ◌-◌, ◌*◌, ◌^◌, ◌<◌, Bool, true, false, not, ◌&&◌, cond, T, ltb, ℤ, Float}
use Rattle.std.proofs.Math.Path.{refl}
use Rattle.std.proofs.Common.{sym, ap, ◌∙◌, subst, subst₂, inl, zero-le, zero-add, zero-mul, zero-lt-suc, lt_of_lt_of_le, lt_irrefl, mul-zero, mul-pos, arith, T_not, ltb→lt, lt→ltb, pow_pos}
use Rattle.std.specs.Float.{fin, Format, binary64}
use Rattle.std.specs.Float.Ieee.{low, up, down, unlike, add, mul}
use Rattle.std.specs.Float.Ieee.Fits.{up_pos}
use Rattle.std.specs.Float.Ieee.Scale.{overflow}
use Rattle.scaling.specs.Near.{near, near_zero_lem}
use Rattle.scaling.specs.Cross.{add_n, add_s}
use Rattle.root.specs.Root.{root}
use Rattle.scaling.specs.Units.{Is, form, mul_units, add_units}
use Rattle.scaling.specs.Kind.{Kind, In, floor}
use Rattle.scaling.specs.Two.{Two}

pub record Nothing (f : Format) (x y : Float) : Type 0 where
  pub s : Bool
  pub first : Is f x s 0
  pub second : Is f y s 0

unfoldable pub nothing_two : {f : Format} {k : ℕ} {x y : Float} (K : Kind) (z : Nothing f x y) → z.s ≡ false → T K.zer
    → Two f k K x y
nothing_two {f} {k} K z e t = record {
  s = z.s;
  m = 0;
  n = 0;
  first = z.first;
  second = z.second;
  in_first = record { sign = λ i. e; from = inl (t, refl); to = zero-le };
  in_second = record { sign = λ i. e; from = inl (t, refl); to = zero-le };
  grain = record { c = 0; is = sym (zero-mul (2 ^ K.g)) };
  grain_second = record { c = 0; is = sym (zero-mul (2 ^ K.g)) };
  tie = zero-mul (2 ^ (k * K.d)) ∙ sym (zero-mul (2 ^ (k * K.u)));
}
