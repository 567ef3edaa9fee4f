-- `plain_shape` meets its contract. Assumes nothing.
use Prim.Native.Nat.{ℕ, ◌^◌, ◌<◌}
use mathlib.Core.Path.{◌≡◌, sym, ap, ◌∙◌, subst}
use mathlib.Core.Bool.{true}
use native.Mathlib.Omega.{arith}
use lib.Dec.{T}
use lib.Ieee.{Float, binary64, fits, lt, of_bits}
use Rattle.rounding.specs.Cut.{infinity}
use Rattle.binary64.specs.Tests.{zero_above}
use Rattle.decimal_short.specs.Shortest.{place_of, shortest}
use Rattle.decimal_short.specs.Above.{above_told}
use Rattle.decimal_short.proofs.Fewest.{seventeen_digits}
use Rattle.decimal_short.proofs.Range.{place_most}
use Rattle.decimal_write.specs.declared.short.Short.{Short}
use Rattle.decimal_write.specs.Short.{short_of}
use Rattle.decimal_text.specs.declared.shape.Shape.{Shape}
use Rattle.decimal_text.specs.Shape.{whole_shape, shape_of}
use Rattle.decimal_text.specs.Plain.{plain_shape}
use Rattle.decimal_text.proofs.text.plain_shape.Goals as goal

module _ (x : Float) (s : Short) (is : s ≡ short_of x) (h : lt zero_above x ≡ true)
    (k : lt x (of_bits binary64 infinity) ≡ true) where
  digits_are : s.d ≡ shortest x
  unfolding short_of
  digits_are = ap (λ (r : Short). r.d) is ∙ rw (h, k)

  place_is : s.t ≡ place_of x
  unfolding short_of
  place_is = ap (λ (r : Short). r.t) is ∙ rw (h, k)

  bounded : T (fits binary64 x) → (s.d < 10 ^ 17) × (s.t < 2000)
  bounded f =
      let A = above_told x f h k in (
        subst (λ (d : ℕ). d < 10 ^ 17) (sym digits_are) (seventeen_digits A),
        omega (arith, place_is, place_most A),
      )

  shaped : (r : Shape) → r ≡ shape_of s.d s.t → r ≡ plain_shape x
  unfolding plain_shape
  shaped r e = rw h (e ∙ rw (digits_are, place_is))

pub laid_out-requires : goal.laid_out-requires
laid_out-requires c =
    bounded c.args.x _ c.shortest-short.ensures c.if-x.true c.requires (subst T (sym c.well_formed.0.1) tt)

pub returns-then-x : goal.returns-then-x
returns-then-x c =
    shaped c.args.x _ c.shortest-short.ensures c.if-x.true c.requires _ c.laid_out.ensures

pub returns : goal.returns
unfolding plain_shape whole_shape
returns c =
    rw c.if-x.false
