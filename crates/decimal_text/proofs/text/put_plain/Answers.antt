-- `put_plain` meets its contract. Assumes nothing.
use Prim.Native.Nat.{ℕ, ◌+◌, ◌≤◌, ◌<◌}
use mathlib.Core.Path.{◌≡◌, sym, ap, subst}
use mathlib.Core.Bool.{true, false}
use mathlib.Core.List.{[], ◌∷◌}
use native.Mathlib.Omega.{arith}
use borrow.Author.Rules.{rules}
use lib.Dec.{T}
use lib.ListN.{length}
use lib.Ieee.{Float, binary64, fits, lt, ne, of_bits}
use Rattle.rounding.specs.Cut.{infinity}
use Rattle.binary64.specs.Tests.{bits_number}
use Rattle.writing.specs.Written.{tried_put, put_length}
use Rattle.decimal_text.specs.declared.shape.Shape.{Shape}
use Rattle.decimal_text.specs.Shape.{shape_text}
use Rattle.decimal_text.specs.Plain.{plain_shape, plain_text, plain_length, plain_power}
use Rattle.decimal_text.proofs.Parts.{put_as}
use Rattle.decimal_text.proofs.text.put_plain.Goals as goal

module _ (x : Float) where
  finite_is : (s : Shape) → s ≡ plain_shape x → lt x (of_bits binary64 infinity) ≡ true → shape_text s ≡ plain_text x
  unfolding plain_text
  finite_is s e h = rw h (ap shape_text e)

  nan_is : lt x (of_bits binary64 infinity) ≡ false → ne x x ≡ true → 110 ∷ 97 ∷ 110 ∷ [] ≡ plain_text x
  unfolding plain_text
  nan_is h n = rw (h, n)

  infinite-is : lt x (of_bits binary64 infinity) ≡ false → ne x x ≡ false → 105 ∷ 110 ∷ 102 ∷ [] ≡ plain_text x
  unfolding plain_text
  infinite-is h n = rw (h, n)

  fitting : (s : Shape) (at : ℕ) {l : ℕ} → s ≡ plain_shape x → T (fits binary64 x) → lt x (of_bits binary64 infinity) ≡ true
      → at + 23 ≤ l → (s.power < 1000) × (at + length (shape_text s) ≤ l)
  fitting s at {l} e f h r =
      subst (λ (s : Shape). (s.power < 1000) × (at + length (shape_text s) ≤ l)) (sym e)
      (plain_power x f h, omega (arith, plain_length x f h))

pub float_from_bits-t-4 : goal.float_from_bits-t-4
float_from_bits-t-4 c =
    bits_number infinity (omega arith)

pub put_shape-requires : goal.put_shape-requires
put_shape-requires c =
    fitting c.args.x _ _ c.plain_shape.ensures (subst T (sym c.well_formed.0.1) tt) c.if-x.true c.requires

pub returns-then-x : goal.returns-then-x
returns-then-x c =
    put_as (finite_is c.args.x _ c.plain_shape.ensures c.if-x.true) c.put_shape.ensures

pub returns-then-x-2 : goal.returns-then-x-2
returns-then-x-2 c =
    put_as (nan_is c.args.x c.if-x.false c.if-x-2.true) (tried_put (omega arith) c.put_text.ensures)

pub returns : goal.returns
returns c =
    put_as (infinite-is c.args.x c.if-x.false c.if-x-2.false)
    (tried_put (omega arith) c.put_text-2.ensures)
