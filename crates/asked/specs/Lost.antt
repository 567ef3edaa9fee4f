-- What is no finite number stays none through the steps that lead to a logarithm's argument, and there both logarithms may be
-- asked. Assumes nothing.
use Rattle.std.specs.Prelude.{◌≡◌, Bool, true, false, cond, ℕ, zero, suc, ◌*◌, ◌^◌, ◌<◌, eqb, ℤ, Float}
use Rattle.std.proofs.Math.Path.{refl}
use Rattle.std.proofs.Common.{sym, ap, ◌∙◌, subst, true≢false, lt_irrefl, mul-pos, zero-mul, zero-lt-suc, pow_pos}
use Rattle.std.specs.Bool.{beq}
use Rattle.std.specs.Float.{nan, inf, fin, binary64}
use Rattle.std.specs.Float.Ieee.{low, up, down, unlike, neg, add, sub, div}
use Rattle.std.specs.Float.Ieee.Fits.{up_pos}
use Rattle.std.specs.Float.Ieee.Scale.{finite}
use Rattle.binary64.specs.Operators.{◌⊕◌, ◌⊖◌, ◌⊘◌}
use Rattle.root.specs.Root.{root}
use Rattle.scaling.specs.Units.{Is, form}
use Rattle.asked.specs.With.{FromTwo, Within}

abbrev pub Lost : Float → Type 0
Lost x = finite x ≡ false
