-- A float's units are its own.
use Rattle.std.specs.Prelude.{◌≡◌, ℕ, Bool, Float}
use Rattle.std.proofs.Common.{sym, ◌∙◌}
use Rattle.std.proofs.Math.Nat.{eq_of_mul-eq-mul_right}
use Rattle.std.specs.Float.{Format}
use Rattle.std.specs.Float.Ieee.Positive.{den, den_pos}
use Rattle.scaling.specs.Units.{Is}
use Rattle.scaling.proofs.Plain.{cross}

pub same_units : {f : Format} {x : Float} {s t : Bool} {m n : ℕ} → Is f x s m → Is f x t n → m ≡ n
same_units {x = x} {m = m} {n = n} a b = eq_of_mul-eq-mul_right (den x) (den_pos x) m n (sym (cross a).0 ∙ (cross b).0)
