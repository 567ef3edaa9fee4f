-- The pattern lies below the infinity's.
use Rattle.std.proofs.Common.{arith}
use Rattle.std.proofs.lemmas.Float.{not_nan_f64_bits}
use Rattle.guesses.proofs.chance.draw.Goals as goal

pub float_from_bits-x : goal.float_from_bits-x
float_from_bits-x c = not_nan_f64_bits _ (omega (arith, c.field.ensures))
