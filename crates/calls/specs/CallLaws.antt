-- How long a name is. Assumes nothing.
use Rattle.std.specs.Prelude.{◌≤◌, length}
use Rattle.std.proofs.Common.{arith}
use Rattle.calls.specs.Calls.{name_of, longest_name}
use Rattle.calls.specs.declared.Call.{Call}
use Rattle.calls.specs.declared.Call.TheVariants.{Rc, Rf, Rd, Rg, Rj, Cel}

pub name_length : (c : Call) → length (name_of c) ≤ longest_name
unfolding name_of
name_length (Rc x y) = omega arith
name_length (Rf x y z) = omega arith
name_length (Rd x y z) = omega arith
name_length (Rg x y z) = omega arith
name_length (Rj x y z p) = omega arith
name_length (Cel kc p a b) = omega arith
