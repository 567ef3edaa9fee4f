-- The difference of two floats above zero that a test has shown unequal: it is not zero, whichever is the larger.
use Rattle.std.specs.Prelude.{◌≡◌, ◌⊎◌, ℕ, ◌-◌, ◌≤◌, ◌<◌, Bool, true, false, not, ◌||◌, cond, T, ltb, eqb, Float}
use Rattle.std.proofs.Common.{sym, ◌∙◌, subst, subst₂, inl, inr, lt_irrefl, arith, T_not, ltb→lt, nltb→le}
use Rattle.std.specs.Float.{Format}
use Rattle.std.specs.Float.Ieee.{sub, eq, level}
use Rattle.std.specs.Float.Ieee.Fits.{and_i, eq→eqb}
use Rattle.algebra.specs.Order.{lt_or_le}
use Rattle.scaling.specs.Near.{near}
use Rattle.scaling.specs.Cross.{add_n}
use Rattle.scaling.specs.Units.{eq_units}
use Rattle.scaling.specs.Kind.{Kind, In, level?, sum_k, sum_ok, neg_k}
use Rattle.scaling.specs.Two.{Two}

unfoldable pub distinct_k : Format → Kind → Kind → Kind
unfolding sum_k
distinct_k f A B = let K = sum_k f A
    (neg_k B) in record { any = true; zer = false; lo = K.lo; hi = K.hi; g = K.g; u = K.u; d = K.d }
