-- From the rules back to the claim: what an entry settles of two runs is alike. And both signs of k: the second way round, the
-- runs change places.
use Rattle.std.specs.Prelude.{◌≡◌, refl, ℕ, ◌+◌, ◌-◌, ◌*◌, ◌^◌, Bool, true, false, cond, [], ◌∷◌, Float, Ok, Err}
use Rattle.std.proofs.Common.{sym, ap, ◌∙◌, subst, subst₂, inl, inr, arith, pow-add}
use Rattle.std.specs.Float.{nan, inf, fin, binary64}
use Rattle.std.specs.Float.Ieee.Scale.{finite}
use Rattle.refusals.specs.declared.Refusal.{Refusal}
use Rattle.algebra.specs.Ring.{◌:*◌, ◌≈◌, ◌⊩◌, ◌times◌≼◌}
use Rattle.algebra.proofs.Ring.{ring}
use Rattle.algebra.specs.Order.{lt_or_le}
use Rattle.scaling.specs.Units.{Is}
use Rattle.scaling.specs.Kind.{Kind}
use Rattle.scaling.specs.Two.{Two}
use Rattle.scaling.proofs.Plain.{cross, is_finite, units_times}
use Rattle.carlson.specs.Answer.{settled, settled_late}
use Rattle.carlson.specs.declared.answer.Road.{Road}
use Rattle.carlson.specs.declared.answer.Way.{Way}
use Rattle.carlson.specs.declared.answer.Found.{Found}
use Rattle.carlson.specs.Answer.{Answer}
use Rattle.units.specs.Statement.{Times, TimesFour, Alike, refused, values}
use Rattle.units.specs.Runs.{Same, both, lost}

-- ---- what an entry settles
pub data Pair (k : ℕ) (K : Kind) : Answer → Answer → Type 0 where
  no : {r : Refusal} → Pair k K (Err r) (Err r)
  yes : {v w : Float} {r : Road} {c : Way} → Two binary64 k K v w → Pair k K (Ok (record { value = v; road = r; way = c }))
      (Ok (record { value = w; road = r; way = c }))
