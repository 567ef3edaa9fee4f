-- What the bench profile answers to a call (document 02, 2026-14): its entry's answer. Definitions only.
use Rattle.carlson.specs.Answer.{Answer}
use Rattle.cel.specs.Cel.{cel}
use Rattle.calls.specs.declared.Call.{Call}
use Rattle.calls.specs.declared.Call.TheVariants.{Rc, Rf, Rd, Rg, Rj, Cel}
use Rattle.answers.specs.Answers.{number}
use Rattle.profile.specs.Profile.{profile_rc, profile_rf, profile_rd, profile_rg, profile_rj}

-- "a set of entries beside the old ones": the profile's entry of the call's name, at the f64s of its patterns
unfoldable pub profile_of : Call → Answer
profile_of (Rc x y) = profile_rc (number x) (number y)
profile_of (Rf x y z) = profile_rf (number x) (number y) (number z)
profile_of (Rd x y z) = profile_rd (number x) (number y) (number z)
profile_of (Rg x y z) = profile_rg (number x) (number y) (number z)
profile_of (Rj x y z p) = profile_rj (number x) (number y) (number z) (number p)
-- cel is no call of the profile, and nothing asks it here (the program answers `bad line`): as the base has it
profile_of (Cel kc p a b) = cel (number kc) (number p) (number a) (number b)
