-- What was found, put together of its fields, is what was found. Assumes nothing.
use Rattle.std.specs.Prelude.{◌≡◌, refl}
use Rattle.carlson.specs.Answer.{handed_at}
use Rattle.carlson.specs.declared.answer.Found.{Found}

pub handed_itself : (f : Found) → handed_at f f.value ≡ f
unfolding handed_at
handed_itself f = refl
