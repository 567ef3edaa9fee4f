-- `put_value` meets its contract: an argument is an f64, whose text is short. Assumes nothing.
use mathlib.Core.Path.{sym, subst}
use lib.Dec.{T}
use Rattle.spoken_write.specs.Shown.{text_length}
use Rattle.spoken_write.proofs.text.put_value.Goals as goal

pub returns : goal.returns
returns c =
    record { tried = c.put_number.ensures; x_len_bound = text_length _ (subst T (sym c.well_formed.0.1) tt) }
