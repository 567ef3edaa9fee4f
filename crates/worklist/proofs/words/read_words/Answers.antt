-- `read_words` meets its contract: it hands out what `read_job` answers. Assumes nothing.
use Rattle.std.proofs.Common.{sym, ap, ◌∙◌}
use Rattle.std.specs.Prelude.{Option, Ok}
use Rattle.packed.specs.declared.read.Got.{Got}
use Rattle.worklist.specs.Words.{words_of, read_number, read_place, read_words}
use Rattle.worklist.proofs.words.read_words.Goals as goal

pub returns-in-Ok-Some : goal.returns-in-Ok-Some
unfolding read_number read_place read_words words_of
returns-in-Ok-Some c =
    let e = sym c.in-Ok-Some.ensures ∙ ap (λ (o : Option Got). Ok o) c.in-Ok-Some.field-0-is in
    record { number_is = rw e; place_is = rw e; words_are = rw e }

pub returns-in-Ok-None : goal.returns-in-Ok-None
unfolding read_number read_place read_words
returns-in-Ok-None c =
    let e = sym c.in-Ok-None.ensures ∙ ap (λ (o : Option Got). Ok o) c.in-Ok-None.field-0-is in
    record { number_is = rw e; place_is = rw e; words_are = rw e }

pub returns-in-Err : goal.returns-in-Err
unfolding read_number read_place read_words
returns-in-Err c =
    let e = sym c.in-Err.ensures in record { number_is = rw e c.number.ensures; place_is = rw e; words_are = rw e }
