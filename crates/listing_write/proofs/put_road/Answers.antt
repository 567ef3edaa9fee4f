-- `put_road` meets its contract: the word of its case, for which there is room. Assumes nothing.
use native.Mathlib.Omega.{arith}
use borrow.Author.Rules.{rules}
use Rattle.listing_write.specs.Text.{road_text}
use Rattle.writing.specs.Written.{tried_put, put_length}
use Rattle.listing_write.proofs.put_road.Goals as goal

pub returns-in-Closed : goal.returns-in-Closed
unfolding road_text
returns-in-Closed c =
    rw c.in-Closed.is
    (tried_put (omega arith) c.put_text.ensures)

pub returns-in-Infinite : goal.returns-in-Infinite
unfolding road_text
returns-in-Infinite c =
    rw c.in-Infinite.is
    (tried_put (omega arith) c.put_text-in-Infinite.ensures)

pub returns-in-Agm : goal.returns-in-Agm
unfolding road_text
returns-in-Agm c =
    rw c.in-Agm.is
    (tried_put (omega arith) c.put_text-in-Agm.ensures)

pub returns-in-Duplication : goal.returns-in-Duplication
unfolding road_text
returns-in-Duplication c =
    rw c.in-Duplication.is
    (tried_put (omega arith) c.put_text-in-Duplication.ensures)

pub returns-in-Joint : goal.returns-in-Joint
unfolding road_text
returns-in-Joint c =
    rw c.in-Joint.is
    (tried_put (omega arith) c.put_text-in-Joint.ensures)

pub returns-in-Taylor : goal.returns-in-Taylor
unfolding road_text
returns-in-Taylor c =
    rw c.in-Taylor.is
    (tried_put (omega arith) c.put_text-in-Taylor.ensures)

pub returns-in-Reduction : goal.returns-in-Reduction
unfolding road_text
returns-in-Reduction c =
    rw c.in-Reduction.is
    (tried_put (omega arith) c.put_text-in-Reduction.ensures)

pub returns-in-Loop : goal.returns-in-Loop
unfolding road_text
returns-in-Loop c =
    rw c.in-Loop.is
    (tried_put (omega arith) c.put_text-in-Loop.ensures)
