-- `before_end` meets its contract, case by case. Assumes nothing.
use Rattle.spoken_parts.specs.Parts.{before_end}
use Rattle.spoken_parts.proofs.parts.before_end.Goals as goal

pub returns-in-Nothing : goal.returns-in-Nothing
unfolding before_end
returns-in-Nothing c =
    rw c.in-Nothing.is c.nothing.ensures

pub returns-in-Heading : goal.returns-in-Heading
unfolding before_end
returns-in-Heading c =
    rw c.in-Heading.is c.heading_part.ensures

pub returns-in-Value : goal.returns-in-Value
unfolding before_end
returns-in-Value c =
    rw c.in-Value.is c.found_part.ensures

pub returns-in-Leaf : goal.returns-in-Leaf
unfolding before_end
returns-in-Leaf c =
    rw c.in-Leaf.is c.leaf_part.ensures

pub returns-in-Refused : goal.returns-in-Refused
unfolding before_end
returns-in-Refused c =
    rw c.in-Refused.is c.refused_part.ensures

pub returns-in-Bad : goal.returns-in-Bad
unfolding before_end
returns-in-Bad c =
    rw c.in-Bad.is c.bad_part.ensures
