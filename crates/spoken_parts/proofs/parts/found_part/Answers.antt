-- `found_part` meets its contract, part by part. Assumes nothing.
use borrow.Author.Tests.{ne_eqb}
use Rattle.spoken_parts.specs.Parts.{found_part}
use Rattle.spoken_parts.proofs.parts.found_part.Goals as goal

pub returns-in-0 : goal.returns-in-0
unfolding found_part
returns-in-0 c =
    rw c.in-0.is

pub returns-in-1 : goal.returns-in-1
unfolding found_part
returns-in-1 c =
    rw c.in-1.is c.told.ensures

pub returns-in-2 : goal.returns-in-2
unfolding found_part
returns-in-2 c =
    rw c.in-2.is c.number.ensures

pub returns-in-3 : goal.returns-in-3
unfolding found_part
returns-in-3 c =
    rw c.in-3.is c.told-in-3.ensures

pub returns-in-4 : goal.returns-in-4
unfolding found_part
returns-in-4 c =
    rw c.in-4.is c.road_words.ensures

pub returns-in-5 : goal.returns-in-5
unfolding found_part
returns-in-5 c =
    rw c.in-5.is c.rescaled_words.ensures

pub returns-in-6 : goal.returns-in-6
unfolding found_part
returns-in-6 c =
    rw c.in-6.is c.rescaled_count.ensures

pub returns-in-7 : goal.returns-in-7
unfolding found_part
returns-in-7 c =
    rw c.in-7.is c.told-in-7.ensures

pub returns-in-8 : goal.returns-in-8
unfolding found_part
returns-in-8 c =
    rw c.in-8.is c.if_hex.ensures

pub returns-in_default : goal.returns-in_default
unfolding found_part
returns-in_default c =
    let r = c.in_default.in_default-own.rest in
    rw (
      ne_eqb _ _ r.0.0.0.0.0.0.0.0.1,
      ne_eqb _ _ r.0.0.0.0.0.0.0.1,
      ne_eqb _ _ r.0.0.0.0.0.0.1,
      ne_eqb _ _ r.0.0.0.0.0.1,
      ne_eqb _ _ r.0.0.0.0.1,
      ne_eqb _ _ r.0.0.0.1,
      ne_eqb _ _ r.0.0.1,
      ne_eqb _ _ r.0.1,
      ne_eqb _ _ r.1,
    ) c.bits.ensures
