-- The lines counted, and those in what is left, are all that end in the first `end` bytes.
use Rattle.std.proofs.Common.{◌≡◌, ◌+◌, take}
use Rattle.pace.specs.Numbers.{newlines}
use Rattle.pace.proofs.ends.lines_in.Given as goal

abbrev pub invariant-loop-part : goal.invariant-loop-part
invariant-loop-part l = record {
  size : l.part-iterator.size ≡ 224;
  all : l.lines + newlines l.part-iterator.rest.now ≡ newlines (take l.end l.block);
}
