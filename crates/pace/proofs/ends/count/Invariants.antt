-- What was counted and what is left to count are all, and no more than the bytes.
use Rattle.std.proofs.Common.{◌≡◌, ◌+◌, ◌≤◌, drop}
use Rattle.pace.specs.Numbers.{newlines}
use Rattle.pace.proofs.ends.count.Given as goal

abbrev pub invariant-loop-byte : goal.invariant-loop-byte
invariant-loop-byte l = record {
  few : l.lines ≤ l.byte-index;
  all : l.lines + newlines (drop l.byte-index l.part) ≡ newlines l.part;
}
