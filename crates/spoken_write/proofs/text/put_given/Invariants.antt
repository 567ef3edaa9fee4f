-- What stays so in the loop.
use Rattle.std.proofs.Common.{◌+◌, ◌≡◌, length, take}
use Rattle.writing.specs.Written.{Put}
use Rattle.spoken_parts.specs.Texts.{shown_bytes}
use Rattle.spoken_write.proofs.text.put_given.Given as goal

abbrev pub invariant-loop-i : goal.invariant-loop-i
invariant-loop-i l =
    (length l.out ≡ length l.initial.out) × Put l.initial.out l.at (shown_bytes (take l.i l.line)) l.out (l.at + l.i)
