-- What stays so in the loop: the first i pieces were written.
use Rattle.writing.specs.Written.{Put}
use Rattle.phrases.specs.Pieces.{up_to}
use Rattle.bench_write.specs.Pieces.{piece_of}
use Rattle.bench_write.proofs.write.put_pieces.Given as goal

abbrev pub invariant-loop-i : goal.invariant-loop-i
invariant-loop-i l =
    Put l.initial.out l.at (up_to (piece_of l.said) l.i) l.out l.next
