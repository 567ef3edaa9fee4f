-- What stays so in the loop.
use Rattle.std.proofs.Common.{ℕ, zero, suc, ◌+◌, ◌/◌, ◌%◌, ◌≡◌, List, length, set}
use Rattle.phrases.proofs.spell.Given as goal

-- the stores of the loop, the last byte first
unfoldable pub spelled : ℕ → ℕ → List ℕ → ℕ → List ℕ
spelled zero n o at = o
spelled (suc k) n o at = spelled k (n / 256) (set o (at + k) (n % 256)) at

abbrev pub invariant-loop-i : goal.invariant-loop-i
invariant-loop-i l = (length l.out ≡ length l.initial.out) × (spelled l.i l.rest l.out l.at ≡ spelled l.k l.n l.initial.out l.at)
