-- What stays so in the loop.
use Rattle.std.proofs.Common.{ℕ, zero, suc, ◌+◌, ◌/◌, ◌%◌, ◌≡◌, List, length, set}
use Rattle.digits.specs.Digits.{glyph_of}
use Rattle.writing.proofs.numbers.spell.Given as goal

-- the stores of the loop, the last digit first
unfoldable pub spelled : ℕ → ℕ → ℕ → List ℕ → ℕ → List ℕ
spelled base zero n o at = o
spelled base (suc k) n o at = spelled base k (n / base) (set o (at + k) (glyph_of (n % base))) at

abbrev pub invariant-loop-i : goal.invariant-loop-i
invariant-loop-i l =
    (length l.out ≡ length l.initial.out) × (spelled l.base l.i l.rest l.out l.at ≡ spelled l.base l.k l.n l.initial.out l.at)
