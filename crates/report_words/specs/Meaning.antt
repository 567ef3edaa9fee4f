-- The report of a list of answers, each with its function's number (document 02, 2026-05). Definitions only.
use Rattle.std.specs.Prelude.{ℕ, zero, suc, cond, List, [], ◌∷◌, ◌++◌, eqb}
use Rattle.tally.specs.Meaning.{block_of}
use Rattle.tally.specs.declared.counted.Counted.{Counted}
use Rattle.report_words.specs.Words.{functions, counted_added}

-- what an answer counts, and of which function it is
abbrev pub Entry : Type 0
Entry = ℕ × Counted

-- those of one function
unfoldable pub counts_of : ℕ → List Entry → List Counted
counts_of f [] = []
counts_of f (e ∷ es) = cond (eqb e.0 f) (e.1 ∷ counts_of f es) (counts_of f es)

-- "A report gives, for each function,": so many blocks from one on
unfoldable pub blocks_from : ℕ → ℕ → List Entry → List ℕ
blocks_from k zero es = []
blocks_from k (suc left) es = block_of (counts_of (suc k) es) ++ blocks_from (suc k) left es

unfoldable pub report_of : List Entry → List ℕ
report_of es = blocks_from 0 functions es

-- answers added one after the other
unfoldable pub entries_added : List ℕ → List Entry → List ℕ
entries_added ws [] = ws
entries_added ws (e ∷ es) = entries_added (counted_added ws e.0 e.1) es
