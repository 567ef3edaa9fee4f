-- What a block is of, for a list of answers: counts, a maximum and a sum over that list (document 02, 2026-05). Definitions only.
use Rattle.std.specs.Prelude.{ℕ, zero, suc, ◌+◌, ◌%◌, ◌^◌, cond, List, [], ◌∷◌, ◌++◌, ◌==◌, nat_le}
use Rattle.limbs.specs.Value.{limbs_of}
use Rattle.exact.specs.Exact.{held_sum, finite_pattern, sum_words}
use Rattle.tally.specs.Tally.{last_number, rounds_place, sum_place, larger}
use Rattle.tally.specs.declared.counted.Counted.{Counted}

-- ---- "for each function, the calls, each refusal number's tally, rounds in all, the most rounds in one call, and the exact sum
-- of the values"
unfoldable pub calls_of : List Counted → ℕ
calls_of [] = 0
calls_of (c ∷ cs) = 1 + calls_of cs

unfoldable pub refused_of : ℕ → List Counted → ℕ
refused_of n [] = 0
refused_of n (c ∷ cs) = cond (c.refused == n) 1 0 + refused_of n cs

unfoldable pub rounds_of : List Counted → ℕ
rounds_of [] = 0
rounds_of (c ∷ cs) = c.rounds + rounds_of cs

unfoldable pub most_of : List Counted → ℕ
most_of [] = 0
most_of (c ∷ cs) = larger (most_of cs) c.rounds

-- the bits of the values: a refusal has none
unfoldable pub values_of : List Counted → List ℕ
values_of [] = []
values_of (c ∷ cs) = cond (finite_pattern c.bits) (c.bits ∷ values_of cs) (values_of cs)

-- ---- its words: each of them modulo 2 ^ 64, which never acts where there are fewer than 2 ^ 32 answers (MeaningLaws, `plain`)
unfoldable pub word_of : ℕ → List Counted → ℕ
word_of i cs =
    cond (i == 0) (calls_of cs % 2 ^ 64)
    (cond (nat_le i last_number) (refused_of i cs % 2 ^ 64)
    (cond (i == rounds_place) (rounds_of cs % 2 ^ 64) (most_of cs)))

-- so many of them from a place on
unfoldable pub words_from : ℕ → ℕ → List Counted → List ℕ
words_from i zero cs = []
words_from i (suc left) cs = word_of i cs ∷ words_from (suc i) left cs

unfoldable pub block_of : List Counted → List ℕ
block_of cs = words_from 0 sum_place cs ++ limbs_of sum_words (held_sum (values_of cs))
