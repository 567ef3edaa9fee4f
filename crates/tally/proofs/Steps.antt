-- From what each function leaves to its definition. Assumes nothing.
use Rattle.std.proofs.Common.{inl, inr, max, ◌≡◌, ℕ, zero, suc, ◌+◌, ◌-◌, ◌%◌, ◌^◌, ◌<◌, ◌≤◌, List, ◌++◌, length, get_or, take, drop, set, refl, ap, ◌∙◌, append-nil, add-one, arith, length-drop, length-set, drop_of_length-le, take_all, le-ltb, lt-ltb, eq-eqb, ne_eqb, le-leb}
use Rattle.std.proofs.lemmas.Bool.{cases_lt}
use borrow.Rule.Slice.PartMut.{mid_of, put_mid}
use borrow.Author.Tests.{lt-leb}
use lib.Seq.{set-get_or}
use Rattle.exact.specs.Exact.{value_added, sums_joined}
use Rattle.tally.specs.Tally.{tallied, grown, raised, summed, sums_of, block_added, block_joined, word_joined, slots_joined}
use Rattle.tally.specs.declared.counted.Counted.{Counted}

-- ---- a tally
pub tally_none : (ws : List ℕ) (n : ℕ) → n < 1 → ws ≡ tallied ws n
unfolding tallied
tally_none ws n h = rw (lt-leb 1 n h)

pub tally_past : (ws : List ℕ) (n : ℕ) → 1 ≤ n → 27 < n → ws ≡ tallied ws n
unfolding tallied
tally_past ws n h k = rw (le-leb 1 n h, lt-leb n 27 k)

pub tally_one : (ws : List ℕ) (n : ℕ) → 1 ≤ n → n ≤ 27 → grown ws n 1 ≡ tallied ws n
unfolding tallied
tally_one ws n h k = rw (le-leb 1 n h, le-leb n 27 k)

-- ---- the most
pub raise_there : (ws : List ℕ) (n : ℕ) → get_or ws 29 0 < n → set ws 29 n ≡ raised ws n
unfolding raised
raise_there ws n h = rw (lt-ltb (get_or ws 29 0) n h)

pub raise_not : (ws : List ℕ) (n : ℕ) → n ≤ get_or ws 29 0 → ws ≡ raised ws n
unfolding raised
raise_not ws n h = rw (le-ltb (get_or ws 29 0) n h, set-get_or ws 29 0)

-- ---- the part that holds the sum is all that is left of a block
mid_all : (ws : List ℕ) → mid_of 30 (length ws - 30) ws ≡ drop 30 ws
mid_all ws = take_all (length ws - 30) (drop 30 ws) (rw length-drop (omega arith))

put_all : (ws ys : List ℕ) → 30 ≤ length ws → put_mid 30 (length ws - 30) ws ys ≡ take 30 ws ++ ys
put_all ws ys h = rw (drop_of_length-le (drop 30 ws) {i = length ws - 30} (rw length-drop (omega arith)), append-nil)

pub sum_there : (ws ys : List ℕ) (b : ℕ) → length ws ≡ 64 → ys ≡ value_added (mid_of 30 (length ws - 30) ws) b
    → put_mid 30 (length ws - 30) ws ys ≡ summed ws b
unfolding summed
sum_there ws ys b h e =
    put_all ws ys (omega arith) ∙ ap (λ (z : List ℕ). take 30 ws ++ z)
    (e ∙ ap (λ (z : List ℕ). value_added z b) (mid_all ws))

pub sums_there : (ws os ys : List ℕ) → length ws ≡ 64
    → ys ≡ sums_joined (mid_of 30 (length ws - 30) ws) (mid_of 30 (length os - 30) os)
    → put_mid 30 (length ws - 30) ws ys ≡ sums_of ws os
unfolding sums_of
sums_there ws os ys h e =
    put_all ws ys (omega arith) ∙ ap (λ (z : List ℕ). take 30 ws ++ z) (e ∙ rw (mid_all ws, mid_all os))

-- ---- a block of another length
pub added_not : (ws : List ℕ) (c : Counted) → (length ws ≡ 64 → ⊥) → ws ≡ block_added ws c
unfolding block_added
added_not ws c h = rw (ne_eqb (length ws) 64 h)

pub joined_not : (ws os : List ℕ) → (length ws ≡ 64 → ⊥) → ws ≡ block_joined ws os
unfolding block_joined
joined_not ws os h = rw (ne_eqb (length ws) 64 h)

pub joined_nor : (ws os : List ℕ) → length ws ≡ 64 → (length os ≡ 64 → ⊥) → ws ≡ block_joined ws os
unfolding block_joined
joined_nor ws os h k = rw (eq-eqb (length ws) 64 h, ne_eqb (length os) 64 k)

pub joined_there : (ws os : List ℕ) → length ws ≡ 64 → length os ≡ 64 → sums_of (slots_joined 0 30 ws os) os ≡ block_joined ws os
unfolding block_joined
joined_there ws os h k = rw (eq-eqb (length ws) 64 h, eq-eqb (length os) 64 k)

pub added_there : (ws : List ℕ) (c : Counted) → length ws ≡ 64
    → summed (raised (grown (tallied (grown ws 0 1) c.refused) 28 c.rounds) c.rounds) c.bits ≡ block_added ws c
unfolding block_added
added_there ws c h = rw (eq-eqb (length ws) 64 h)

-- ---- one word more is joined
pub joined_on : (i : ℕ) (ws os : List ℕ) (r : ℕ) → i < 30 → r ≡ word_joined i (get_or ws i 0) (get_or os i 0)
    → slots_joined (i + 1) (30 - (i + 1)) (set ws i r) os ≡ slots_joined i (30 - i) ws os
unfolding slots_joined
joined_on i ws os r h e = let f : 30 - i ≡ suc (30 - (i + 1)) = omega arith in rw (f, e, add-one)

pub joined_all : (i : ℕ) (ws os : List ℕ) → i ≤ 30 → 30 ≤ i → slots_joined i (30 - i) ws os ≡ ws
unfolding slots_joined
joined_all i ws os h k = let f : 30 - i ≡ 0 = omega arith in rw f

pub slots_length : (left i : ℕ) (ws os : List ℕ) → length (slots_joined i left ws os) ≡ length ws
unfolding slots_joined
slots_length zero i ws os = refl
slots_length (suc left) i ws os = slots_length left (suc i) (set ws i (word_joined i (get_or ws i 0) (get_or os i 0))) os
    ∙ simp length-set

-- ---- the word of both
most_second : (i v w : ℕ) → i ≡ 29 → v < w → w ≡ word_joined i v w
unfolding word_joined
most_second i v w h k = rw (eq-eqb i 29 h, lt-ltb v w k)

most_first : (i v w : ℕ) → i ≡ 29 → w ≤ v → v ≡ word_joined i v w
unfolding word_joined
most_first i v w h k = rw (eq-eqb i 29 h, le-ltb v w k)

pub most_joined : (i v w : ℕ) → i ≡ 29 → max v w ≡ word_joined i v w
most_joined i v w h = elim (cases_lt v w) [
  | inl k ↦ let e : max v w ≡ w = omega arith in e ∙ most_second i v w h k
  | inr k ↦ let e : max v w ≡ v = omega arith in e ∙ most_first i v w h k
]

pub both_words : (i v w : ℕ) → (i ≡ 29 → ⊥) → (v + w) % 2 ^ 64 ≡ word_joined i v w
unfolding word_joined
both_words i v w h = rw (ne_eqb i 29 h)
