-- A block's words are those of the list of answers: one answer more, and two lists joined. Assumes nothing.
use Rattle.std.specs.Prelude.{◌≡◌, ℕ, zero, suc, ◌+◌, ◌-◌, ◌*◌, ◌%◌, ◌^◌, ◌<◌, ◌≤◌, Bool, true, false, cond, List, [], ◌∷◌, ◌++◌, length, drop, ◌==◌, slice_index, refl}
use Rattle.std.proofs.Common.{sym, ap₂, ◌∙◌, add_comm, mod-eq_of_lt, zero-add, add-zero, arith, le-leb, ne_eqb, lt-ltb, le-ltb, length-append}
use Rattle.std.proofs.Math.Path.{ap}
use Rattle.std.proofs.Math.Nat.{mod-add-mod, add-mod-mod}
use Rattle.std.proofs.Math.ListN.{get_or-append}
use Rattle.std.proofs.Math.Seq.{drop_at}
use Rattle.limbs.specs.Value.{limbs_of, length_limbs}
use Rattle.exact.specs.Exact.{held_sum, finite_pattern, value_added, sums_joined}
use Rattle.exact.proofs.ExactLaws.{words_added, words_joined_lem}
use Rattle.tally.specs.Tally.{larger, block_added, word_joined, block_joined}
use Rattle.tally.specs.Meaning.{calls_of, refused_of, rounds_of, most_of, values_of, word_of, words_from, block_of}
use Rattle.tally.specs.WordLaws.{word_after, which, word_after_lem, sum_after, block_length_lem, by_parts}
use Rattle.tally.specs.JoinLaws.{word_joined_lem, sum_joined, joined_length, larger_assoc, larger_comm}
use Rattle.tally.specs.declared.counted.Counted.{Counted}

-- ---- the words
from_length : (left i : ℕ) (cs : List Counted) → length (words_from i left cs) ≡ left
unfolding words_from
from_length zero i cs = refl
from_length (suc left) i cs = ap suc (from_length left (suc i) cs)

from_at : (left i : ℕ) (cs : List Counted) (j : ℕ) → j < left → slice_index (words_from i left cs) j ≡ word_of (i + j) cs
unfolding words_from
from_at zero i cs j h = absurd (omega arith)
from_at (suc left) i cs zero h = ap (λ (k : ℕ). word_of k cs) (sym (add-zero i))
from_at (suc left) i cs (suc j) h =
    let e : suc i + j ≡ i + suc j = omega arith in
    from_at left (suc i) cs j (omega arith) ∙ ap (λ (k : ℕ). word_of k cs) e

module _ (cs : List Counted) where
  pub block_words_lem : length (block_of cs) ≡ 64
  unfolding block_of
  block_words_lem = rw (length-append, from_length 30 0 cs, length_limbs 34 (held_sum (values_of cs)))

  pub block_at : (i : ℕ) → i < 30 → slice_index (block_of cs) i ≡ word_of i cs
  unfolding block_of
  block_at i h =
      get_or-append (words_from 0 30 cs) _ 0 i (omega (arith, from_length 30 0 cs)) ∙ from_at 30 0 cs i h
      ∙ ap (λ (k : ℕ). word_of k cs) (zero-add i)

  pub block_sum : drop 30 (block_of cs) ≡ limbs_of 34 (held_sum (values_of cs))
  unfolding block_of
  block_sum = drop_at (words_from 0 30 cs) _ 30 (from_length 30 0 cs)

-- ---- ONE ANSWER MORE
rest_one : (x a : ℕ) → (x % 2 ^ 64 + a) % 2 ^ 64 ≡ (a + x) % 2 ^ 64
rest_one x a = mod-add-mod x (2 ^ 64) a ∙ ap (λ (z : ℕ). z % 2 ^ 64) (add_comm x a)

one_more : (i : ℕ) → i < 30 → (c : Counted) (cs : List Counted) → word_after i (word_of i cs) c ≡ word_of i (c ∷ cs)
unfolding word_after word_of calls_of refused_of rounds_of most_of
one_more i h c cs =
    which i h (λ (j : ℕ). word_after j (word_of j cs) c ≡ word_of j (c ∷ cs)) (rest_one (calls_of cs) 1)
    (λ j p q. rw (ne_eqb j 0 (λ e. omega arith), le-leb j 27 q) (tally (c.refused == j) (refused_of j cs)))
    (rest_one (rounds_of cs) c.rounds) refl
  where
    tally : (t : Bool) (x : ℕ) → cond t ((x % 2 ^ 64 + 1) % 2 ^ 64) (x % 2 ^ 64) ≡ (cond t 1 0 + x) % 2 ^ 64
    tally true x = rest_one x 1
    tally false x = ap (λ (z : ℕ). z % 2 ^ 64) (sym (zero-add x))

sum_more : (c : Counted) (cs : List Counted)
    → value_added (limbs_of 34 (held_sum (values_of cs))) c.bits ≡ limbs_of 34 (held_sum (values_of (c ∷ cs)))
unfolding values_of
sum_more c cs = go (finite_pattern c.bits) refl
  where
    go : (t : Bool) → finite_pattern c.bits ≡ t
        → value_added (limbs_of 34 (held_sum (values_of cs))) c.bits
        ≡ limbs_of 34 (held_sum (cond t (c.bits ∷ values_of cs) (values_of cs)))
    go true e = words_added (values_of cs) c.bits e
    go false e = unfold value_added in rw (length_limbs 34 (held_sum (values_of cs)), e)

pub block_more : (c : Counted) (cs : List Counted) → block_added (block_of cs) c ≡ block_of (c ∷ cs)
block_more c cs =
    by_parts _ _ (block_length_lem (block_of cs) c (block_words_lem cs)) (block_words_lem (c ∷ cs))
    (λ i h.
    word_after_lem (block_of cs) c (block_words_lem cs) i h ∙ ap (λ (w : ℕ). word_after i w c) (block_at cs i h) ∙ one_more i h c cs
    ∙ sym (block_at (c ∷ cs) i h))
    (sum_after (block_of cs) c (block_words_lem cs) ∙ ap (λ (l : List ℕ). value_added l c.bits) (block_sum cs) ∙ sum_more c cs
    ∙ sym (block_sum (c ∷ cs)))

-- ---- TWO LISTS JOINED
calls_both : (cs ds : List Counted) → calls_of (cs ++ ds) ≡ calls_of cs + calls_of ds
unfolding calls_of
calls_both [] ds = sym (zero-add (calls_of ds))
calls_both (c ∷ cs) ds = let e = calls_both cs ds in omega arith

refused_both : (n : ℕ) (cs ds : List Counted) → refused_of n (cs ++ ds) ≡ refused_of n cs + refused_of n ds
unfolding refused_of
refused_both n [] ds = sym (zero-add (refused_of n ds))
refused_both n (c ∷ cs) ds = let e = refused_both n cs ds in omega arith

rounds_both : (cs ds : List Counted) → rounds_of (cs ++ ds) ≡ rounds_of cs + rounds_of ds
unfolding rounds_of
rounds_both [] ds = sym (zero-add (rounds_of ds))
rounds_both (c ∷ cs) ds = let e = rounds_both cs ds in omega arith

larger_none : (w : ℕ) → larger 0 w ≡ w
larger_none zero = refl
larger_none (suc w) = rw (lt-ltb 0 (suc w) (omega arith))

most_both : (cs ds : List Counted) → larger (most_of ds) (most_of cs) ≡ most_of (cs ++ ds)
unfolding most_of
most_both [] ds = go (most_of ds)
  where
    go : (w : ℕ) → larger w 0 ≡ w
    go w = rw (le-ltb w 0 (omega arith))
most_both (c ∷ cs) ds =
    sym (larger_assoc (most_of ds) (most_of cs) c.rounds) ∙ ap (λ (w : ℕ). larger w c.rounds) (most_both cs ds)

values_both : (cs ds : List Counted) → values_of (cs ++ ds) ≡ values_of cs ++ values_of ds
unfolding values_of
values_both [] ds = refl
values_both (c ∷ cs) ds = go (finite_pattern c.bits) (values_both cs ds)
  where
    go : (t : Bool) → values_of (cs ++ ds) ≡ values_of cs ++ values_of ds
        → cond t (c.bits ∷ values_of (cs ++ ds)) (values_of (cs ++ ds))
        ≡ cond t (c.bits ∷ values_of cs) (values_of cs) ++ values_of ds
    go true e = ap (λ (l : List ℕ). c.bits ∷ l) e
    go false e = e

rest_both : (x y z : ℕ) → z ≡ x + y → (x % 2 ^ 64 + y % 2 ^ 64) % 2 ^ 64 ≡ z % 2 ^ 64
rest_both x y z e =
    mod-add-mod x (2 ^ 64) (y % 2 ^ 64) ∙ add-mod-mod x y (2 ^ 64) ∙ ap (λ (w : ℕ). w % 2 ^ 64) (sym e)

both_words : (i : ℕ) → i < 30 → (cs ds : List Counted) → word_joined i (word_of i cs) (word_of i ds) ≡ word_of i (cs ++ ds)
unfolding word_joined word_of
both_words i h cs ds =
    which i h (λ (j : ℕ). word_joined j (word_of j cs) (word_of j ds) ≡ word_of j (cs ++ ds))
    (rest_both (calls_of cs) (calls_of ds) _ (calls_both cs ds))
    (λ j p q.
    rw (ne_eqb j 29 (λ e. omega arith), ne_eqb j 0 (λ e. omega arith), le-leb j 27 q)
    (rest_both (refused_of j cs) (refused_of j ds) _ (refused_both j cs ds)))
    (rest_both (rounds_of cs) (rounds_of ds) _ (rounds_both cs ds))
    (larger_comm (most_of cs) (most_of ds) ∙ most_both cs ds)

pub block_both : (cs ds : List Counted) → block_joined (block_of cs) (block_of ds) ≡ block_of (cs ++ ds)
block_both cs ds =
    let h = block_words_lem cs in
    let k = block_words_lem ds in
    by_parts _ _ (joined_length (block_of cs) (block_of ds) h k) (block_words_lem (cs ++ ds))
    (λ i l.
    word_joined_lem (block_of cs) (block_of ds) h k i l ∙ ap₂ (word_joined i) (block_at cs i l) (block_at ds i l)
    ∙ both_words i l cs ds ∙ sym (block_at (cs ++ ds) i l))
    (sum_joined (block_of cs) (block_of ds) h k ∙ ap₂ sums_joined (block_sum cs) (block_sum ds)
    ∙ words_joined_lem (values_of cs) (values_of ds)
    ∙ ap (λ (l : List ℕ). limbs_of 34 (held_sum l)) (sym (values_both cs ds)) ∙ sym (block_sum (cs ++ ds)))

-- ---- no word wraps where there are fewer than 2 ^ 32 answers, each with fewer than 2 ^ 32 rounds
abbrev pub Few : List Counted → Type 0
Few [] = Unit {0}
Few (c ∷ cs) = (c.rounds < 2 ^ 32) × Few cs

refused_most : (n : ℕ) (cs : List Counted) → refused_of n cs ≤ calls_of cs
unfolding refused_of calls_of
refused_most n [] = omega arith
refused_most n (c ∷ cs) = go (c.refused == n) (refused_most n cs)
  where
    go : (t : Bool) → refused_of n cs ≤ calls_of cs → cond t 1 0 + refused_of n cs ≤ 1 + calls_of cs
    go true h = omega arith
    go false h = omega arith

rounds_most : (cs : List Counted) → Few cs → rounds_of cs ≤ calls_of cs * (2 ^ 32 - 1)
unfolding rounds_of calls_of
rounds_most [] f = omega arith
rounds_most (c ∷ cs) f = let h = rounds_most cs f.1 in let k = f.0 in omega arith

pub record Plain (cs : List Counted) : Type 0 where
  pub calls : word_of 0 cs ≡ calls_of cs
  pub refused : (n : ℕ) → 1 ≤ n → n ≤ 27 → word_of n cs ≡ refused_of n cs
  pub rounds : word_of 28 cs ≡ rounds_of cs
  pub most : word_of 29 cs ≡ most_of cs

pub plain : (cs : List Counted) → Few cs → calls_of cs < 2 ^ 32 → Plain cs
unfolding word_of
plain cs f h = record {
  calls = mod-eq_of_lt (omega arith);
  refused = λ n p q. rw (ne_eqb n 0 (λ e. omega arith), le-leb n 27 q) (mod-eq_of_lt (omega (arith, refused_most n cs)));
  rounds = mod-eq_of_lt (omega (arith, rounds_most cs f));
  most = refl;
}
