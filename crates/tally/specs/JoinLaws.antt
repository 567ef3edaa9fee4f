-- What joining two blocks makes of each word, and so that they may be joined in any order. Assumes nothing.
use Rattle.std.specs.Prelude.{◌≡◌, ℕ, zero, suc, ◌+◌, ◌%◌, ◌^◌, ◌<◌, ◌≤◌, Bool, true, false, cond, List, [], ◌++◌, length, take, drop, ◌==◌, ◌≢◌, nat_lt, slice_index, slice_set, refl}
use Rattle.std.proofs.Common.{sym, ap, ◌∙◌, add_comm, add_assoc, arith, length-append, length-drop, length-set, length-take-le, get_or-take, get_or-set_same, get_or-set_other, drop-set-lt, drop_at}
use Rattle.std.proofs.Math.Nat.{mod-add-mod, add-mod-mod}
use borrow.Author.Tests.{eq-eqb, eqb-true, eqb-false, ltb-true, ltb-false}
use Rattle.std.proofs.Math.ListN.{get_or-append}
use Rattle.exact.specs.Exact.{sums_joined}
use Rattle.tally.specs.Tally.{larger, word_joined, slots_joined, sums_of, block_joined}
use Rattle.tally.specs.SumLaws.{sums_length, sums_comm, sums_assoc}
use Rattle.tally.specs.WordLaws.{by_parts}

-- ---- the words below the sum
slots_length : (left i : ℕ) (ws os : List ℕ) → length (slots_joined i left ws os) ≡ length ws
unfolding slots_joined
slots_length zero i ws os = refl
slots_length (suc left) i ws os =
    slots_length left (suc i) (slice_set ws i (word_joined i (slice_index ws i) (slice_index os i))) os
    ∙ length-set ws i (word_joined i (slice_index ws i) (slice_index os i))

slots_before : (left i : ℕ) (ws os : List ℕ) (j : ℕ) → j < i → slice_index (slots_joined i left ws os) j ≡ slice_index ws j
unfolding slots_joined
slots_before zero i ws os j h = refl
slots_before (suc left) i ws os j h =
    slots_before left (suc i) (slice_set ws i (word_joined i (slice_index ws i) (slice_index os i))) os j (omega arith)
    ∙ get_or-set_other ws i j _ 0 (λ e. omega arith)

slots_at : (left i : ℕ) (ws os : List ℕ) (j : ℕ) → i ≤ j → j < i + left → i + left ≤ length ws
    → slice_index (slots_joined i left ws os) j ≡ word_joined j (slice_index ws j) (slice_index os j)
unfolding slots_joined
slots_at zero i ws os j h k l = absurd (omega arith)
slots_at (suc left) i ws os j h k l = go (i == j) refl (slots_at left (suc i) (slice_set ws i v) os j)
  where
    v : ℕ
    v = word_joined i (slice_index ws i) (slice_index os i)

    further : (i j : ℕ) → i ≤ j → (i ≢ j) → suc i ≤ j
    further i j h n = omega (arith, n)

    go : (t : Bool) → (i == j) ≡ t
        → (suc i ≤ j → j < suc i + left → suc i + left ≤ length (slice_set ws i v)
        → slice_index (slots_joined (suc i) left (slice_set ws i v) os) j ≡ word_joined j (slice_index (slice_set ws i v) j) (slice_index os j))
        → slice_index (slots_joined (suc i) left (slice_set ws i v) os) j ≡ word_joined j (slice_index ws j) (slice_index os j)
    go true e rest =
        let f = eqb-true i j e in
        slots_before left (suc i) (slice_set ws i v) os j (omega arith)
        ∙ rw (← f) (get_or-set_same ws i v 0 (omega arith))
    go false e rest =
        let n = eqb-false i j e in
        rest (further i j h n) (omega arith) (rw length-set (omega arith))
        ∙ ap (λ (w : ℕ). word_joined j w (slice_index os j)) (get_or-set_other ws i j v 0 (λ f. n (sym f)))

slots_rest : (left i : ℕ) (ws os : List ℕ) → i + left ≤ 30 → drop 30 (slots_joined i left ws os) ≡ drop 30 ws
unfolding slots_joined
slots_rest zero i ws os h = refl
slots_rest (suc left) i ws os h =
    slots_rest left (suc i) (slice_set ws i (word_joined i (slice_index ws i) (slice_index os i))) os (omega arith)
    ∙ drop-set-lt 30 ws i (word_joined i (slice_index ws i) (slice_index os i)) (omega arith)

-- ---- a block
module _ (ws os : List ℕ) (h : length ws ≡ 64) (k : length os ≡ 64) where
  is_joined : block_joined ws os
      ≡ take 30 (slots_joined 0 30 ws os) ++ sums_joined (drop 30 (slots_joined 0 30 ws os)) (drop 30 os)
  unfolding block_joined sums_of
  is_joined = rw (eq-eqb (length ws) 64 h, eq-eqb (length os) 64 k)

  front_length : length (take 30 (slots_joined 0 30 ws os)) ≡ 30
  front_length = length-take-le 30 (slots_joined 0 30 ws os) (omega (arith, slots_length 30 0 ws os))

  pub word_joined_lem : (i : ℕ) → i < 30 → slice_index (block_joined ws os) i ≡ word_joined i (slice_index ws i) (slice_index os i)
  word_joined_lem i l =
      ap (λ (m : List ℕ). slice_index m i) is_joined
      ∙ get_or-append (take 30 (slots_joined 0 30 ws os)) _ 0 i (omega (arith, front_length))
      ∙ get_or-take 30 (slots_joined 0 30 ws os) i 0 l ∙ slots_at 30 0 ws os i (omega arith) (omega arith) (omega arith)

  pub sum_joined : drop 30 (block_joined ws os) ≡ sums_joined (drop 30 ws) (drop 30 os)
  sum_joined =
      ap (drop 30) is_joined ∙ drop_at (take 30 (slots_joined 0 30 ws os)) _ 30 front_length
      ∙ ap (λ (m : List ℕ). sums_joined m (drop 30 os)) (slots_rest 30 0 ws os (omega arith))

  rest_long : (l : List ℕ) → length l ≡ 64 → length (drop 30 l) ≡ 34
  rest_long l e = rw (length-drop, e)

  pub joined_length : length (block_joined ws os) ≡ 64
  joined_length =
      ap length is_joined
      ∙ rw (
        length-append,
        front_length,
        slots_rest 30 0 ws os (omega arith),
        sums_length (drop 30 ws) (drop 30 os) (rest_long ws h) (rest_long os k),
      )

rest_of : (l : List ℕ) → length l ≡ 64 → length (drop 30 l) ≡ 34
rest_of l e = rw (length-drop, e)

-- ---- THE LAWS OF JOINING
pub larger_comm : (v w : ℕ) → larger v w ≡ larger w v
larger_comm v w = go (nat_lt v w) refl (nat_lt w v) refl
  where
    go : (s : Bool) → nat_lt v w ≡ s → (t : Bool) → nat_lt w v ≡ t → cond s w v ≡ cond t v w
    go true e true f = absurd (omega (arith, ltb-true v w e, ltb-true w v f))
    go true e false f = refl
    go false e true f = refl
    go false e false f = let a = ltb-false v w e in let b = ltb-false w v f in omega arith

pub larger_assoc : (u v w : ℕ) → larger (larger u v) w ≡ larger u (larger v w)
larger_assoc u v w = go (nat_lt u v) refl (nat_lt v w) refl (nat_lt u w) refl
  where
    go : (r : Bool) → nat_lt u v ≡ r → (s : Bool) → nat_lt v w ≡ s → (t : Bool) → nat_lt u w ≡ t
        → larger (cond r v u) w ≡ larger u (cond s w v)
    go true e true f true g = rw (f, g)
    go true e true f false g = absurd (omega (arith, ltb-true u v e, ltb-true v w f, ltb-false u w g))
    go true e false f t g = rw (f, e)
    go false e true f t g = rw g
    go false e false f true g = absurd (omega (arith, ltb-false u v e, ltb-false v w f, ltb-true u w g))
    go false e false f false g = rw (g, e)

words_comm : (i v w : ℕ) → word_joined i v w ≡ word_joined i w v
unfolding word_joined
words_comm i v w = go (i == 29)
  where
    go : (t : Bool) → cond t (larger v w) ((v + w) % 2 ^ 64) ≡ cond t (larger w v) ((w + v) % 2 ^ 64)
    go true = larger_comm v w
    go false = ap (λ (z : ℕ). z % 2 ^ 64) (add_comm v w)

words_assoc : (i u v w : ℕ) → word_joined i (word_joined i u v) w ≡ word_joined i u (word_joined i v w)
unfolding word_joined
words_assoc i u v w = go (i == 29)
  where
    go : (t : Bool)
        → cond t (larger (cond t (larger u v) ((u + v) % 2 ^ 64)) w) ((cond t (larger u v) ((u + v) % 2 ^ 64) + w) % 2 ^ 64)
        ≡ cond t (larger u (cond t (larger v w) ((v + w) % 2 ^ 64))) ((u + cond t (larger v w) ((v + w) % 2 ^ 64)) % 2 ^ 64)
    go true = larger_assoc u v w
    go false =
        mod-add-mod (u + v) (2 ^ 64) w ∙ ap (λ (z : ℕ). z % 2 ^ 64) (add_assoc u v w) ∙ sym (add-mod-mod u (v + w) (2 ^ 64))

pub join_comm : (ws os : List ℕ) → length ws ≡ 64 → length os ≡ 64 → block_joined ws os ≡ block_joined os ws
join_comm ws os h k =
    by_parts _ _ (joined_length ws os h k) (joined_length os ws k h)
    (λ i l. word_joined_lem ws os h k i l ∙ words_comm i (slice_index ws i) (slice_index os i) ∙ sym (word_joined_lem os ws k h i l))
    (sum_joined ws os h k ∙ sums_comm (drop 30 ws) (drop 30 os) (rest_of ws h) (rest_of os k) ∙ sym (sum_joined os ws k h))

pub join_assoc : (ws os vs : List ℕ) → length ws ≡ 64 → length os ≡ 64 → length vs ≡ 64
    → block_joined (block_joined ws os) vs ≡ block_joined ws (block_joined os vs)
join_assoc ws os vs h k l =
    let p = joined_length ws os h k in
    let q = joined_length os vs k l in
    by_parts _ _ (joined_length (block_joined ws os) vs p l) (joined_length ws (block_joined os vs) h q)
    (λ i m.
    word_joined_lem (block_joined ws os) vs p l i m ∙ ap (λ (z : ℕ). word_joined i z (slice_index vs i)) (word_joined_lem ws os h k i m)
    ∙ words_assoc i (slice_index ws i) (slice_index os i) (slice_index vs i)
    ∙ sym (word_joined_lem ws (block_joined os vs) h q i m ∙ ap (word_joined i (slice_index ws i)) (word_joined_lem os vs k l i m)))
    (sum_joined (block_joined ws os) vs p l ∙ ap (λ (z : List ℕ). sums_joined z (drop 30 vs)) (sum_joined ws os h k)
    ∙ sums_assoc (drop 30 ws) (drop 30 os) (drop 30 vs) (rest_of ws h) (rest_of os k) (rest_of vs l)
    ∙ sym (sum_joined ws (block_joined os vs) h q ∙ ap (sums_joined (drop 30 ws)) (sum_joined os vs k l)))
