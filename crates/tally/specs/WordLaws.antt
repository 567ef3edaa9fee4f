-- What an answer more, and another block, make of each word below the sum; and so that order makes no difference. Assumes
-- nothing.
use Rattle.std.specs.Prelude.{◌≡◌, ℕ, zero, suc, ◌+◌, ◌%◌, ◌^◌, ◌<◌, ◌≤◌, Bool, true, false, cond, ◌&&◌, List, [], ◌++◌, length, take, drop, set, ◌==◌, ◌≢◌, nat_eq, nat_le, nat_lt, slice_index, slice_set, refl}
use Rattle.std.proofs.Common.{sym, ap₂, ◌∙◌, arith, ltb-false, length-append, length-drop, length-set, take-append-drop, length-take-le, get_or-take, get_or-drop, get_or-set_same, ext_get_or, drop_at}
use Rattle.std.proofs.Math.Path.{ap}
use Rattle.std.proofs.Math.Nat.{mod-add-mod}
use borrow.Author.Tests.{le-leb, lt-leb, eq-eqb, ne_eqb, eqb-true, eqb-false, leb-true, leb-false, ltb-true}
use Rattle.std.proofs.Math.ListN.{get_or-append}
use Rattle.std.proofs.Math.Seq.{get_or-set_other}
use Rattle.exact.specs.Exact.{value_added}
use Rattle.tally.specs.Tally.{grown, tallied, raised, summed, larger, block_added}
use Rattle.tally.specs.SumLaws.{added_length, value_swap}
use Rattle.tally.specs.declared.counted.Counted.{Counted}

-- a word below the sum after an answer more
unfoldable pub word_after : ℕ → ℕ → Counted → ℕ
word_after i w c =
    cond (i == 0) ((w + 1) % 2 ^ 64)
    (cond (nat_le i 27) (cond (c.refused == i) ((w + 1) % 2 ^ 64) w)
    (cond (i == 28) ((w + c.rounds) % 2 ^ 64) (larger w c.rounds)))

no : {t : Bool} (x y : ℕ) → t ≡ false → cond t x y ≡ y
no x y e = rw e

-- ---- a word that is set
set_at : (ws : List ℕ) (k v i : ℕ) → k < length ws → slice_index (slice_set ws k v) i ≡ cond (i == k) v (slice_index ws i)
set_at ws k v i h = go (i == k) refl
  where
    go : (t : Bool) → (i == k) ≡ t → slice_index (slice_set ws k v) i ≡ cond t v (slice_index ws i)
    go true e = rw (eqb-true i k e) (get_or-set_same ws k v 0 h)
    go false e = get_or-set_other ws k i v 0 (eqb-false i k e)

grown_at : (ws : List ℕ) (k n i : ℕ) → k < length ws
    → slice_index (grown ws k n) i ≡ cond (i == k) ((slice_index ws i + n) % 2 ^ 64) (slice_index ws i)
unfolding grown
grown_at ws k n i h = set_at ws k ((slice_index ws k + n) % 2 ^ 64) i h ∙ go (i == k) refl
  where
    go : (t : Bool) → (i == k) ≡ t
        → cond t ((slice_index ws k + n) % 2 ^ 64) (slice_index ws i) ≡ cond t ((slice_index ws i + n) % 2 ^ 64) (slice_index ws i)
    go true e = rw (eqb-true i k e)
    go false e = refl

grown_length : (ws : List ℕ) (k n : ℕ) → length (grown ws k n) ≡ length ws
unfolding grown
grown_length ws k n = length-set ws k ((slice_index ws k + n) % 2 ^ 64)

tallied_length : (ws : List ℕ) (n : ℕ) → length (tallied ws n) ≡ length ws
unfolding tallied
tallied_length ws n = go (nat_le 1 n && nat_le n 27)
  where
    go : (t : Bool) → length (cond t (grown ws n 1) ws) ≡ length ws
    go true = grown_length ws n 1
    go false = refl

-- the tally of a number is its own word's
tallied_at : (ws : List ℕ) (n i : ℕ) → length ws ≡ 64
    → slice_index (tallied ws n) i ≡ cond (nat_le 1 i && nat_le i 27) (cond (n == i) ((slice_index ws i + 1) % 2 ^ 64) (slice_index ws i))
    (slice_index ws i)
unfolding tallied
tallied_at ws n i h = go (n == i) refl
  where
    there : (t : Bool) → (nat_le 1 n && nat_le n 27) ≡ t → n ≡ i
        → slice_index (cond t (grown ws n 1) ws) i ≡ cond t ((slice_index ws i + 1) % 2 ^ 64) (slice_index ws i)
    there true e f =
        grown_at ws n 1 i (few (nat_le 1 n) refl (nat_le n 27) refl e) ∙ rw (eq-eqb i n (sym f))
      where
        few : (s : Bool) → nat_le 1 n ≡ s → (t : Bool) → nat_le n 27 ≡ t → (s && t) ≡ true → n < length ws
        few true p true q r = let l = leb-true n 27 q in omega arith
        few true p false q r = let z : ◌≡◌ {A = ℕ} 0 1 = cc in absurd (omega arith)
        few false p t q r = let z : ◌≡◌ {A = ℕ} 0 1 = cc in absurd (omega arith)
    there false e f = refl

    apart : nat_eq n i ≡ false → slice_index (grown ws n 1) i ≡ slice_index ws i
    apart e = unfold grown in get_or-set_other ws n i ((slice_index ws n + 1) % 2 ^ 64) 0 (λ f. eqb-false n i e (sym f))

    other : (t s : Bool) → (n == i) ≡ false
        → slice_index (cond t (grown ws n 1) ws) i ≡ cond s (slice_index ws i) (slice_index ws i)
    other true true e = apart e
    other true false e = apart e
    other false true e = refl
    other false false e = refl

    go : (t : Bool) → (n == i) ≡ t
        → slice_index (cond (nat_le 1 n && nat_le n 27) (grown ws n 1) ws) i
        ≡ cond (nat_le 1 i && nat_le i 27) (cond t ((slice_index ws i + 1) % 2 ^ 64) (slice_index ws i)) (slice_index ws i)
    go true e =
        let f = eqb-true n i e in
        there (nat_le 1 n && nat_le n 27) refl f ∙ rw f
    go false e = other (nat_le 1 n && nat_le n 27) (nat_le 1 i && nat_le i 27) e

-- ---- what comes before the sum
unfoldable before : List ℕ → Counted → List ℕ
before ws c = raised (grown (tallied (grown ws 0 1) c.refused) 28 c.rounds) c.rounds

before_length : (ws : List ℕ) (c : Counted) → length (before ws c) ≡ length ws
unfolding before raised
before_length ws c =
    let x = tallied (grown ws 0 1) c.refused in
    let y = grown x 28 c.rounds in
    length-set y 29 (larger (slice_index y 29) c.rounds) ∙ grown_length x 28 c.rounds
    ∙ tallied_length (grown ws 0 1) c.refused ∙ grown_length ws 0 1

-- which word it is, of those below the sum
pub which : (i : ℕ) → i < 30 → (P : ℕ → Type 0) → P 0 → ((j : ℕ) → 1 ≤ j → j ≤ 27 → P j) → P 28 → P 29 → P i
which i h P calls tally rounds most = go (i == 0) refl (nat_le i 27) refl (i == 28) refl
  where
    go : (a : Bool) → (i == 0) ≡ a → (b : Bool) → nat_le i 27 ≡ b → (c : Bool) → (i == 28) ≡ c → P i
    go true p b q c r = rw (eqb-true i 0 p) calls
    go false p true q c r =
        let n = eqb-false i 0 p in
        let l = leb-true i 27 q in
        tally i (positive i n) l
      where
        positive : (i : ℕ) → (i ≢ 0) → 1 ≤ i
        positive zero n = absurd (n refl)
        positive (suc i) n = omega arith
    go false p false q true r = rw (eqb-true i 28 r) rounds
    go false p false q false r =
        let l = leb-false i 27 q in
        let n = eqb-false i 28 r in
        let e : i ≡ 29 = last i l n h in
        rw e most
      where
        last : (i : ℕ) → 27 < i → (i ≢ 28) → i < 30 → i ≡ 29
        last i l n h = omega (arith, n)

module _ (ws : List ℕ) (c : Counted) (h : length ws ≡ 64) where
  first_length : length (grown ws 0 1) ≡ 64
  first_length = grown_length ws 0 1 ∙ h

  second_length : length (tallied (grown ws 0 1) c.refused) ≡ 64
  second_length = tallied_length (grown ws 0 1) c.refused ∙ first_length

  third_length : length (grown (tallied (grown ws 0 1) c.refused) 28 c.rounds) ≡ 64
  third_length = grown_length (tallied (grown ws 0 1) c.refused) 28 c.rounds ∙ second_length

  first_at : (i : ℕ) → slice_index (grown ws 0 1) i ≡ cond (i == 0) ((slice_index ws i + 1) % 2 ^ 64) (slice_index ws i)
  first_at i = grown_at ws 0 1 i (omega arith)

  second_at : (i : ℕ) → slice_index (tallied (grown ws 0 1) c.refused) i
      ≡ cond (nat_le 1 i && nat_le i 27)
      (cond (c.refused == i) ((slice_index (grown ws 0 1) i + 1) % 2 ^ 64) (slice_index (grown ws 0 1) i)) (slice_index (grown ws 0 1) i)
  second_at i = tallied_at (grown ws 0 1) c.refused i first_length

  third_at : (i : ℕ) → slice_index (grown (tallied (grown ws 0 1) c.refused) 28 c.rounds) i
      ≡ cond (i == 28) ((slice_index (tallied (grown ws 0 1) c.refused) i + c.rounds) % 2 ^ 64)
      (slice_index (tallied (grown ws 0 1) c.refused) i)
  third_at i = grown_at (tallied (grown ws 0 1) c.refused) 28 c.rounds i (omega (arith, second_length))

  before_at : (i : ℕ) → slice_index (before ws c) i
      ≡ cond (i == 29) (larger (slice_index (grown (tallied (grown ws 0 1) c.refused) 28 c.rounds) 29) c.rounds)
      (slice_index (grown (tallied (grown ws 0 1) c.refused) 28 c.rounds) i)
  unfolding before raised
  before_at i =
      set_at (grown (tallied (grown ws 0 1) c.refused) 28 c.rounds) 29 _ i (omega (arith, third_length))

  tally_at_lem : (j : ℕ) → 1 ≤ j → j ≤ 27
      → slice_index (tallied (grown ws 0 1) c.refused) j ≡ word_after j (slice_index ws j) c
  unfolding word_after
  tally_at_lem j p q =
      second_at j ∙ rw (le-leb 1 j p, le-leb j 27 q, first_at j, ne_eqb j 0 (λ e. omega arith))

  outside : (j : ℕ) → 30 ≤ j → (nat_le 1 j && nat_le j 27) ≡ false
  outside j p = rw (le-leb 1 j (omega arith)) (lt-leb j 27 (omega arith))

  past_at : (j : ℕ) → 30 ≤ j → slice_index (before ws c) j ≡ slice_index ws j
  past_at j p =
      before_at j ∙ no _ _ (ne_eqb j 29 (λ e. omega arith)) ∙ third_at j ∙ no _ _ (ne_eqb j 28 (λ e. omega arith))
      ∙ second_at j ∙ no _ _ (outside j p) ∙ first_at j
      ∙ no _ _ (ne_eqb j 0 (λ e. omega arith))

  -- a word as it is after all four
  word_is : (i : ℕ) → i < 30 → slice_index (before ws c) i ≡ word_after i (slice_index ws i) c
  unfolding word_after
  word_is i k =
      which i k (λ (j : ℕ). slice_index (before ws c) j ≡ word_after j (slice_index ws j) c)
      (before_at 0 ∙ third_at 0 ∙ second_at 0 ∙ first_at 0)
      (λ j p q.
      before_at j ∙ no _ _ (ne_eqb j 29 (λ e. omega arith)) ∙ third_at j ∙ no _ _ (ne_eqb j 28 (λ e. omega arith))
      ∙ tally_at_lem j p q)
      (before_at 28 ∙ third_at 28 ∙ ap (λ (z : ℕ). (z + c.rounds) % 2 ^ 64) (second_at 28 ∙ first_at 28))
      (before_at 29 ∙ ap (λ (z : ℕ). larger z c.rounds) (third_at 29 ∙ second_at 29 ∙ first_at 29))

  -- ---- and so of the block
  is_added : block_added ws c ≡ take 30 (before ws c) ++ value_added (drop 30 (before ws c)) c.bits
  unfolding block_added summed before
  is_added = rw (eq-eqb (length ws) 64 h)

  front_length : length (take 30 (before ws c)) ≡ 30
  front_length = length-take-le 30 (before ws c) (omega (arith, before_length ws c))

  rest_same : drop 30 (before ws c) ≡ drop 30 ws
  rest_same = ext_get_or 0 (drop 30 (before ws c)) (drop 30 ws) (rw (length-drop, length-drop, before_length ws c)) (λ i p. same i)
    where
      same : (i : ℕ) → slice_index (drop 30 (before ws c)) i ≡ slice_index (drop 30 ws) i
      same i =
          get_or-drop 30 (before ws c) i 0 ∙ past_at (30 + i) (omega arith) ∙ sym (get_or-drop 30 ws i 0)

  pub word_after_lem : (i : ℕ) → i < 30 → slice_index (block_added ws c) i ≡ word_after i (slice_index ws i) c
  word_after_lem i k =
      ap (λ (l : List ℕ). slice_index l i) is_added
      ∙ get_or-append (take 30 (before ws c)) _ 0 i (omega (arith, front_length)) ∙ get_or-take 30 (before ws c) i 0 k
      ∙ word_is i k

  pub sum_after : drop 30 (block_added ws c) ≡ value_added (drop 30 ws) c.bits
  sum_after =
      ap (drop 30) is_added ∙ drop_at (take 30 (before ws c)) _ 30 front_length
      ∙ ap (λ (l : List ℕ). value_added l c.bits) rest_same

  pub block_length_lem : length (block_added ws c) ≡ 64
  block_length_lem =
      ap length is_added
      ∙ rw (length-append, front_length, added_length (drop 30 (before ws c)) c.bits, rest_same, length-drop, h)

-- ---- two blocks are one if their words below the sum and their sums are
pub by_parts : (l m : List ℕ) → length l ≡ 64 → length m ≡ 64 → ((i : ℕ) → i < 30 → slice_index l i ≡ slice_index m i)
    → drop 30 l ≡ drop 30 m → l ≡ m
by_parts l m h k words sum =
    sym (take-append-drop 30 l) ∙ ap₂ (λ (p q : List ℕ). p ++ q) front sum ∙ take-append-drop 30 m
  where
    short : (l : List ℕ) → length l ≡ 64 → length (take 30 l) ≡ 30
    short l h = length-take-le 30 l (omega arith)

    front : take 30 l ≡ take 30 m
    front =
        ext_get_or 0 (take 30 l) (take 30 m) (short l h ∙ sym (short m k))
        (λ i p.
        let q : i < 30 = rw (short l h) at p in
        get_or-take 30 l i 0 q ∙ words i q ∙ sym (get_or-take 30 m i 0 q))

-- ---- THE LAW OF ORDER, of two answers
plus_swap : (w a b : ℕ) → ((w + a) % 2 ^ 64 + b) % 2 ^ 64 ≡ ((w + b) % 2 ^ 64 + a) % 2 ^ 64
plus_swap w a b =
    let e : w + a + b ≡ w + b + a = omega arith in
    mod-add-mod (w + a) (2 ^ 64) b ∙ ap (λ (z : ℕ). z % 2 ^ 64) e ∙ sym (mod-add-mod (w + b) (2 ^ 64) a)

larger_swap : (w a b : ℕ) → larger (larger w a) b ≡ larger (larger w b) a
larger_swap w a b = go (nat_lt w a) refl (nat_lt w b) refl (nat_lt a b) refl (nat_lt b a) refl
  where
    go : (p : Bool) → nat_lt w a ≡ p → (q : Bool) → nat_lt w b ≡ q → (r : Bool) → nat_lt a b ≡ r → (s : Bool) → nat_lt b a ≡ s
        → larger (cond p a w) b ≡ larger (cond q b w) a
    go true e true f true g true h = absurd (omega (arith, ltb-true a b g, ltb-true b a h))
    go true e true f true g false h = rw (g, h)
    go true e true f false g true h = rw (g, h)
    go true e true f false g false h =
        let i = ltb-false a b g in
        let j = ltb-false b a h in
        let k : a ≡ b = omega arith in
        rw (g, h) k
    go true e false f true g s h = absurd (omega (arith, ltb-true w a e, ltb-false w b f, ltb-true a b g))
    go true e false f false g s h = rw (g, e)
    go false e true f r g true h = absurd (omega (arith, ltb-false w a e, ltb-true w b f, ltb-true b a h))
    go false e true f r g false h = rw (f, h)
    go false e false f r g s h = rw (f, e)

after_swap : (i w : ℕ) (a b : Counted) → word_after i (word_after i w a) b ≡ word_after i (word_after i w b) a
unfolding word_after
after_swap i w a b = go (i == 0) (nat_le i 27) (a.refused == i) (b.refused == i) (i == 28)
  where
    go : (p q r s t : Bool)
        → cond p ((cond p ((w + 1) % 2 ^ 64)
        (cond q (cond r ((w + 1) % 2 ^ 64) w) (cond t ((w + a.rounds) % 2 ^ 64) (larger w a.rounds))) + 1) % 2 ^ 64)
        (cond q
        (cond s ((cond p ((w + 1) % 2 ^ 64)
        (cond q (cond r ((w + 1) % 2 ^ 64) w) (cond t ((w + a.rounds) % 2 ^ 64) (larger w a.rounds))) + 1) % 2 ^ 64)
        (cond p ((w + 1) % 2 ^ 64)
        (cond q (cond r ((w + 1) % 2 ^ 64) w) (cond t ((w + a.rounds) % 2 ^ 64) (larger w a.rounds)))))
        (cond t ((cond p ((w + 1) % 2 ^ 64)
        (cond q (cond r ((w + 1) % 2 ^ 64) w) (cond t ((w + a.rounds) % 2 ^ 64) (larger w a.rounds))) + b.rounds) % 2
        ^ 64)
        (larger (cond p ((w + 1) % 2 ^ 64)
        (cond q (cond r ((w + 1) % 2 ^ 64) w) (cond t ((w + a.rounds) % 2 ^ 64) (larger w a.rounds)))) b.rounds)))
        ≡ cond p ((cond p ((w + 1) % 2 ^ 64)
        (cond q (cond s ((w + 1) % 2 ^ 64) w) (cond t ((w + b.rounds) % 2 ^ 64) (larger w b.rounds))) + 1) % 2 ^ 64)
        (cond q
        (cond r ((cond p ((w + 1) % 2 ^ 64)
        (cond q (cond s ((w + 1) % 2 ^ 64) w) (cond t ((w + b.rounds) % 2 ^ 64) (larger w b.rounds))) + 1) % 2 ^ 64)
        (cond p ((w + 1) % 2 ^ 64)
        (cond q (cond s ((w + 1) % 2 ^ 64) w) (cond t ((w + b.rounds) % 2 ^ 64) (larger w b.rounds)))))
        (cond t ((cond p ((w + 1) % 2 ^ 64)
        (cond q (cond s ((w + 1) % 2 ^ 64) w) (cond t ((w + b.rounds) % 2 ^ 64) (larger w b.rounds))) + a.rounds) % 2
        ^ 64)
        (larger (cond p ((w + 1) % 2 ^ 64)
        (cond q (cond s ((w + 1) % 2 ^ 64) w) (cond t ((w + b.rounds) % 2 ^ 64) (larger w b.rounds)))) a.rounds)))
    go true q r s t = refl
    go false true true true t = refl
    go false true true false t = refl
    go false true false true t = refl
    go false true false false t = refl
    go false false r s true = plus_swap w a.rounds b.rounds
    go false false r s false = larger_swap w a.rounds b.rounds

pub added_swap : (ws : List ℕ) (a b : Counted) → length ws ≡ 64 → block_added (block_added ws a) b ≡ block_added (block_added ws b) a
added_swap ws a b h =
    by_parts _ _ (block_length_lem (block_added ws a) b (block_length_lem ws a h)) (block_length_lem (block_added ws b) a (block_length_lem ws b h))
    (λ i k.
    word_after_lem (block_added ws a) b (block_length_lem ws a h) i k
    ∙ ap (λ (w : ℕ). word_after i w b) (word_after_lem ws a h i k) ∙ after_swap i (slice_index ws i) a b
    ∙ sym (word_after_lem (block_added ws b) a (block_length_lem ws b h) i k ∙ ap (λ (w : ℕ). word_after i w a) (word_after_lem ws b h i k)))
    (sum_after (block_added ws a) b (block_length_lem ws a h) ∙ ap (λ (l : List ℕ). value_added l b.bits) (sum_after ws a h)
    ∙ value_swap (drop 30 ws) (rw (length-drop, h)) a.bits b.bits
    ∙ sym (sum_after (block_added ws b) a (block_length_lem ws b h) ∙ ap (λ (l : List ℕ). value_added l a.bits) (sum_after ws b h)))
