-- A report is its six blocks: what an answer more, and another report, make of each. Assumes nothing.
use Prim.Native.Nat.{ℕ, suc, ◌+◌, ◌-◌, ◌*◌, ◌/◌, ◌%◌, ◌≤◌, ◌<◌}
use Rattle.std.specs.Prelude.{◌≡◌, Bool, leb, length, get_or, take, drop}
use Rattle.std.proofs.Math.Path.{refl}
use Rattle.std.proofs.Common.{sym, ap, ◌∙◌, ⊎_elim, length-append, length-drop, length-take-le, get_or-take, get_or-drop, get_or-append-add, ext_get_or}
use Rattle.std.proofs.Math.Bool.{true, false, cond}
use mathlib.Core.List.{List, ◌++◌}
use native.Mathlib.Omega.{arith}
use borrow.Author.Tests.{eq-eqb, ne_eqb, eqb-true, eqb-false, leb-true, leb-false}
use Rattle.std.proofs.Math.Dec.{eqb}
use Rattle.std.proofs.Math.ListN.{get_or-append}
use Rattle.algebra.specs.Order.{lt_or_le}
use Rattle.tally.specs.Tally.{block_added}
use Rattle.tally.specs.WordLaws.{block_length_lem, added_swap}
use Rattle.tally.specs.declared.counted.Counted.{Counted}
use Rattle.report_words.specs.Words.{stands_in, block_in, with_block, counted_added}

-- ---- a word of a block
pub block_word : (ws : List ℕ) (k i : ℕ) → i < 64 → get_or (block_in ws k) i 0 ≡ get_or ws (k * 64 + i) 0
block_word ws k i h = get_or-take 64 (drop (k * 64) ws) i 0 h ∙ get_or-drop (k * 64) ws i 0

pub block_long : (ws : List ℕ) (k : ℕ) → length ws ≡ 384 → k < 6 → length (block_in ws k) ≡ 64
block_long ws k h l = length-take-le 64 (drop (k * 64) ws) (rw (length-drop, h) (omega arith))

-- two reports are one if their blocks are
pub by_blocks : (l m : List ℕ) → length l ≡ 384 → length m ≡ 384 → ((k : ℕ) → k < 6 → block_in l k ≡ block_in m k) → l ≡ m
by_blocks l m h k same = ext_get_or 0 l m (h ∙ sym k) (λ i p. word i (rw h at p))
  where
    word : (i : ℕ) → i < 384 → get_or l i 0 ≡ get_or m i 0
    word i p =
        let q = i / 64 in
        let r = i % 64 in
        let e : q * 64 + r ≡ i = omega arith in
        let s : r < 64 = omega arith in
        ap (λ (j : ℕ). get_or l j 0) (sym e) ∙ sym (block_word l q r s)
        ∙ ap (λ (b : List ℕ). get_or b r 0) (same q (omega arith)) ∙ block_word m q r s ∙ ap (λ (j : ℕ). get_or m j 0) e

-- ---- another block in the place of one
module _ (ws bs : List ℕ) (k : ℕ) (h : length ws ≡ 384) (b : length bs ≡ 64) (l : k < 6) where
  front : length (take (k * 64) ws) ≡ k * 64
  front = length-take-le (k * 64) ws (omega arith)

  pub with_long : length (with_block ws k bs) ≡ 384
  with_long = rw (length-append, front, length-append, b, length-drop, length-drop, h) (omega arith)

  with_before : (i : ℕ) → i < k * 64 → get_or (with_block ws k bs) i 0 ≡ get_or ws i 0
  with_before i p =
      get_or-append (take (k * 64) ws) _ 0 i (omega (arith, front)) ∙ get_or-take (k * 64) ws i 0 p

  with_inside : (i : ℕ) → i < 64 → get_or (with_block ws k bs) (k * 64 + i) 0 ≡ get_or bs i 0
  with_inside i p =
      ap (λ (n : ℕ). get_or (with_block ws k bs) (n + i) 0) (sym front)
      ∙ get_or-append-add (take (k * 64) ws) _ i 0 ∙ get_or-append bs _ 0 i (omega arith)

  with_after : (i : ℕ) → get_or (with_block ws k bs) (k * 64 + (64 + i)) 0 ≡ get_or ws (k * 64 + (64 + i)) 0
  with_after i =
      ap (λ (n : ℕ). get_or (with_block ws k bs) (n + (64 + i)) 0) (sym front)
      ∙ get_or-append-add (take (k * 64) ws) _ (64 + i) 0
      ∙ ap (λ (n : ℕ). get_or (bs ++ drop 64 (drop (k * 64) ws)) (n + i) 0) (sym b)
      ∙ get_or-append-add bs _ i 0 ∙ get_or-drop 64 (drop (k * 64) ws) i 0 ∙ get_or-drop (k * 64) ws (64 + i) 0

  pub with_same : block_in (with_block ws k bs) k ≡ bs
  with_same =
      ext_get_or 0 _ bs (block_long (with_block ws k bs) k with_long l ∙ sym b)
      (λ i p.
      let q : i < 64 = rw (block_long (with_block ws k bs) k with_long l) at p in
      block_word (with_block ws k bs) k i q ∙ with_inside i q)

  pub with_other : (j : ℕ) → j < 6 → (j ≡ k → ⊥) → block_in (with_block ws k bs) j ≡ block_in ws j
  with_other j m n =
      ext_get_or 0 _ _ (block_long (with_block ws k bs) j with_long m ∙ sym (block_long ws j h m))
      (λ i p.
      let q : i < 64 = rw (block_long (with_block ws k bs) j with_long m) at p in
      block_word (with_block ws k bs) j i q ∙ word i q ∙ sym (block_word ws j i q))
    where
      word : (i : ℕ) → i < 64 → get_or (with_block ws k bs) (j * 64 + i) 0 ≡ get_or ws (j * 64 + i) 0
      word i q =
          ⊎_elim (λ p. with_before (j * 64 + i) (omega arith))
          (λ p.
          let r = j * 64 + i - (k * 64 + 64) in
          let e : k * 64 + (64 + r) ≡ j * 64 + i = omega (arith, n) in
          ap (λ (z : ℕ). get_or (with_block ws k bs) z 0) (sym e) ∙ with_after r ∙ ap (λ (z : ℕ). get_or ws z 0) e)
          (lt_or_le j k)

-- ---- AN ANSWER MORE
unfoldable pub of_function : ℕ → ℕ → List ℕ → Counted → List ℕ
of_function k f b c = cond (eqb f (suc k)) (block_added b c) b

module _ (ws : List ℕ) (f : ℕ) (c : Counted) (h : length ws ≡ 384) where
  known_low : leb 1 f ≡ false → counted_added ws f c ≡ ws
  unfolding counted_added stands_in
  known_low e = rw (eq-eqb (length ws) 384 h, e)

  known_high : leb 1 f ≡ true → leb f 6 ≡ false → counted_added ws f c ≡ ws
  unfolding counted_added stands_in
  known_high e g = rw (eq-eqb (length ws) 384 h, e, g)

  known_there : leb 1 f ≡ true → leb f 6 ≡ true
      → counted_added ws f c ≡ with_block ws (f - 1) (block_added (block_in ws (f - 1)) c)
  unfolding counted_added stands_in
  known_there e g = rw (eq-eqb (length ws) 384 h, e, g)

  -- whatever the function's number is
  cases : (P : List ℕ → Type 0) → ((f ≡ 0) → P ws) → (6 < f → P ws)
      → (1 ≤ f → f ≤ 6 → P (with_block ws (f - 1) (block_added (block_in ws (f - 1)) c))) → P (counted_added ws f c)
  cases P low high there = go (leb 1 f) refl (leb f 6) refl
    where
      go : (a : Bool) → leb 1 f ≡ a → (b : Bool) → leb f 6 ≡ b → P (counted_added ws f c)
      go false p b q = rw (known_low p) (low (let l = leb-false 1 f p in omega arith))
      go true p false q = rw (known_high p q) (high (leb-false f 6 q))
      go true p true q = rw (known_there p q) (there (leb-true 1 f p) (leb-true f 6 q))

  inner : 1 ≤ f → f ≤ 6 → length (block_added (block_in ws (f - 1)) c) ≡ 64
  inner p q = block_length_lem (block_in ws (f - 1)) c (block_long ws (f - 1) h (omega arith))

  pub counted_long : length (counted_added ws f c) ≡ 384
  counted_long =
      cases (λ (l : List ℕ). length l ≡ 384) (λ e. h) (λ e. h)
      (λ p q. with_long ws (block_added (block_in ws (f - 1)) c) (f - 1) h (inner p q) (omega arith))

  pub counted_block : (k : ℕ) → k < 6 → block_in (counted_added ws f c) k ≡ of_function k f (block_in ws k) c
  unfolding of_function
  counted_block k l =
      cases (λ (m : List ℕ). block_in m k ≡ cond (eqb f (suc k)) (block_added (block_in ws k) c) (block_in ws k))
      (λ e. rw (ne_eqb f (suc k) (λ g. omega arith))) (λ e. rw (ne_eqb f (suc k) (λ g. omega arith)))
      (λ p q. there p q (eqb f (suc k)) refl)
    where
      there : 1 ≤ f → f ≤ 6 → (t : Bool) → eqb f (suc k) ≡ t
          → block_in (with_block ws (f - 1) (block_added (block_in ws (f - 1)) c)) k
          ≡ cond t (block_added (block_in ws k) c) (block_in ws k)
      there p q true e =
          let g = eqb-true f (suc k) e in
          let j : f - 1 ≡ k = omega arith in
          rw (← j) (with_same ws (block_added (block_in ws (f - 1)) c) (f - 1) h (inner p q) (omega arith))
      there p q false e =
          let g = eqb-false f (suc k) e in
          with_other ws (block_added (block_in ws (f - 1)) c) (f - 1) h (inner p q) (omega arith) k l
          (λ i. g (let z : f ≡ suc k = omega arith in z))

-- ---- THE LAW OF ORDER, of two answers of any functions
pub counted_swap : (ws : List ℕ) (f g : ℕ) (a b : Counted) → length ws ≡ 384
    → counted_added (counted_added ws f a) g b ≡ counted_added (counted_added ws g b) f a
counted_swap ws f g a b h =
    let p = counted_long ws f a h in
    let q = counted_long ws g b h in
    by_blocks _ _ (counted_long (counted_added ws f a) g b p) (counted_long (counted_added ws g b) f a q)
    (λ k l.
    counted_block (counted_added ws f a) g b p k l ∙ ap (λ (m : List ℕ). of_function k g m b) (counted_block ws f a h k l)
    ∙ swap k (block_long ws k h l)
    ∙ sym (counted_block (counted_added ws g b) f a q k l ∙ ap (λ (m : List ℕ). of_function k f m a) (counted_block ws g b h k l)))
  where
    swap : (k : ℕ) → length (block_in ws k) ≡ 64
        → of_function k g (of_function k f (block_in ws k) a) b ≡ of_function k f (of_function k g (block_in ws k) b) a
    swap k l = unfold of_function in go (eqb f (suc k)) (eqb g (suc k))
      where
        go : (s t : Bool)
            → cond t (block_added (cond s (block_added (block_in ws k) a) (block_in ws k)) b)
            (cond s (block_added (block_in ws k) a) (block_in ws k))
            ≡ cond s (block_added (cond t (block_added (block_in ws k) b) (block_in ws k)) a)
            (cond t (block_added (block_in ws k) b) (block_in ws k))
        go true true = added_swap (block_in ws k) a b l
        go true false = refl
        go false true = refl
        go false false = refl
