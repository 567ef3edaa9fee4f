-- A report is that of its list of answers, in any order and put together of any parts. Assumes nothing.
use Prim.Native.Nat.{ℕ, zero, suc, ◌+◌, ◌*◌, ◌≤◌, ◌<◌}
use Rattle.std.specs.Prelude.{◌≡◌, Bool, eqb, length, take, drop}
use Rattle.std.proofs.Math.Path.{refl, ap}
use Rattle.std.proofs.Common.{sym, ap₂, ◌∙◌, add-zero, zero-add, arith, length-append, take_at}
use Rattle.std.proofs.Math.Bool.{true, false, cond}
use mathlib.Core.List.{List, [], ◌∷◌, ◌++◌}
use borrow.Author.Tests.{eq-eqb, eqb-true, eqb-false}
use Rattle.std.proofs.Math.Seq.{drop-append-add}
use Rattle.exact.specs.Exact.{Reordered, nothing, kept, swapped, onward}
use Rattle.tally.specs.Tally.{block_added, block_joined}
use Rattle.tally.specs.Meaning.{block_of}
use Rattle.tally.specs.JoinLaws.{joined_length, join_comm, join_assoc}
use Rattle.tally.specs.MeaningLaws.{block_words_lem, block_more, block_both}
use Rattle.tally.specs.declared.counted.Counted.{Counted}
use Rattle.report_words.specs.Words.{block_in, with_block, counted_added, blocks_joined, words_joined}
use Rattle.report_words.specs.Meaning.{Entry, counts_of, blocks_from, report_of, entries_added}
use Rattle.report_words.specs.BlockLaws.{block_long, by_blocks, with_long, with_same, with_other, of_function}
use Rattle.report_words.specs.BlockLaws.{counted_long, counted_block, counted_swap}

-- ---- its blocks
from_long : (left k : ℕ) (es : List Entry) → length (blocks_from k left es) ≡ left * 64
unfolding blocks_from
from_long zero k es = refl
from_long (suc left) k es =
    rw (length-append, block_words_lem (counts_of (suc k) es), from_long left (suc k) es) (omega arith)

from_block : (left k j : ℕ) (es : List Entry) → j < left → block_in (blocks_from k left es) j ≡ block_of (counts_of (suc (k + j)) es)
unfolding blocks_from
from_block zero k j es h = absurd (omega arith)
from_block (suc left) k zero es h =
    take_at (block_of (counts_of (suc k) es)) (blocks_from (suc k) left es) 64 (block_words_lem (counts_of (suc k) es))
    ∙ ap (λ (n : ℕ). block_of (counts_of (suc n) es)) (sym (add-zero k))
from_block (suc left) k (suc j) es h =
    let b = block_of (counts_of (suc k) es) in
    let e : suc j * 64 ≡ length b + j * 64 = omega (arith, block_words_lem (counts_of (suc k) es)) in
    let f : suc k + j ≡ k + suc j = omega arith in
    ap (λ (n : ℕ). take 64 (drop n (b ++ blocks_from (suc k) left es))) e
    ∙ ap (take 64) (drop-append-add b (blocks_from (suc k) left es) (j * 64)) ∙ from_block left (suc k) j es (omega arith)
    ∙ ap (λ (n : ℕ). block_of (counts_of (suc n) es)) f

module _ (es : List Entry) where
  pub report_long : length (report_of es) ≡ 384
  unfolding report_of
  report_long = from_long 6 0 es

  pub report_block : (k : ℕ) → k < 6 → block_in (report_of es) k ≡ block_of (counts_of (suc k) es)
  unfolding report_of
  report_block k h = from_block 6 0 k es h ∙ ap (λ (n : ℕ). block_of (counts_of (suc n) es)) (zero-add k)

-- ---- ONE ANSWER MORE
pub report_more : (e : Entry) (es : List Entry) → counted_added (report_of es) e.0 e.1 ≡ report_of (e ∷ es)
report_more e es =
    by_blocks _ _ (counted_long (report_of es) e.0 e.1 (report_long es)) (report_long (e ∷ es))
    (λ k h.
    counted_block (report_of es) e.0 e.1 (report_long es) k h
    ∙ ap (λ (b : List ℕ). of_function k e.0 b e.1) (report_block es k h) ∙ one k ∙ sym (report_block (e ∷ es) k h))
  where
    one : (k : ℕ) → of_function k e.0 (block_of (counts_of (suc k) es)) e.1 ≡ block_of (counts_of (suc k) (e ∷ es))
    one k = unfold of_function counts_of in go (eqb e.0 (suc k))
      where
        go : (t : Bool)
            → cond t (block_added (block_of (counts_of (suc k) es)) e.1) (block_of (counts_of (suc k) es))
            ≡ block_of (cond t (e.1 ∷ counts_of (suc k) es) (counts_of (suc k) es))
        go true = block_more e.1 (counts_of (suc k) es)
        go false = refl

-- ---- THE LAW OF ORDER
pub added_order : {es fs : List Entry} → Reordered es fs → (ws : List ℕ) → length ws ≡ 384
    → entries_added ws es ≡ entries_added ws fs
unfolding entries_added
added_order nothing ws h = refl
added_order (kept e r) ws h = added_order r (counted_added ws e.0 e.1) (counted_long ws e.0 e.1 h)
added_order (swapped a b es) ws h =
    ap (λ (v : List ℕ). entries_added v es) (counted_swap ws a.0 b.0 a.1 b.1 h)
added_order (onward p q) ws h = added_order p ws h ∙ added_order q ws h

pub report_order : {es fs : List Entry} → Reordered es fs → report_of es ≡ report_of fs
report_order nothing = refl
report_order (kept e {ps} {bs} r) =
    sym (report_more e ps) ∙ ap (λ (v : List ℕ). counted_added v e.0 e.1) (report_order r) ∙ report_more e bs
report_order (swapped a b es) =
    sym (report_more a (b ∷ es)) ∙ ap (λ (v : List ℕ). counted_added v a.0 a.1) (sym (report_more b es))
    ∙ counted_swap (report_of es) b.0 a.0 b.1 a.1 (report_long es)
    ∙ ap (λ (v : List ℕ). counted_added v b.0 b.1) (report_more a es) ∙ report_more b (a ∷ es)
report_order (onward p q) = report_order p ∙ report_order q

-- an answer in the middle might as well come first
middle : (e : Entry) (es fs : List Entry) → report_of (es ++ e ∷ fs) ≡ report_of (e ∷ (es ++ fs))
middle e [] fs = refl
middle e (d ∷ es) fs =
    sym (report_more d (es ++ e ∷ fs)) ∙ ap (λ (v : List ℕ). counted_added v d.0 d.1) (middle e es fs)
    ∙ report_more d (e ∷ (es ++ fs)) ∙ report_order (swapped d e (es ++ fs))

-- answers added to a report give the report of both lists
pub report_added : (es fs : List Entry) → entries_added (report_of fs) es ≡ report_of (es ++ fs)
unfolding entries_added
report_added [] fs = refl
report_added (e ∷ es) fs =
    ap (λ (v : List ℕ). entries_added v es) (report_more e fs) ∙ report_added es (e ∷ fs) ∙ middle e es fs

-- ---- TWO REPORTS JOINED, block by block
module _ (os : List ℕ) (o : length os ≡ 384) where
  blocks_long : (left k : ℕ) (ws : List ℕ) → k + left ≤ 6 → length ws ≡ 384 → length (blocks_joined k left ws os) ≡ 384
  unfolding blocks_joined
  blocks_long zero k ws l h = h
  blocks_long (suc left) k ws l h =
      blocks_long left (suc k) _ (omega arith)
      (with_long ws (block_joined (block_in ws k) (block_in os k)) k h
      (joined_length (block_in ws k) (block_in os k) (block_long ws k h (omega arith)) (block_long os k o (omega arith)))
      (omega arith))

  blocks_before : (left k : ℕ) (ws : List ℕ) → k + left ≤ 6 → length ws ≡ 384 → (j : ℕ) → j < k
      → block_in (blocks_joined k left ws os) j ≡ block_in ws j
  unfolding blocks_joined
  blocks_before zero k ws l h j m = refl
  blocks_before (suc left) k ws l h j m =
      let b = block_joined (block_in ws k) (block_in os k) in
      let n = joined_length (block_in ws k) (block_in os k) (block_long ws k h (omega arith)) (block_long os k o (omega arith)) in
      blocks_before left (suc k) (with_block ws k b) (omega arith) (with_long ws b k h n (omega arith)) j (omega arith)
      ∙ with_other ws b k h n (omega arith) j (omega arith) (λ e. omega arith)

  blocks_at : (left k : ℕ) (ws : List ℕ) → k + left ≤ 6 → length ws ≡ 384 → (j : ℕ) → k ≤ j → j < k + left
      → block_in (blocks_joined k left ws os) j ≡ block_joined (block_in ws j) (block_in os j)
  unfolding blocks_joined
  blocks_at zero k ws l h j m n = absurd (omega arith)
  blocks_at (suc left) k ws l h j m n =
      go (eqb k j) refl (blocks_at left (suc k) (with_block ws k b) (omega arith) (with_long ws b k h long (omega arith)) j)
    where
      b : List ℕ
      b = block_joined (block_in ws k) (block_in os k)

      long : length b ≡ 64
      long = joined_length (block_in ws k) (block_in os k) (block_long ws k h (omega arith)) (block_long os k o (omega arith))

      go : (t : Bool) → eqb k j ≡ t
          → (suc k ≤ j → j < suc k + left
          → block_in (blocks_joined (suc k) left (with_block ws k b) os) j ≡ block_joined (block_in (with_block ws k b) j)
          (block_in os j))
          → block_in (blocks_joined (suc k) left (with_block ws k b) os) j ≡ block_joined (block_in ws j) (block_in os j)
      go true e rest =
          let f = eqb-true k j e in
          rw (← f)
          (blocks_before left (suc k) (with_block ws k b) (omega arith) (with_long ws b k h long (omega arith)) k (omega arith)
          ∙ with_same ws b k h long (omega arith))
      go false e rest =
          let f = eqb-false k j e in
          rest (omega (arith, f)) (omega arith)
          ∙ ap (λ (c : List ℕ). block_joined c (block_in os j))
          (with_other ws b k h long (omega arith) j (omega arith) (λ g. f (sym g)))

module _ (ws os : List ℕ) (h : length ws ≡ 384) (o : length os ≡ 384) where
  is_joined : words_joined ws os ≡ blocks_joined 0 6 ws os
  unfolding words_joined
  is_joined = rw (eq-eqb (length ws) 384 h, eq-eqb (length os) 384 o)

  pub words_long : length (words_joined ws os) ≡ 384
  words_long = ap length is_joined ∙ blocks_long os o 6 0 ws (omega arith) h

  pub words_block : (k : ℕ) → k < 6 → block_in (words_joined ws os) k ≡ block_joined (block_in ws k) (block_in os k)
  words_block k l = ap (λ (v : List ℕ). block_in v k) is_joined
      ∙ blocks_at os o 6 0 ws (omega arith) h k (omega arith) (omega arith)

-- "Two partial reports can be joined, and the result is the report of both lists"
counts_both : (f : ℕ) (es fs : List Entry) → counts_of f (es ++ fs) ≡ counts_of f es ++ counts_of f fs
unfolding counts_of
counts_both f [] fs = refl
counts_both f (e ∷ es) fs = go (eqb e.0 f) (counts_both f es fs)
  where
    go : (t : Bool) → counts_of f (es ++ fs) ≡ counts_of f es ++ counts_of f fs
        → cond t (e.1 ∷ counts_of f (es ++ fs)) (counts_of f (es ++ fs))
        ≡ cond t (e.1 ∷ counts_of f es) (counts_of f es) ++ counts_of f fs
    go true h = ap (λ (l : List Counted). e.1 ∷ l) h
    go false h = h

pub report_joined : (es fs : List Entry) → words_joined (report_of es) (report_of fs) ≡ report_of (es ++ fs)
report_joined es fs =
    let h = report_long es in
    let k = report_long fs in
    by_blocks _ _ (words_long (report_of es) (report_of fs) h k) (report_long (es ++ fs))
    (λ j l.
    words_block (report_of es) (report_of fs) h k j l ∙ ap₂ block_joined (report_block es j l) (report_block fs j l)
    ∙ block_both (counts_of (suc j) es) (counts_of (suc j) fs)
    ∙ ap block_of (sym (counts_both (suc j) es fs)) ∙ sym (report_block (es ++ fs) j l))

-- ---- THE LAWS OF JOINING, of any words
pub words_comm : (ws os : List ℕ) → length ws ≡ 384 → length os ≡ 384 → words_joined ws os ≡ words_joined os ws
words_comm ws os h o =
    by_blocks _ _ (words_long ws os h o) (words_long os ws o h)
    (λ k l.
    words_block ws os h o k l ∙ join_comm (block_in ws k) (block_in os k) (block_long ws k h l) (block_long os k o l)
    ∙ sym (words_block os ws o h k l))

pub words_assoc : (ws os vs : List ℕ) → length ws ≡ 384 → length os ≡ 384 → length vs ≡ 384
    → words_joined (words_joined ws os) vs ≡ words_joined ws (words_joined os vs)
words_assoc ws os vs h o v =
    let p = words_long ws os h o in
    let q = words_long os vs o v in
    by_blocks _ _ (words_long (words_joined ws os) vs p v) (words_long ws (words_joined os vs) h q)
    (λ k l.
    words_block (words_joined ws os) vs p v k l ∙ ap (λ (b : List ℕ). block_joined b (block_in vs k)) (words_block ws os h o k l)
    ∙ join_assoc (block_in ws k) (block_in os k) (block_in vs k) (block_long ws k h l) (block_long os k o l) (block_long vs k v l)
    ∙ sym (words_block ws (words_joined os vs) h q k l ∙ ap (block_joined (block_in ws k)) (words_block os vs o v k l)))
