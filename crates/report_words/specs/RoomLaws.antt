-- 18 exactly when the calls in all would pass 2 ^ 32 - 1, in whatever order reports are joined. Assumes nothing.
use Prim.Native.Nat.{ℕ, zero, suc, ◌+◌, ◌-◌, ◌*◌, ◌%◌, ◌^◌, ◌≤◌, ◌<◌}
use Rattle.std.specs.Prelude.{◌≡◌, Bool, ◌&&◌, length}
use Rattle.std.proofs.Math.Path.{refl, sym, ap}
use Rattle.std.proofs.Common.{◌∙◌, add-zero}
use Rattle.std.proofs.Math.Bool.{true, false}
use mathlib.Core.List.{List}
use Rattle.std.proofs.Math.Nat.{mod-eq_of_lt}
use native.Mathlib.Omega.{arith}
use borrow.Author.Tests.{lt-leb, eq-eqb, leb-true, leb-false}
use Rattle.std.proofs.Math.Dec.{leb}
use Rattle.std.proofs.Math.ListN.{get_or}
use Rattle.tally.specs.Tally.{word_joined}
use Rattle.tally.specs.JoinLaws.{word_joined_lem}
use Rattle.report_words.specs.Words.{block_in, calls_in, calls_in_all, words_joined}
use Rattle.report_words.specs.Room.{most_calls, room_both, join_judged}
use Rattle.report_words.specs.BlockLaws.{block_word, block_long}
use Rattle.report_words.specs.ReportLaws.{words_long, words_block}

calls_are : (ws : List ℕ) → length ws ≡ 384 → calls_in_all ws ≡ calls_in 6 ws
unfolding calls_in_all
calls_are ws h = rw (eq-eqb (length ws) 384 h)

calls_grow : (left k : ℕ) (ws : List ℕ) → calls_in k ws ≤ calls_in (k + left) ws
unfolding calls_in
calls_grow zero k ws = rw add-zero (omega arith)
calls_grow (suc left) k ws =
    let e : k + suc left ≡ suc (k + left) = omega arith in rw e (omega (arith, calls_grow left k ws))

-- one function's calls are not more than all
calls_step : (k n : ℕ) (ws : List ℕ) → calls_in (suc k) ws ≤ n → get_or ws (k * 64) 0 ≤ n
unfolding calls_in
calls_step k n ws g = omega arith

calls_part : (k : ℕ) (ws : List ℕ) → k < 6 → get_or ws (k * 64) 0 ≤ calls_in 6 ws
calls_part k ws h =
    let e : suc k + (5 - k) ≡ 6 = omega arith in
    let g : calls_in (suc k) ws ≤ calls_in 6 ws = rw e at (calls_grow (5 - k) (suc k) ws) in
    calls_step k (calls_in 6 ws) ws g

module _ (ws os : List ℕ) (h : length ws ≡ 384) (o : length os ≡ 384) where
  -- the calls of both, where they are not too many
  one : calls_in 6 ws + calls_in 6 os ≤ most_calls → (k : ℕ) → k < 6
      → get_or (words_joined ws os) (k * 64) 0 ≡ get_or ws (k * 64) 0 + get_or os (k * 64) 0
  unfolding word_joined
  one few k l =
      let p = calls_part k ws l in
      let q = calls_part k os l in
      ap (λ (n : ℕ). get_or (words_joined ws os) n 0) (sym (add-zero (k * 64)))
      ∙ sym (block_word (words_joined ws os) k 0 (omega arith)) ∙ ap (λ (b : List ℕ). get_or b 0 0) (words_block ws os h o k l)
      ∙ word_joined_lem (block_in ws k) (block_in os k) (block_long ws k h l) (block_long os k o l) 0 (omega arith)
      ∙ both (block_word ws k 0 (omega arith) ∙ ap (λ (n : ℕ). get_or ws n 0) (add-zero (k * 64)))
      (block_word os k 0 (omega arith) ∙ ap (λ (n : ℕ). get_or os n 0) (add-zero (k * 64)))
      ∙ mod-eq_of_lt (omega arith)
    where
      both : {v w : ℕ} → get_or (block_in ws k) 0 0 ≡ v → get_or (block_in os k) 0 0 ≡ w
          → (get_or (block_in ws k) 0 0 + get_or (block_in os k) 0 0) % 2 ^ 64 ≡ (v + w) % 2 ^ 64
      both e f = rw (e, f)

  calls_upto : calls_in 6 ws + calls_in 6 os ≤ most_calls → (k : ℕ) → k ≤ 6
      → calls_in k (words_joined ws os) ≡ calls_in k ws + calls_in k os
  unfolding calls_in
  calls_upto few zero l = refl
  calls_upto few (suc k) l =
      let e = calls_upto few k (omega arith) in
      let f = one few k (omega arith) in
      omega arith

  pub calls_both : room_both ws os ≡ true → calls_in_all (words_joined ws os) ≡ calls_in_all ws + calls_in_all os
  unfolding room_both
  calls_both e =
      let r = leb-true (calls_in_all ws + calls_in_all os) most_calls e in
      let a = calls_are ws h in
      let b = calls_are os o in
      let c = calls_are (words_joined ws os) (words_long ws os h o) in
      let d = calls_upto (omega arith) 6 (omega arith) in
      omega arith

-- ---- three reports, joined in either way, are refused alike: where the calls in all are too many
module _ (ws os vs : List ℕ) (h : length ws ≡ 384) (o : length os ≡ 384) (v : length vs ≡ 384) where
  abbrev all : ℕ
  all = calls_in_all ws + calls_in_all os + calls_in_all vs

  pub first_two : (room_both ws os && room_both (words_joined ws os) vs) ≡ leb all most_calls
  unfolding room_both
  first_two = go (leb (calls_in_all ws + calls_in_all os) most_calls) refl
    where
      go : (t : Bool) → leb (calls_in_all ws + calls_in_all os) most_calls ≡ t
          → (t && leb (calls_in_all (words_joined ws os) + calls_in_all vs) most_calls) ≡ leb all most_calls
      go true e = ap (λ (n : ℕ). leb (n + calls_in_all vs) most_calls) (calls_both ws os h o (unfold room_both in e))
      go false e =
          sym (lt-leb all most_calls (let l = leb-false (calls_in_all ws + calls_in_all os) most_calls e in omega arith))

  pub last_two : (room_both os vs && room_both ws (words_joined os vs)) ≡ leb all most_calls
  unfolding room_both
  last_two = go (leb (calls_in_all os + calls_in_all vs) most_calls) refl
    where
      go : (t : Bool) → leb (calls_in_all os + calls_in_all vs) most_calls ≡ t
          → (t && leb (calls_in_all ws + calls_in_all (words_joined os vs)) most_calls) ≡ leb all most_calls
      go true e =
          let f = calls_both os vs o v (unfold room_both in e) in
          let g : calls_in_all ws + calls_in_all (words_joined os vs) ≡ all = omega arith in
          ap (λ (n : ℕ). leb n most_calls) g
      go false e =
          sym (lt-leb all most_calls (let l = leb-false (calls_in_all os + calls_in_all vs) most_calls e in omega arith))

-- ---- and two, whichever comes first
pub join_judged_comm : (ws os : List ℕ) → join_judged ws os ≡ join_judged os ws
unfolding join_judged room_both
join_judged_comm ws os = let e : calls_in_all ws + calls_in_all os ≡ calls_in_all os + calls_in_all ws = omega arith in rw e
