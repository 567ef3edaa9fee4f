-- The numbers of a line, taken word by word. Assumes nothing.
use Rattle.std.specs.Prelude.{◌≡◌, ℕ, zero, suc, ◌-◌, ◌<◌, ◌≤◌, Bool, true, false, cond, Result, Ok, Err, List, length, take, drop, nat_lt, to_bits, refl, Float}
use Rattle.std.proofs.Common.{sym, ap, ap₂, ◌∙◌, arith, lt-ltb, le-ltb, ltb-true}
use Rattle.std.specs.Float.{binary64}
use Rattle.decimal_read.specs.Read.{read_of}
use Rattle.decimal_read.specs.declared.NoDecimal.{NoDecimal}
use Rattle.spoken_parts.specs.declared.said.Bad.{Bad}
use Rattle.spoken_read.specs.Words.{begins_at, ends_at, word_at}
use Rattle.spoken_read.specs.WordLaws.{begins_later, ends_later}
use Rattle.spoken_read.specs.Numbers.{with_number, told_at, taken_by, taken_from}
use Rattle.spoken_read.specs.declared.numbers.Numbers.{Numbers}

-- what goes on alike takes alike
by_same : (f g : Numbers → Result Numbers Bad) (at : ℕ) (so : Numbers) (r : Result Float NoDecimal) → ((s : Numbers) → f s ≡ g s)
    → taken_by f at so r ≡ taken_by g at so r
unfolding taken_by
by_same f g at so (Ok x) h = h (with_number so (to_bits binary64 x))
by_same f g at so (Err why) h = refl

-- past the line's end there is no word
ended : (n : ℕ) (l : List ℕ) (at : ℕ) (so : Numbers) → length l ≤ at → taken_from n l at so ≡ Ok so
unfolding taken_from
ended zero l at so h = refl
ended (suc n) l at so h = rw (le-ltb at (length l) h)

-- the next word, which begins later
abbrev next_at : List ℕ → ℕ → ℕ
next_at l at = begins_at l (ends_at l at)

later : (l : List ℕ) (at : ℕ) → at < next_at l at
later l at = omega (arith, ends_later l at, begins_later l (ends_at l at))

-- turns enough are turns enough: each goes on by a byte at least
enough : (m n : ℕ) (l : List ℕ) (at : ℕ) (so : Numbers) → length l - at ≤ m → length l - at ≤ n
    → taken_from m l at so ≡ taken_from n l at so
unfolding taken_from
enough zero n l at so h k = sym (ended n l at so (omega arith))
enough (suc m) zero l at so h k = ended (suc m) l at so (omega arith)
enough (suc m) (suc n) l at so h k = go (nat_lt at (length l)) refl (λ a b s. enough m n l (next_at l at) s a b)
  where
    go : (t : Bool) → nat_lt at (length l) ≡ t
        → (length l - next_at l at ≤ m → length l - next_at l at ≤ n
        → (s : Numbers) → taken_from m l (next_at l at) s ≡ taken_from n l (next_at l at) s)
        → cond t (taken_by (taken_from m l (next_at l at)) at so (read_of (word_at l at))) (Ok so)
        ≡ cond t (taken_by (taken_from n l (next_at l at)) at so (read_of (word_at l at))) (Ok so)
    go true e more =
        let some = ltb-true at (length l) e in
        let less = later l at in
        by_same (taken_from m l (next_at l at)) (taken_from n l (next_at l at)) at so (read_of (word_at l at))
        (more (omega arith) (omega arith))
    go false e more = refl

module _ (l : List ℕ) (at end : ℕ) (so : Numbers) where
  step : (n : ℕ) → at < length l
      → taken_from (suc n) l at so ≡ taken_by (taken_from n l (next_at l at)) at so (read_of (word_at l at))
  unfolding taken_from
  step n h = rw (lt-ltb at (length l) h)

  -- the word as the code cuts it out
  word : end ≡ ends_at l at → word_at l at ≡ take (end - at) (drop at l)
  unfolding word_at
  word p = rw (← p)

  -- one word taken, and the rest with as many turns
  on : (r : Result Float NoDecimal) → at < length l → end ≡ ends_at l at → r ≡ read_of (take (end - at) (drop at l))
      → taken_from (length l) l at so ≡ taken_by (taken_from (length l) l (begins_at l end)) at so r
  on r h p e =
      enough (length l) (suc (length l)) l at so (omega arith) (omega arith) ∙ step (length l) h
      ∙ ap₂ (λ (k : ℕ) (v : Result Float NoDecimal). taken_by (taken_from (length l) l (begins_at l k)) at so v) (sym p)
      (ap read_of (word p) ∙ sym e)

  pub taken_number : {r : Result Float NoDecimal} {x : Float} → at < length l → end ≡ ends_at l at
      → r ≡ read_of (take (end - at) (drop at l)) → r ≡ Ok x
      → taken_from (length l) l at so ≡ taken_from (length l) l (begins_at l end) (with_number so (to_bits binary64 x))
  unfolding taken_by
  taken_number {r} {x} h p e k = on (Ok x) h p (sym k ∙ e)

  pub taken_none : {r : Result Float NoDecimal} {why : NoDecimal} → at < length l → end ≡ ends_at l at
      → r ≡ read_of (take (end - at) (drop at l)) → r ≡ Err why
      → taken_from (length l) l at so ≡ Err (told_at at why)
  unfolding taken_by
  taken_none {r} {why} h p e k = on (Err why) h p (sym k ∙ e)

pub taken_all : (l : List ℕ) (at : ℕ) (so : Numbers) → length l ≤ at → taken_from (length l) l at so ≡ Ok so
taken_all l at so h = ended (length l) l at so h
