-- A text that is written part by part: the text of the first parts, the room that they ask for, and what a loop that writes them
-- keeps. Assumes nothing.
use Prim.Native.Nat.{ℕ, zero, suc, ◌+◌, ◌≤◌, ◌<◌}
use Rattle.std.specs.Prelude.{◌≡◌, List, [], ◌++◌, length}
use Rattle.std.proofs.Math.Logic.{inl, inr}
use Rattle.std.proofs.Math.Nat.{le_refl}
use Rattle.std.proofs.Math.Numerals.{add-one}
use native.Mathlib.Omega.{arith}
use Rattle.std.proofs.Math.ListN.{length-append}
use Rattle.algebra.specs.Order.{lt_or_le}
use Rattle.writing.specs.Written.{Put, Tried, tried_put, put_more, put_length, put_none}

-- `part i` is the part after the first i
module _ {A : Type 0} (text : A → List ℕ) (part : ℕ → A) where
  unfoldable pub run_to : ℕ → List ℕ
  run_to zero = []
  run_to (suc i) = run_to i ++ text (part i)

module _ {A : Type 0} (room : A → ℕ) (part : ℕ → A) where
  unfoldable pub rooms_to : ℕ → ℕ
  rooms_to zero = 0
  rooms_to (suc i) = rooms_to i + room (part i)

  rooms_grow : (i n : ℕ) → i ≤ n → rooms_to i ≤ rooms_to n
  unfolding rooms_to
  rooms_grow i zero h = let z : i ≡ 0 = omega arith in rw z (le_refl 0)
  rooms_grow i (suc n) h = elim (lt_or_le n i) [
    | inl l ↦ let e : i ≡ suc n = omega arith in rw e (le_refl _)
    | inr l ↦ omega (arith, rooms_grow i n l)
  ]

  rooms_next : (i n : ℕ) → i < n → rooms_to i + room (part i) ≤ rooms_to n
  unfolding rooms_to
  rooms_next i n h = rooms_grow (suc i) n h

module _ {A : Type 0} (text : A → List ℕ) (room : A → ℕ) (part : ℕ → A) where
  -- the first i parts were written, and are no longer than the room that they asked for
  pub record Ran (o : List ℕ) (at i : ℕ) (out : List ℕ) (next : ℕ) : Type 0 where
    pub put : Put o at (run_to text part i) out next
    pub short : length (run_to text part i) ≤ rooms_to room part i

  pub run_none : (o : List ℕ) (at : ℕ) → Ran o at 0 o at
  unfolding run_to rooms_to
  run_none o at = record { put = put_none o at; short = le_refl 0 }

  -- one more of n
  module _ {n i at next : ℕ} {o out : List ℕ} (asked : at + rooms_to room part n ≤ length o) (less : i < n)
      (r : Ran o at i out next) (fits : length (text (part i)) ≤ room (part i)) where
    pub run_next : {after : List ℕ} {end : ℕ} → Tried (room (part i)) out next (text (part i)) after end
        → Ran o at (i + 1) after end
    unfolding run_to rooms_to
    run_next t =
        let p = r.put in
        let q = tried_put (omega (arith, p.place, put_length p, r.short, rooms_next room part i n less)) t in
        rw add-one (record { put = put_more p q; short = rw length-append (omega (arith, r.short, fits)) })
