-- The room that is left for calls. Assumes nothing.
use Rattle.std.specs.Prelude.{Option, Some, None, Ok, Err}
use Prim.Native.Nat.{ℕ, ◌+◌, ◌-◌, ◌≤◌, ◌<◌}
use mathlib.Core.Path.{◌≡◌, refl, sym, ◌∙◌}
use mathlib.Core.Bool.{Bool, true, false, cond}
use mathlib.Core.List.{List}
use mathlib.Core.Logic.{⊎_elim}
use native.Mathlib.Omega.{arith}
use borrow.Author.Tests.{le-leb, lt-leb, leb-true, leb-false}
use lib.Dec.{leb}
use Rattle.std.specs.Option.{is_some}
use Rattle.algebra.specs.Order.{lt_or_le}
use Rattle.refusals.specs.declared.Refusal.TheVariants.{TooMany}
use Rattle.report_words.specs.Words.{calls_in_all, room_after, words_joined}
use Rattle.report_words.specs.Room.{room_for, room_both, join_judged, join_after}

-- what the room that is left tells of the calls
tells : (room calls : ℕ) (r : Option ℕ) → cond (leb calls room) (Some (room - calls)) None ≡ r
    → (t : Option ℕ → Type 0) → ((left : ℕ) → calls + left ≡ room → t (Some left)) → (room < calls → t None) → t r
tells room calls r e t some none = go (leb calls room) refl e
  where
    go : (b : Bool) → leb calls room ≡ b → cond b (Some (room - calls)) None ≡ r → t r
    go true h e = rw e at (some (room - calls) (let l = leb-true calls room h in omega arith))
    go false h e = rw e at (none (leb-false calls room h))

for_left : (ws : List ℕ) (room left : ℕ) → room_after room ws ≡ Some left → calls_in_all ws + left ≡ room
unfolding room_after
for_left ws room left e = tells room (calls_in_all ws) (Some left) e Left (λ l h. h) (λ h. h)
  where
    Left : Option ℕ → Type 0
    Left (Some l) = calls_in_all ws + l ≡ room
    Left None = room < calls_in_all ws

over_calls : (ws : List ℕ) (room : ℕ) → room_after room ws ≡ None → room < calls_in_all ws
unfolding room_after
over_calls ws room e = tells room (calls_in_all ws) None e Left (λ l h. h) (λ h. h)
  where
    Left : Option ℕ → Type 0
    Left (Some l) = calls_in_all ws + l ≡ room
    Left None = room < calls_in_all ws

same_leb : (a b c d : ℕ) → (a ≤ b → c ≤ d) → (b < a → d < c) → leb a b ≡ leb c d
same_leb a b c d p q =
    ⊎_elim (λ h. lt-leb a b h ∙ sym (lt-leb c d (q h))) (λ h. le-leb a b h ∙ sym (le-leb c d (p h))) (lt_or_le b a)

-- ---- of a list
pub for_list : (ws : List ℕ) (n left : ℕ) → room_after 4294967295 ws ≡ Some left → leb n left ≡ room_for ws n
unfolding room_for
for_list ws n left e =
    let f = for_left ws 4294967295 left e in
    same_leb n left (calls_in_all ws + n) 4294967295 (λ h. omega arith) (λ h. omega arith)

pub over_list : (ws : List ℕ) (n : ℕ) → room_after 4294967295 ws ≡ None → false ≡ room_for ws n
unfolding room_for
over_list ws n e = let f = over_calls ws 4294967295 e in sym (lt-leb (calls_in_all ws + n) 4294967295 (omega arith))

-- ---- of another report
some_room : (os : List ℕ) (room : ℕ) → is_some (room_after room os) ≡ leb (calls_in_all os) room
unfolding room_after
some_room os room = go (leb (calls_in_all os) room)
  where
    go : (b : Bool) → is_some (cond b (Some (room - calls_in_all os)) None) ≡ b
    go true = refl
    go false = refl

pub both_left : (ws os : List ℕ) (left : ℕ) → room_after 4294967295 ws ≡ Some left
    → is_some (room_after left os) ≡ room_both ws os
unfolding room_both
both_left ws os left e =
    let f = for_left ws 4294967295 left e in
    some_room os left
    ∙ same_leb (calls_in_all os) left (calls_in_all ws + calls_in_all os) 4294967295 (λ h. omega arith) (λ h. omega arith)

pub both_over : (ws os : List ℕ) → room_after 4294967295 ws ≡ None → false ≡ room_both ws os
unfolding room_both
both_over ws os e =
    let f = over_calls ws 4294967295 e in sym (lt-leb (calls_in_all ws + calls_in_all os) 4294967295 (omega arith))

-- ---- what is answered
module _ (ws os : List ℕ) where
  pub join_done : room_both ws os ≡ true → Ok tt ≡ join_judged ws os
  unfolding join_judged
  join_done e = rw e

  pub join_words : room_both ws os ≡ true → words_joined ws os ≡ join_after ws os
  unfolding join_after
  join_words e = rw e

  pub join_many : room_both ws os ≡ false → Err TooMany ≡ join_judged ws os
  unfolding join_judged
  join_many e = rw e

  pub join_same : room_both ws os ≡ false → ws ≡ join_after ws os
  unfolding join_after
  join_same e = rw e
