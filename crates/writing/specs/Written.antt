-- Bytes written into a longer list, one run after the other. Assumes nothing.
use Rattle.std.specs.Prelude.{ℕ, suc, ◌+◌, ◌≤◌, ◌≡◌, refl, Bool, true, false, cond, List, [], ◌∷◌, ◌++◌, leb, ltb, length, set}
use Rattle.std.proofs.Common.{sym, ap, ◌∙◌, ⊎_elim, add-zero, add-suc, suc-add, arith, le-leb, leb-true, lt-ltb, le-ltb, length-append}
use Rattle.std.proofs.lemmas.List.Edits.{sets}
use Rattle.std.proofs.Math.Seq.{length-sets}
use Rattle.std.proofs.lemmas.List.{set_comm}
use Rattle.algebra.specs.Order.{lt_or_le}

-- `out` is `before` with `text` written over it from `at` on, and `next` is the place after that
pub record Put (before : List ℕ) (at : ℕ) (text out : List ℕ) (next : ℕ) : Type 0 where
  pub bytes : out ≡ sets before at text
  pub place : next ≡ at + length text

-- the same where `room` bytes fit after the first `at`; elsewhere nothing is written and the place stays
pub record Tried (room : ℕ) (before : List ℕ) (at : ℕ) (text out : List ℕ) (next : ℕ) : Type 0 where
  pub bytes : out ≡ cond (leb (at + room) (length before)) (sets before at text) before
  pub place : next ≡ cond (leb (at + room) (length before)) (at + length text) at

pub tried_put :
    {room : ℕ} {before text out : List ℕ} {at next : ℕ} → at + room ≤ length before → Tried room before at text out next
    → Put before at text out next
tried_put {room} {before} {text} {out} {at} h t =
    record {
      bytes = rw (le-leb (at + room) (length before) h) at t.bytes;
      place =
          rw (le-leb (at + room) (length before) h) at t.place;
    }

-- ---- a function that tests for room, `has_room(out.len(), at, room)`, and then writes or leaves the place as it is
pub there : {t : Bool} {n l : ℕ} → t ≡ leb n l → t ≡ true → n ≤ l
there {t} {n} {l} e f = leb-true n l (sym e ∙ f)

pub tried_there :
    {t : Bool} {room : ℕ} {before text out : List ℕ} {at next : ℕ} → t ≡ leb (at + room) (length before) → t ≡ true
    → Put before at text out next → Tried room before at text out next
tried_there e f p = record { bytes = rw (sym e ∙ f) p.bytes; place = rw (sym e ∙ f) p.place }

pub tried_lacking :
    {t : Bool} {room : ℕ} {before text : List ℕ} {at : ℕ} → t ≡ leb (at + room) (length before) → t ≡ false
    → Tried room before at text before at
tried_lacking e f = record { bytes = rw (sym e ∙ f); place = rw (sym e ∙ f) }

-- how many of `size` bytes are held after one more: a byte past the end is lost, and so is `set` there
unfoldable pub pushed : ℕ → ℕ → ℕ
pushed n size = cond (ltb n size) (n + 1) n

pub pushed_most : (n size r : ℕ) → n ≤ size → r ≡ pushed n size → r ≤ size
unfolding pushed
pushed_most n size r h e =
    ⊎_elim (λ k. omega (arith, rw (lt-ltb n size k) at e)) (λ k. omega (arith, rw (le-ltb n size k) at e)) (lt_or_le n size)

-- ---- a run after a run is one run
sets_more : (vs ws l : List ℕ) (i : ℕ) → sets (sets l i vs) (i + length vs) ws ≡ sets l i (vs ++ ws)
sets_more [] ws l i = rw add-zero
sets_more (v ∷ vs) ws l i = rw (add-suc, ← suc-add) (sets_more vs ws (set l i v) (suc i))

pub put_more :
    {before middle out vs ws : List ℕ} {at next end : ℕ} → Put before at vs middle next → Put middle next ws out end
    → Put before at (vs ++ ws) out end
put_more {before} {middle} {out} {vs} {ws} {at} {next} {end} p q = record {
  bytes = q.bytes ∙ rw (p.bytes, p.place) (sets_more vs ws before at);
  place = rw length-append (omega (arith, p.place, q.place));
}

pub put_length : {before text out : List ℕ} {at next : ℕ} → Put before at text out next → length out ≡ length before
put_length {before} {text} {out} {at} p = ap length p.bytes ∙ length-sets before at text

-- the place after a text that is no longer than that
pub place_most : {before text out : List ℕ} {at next : ℕ} (k : ℕ) → Put before at text out next → length text ≤ k → next ≤ at + k
place_most k p h = omega (arith, p.place)

-- no byte
pub put_none : (before : List ℕ) (at : ℕ) → Put before at [] before at
put_none before at = record { bytes = refl; place = sym (add-zero at) }

-- one byte
pub put_byte : (before : List ℕ) (at b : ℕ) → Put before at (b ∷ []) (set before at b) (at + 1)
put_byte before at b = record { bytes = refl; place = refl }

-- ---- a byte first at the end of the run, then the rest before it
pub sets_last : (vs l : List ℕ) (i b : ℕ) → sets (set l (i + length vs) b) i vs ≡ sets l i (vs ++ b ∷ [])
sets_last [] l i b = rw add-zero
sets_last (v ∷ vs) l i b =
    ap (λ (m : List ℕ). sets m (suc i) vs) (set_comm l (i + suc (length vs)) i b v (λ e. omega arith))
    ∙ rw (add-suc, ← suc-add) (sets_last vs (set l i v) (suc i) b)
