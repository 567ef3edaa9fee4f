-- `put_pieces` meets its contract. The invariant: the first i pieces were written. Assumes nothing.
use Rattle.std.proofs.Common.{◌≡◌, ℕ, ◌+◌, ◌-◌, ◌<◌, ◌≤◌, List, length, ap, ◌∙◌, subst, arith}
use Rattle.writing.specs.Written.{Put, Tried, put_length}
use Rattle.phrases.specs.Pieces.{piece_text, room_of, up_to, room_to}
use Rattle.phrases.specs.PieceLaws.{pieces_none, pieces_next}
use Rattle.phrases.specs.declared.Piece.{Piece}
use Rattle.bench_write.specs.Texts.{said_text}
use Rattle.bench_write.specs.Pieces.{piece_of, pieces_of}
use Rattle.bench_write.specs.PieceLaws.{pieces_are}
use Rattle.bench_write.specs.declared.said.Said.{Said}
use Rattle.bench_write.proofs.write.put_pieces.Goals as goal

module _ (s : Said) {n at : ℕ} {o : List ℕ} (e : n ≡ pieces_of s) (room : at + room_to (piece_of s) (pieces_of s) ≤ length o) where
  more :
      {i next end : ℕ} {out after : List ℕ} (p : Piece) → i < n → p ≡ piece_of s i → Put o at (up_to (piece_of s) i) out next
      → Tried (room_of p) out next (piece_text p) after end → Put o at (up_to (piece_of s) (i + 1)) after end
  more {i} {next} {end} {out} {after} p h is q t =
      pieces_next (piece_of s) {n = pieces_of s} room (rw e at h) q
      (subst (λ (p : Piece). Tried (room_of p) out next (piece_text p) after end) is t)

  all : {i next : ℕ} {out : List ℕ} → i ≤ n → n ≤ i → Put o at (up_to (piece_of s) i) out next → Put o at (said_text s) out next
  all {i} {next} {out} h k p =
      let f : i ≡ n = omega arith in
      subst (λ (l : List ℕ). Put o at l out next) (ap (up_to (piece_of s)) (f ∙ e) ∙ pieces_are s) p

pub loop-i-init : goal.loop-i-init
loop-i-init c =
    pieces_none _ _ _

pub loop-i-preserved : goal.loop-i-preserved
loop-i-preserved c =
    more c.args.said c.requires.n_value c.requires.said_in_bounds _ c.loop-i-test.true c.piece_at.ensures c.loop-i.invariant
    c.put_piece-next.ensures

pub returns : goal.returns
returns c =
    all c.args.said c.requires.n_value c.requires.said_in_bounds c.loop-i.auto.i-end c.loop-i-test.false c.loop-i.invariant
