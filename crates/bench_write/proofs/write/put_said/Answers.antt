-- `put_said` meets its contract: where there is room, the name, if it is shown, then the rest. Assumes nothing.
use Rattle.std.proofs.Common.{◌≡◌, ℕ, ◌+◌, ◌≤◌, min, Bool, leb, List, length, take, sym, refl, ap, ◌∙◌, arith, length-take, length-take-le, rules}
use native.Mathlib.Nat.{min-le_left}
use Rattle.writing.specs.Parts.{take_least}
use Rattle.writing.specs.Written.{Put, Tried, there, tried_put, tried_there, tried_lacking, put_more, put_length}
use Rattle.phrases.specs.Pieces.{room_to}
use Rattle.bench_write.specs.Texts.{said_text, shown_of, text_under, longest_of}
use Rattle.bench_write.specs.Pieces.{piece_of, pieces_of, shape_of}
use Rattle.bench_write.specs.PieceLaws.{pieces_fit}
use Rattle.bench_write.specs.declared.said.Said.{Said}
use Rattle.bench_write.specs.declared.said.Shape.{Shape}
use Rattle.bench_write.proofs.write.put_said.Goals as goal

module _ (s : Said) {S : Shape} (f : S ≡ shape_of s) where
  shown-is : S.shown ≡ shown_of s
  unfolding shape_of
  shown-is = ap (λ (t : Shape). t.shown) f

  pieces-is : S.pieces ≡ pieces_of s
  unfolding shape_of
  pieces-is = ap (λ (t : Shape). t.pieces) f

  asked : (at n : ℕ) {t : Bool} → t ≡ leb (at + S.longest) n → t ≡ leb (at + longest_of s) n
  unfolding shape_of
  asked at n e = e ∙ ap (λ (t : Shape). leb (at + t.longest) n) f

  module _ (name : List ℕ) {r : ℕ} (e : r ≡ min (length name) S.shown) where
    named : take r name ≡ take (shown_of s) name
    named = take_least name (length name) S.shown r refl e ∙ ap (λ (m : ℕ). take m name) shown-is

    short : length (take r name) ≤ shown_of s
    short = rw (named, length-take) (min-le_left (shown_of s) (length name))

    module _ {o half : List ℕ} {at after : ℕ} (room : at + longest_of s ≤ length o)
        (t : Tried (length (take r name)) o at (take r name) half after) where
      led : Put o at (take r name) half after
      led = tried_put (omega (arith, short, pieces_fit s)) t

      left : after + room_to (piece_of s) (pieces_of s) ≤ length half
      left = omega (arith, led.place, put_length led, short, pieces_fit s)

      all : {out : List ℕ} {end : ℕ} → Put half after (said_text s) out end → Put o at (text_under s name) out end
      unfolding text_under
      all p = put_more (rw named at led) p

pub put_pieces-requires : goal.put_pieces-requires
put_pieces-requires c =
    let s = c.args.said in let f = c.shape_of-shape.ensures in let room = there (asked s f _ _ c.has_room.ensures) c.if-has_room.true in record { n_value = pieces-is s f; said_in_bounds = left s f _ c.least.ensures.2 room c.put_text-after.ensures }

pub returns-then-has_room : goal.returns-then-has_room
returns-then-has_room c =
    let s = c.args.said in
    let f = c.shape_of-shape.ensures in
    let e = asked s f _ _ c.has_room.ensures in
    let y = c.if-has_room.true in
    tried_there e y (all s f _ c.least.ensures.2 (there e y) c.put_text-after.ensures c.put_pieces.ensures)

pub returns : goal.returns
returns c =
    tried_lacking (asked c.args.said c.shape_of-shape.ensures _ _ c.has_room.ensures)
    c.if-has_room.false
