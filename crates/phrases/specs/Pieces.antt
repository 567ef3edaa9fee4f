-- A text in pieces: what each is, how much room it asks for, and the text of the first of them. Definitions only.
use Rattle.std.specs.Prelude.{ℕ, zero, suc, ◌+◌, ◌/◌, ◌%◌, List, [], ◌∷◌, ◌++◌}
use Rattle.digits.specs.Digits.{digits}
use Rattle.writing.specs.Decimal.{decimal}
use Rattle.phrases.specs.declared.Piece.{Piece}
use Rattle.phrases.specs.declared.Piece.TheVariants.{Letters, Number, Places, Bits}

-- the last k bytes of a number, the highest first
unfoldable pub letters : ℕ → ℕ → List ℕ
letters zero n = []
letters (suc k) n = letters k (n / 256) ++ (n % 256 ∷ [])

unfoldable pub piece_text : Piece → List ℕ
piece_text (Letters n k) = letters k n
piece_text (Number n) = decimal 19 n
piece_text (Places n k) = digits 10 k n
piece_text (Bits n) = digits 16 16 n

-- a number has twenty digits at most
unfoldable pub room_of : Piece → ℕ
room_of (Letters n k) = k
room_of (Number n) = 20
room_of (Places n k) = k
room_of (Bits n) = 16

-- ---- a text of which `piece i` is the piece after the first i: these, and the room that they ask for
module _ (piece : ℕ → Piece) where
  unfoldable pub up_to : ℕ → List ℕ
  up_to zero = []
  up_to (suc i) = up_to i ++ piece_text (piece i)

  unfoldable pub room_to : ℕ → ℕ
  room_to zero = 0
  room_to (suc i) = room_to i + room_of (piece i)
