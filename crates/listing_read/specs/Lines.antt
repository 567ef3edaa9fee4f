-- The listing's lines (document 01): a name, then each argument as one blank and sixteen upper-case hex digits. Definitions only.
use Rattle.std.specs.Prelude.{ℕ, zero, suc, ◌+◌, ◌*◌, Bool, true, false, ◌&&◌, cond, Option, Some, None, List, [], ◌∷◌, ◌++◌, eqb, length, get_or, take, drop}
use Rattle.digits.specs.Digits.{number_from, word_text}
use Rattle.calls.specs.Calls.{name_of, arguments_of}
use Rattle.calls.specs.declared.Call.{Call}
use Rattle.calls.specs.declared.Call.TheVariants.{Rc, Rf, Rd, Rg, Rj, Cel}

-- ---- how long a line is: its name, and for each argument a blank and sixteen digits
abbrev pub argument_length : ℕ
argument_length = 17

abbrev pub line_length : ℕ → ℕ → ℕ
line_length name arguments = name + arguments * argument_length

-- no good line is longer
abbrev pub longest_line : ℕ
longest_line = line_length 3 4

-- ---- writing
unfoldable pub word_texts : List ℕ → List ℕ
word_texts [] = []
word_texts (x ∷ xs) = word_text x ++ word_texts xs

unfoldable pub line_of : Call → List ℕ
line_of c = name_of c ++ word_texts (arguments_of c)

-- ---- reading
-- the argument whose blank stands at i
unfoldable pub word_at : List ℕ → ℕ → Option ℕ
word_at l i = cond (eqb (get_or l i 0) 32) (number_from 16 0 (take 16 (drop (i + 1) l))) None

-- an argument in front of others, where all are there
abbrev pub and_then : Option ℕ → Option (List ℕ) → Option (List ℕ)
and_then (Some x) (Some xs) = Some (x ∷ xs)
and_then (Some x) None = None
and_then None ws = None

-- so many arguments, or none of them where one is in another form
unfoldable pub words_at : ℕ → List ℕ → ℕ → Option (List ℕ)
words_at zero l i = Some []
words_at (suc k) l i = and_then (word_at l i) (words_at k l (i + argument_length))

-- the same bytes
unfoldable pub same : List ℕ → List ℕ → Bool
same [] [] = true
same [] (b ∷ m) = false
same (a ∷ l) [] = false
same (a ∷ l) (b ∷ m) = eqb a b && same l m

-- that call, if it has that name
abbrev pub called_by : List ℕ → Call → Option Call → Option Call
called_by name c other = cond (same name (name_of c)) (Some c) other

-- the call of that name, of those that have as many arguments
unfoldable pub named : List ℕ → Option (List ℕ) → Option Call
named name (Some (x ∷ y ∷ [])) = called_by name (Rc x y) None
named name (Some (x ∷ y ∷ z ∷ [])) = called_by name (Rf x y z) (called_by name (Rd x y z) (called_by name (Rg x y z) None))
named name (Some (x ∷ y ∷ z ∷ p ∷ [])) = called_by name (Rj x y z p) (called_by name (Cel x y z p) None)
named name (Some []) = None
named name (Some (x ∷ [])) = None
named name (Some (x ∷ y ∷ z ∷ p ∷ q ∷ ws)) = None
named name None = None

-- a name of n bytes and k arguments
abbrev pub read_as : ℕ → ℕ → List ℕ → Option Call
read_as n k l = named (take n l) (words_at k l n)

unfoldable pub call_of : List ℕ → Option Call
call_of l =
    cond (eqb (length l) (line_length 2 2)) (read_as 2 2 l)
    (cond (eqb (length l) (line_length 2 3)) (read_as 2 3 l)
    (cond (eqb (length l) (line_length 2 4)) (read_as 2 4 l) (cond (eqb (length l) (line_length 3 4)) (read_as 3 4 l) None)))
