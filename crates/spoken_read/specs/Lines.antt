-- What is said to a line: a function's name in either case and as many decimals as it wants. Definitions only.
use Rattle.std.specs.Prelude.{ℕ, ◌+◌, ◌*◌, ◌%◌, ◌^◌, cond, Option, Some, None, Result, Ok, Err, List, [], ◌∷◌, length, ◌==◌, from_bits, nat_lt}
use Rattle.std.specs.Float.{binary64}
use Rattle.root.specs.Root.{root}
use Rattle.series.specs.Atan.{atan}
use Rattle.series.specs.Ln.{ln}
use Rattle.series.specs.Ln1p.{ln_1p}
use Rattle.carlson.specs.Answer.{Answer}
use Rattle.calls.specs.declared.Call.{Call}
use Rattle.calls.specs.declared.Call.TheVariants.{Rc as CallRc, Rf as CallRf, Rd as CallRd}
use Rattle.calls.specs.declared.Call.TheVariants.{Rg as CallRg, Rj as CallRj, Cel as CallCel}
use Rattle.answers.specs.Answers.{answer_of}
use Rattle.spoken_parts.specs.declared.said.Bad.{Bad}
use Rattle.spoken_parts.specs.declared.said.Bad.TheVariants.{NoFunction, Wanted, TooLong}
use Rattle.spoken_parts.specs.declared.said.Said.{Said}
use Rattle.spoken_parts.specs.declared.said.Said.TheVariants.{Nothing, Value, Leaf, Refused}
use Rattle.spoken_parts.specs.declared.said.Said.TheVariants.{Bad as NoCall}
use Rattle.spoken_read.specs.Words.{begins_at, ends_at, word_at}
use Rattle.spoken_read.specs.Numbers.{taken_of}
use Rattle.spoken_read.specs.declared.numbers.Numbers.{Numbers}
use Rattle.spoken_read.specs.declared.said.Function.{Function}
use Rattle.spoken_read.specs.declared.said.Function.TheVariants.{Rc, Rf, Rd, Rg, Rj, Cel, Sqrt, Ln, Ln1p, Atan}

-- ---- the name
unfoldable pub lower_of : ℕ → ℕ
lower_of b = cond (nat_lt b 65) b (cond (nat_lt 90 b) b (b + 32))

-- a word's bytes in lower case as one number, after a 1 that keeps those in front from being lost; of a longer word 0
unfoldable pub spelled_from : ℕ → List ℕ → ℕ
spelled_from n [] = n
spelled_from n (b ∷ l) = spelled_from (n % 2 ^ 40 * 256 + lower_of b) l

unfoldable pub spelled_of : List ℕ → ℕ
spelled_of word = cond (nat_lt 5 (length word)) 0 (spelled_from 1 word)

-- rc, rf, rd, rg, rj, cel, sqrt, ln, ln_1p, atan
unfoldable pub called_by : ℕ → Option Function
called_by n =
    cond (n == 0x1_7263) (Some Rc)
    (cond (n == 0x1_7266) (Some Rf)
    (cond (n == 0x1_7264) (Some Rd)
    (cond (n == 0x1_7267) (Some Rg)
    (cond (n == 0x1_726a) (Some Rj)
    (cond (n == 0x163_656c) (Some Cel)
    (cond (n == 0x1_7371_7274) (Some Sqrt)
    (cond (n == 0x1_6c6e) (Some Ln)
    (cond (n == 0x16c_6e5f_3170) (Some Ln1p)
    (cond (n == 0x1_6174_616e) (Some Atan) None)))))))))

unfoldable pub called_of : List ℕ → Option Function
called_of word = called_by (spelled_of word)

unfoldable pub wants_of : Function → ℕ
wants_of Rc = 2
wants_of Rf = 3
wants_of Rd = 3
wants_of Rg = 3
wants_of Rj = 4
wants_of Cel = 4
wants_of Sqrt = 1
wants_of Ln = 1
wants_of Ln1p = 1
wants_of Atan = 1

-- ---- the answer
abbrev pub said_of : Answer → Said
said_of (Ok f) = Value f
said_of (Err r) = Refused r

unfoldable pub entry_of : Call → Said
entry_of call = said_of (answer_of call)

unfoldable pub by_function : Function → Numbers → Said
by_function Rc n = entry_of (CallRc n.a n.b)
by_function Rf n = entry_of (CallRf n.a n.b n.c)
by_function Rd n = entry_of (CallRd n.a n.b n.c)
by_function Rg n = entry_of (CallRg n.a n.b n.c)
by_function Rj n = entry_of (CallRj n.a n.b n.c n.d)
by_function Cel n = entry_of (CallCel n.a n.b n.c n.d)
by_function Sqrt n = Leaf (root (from_bits binary64 n.a))
by_function Ln n = Leaf (ln (from_bits binary64 n.a))
by_function Ln1p n = Leaf (ln_1p (from_bits binary64 n.a))
by_function Atan n = Leaf (atan (from_bits binary64 n.a))

-- as many numbers as the function wants, or how many these are
unfoldable pub with_numbers : Function → Numbers → Result Said Bad
with_numbers f n = cond (n.count == wants_of f) (Ok (by_function f n)) (Err (Wanted (wants_of f)))

abbrev pub taken_said : Function → Result Numbers Bad → Result Said Bad
taken_said f (Ok n) = with_numbers f n
taken_said f (Err bad) = Err bad

-- to a line whose first word begins at a place
abbrev pub function_said : Option Function → List ℕ → ℕ → Result Said Bad
function_said None line end = Err NoFunction
function_said (Some f) line end = taken_said f (taken_of line end)

unfoldable pub to_call : List ℕ → ℕ → Result Said Bad
to_call line at = function_said (called_of (word_at line at)) line (ends_at line at)

abbrev pub said_by : Result Said Bad → Said
said_by (Ok said) = said
said_by (Err bad) = NoCall bad

-- ---- of a line that fills what is held, 128 bytes, it is not known whether it ends there
unfoldable pub said_to : List ℕ → Said
said_to line =
    cond (nat_lt (begins_at line 0) (length line))
    (cond (nat_lt (length line) 128) (said_by (to_call line (begins_at line 0))) (NoCall TooLong)) Nothing
