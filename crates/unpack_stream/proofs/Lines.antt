-- How long lines are, and what one byte leads to. Assumes nothing.
use Rattle.std.specs.Prelude.{Some, None, Ok, Err}
use Prim.Native.Nat.{ℕ, ◌≤◌}
use mathlib.Core.Bool.{Bool, true, false, cond}
use mathlib.Core.List.{List, [], ◌∷◌, ◌++◌}
use mathlib.Core.Logic.{⊎_elim}
use native.Mathlib.Omega.{arith}
use lib.Dec.{eqb, ltb}
use lib.ListN.{length, take, length-append}
use lib.Seq.{take_all, length-take-le}
use Rattle.algebra.specs.Order.{lt_or_le}
use Rattle.digits.specs.Digits.{word_text}
use Rattle.digits.proofs.DigitLaws.{word_length}
use Rattle.packed.specs.Jobs.{arity_of, argument_of}
use Rattle.packed.specs.Reading.{Read, read_at}
use Rattle.packed.specs.declared.jobs.Job.{Job}
use Rattle.writing.specs.Fed.{quiet}
use Rattle.writing.specs.FedLaws.{Short}
use Rattle.unpack_stream.specs.Text.{letter_of, name_text, argument_text, job_text, argument_room, line_room}
use Rattle.unpack_stream.specs.Unpack.{Held, holding, refused, is_cut, tried_as, unpack_byte, held_length}

pub argument_most : (j : Job) (k : ℕ) → length (argument_text j k) ≤ argument_room
unfolding argument_text
argument_most j k = go (ltb k (arity_of j.function))
  where
    go : (t : Bool) → length (cond t (word_text (argument_of j k)) []) ≤ argument_room
    go true = omega (arith, word_length (argument_of j k))
    go false = omega arith

pub name_most : (f : ℕ) → length (name_text f) ≤ 3
unfolding name_text
name_most f = go (eqb f 6)
  where
    go : (t : Bool) → length (cond t (67 ∷ 69 ∷ 76 ∷ []) (82 ∷ letter_of f ∷ [])) ≤ 3
    go true = omega arith
    go false = omega arith

line_most : (j : Job) → length (job_text j) ≤ line_room
unfolding job_text
line_most j =
    simp length-append
    (omega (arith, name_most j.function, argument_most j 0, argument_most j 1, argument_most j 2, argument_most j 3))

-- what one byte leads to is one line at most, and takes what is held at most
try_short : (held : List ℕ) (r : Read) → Short line_room (length held) (tried_as held r)
unfolding tried_as
try_short held (Ok (Some got)) = (line_most got.job, omega arith)
try_short held (Ok None) = (omega arith, omega arith)
try_short held (Err n) = go (is_cut n)
  where
    go : (t : Bool) → Short line_room (length held) (cond t (quiet (holding held)) (quiet (refused n)))
    go true = (omega arith, omega arith)
    go false = (omega arith, omega arith)

most_held : (l : List ℕ) → length (take held_length l) ≤ held_length
most_held l = ⊎_elim (λ h. omega (arith, length-take-le held_length l (omega arith))) (λ h. rw (take_all held_length l h) h)
    (lt_or_le held_length (length l))

pub byte_short : (h : Held) (b : ℕ) → Short line_room held_length (unpack_byte h b)
unfolding unpack_byte
byte_short h b =
    let held = take held_length (h.rest ++ b ∷ []) in
    let s = try_short held (read_at held 0) in
    (s.0, omega (arith, s.1, most_held (h.rest ++ b ∷ [])))
