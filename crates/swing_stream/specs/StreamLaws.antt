-- Fed block by block, the input is answered line by line, wherever the blocks are cut. Assumes nothing.
use Rattle.std.specs.Prelude.{ℕ, ◌≡◌, refl, Bool, true, false, cond, eqb, Option}
use Rattle.std.proofs.Common.{sym, ap, ◌∙◌, subst}
use mathlib.Core.List.{List, [], ◌∷◌, ◌++◌, append_assoc}
use Rattle.writing.specs.Fed.{Ran, quiet, and_ran, run}
use Rattle.writing.specs.Input.{last_line, lines_from}
use Rattle.swing_read.specs.Reading.{line_of}
use Rattle.millimetres.specs.Measured.{byte_measured, bytes_measured, at_end, measured_line, unread}
use Rattle.millimetres.proofs.MeasuredLaws.{measured_last}
use Rattle.millimetres.proofs.Begun.{line_measured, lengths_unread, plain_unread}
use Rattle.millimetres.specs.declared.Measured.{Measured}
use Rattle.swing_stream.specs.Lines.{line_start, kind_after, after_line, said_to}
use Rattle.swing_stream.specs.Stream.{heard, said, line_end, swing_byte, swing_from, said_at_end, said_last, replies_from}
use Rattle.swing_read.specs.declared.Line.{Line}
use Rattle.swing_stream.specs.declared.lines.Kind.{Kind}
use Rattle.swing_stream.specs.declared.lines.Kind.TheVariants.{Periods, Steps}
use Rattle.swing_stream.specs.declared.lines.State.{State}

-- ---- what is said does not hang on what is read of a line that has not ended
same_replies : (ls : List (List ℕ)) (s : State) (r : Measured)
    → replies_from (record { kind = s.kind; reading = r }) ls ≡ replies_from s ls
unfolding replies_from said_at_end said_to after_line
same_replies [] s r = refl
same_replies (l ∷ ls) s r = refl

-- a line's end begins the next one, of the same kind
kind_stays : (k : Kind) (l : Option Line) → line_start k ≡ line_start (kind_after k l)
unfolding line_start kind_after
kind_stays Periods l = refl
kind_stays (Steps log) l = refl

after_line_lem : (s : State) (l : Option Line) → (let t = after_line s l in t.reading ≡ line_start t.kind)
unfolding after_line
after_line_lem s l = kind_stays s.kind l

start_unread : (kind : Kind) → unread (bytes_measured (line_start kind) []) ≡ true
unfolding line_start
start_unread Periods = lengths_unread
start_unread (Steps log) = plain_unread

-- ---- the whole input
at_end_lem : (begun : List ℕ) (s : State) → s.reading ≡ bytes_measured (line_start s.kind) begun
    → said_last s ≡ replies_from s (last_line begun)
unfolding said_last last_line replies_from said heard measured_line
at_end_lem [] s e = subst (λ (b : Bool). cond b (said_at_end s) (said s ++ said_at_end (heard s)) ≡ said_at_end s)
    (sym (ap unread e ∙ start_unread s.kind)) refl
at_end_lem (b ∷ l) s e =
    subst (λ (t : Bool). cond t (said_at_end s) (said s ++ said_at_end (heard s)) ≡ replies_from s ((b ∷ l) ∷ []))
    (sym (ap unread e ∙ line_measured l b (line_start s.kind)))
    (ap (λ (r : Measured). said_to s (line_of (at_end r)) ++ said_at_end (after_line s (line_of (at_end r)))) e)

-- what is said to bytes and at the input's end
abbrev pub said_all : State → List ℕ → List ℕ
said_all s bs = (swing_from s bs).said ++ said_last (swing_from s bs).left

from_begun : (bs begun : List ℕ) (s : State) → s.reading ≡ bytes_measured (line_start s.kind) begun
    → said_all s bs ≡ replies_from s (lines_from begun bs)
unfolding run and_ran lines_from swing_byte
from_begun [] begun s e = at_end_lem begun s e
from_begun (b ∷ bs) begun s e = go (eqb b 10) (from_begun bs)
  where
    on : State
    on = record { kind = s.kind; reading = byte_measured s.reading b }

    ends : said s ++ replies_from (heard s) (lines_from [] bs) ≡ replies_from s (begun ∷ lines_from [] bs)
    ends =
        unfold said heard measured_line replies_from in
        (ap (λ (r : Measured). said_to s (line_of (at_end r)) ++ replies_from (after_line s (line_of (at_end r))) (lines_from [] bs)) e)

    fresh_line : (heard s).reading ≡ bytes_measured (line_start (heard s).kind) []
    fresh_line = unfold heard bytes_measured in after_line_lem s (line_of (at_end s.reading))

    go : (t : Bool)
        → ((l : List ℕ) (u : State) → u.reading ≡ bytes_measured (line_start u.kind) l
        → said_all u bs ≡ replies_from u (lines_from l bs))
        → (let p : Ran State = cond t (line_end s) (quiet on) in
        (p.said ++ (swing_from p.left bs).said) ++ said_last (swing_from p.left bs).left
        ≡ replies_from s (cond t (begun ∷ lines_from [] bs) (lines_from (begun ++ b ∷ []) bs)))
    go true rest = rw (append_assoc, rest [] (heard s) fresh_line) ends
    go false rest =
        rest (begun ++ b ∷ []) on
        (ap (λ (r : Measured). byte_measured r b) e ∙ sym (measured_last begun (line_start s.kind) b))
        ∙ same_replies (lines_from (begun ++ b ∷ []) bs) s (byte_measured s.reading b)

-- THE LAW: fed whole, an input gives a reply to each of its lines in order, and what is said at its end
pub whole : (s : State) (input : List ℕ) → s.reading ≡ line_start s.kind
    → said_all s input ≡ replies_from s (lines_from [] input)
unfolding bytes_measured
whole s input e = from_begun input [] s e
