-- `turn` meets its contract: a byte is taken, or a job's bytes at once. Assumes nothing.
use Rattle.std.specs.Prelude.{Option, Some, None, Ok}
use Prim.Native.Nat.{ℕ, suc, ◌+◌, ◌-◌, ◌≤◌, ◌<◌}
use mathlib.Core.Path.{◌≡◌, refl, sym, ap, ◌∙◌}
use mathlib.Core.Bool.{Bool, true, false, cond}
use mathlib.Core.List.{List, [], ◌∷◌}
use native.Mathlib.Omega.{arith}
use borrow.Author.Tests.{eqb-true}
use lib.Dec.{eqb}
use lib.ListN.{length, get_or, take, drop, length-append, length-drop}
use lib.Seq.{drop-cons, take_at}
use Rattle.packed.specs.Jobs.{job_bytes, job_length}
use Rattle.packed.specs.LengthLaws.{job_some}
use Rattle.packed.specs.Reading.{read_at}
use Rattle.packed_number.specs.NumberLaws.{Bytes}
use Rattle.packed_number.proofs.NumberLaws.{bytes_drop}
use Rattle.packed.specs.JobLaws.{Is, read_is}
use Rattle.packed.specs.declared.read.Got.{Got}
use Rattle.writing.specs.FedLaws.{run_one}
use Rattle.writing.specs.Written.{Put}
use Rattle.unpack_stream.specs.Text.{job_text}
use Rattle.unpack_stream.specs.Unpack.{ended, holding, unpack_byte, ahead_at, held_length, Unpacks, Turns}
use Rattle.unpack_stream.specs.WholeLaws.{bytes_front, job_run}
use Rattle.unpack_stream.specs.declared.stream.Progress.{Progress}
use Rattle.unpack_stream.proofs.stream.turn.Goals as goal
use Rattle.unpack_stream.proofs.stream.turn.Goals.{After-ahead}

-- ---- one byte
one_byte : (l : List ℕ) (i : ℕ) → i < length l → take (i + 1 - i) (drop i l) ≡ get_or l i 0 ∷ []
one_byte l i h = let e : i + 1 - i ≡ 1 = omega arith in rw (e, drop-cons l i 0 h)

steps :
    (bytes held after before out : List ℕ) (i at : ℕ) (r : Progress) → i < length bytes
    → Unpacks (unpack_byte (holding held) (get_or bytes i 0)) after before at out r
    → r.held ≤ held_length
    → Turns bytes i held after before at out (record { fed = r; next = i + 1 })
steps bytes held after before out i at r h f few = record {
  later = omega arith;
  inside = omega arith;
  few = few;
  fed = rw (one_byte bytes i h, run_one unpack_byte ended (holding held) (get_or bytes i 0) refl) f;
}

-- ---- a job
bytes_all : (l : List ℕ) → ((k : ℕ) → get_or l k 0 < 256) → Bytes l
bytes_all [] h = tt
bytes_all (b ∷ l) h = (h 0, bytes_all l (λ k. h (suc k)))

is-ahead : (bytes : List ℕ) (i n : ℕ) (got : Got) → ahead_at bytes i n ≡ Ok (Some got)
    → (n ≡ 0) × (read_at bytes i ≡ Ok (Some got))
unfolding ahead_at
is-ahead bytes i n got = go (eqb n 0) refl
  where
    go : (t : Bool) → eqb n 0 ≡ t → cond t (read_at bytes i) (Ok None) ≡ Ok (Some got)
        → (n ≡ 0) × (read_at bytes i ≡ Ok (Some got))
    go true e f = (eqb-true n 0 e, f)
    go false e f = let z : ◌≡◌ {A = ℕ} 0 1 = cc in absurd (omega arith)

module _ (bytes : List ℕ) (i n : ℕ) (got : Got) (good : (k : ℕ) → get_or bytes k 0 < 256) (e : ahead_at bytes i n ≡ Ok (Some got))
  where
    is : (i < length bytes) × Is bytes i got
    is = read_is bytes i (bytes_all bytes good) got (is-ahead bytes i n got e).1

    long : (i < got.next) × (got.next - i ≡ length (job_bytes got.job)) × (got.next ≤ length bytes)
    unfolding job_length
    long =
        let place = is.1.stands.place in
        let all : length bytes - i ≡ length (job_bytes got.job) + length (drop got.next bytes) =
        sym (length-drop i bytes) ∙ ap length is.1.stands.bytes
        ∙ length-append (job_bytes got.job) (drop got.next bytes) in
        (omega (arith, place, job_some got.job), omega (arith, place), omega (arith, place, all, is.0))

    part : take (got.next - i) (drop i bytes) ≡ job_bytes got.job
    part =
        ap (take (got.next - i)) is.1.stands.bytes
        ∙ take_at (job_bytes got.job) (drop got.next bytes) (got.next - i) (sym long.1)

    leaps : (held after before out : List ℕ) (at next : ℕ) → Put before at (job_text got.job) out next
        → Turns bytes i (take n held) after before at out
        (record {
          fed = record { held = 0; used = next; taken = got.next - i; stop = None };
          next = got.next;
        })
    leaps held after before out at next p =
        let b : Bytes (job_bytes got.job) =
        bytes_front (job_bytes got.job) (drop got.next bytes)
        (rw is.1.stands.bytes at (bytes_drop i bytes (bytes_all bytes good))) in
        record {
          later = long.0;
          inside = long.2;
          few = omega arith;
          fed =
              rw ((is-ahead bytes i n got e).0, part, job_run got.job is.1.proper b)
              (record { left = refl; said = p; counted = long.1 });
        }

-- each byte is one, and what was found was read ahead
good : (c : After-ahead) (k : ℕ) → get_or c.args.bytes.now k 0 < 256
good c k = omega (arith, c.type_inv.bytes k)

pub returns-in_default : goal.returns-in_default
returns-in_default c =
    steps _ _ _ _ _ _ _ _ c.requires.i_in_bounds c.step.ensures.unpacks c.step.ensures.held_le_held_length

pub overflow_sub-result : goal.overflow_sub-result
overflow_sub-result c =
    omega (
      arith,
      (long _ _ _ _ (good (goal.at.overflow_sub-result c).After-ahead)
          (sym c.ahead.ensures ∙ c.in-Ok-Some.is ∙ ap (λ (o : Option Got). Ok o) c.in-Ok-Some.field-0-is)).0,
    )

pub returns : goal.returns
returns c =
    leaps _ _ _ _ (good (goal.at.returns c).After-ahead)
    (sym c.ahead.ensures ∙ c.in-Ok-Some.is ∙ ap (λ (o : Option Got). Ok o) c.in-Ok-Some.field-0-is) _ _ _ _ _ _ c.put_job_text.ensures
