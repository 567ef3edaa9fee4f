-- A list gone through job by job: what is left of it from a place on. Assumes nothing.
use Rattle.refusals.specs.declared.Refusal.{Refusal}
use Rattle.std.specs.Prelude.{Some, None, Ok, Err}
use Rattle.std.specs.Prelude.{ℕ, zero, suc, ◌+◌, ◌-◌, ◌≤◌, ◌<◌, ◌≡◌, List, [], ◌∷◌, length, get_or, drop}
use Rattle.std.proofs.Math.Path.{refl, ap}
use Rattle.std.proofs.Common.{sym, ◌∙◌, arith, le-ltb, length-append, length-drop}
use Rattle.std.proofs.Math.Nat.{sub-zero}
use Rattle.packed.specs.Jobs.{job_bytes, job_length}
use Rattle.packed.specs.LengthLaws.{job_some}
use Rattle.packed_number.specs.NumberLaws.{Bytes}
use Rattle.packed.specs.JobLaws.{read_is}
use Rattle.packed.specs.Reading.{Jobs, jobs, stopped, with_job, read_on, Read, read_at, read_from, read_all}
use Rattle.packed.specs.declared.read.Got.{Got}

-- a slice of u8 has bytes
pub bytes_all : (l : List ℕ) → ((k : ℕ) → get_or l k 0 < 256) → Bytes l
bytes_all [] h = tt
bytes_all (b ∷ l) h = (h 0, bytes_all l (λ k. h (suc k)))

-- a job that was read ends later, and inside
pub found_later : (l : List ℕ) (place : ℕ) (got : Got) → Bytes l → read_at l place ≡ Ok (Some got)
    → (place < got.next) × (got.next ≤ length l)
unfolding job_length
found_later l place got b e =
    let is = read_is l place b got e in
    let p = is.1.stands.place in
    let all : length l - place ≡ length (job_bytes got.job) + length (drop got.next l) =
    sym (length-drop place l) ∙ ap length is.1.stands.bytes ∙ length-append (job_bytes got.job) (drop got.next l) in
    (omega (arith, p, job_some got.job), omega (arith, p, all, is.0))

-- more turns than there are bytes left change nothing
enough : (m n : ℕ) (l : List ℕ) (at : ℕ) → Bytes l → length l - at < m → length l - at < n → read_from m l at ≡ read_from n l at
unfolding read_from
enough zero n l at b h k = absurd (omega arith)
enough (suc m) zero l at b h k = absurd (omega arith)
enough (suc m) (suc n) l at b h k = go (read_at l at) refl (λ next. enough m n l next b)
  where
    go : (r : Read) → read_at l at ≡ r
        → ((next : ℕ) → length l - next < m → length l - next < n → read_from m l next ≡ read_from n l next)
        → read_on at r (read_from m l) ≡ read_on at r (read_from n l)
    go (Ok (Some got)) e more =
        let later = found_later l at got b e in
        unfold read_on in ap (with_job got.job) (more got.next (omega (arith, later)) (omega (arith, later)))
    go (Ok None) e more = unfold read_on in refl
    go (Err n) e more = unfold read_on in refl

-- the jobs from a place on
unfoldable pub rest_at : List ℕ → ℕ → Jobs
rest_at l at = read_from (suc (length l - at)) l at

pub rest_all : (l : List ℕ) → rest_at l 0 ≡ read_all l
unfolding rest_at read_all
rest_all l = rw (sub-zero (length l))

module _ (l : List ℕ) (at : ℕ) where
  pub rest_found : (got : Got) → Bytes l → read_at l at ≡ Ok (Some got) → rest_at l at ≡ with_job got.job (rest_at l got.next)
  unfolding rest_at read_from read_on
  rest_found got b e =
      let later = found_later l at got b e in
      rw e
      (ap (with_job got.job) (enough (length l - at) (suc (length l - got.next)) l got.next b (omega (arith, later))
      (omega (arith, later))))

  pub rest_refused : {n : Refusal} → read_at l at ≡ Err n → rest_at l at ≡ stopped [] at n
  unfolding rest_at read_from read_on
  rest_refused e = rw e

  pub rest_none : length l ≤ at → rest_at l at ≡ jobs []
  unfolding rest_at read_from read_on read_at
  rest_none h = rw (le-ltb at (length l) h)
