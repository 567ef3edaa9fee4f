-- Fed whole, wherever it is cut, a packed work list gives the lines of its jobs, up to a refusal with the place of its job.
-- Assumes nothing.
use Rattle.refusals.specs.declared.Refusal.{Refusal}
use Rattle.refusals.specs.declared.Refusal.TheVariants.{ListCut}
use Rattle.std.specs.Prelude.{Some, None, Ok, Err}
use Rattle.std.specs.Prelude.{ℕ, zero, suc, ◌+◌, ◌≤◌, ◌<◌, Bool, ◌⊎◌, take}
use Rattle.std.proofs.Math.Path.{◌≡◌, refl, ap}
use Rattle.std.proofs.Common.{sym, ◌∙◌, inl, inr, ⊎_elim, add-zero, arith, take-append-drop, take_all, take_at}
use Rattle.std.proofs.Math.Bool.{true, false, cond}
use mathlib.Core.List.{List, [], ◌∷◌, ◌++◌, append_assoc, append-nil}
use Rattle.std.proofs.Math.ListN.{length, drop, length-append}
use Rattle.std.proofs.lemmas.List.{take-append-le}
use Rattle.std.proofs.Math.Seq.{drop_at}
use Rattle.algebra.specs.Order.{lt_or_le}
use Rattle.packed.specs.Jobs.{job_bytes, job_length, list_bytes}
use Rattle.packed.specs.Reading.{Read, read_at, Jobs, jobs, stopped, with_job, read_on, read_from, read_all}
use Rattle.packed.specs.LengthLaws.{job_some}
use Rattle.packed_number.specs.NumberLaws.{Bytes}
use Rattle.packed.specs.JobLaws.{Proper, Is, read_back, read_is}
use Rattle.packed.specs.ListLaws.{nothing_left, jobs_back}
use Rattle.packed.specs.MoreLaws.{Good, read_more, cut_short}
use Rattle.packed.specs.PlaceLaws.{jobs_later, list_later}
use Rattle.packed.specs.declared.jobs.Job.{Job}
use Rattle.packed.specs.declared.read.Got.{Got}
use Rattle.writing.specs.Fed.{Ran, quiet, and_ran, run}
use Rattle.writing.specs.FedLaws.{quiet_and, and_assoc, run_over}
use Rattle.unpack_stream.specs.Text.{job_text}
use Rattle.unpack_stream.specs.Unpack.{
  Held,
  holding,
  refused,
  lines_of,
  unpack_of,
  held_length,
  ended,
  is_cut,
  tried_as,
  try_of,
  unpack_byte,
  unpack_from,
  last_of,
  unpack_last,
}

-- what the test on a refusal says
cut_is : (r : Refusal) → is_cut r ≡ true → r ≡ ListCut
unfolding is_cut
cut_is ListCut e = refl
cut_is r e = let z : ◌≡◌ {A = Bool} false true = e in cc

cut_not : (r : Refusal) → is_cut r ≡ false → r ≡ ListCut → ⊥
unfolding is_cut
cut_not r e f = let z : ◌≡◌ {A = Bool} true false = rw f at e in let y : ◌≡◌ {A = ℕ} 0 1 = cc in omega arith

-- what is held is nothing, or is only cut so far
abbrev Waits : List ℕ → Type 0
Waits h = (h ≡ []) ⊎ (read_at h 0 ≡ Err ListCut)

waits_short : (h : List ℕ) → Waits h → length h ≤ 50
waits_short h w = ⊎_elim (λ e. rw e (omega arith)) (λ e. cut_short h e) w

pub bytes_front : (l m : List ℕ) → Bytes (l ++ m) → Bytes l
bytes_front [] m h = tt
bytes_front (b ∷ l) m h = (h.0, bytes_front l m h.1)

bytes_back : (l m : List ℕ) → Bytes (l ++ m) → Bytes m
bytes_back [] m h = h
bytes_back (b ∷ l) m h = bytes_back l m h.1

-- a job that is found when a byte more came ends with that byte
ends_there : (h : List ℕ) (b : ℕ) (got : Got) → Bytes (h ++ b ∷ []) → Waits h → read_at (h ++ b ∷ []) 0 ≡ Ok (Some got)
    → got.next ≡ length (h ++ b ∷ [])
unfolding job_length
ends_there h b got bytes w e = ⊎_elim inside (λ k. omega (arith, all, size)) (lt_or_le got.next (length (h ++ b ∷ [])))
  where
    is : Is (h ++ b ∷ []) 0 got
    is = (read_is (h ++ b ∷ []) 0 bytes got e).1

    t : List ℕ
    t = job_bytes got.job

    size : got.next ≡ length t
    size = omega (arith, is.stands.place)

    all : length (h ++ b ∷ []) ≡ length t + length (drop got.next (h ++ b ∷ []))
    all = ap length is.stands.bytes ∙ length-append t (drop got.next (h ++ b ∷ []))

    inside : got.next < length (h ++ b ∷ []) → got.next ≡ length (h ++ b ∷ [])
    inside k =
        let n : length t ≤ length h = omega (arith, size, length-append h (b ∷ [])) in
        let front : take (length t) h ≡ t =
        sym (take-append-le (length t) h (b ∷ []) n) ∙ ap (λ (l : List ℕ). take (length t) l) is.stands.bytes
        ∙ take_at t (drop got.next (h ++ b ∷ [])) (length t) refl in
        let whole : h ≡ t ++ drop (length t) h = sym (take-append-drop (length t) h)
        ∙ ap (λ (l : List ℕ). l ++ drop (length t) h) front in
        let back = read_back h got.job is.proper 0 (drop (length t) h) whole in
        ⊎_elim (λ z. absurd (omega (arith, n, ap length z, job_some got.job)))
        (λ z. let y : ◌≡◌ {A = ℕ} 0 1 = cc in absurd (omega arith)) w

-- the first job is refused
refused_first : (l : List ℕ) (most : ℕ) (n : Refusal) → read_at l 0 ≡ Err n
    → quiet (refused n) ≡ unpack_of (read_from (suc most) l 0)
unfolding read_from read_on unpack_of lines_of
refused_first l most n e = rw e

-- ---- the input's end
at_end_lem : (h : List ℕ) (most : ℕ) → Waits h → unpack_last (holding h) ≡ unpack_of (read_from (suc most) h 0)
unfolding unpack_last last_of unpack_of lines_of list_bytes read_from read_on read_at
at_end_lem [] most w = refl
at_end_lem (b ∷ h) most w =
    ⊎_elim (λ e. let z : ◌≡◌ {A = ℕ} (length (b ∷ h)) 0 = ap length e in absurd (omega arith))
    (λ e. refused_first (b ∷ h) most ListCut e) w

-- what comes of bytes and of the input's end
abbrev pub unpack_all : Held → List ℕ → Ran Held
unpack_all h bs = and_ran (unpack_from h bs) (unpack_last (unpack_from h bs).left)

-- a refusal ends it
over_all : (n : Refusal) (bs : List ℕ) → unpack_all (refused n) bs ≡ quiet (refused n)
unfolding unpack_last
over_all n bs = rw (run_over unpack_byte ended bs (refused n) refl) (quiet_and (refused n) (quiet (refused n)))

-- ---- the whole input
-- a job, and what comes of the jobs after it, which were read from its end on
with_job_lem :
    (got : Got) (held : List ℕ) (js : Jobs) → got.next ≡ length held → length (job_bytes got.job) ≡ length held
    → and_ran (tried_as held (Ok (Some got))) (unpack_of js) ≡ unpack_of (with_job got.job (jobs_later got.next js))
unfolding and_ran tried_as unpack_of lines_of list_bytes with_job jobs_later
with_job_lem got held (jobs js) e f = rw (length-append, f)
with_job_lem got held (stopped js place n) e f = rw e

module _ (b : ℕ) (bs h : List ℕ) (most : ℕ) (bytes : Bytes (h ++ b ∷ bs)) (w : Waits h) (len : length (h ++ b ∷ bs) < suc most)
    (more : (k : List ℕ) (m : ℕ) → Bytes (k ++ bs) → Waits k → length (k ++ bs) < m
    → unpack_all (holding k) bs ≡ unpack_of (read_from m (k ++ bs) 0))
  where
    one : List ℕ
    one = h ++ b ∷ []

    joined : one ++ bs ≡ h ++ b ∷ bs
    unfolding one
    joined = append_assoc h (b ∷ []) bs

    some : 0 < length one
    unfolding one
    some = omega (arith, length-append h (b ∷ []))

    stays : (r : Read) → read_at one 0 ≡ r → Good r → read_at (h ++ b ∷ bs) 0 ≡ r
    stays r e g = ap (λ (l : List ℕ). read_at l 0) (sym joined) ∙ read_more one bs 0 some (λ f. g (sym e ∙ f)) ∙ e

    found : (got : Got) → read_at one 0 ≡ Ok (Some got)
        → and_ran (tried_as one (Ok (Some got))) (unpack_all (holding []) bs) ≡ unpack_of (read_from (suc most) (h ++ b ∷ bs) 0)
    unfolding read_from read_on one
    found got e =
        let whole : read_at (h ++ b ∷ bs) 0 ≡ Ok (Some got) =
        stays (Ok (Some got)) e (λ f. let z : ◌≡◌ {A = ℕ} 0 1 = cc in omega arith) in
        let front : Bytes (h ++ b ∷ []) = bytes_front (h ++ b ∷ []) bs (rw joined bytes) in
        let n : got.next ≡ length (h ++ b ∷ []) = ends_there h b got front w e in
        let size : length (job_bytes got.job) ≡ length (h ++ b ∷ []) =
        omega (arith, n, (read_is (h ++ b ∷ []) 0 front got e).1.stands.place) in
        let left : drop got.next (h ++ b ∷ bs) ≡ bs =
        ap (λ (l : List ℕ). drop got.next l) (sym joined) ∙ drop_at (h ++ b ∷ []) bs got.next (sym n) in
        let later : read_from most (h ++ b ∷ bs) got.next ≡ jobs_later got.next (read_from most bs 0) =
        rw (left, add-zero) at (list_later most (h ++ b ∷ bs) got.next 0) in
        let rest : unpack_all (holding []) bs ≡ unpack_of (read_from most bs 0) =
        more [] most (bytes_back (h ++ b ∷ []) bs (rw joined bytes)) (inl refl) (omega (arith, len, length-append h (b ∷ bs))) in
        ap (and_ran (tried_as (h ++ b ∷ []) (Ok (Some got)))) rest
        ∙ with_job_lem got (h ++ b ∷ []) (read_from most bs 0) n size
        ∙ rw (whole, later)

    tried : (r : Read) → read_at one 0 ≡ r
        → and_ran (tried_as one r) (unpack_all (tried_as one r).left bs) ≡ unpack_of (read_from (suc most) (h ++ b ∷ bs) 0)
    unfolding tried_as
    tried (Ok (Some got)) e = found got e
    tried (Ok None) e = absurd (omega (arith, some, nothing_left one 0 e))
    tried (Err n) e = go (is_cut n) refl
      where
        go : (t : Bool) → is_cut n ≡ t
            → (let p : Ran Held = cond t (quiet (holding one)) (quiet (refused n)) in
            and_ran p (unpack_all p.left bs) ≡ unpack_of (read_from (suc most) (h ++ b ∷ bs) 0))
        go true t =
            let cut : read_at one 0 ≡ Err ListCut = e ∙ ap Err (cut_is n t) in
            quiet_and (holding one) (unpack_all (holding one) bs) ∙ more one (suc most) (rw joined bytes) (inr cut) (rw joined len)
            ∙ ap (λ (l : List ℕ). unpack_of (read_from (suc most) l 0)) joined
        go false t =
            let whole : read_at (h ++ b ∷ bs) 0 ≡ Err n =
            stays (Err n) e (λ f. let z : n ≡ ListCut = cc in cut_not n t z) in
            ap (and_ran (quiet (refused n))) (over_all n bs) ∙ quiet_and (refused n) (quiet (refused n))
            ∙ refused_first (h ++ b ∷ bs) most n whole

end : (h : List ℕ) (most : ℕ) → Waits h → unpack_all (holding h) [] ≡ unpack_of (read_from (suc most) (h ++ []) 0)
unfolding run
end h most w =
    quiet_and (holding h) (unpack_last (holding h)) ∙ at_end_lem h most w
    ∙ ap (λ (l : List ℕ). unpack_of (read_from (suc most) l 0)) (sym (append-nil h))

fed :
    (b : ℕ) (bs h : List ℕ) (most : ℕ) → Bytes (h ++ b ∷ bs) → Waits h → length (h ++ b ∷ bs) < suc most
    → ((k : List ℕ) (m : ℕ) → Bytes (k ++ bs) → Waits k → length (k ++ bs) < m
    → unpack_all (holding k) bs ≡ unpack_of (read_from m (k ++ bs) 0))
    → unpack_all (holding h) (b ∷ bs) ≡ unpack_of (read_from (suc most) (h ++ b ∷ bs) 0)
unfolding run and_ran unpack_byte one
fed b bs h most bytes w len more =
    let p : Ran Held = try_of (h ++ b ∷ []) in
    let held : take held_length (h ++ b ∷ []) ≡ h ++ b ∷ [] =
    take_all held_length (h ++ b ∷ []) (rw length-append (omega (arith, waits_short h w))) in
    rw held (and_assoc p (unpack_from p.left bs) (unpack_last (unpack_from p.left bs).left)
    ∙ tried b bs h most bytes w len more (read_at (h ++ b ∷ []) 0) refl)

-- (with room for one job more than there are bytes)
end_any : (h : List ℕ) (most : ℕ) → Waits h → length (h ++ []) < most
    → unpack_all (holding h) [] ≡ unpack_of (read_from most (h ++ []) 0)
end_any h zero w len = absurd (omega arith)
end_any h (suc most) w len = end h most w

fed_any :
    (b : ℕ) (bs h : List ℕ) (most : ℕ) → Bytes (h ++ b ∷ bs) → Waits h → length (h ++ b ∷ bs) < most
    → ((k : List ℕ) (m : ℕ) → Bytes (k ++ bs) → Waits k → length (k ++ bs) < m
    → unpack_all (holding k) bs ≡ unpack_of (read_from m (k ++ bs) 0))
    → unpack_all (holding h) (b ∷ bs) ≡ unpack_of (read_from most (h ++ b ∷ bs) 0)
fed_any b bs h zero bytes w len more = absurd (omega arith)
fed_any b bs h (suc most) bytes w len more = fed b bs h most bytes w len more

from_held : (bs h : List ℕ) (most : ℕ) → Bytes (h ++ bs) → Waits h → length (h ++ bs) < most
    → unpack_all (holding h) bs ≡ unpack_of (read_from most (h ++ bs) 0)
from_held [] h most bytes w len = end_any h most w len
from_held (b ∷ bs) h most bytes w len = fed_any b bs h most bytes w len (λ k m x y z. from_held bs k m x y z)

-- THE LAW: what comes of the bytes as they are fed, then of their end, is what comes of the list that they are
pub whole : (input : List ℕ) → Bytes input → unpack_all (holding []) input ≡ unpack_of (read_all input)
unfolding read_all
whole input bytes = from_held input [] (suc (length input)) bytes (inl refl) (omega arith)

-- ---- a job that lies whole in the bytes: its bytes one after the other, from nothing held, give its line
nothing_held : (h : Held) → (unpack_last h).left ≡ holding [] → h ≡ holding []
unfolding unpack_last last_of
nothing_held h = go (ended h) h.rest
  where
    go : (t : Bool) (l : List ℕ) → cond t h (last_of h l) ≡ holding [] → h ≡ holding []
    go true l e = e
    go false [] e = e
    go false (b ∷ l) e =
        let f : true ≡ false = ap ended e in let z : ◌≡◌ {A = ℕ} 0 1 = cc in absurd (omega arith)

ran_is : (r : Ran Held) {l : List ℕ} {n : ℕ} {h : Held} → r.said ≡ l → r.count ≡ n → r.left ≡ h
    → r ≡ record { said = l; count = n; left = h }
ran_is r {l} {n} e f g =
    ap (λ (m : List ℕ). record { said = m; count = r.count; left = r.left }) e
    ∙ ap (λ (m : ℕ). record { said = l; count = m; left = r.left }) f
    ∙ ap (λ (k : Held). record { said = l; count = n; left = k }) g

pub job_run : (j : Job) → Proper j → Bytes (job_bytes j)
    → unpack_from (holding []) (job_bytes j) ≡ record { said = job_text j; count = length (job_bytes j); left = holding [] }
unfolding and_ran unpack_last unpack_of lines_of list_bytes
job_run j p b =
    let r : Ran Held = unpack_from (holding []) (job_bytes j) in
    let e : unpack_all (holding []) (job_bytes j) ≡ unpack_of (jobs (j ∷ [])) =
    whole (job_bytes j) b ∙ ap unpack_of (rw append-nil at (jobs_back (j ∷ []) (p, tt))) in
    let said : r.said ≡ job_text j = sym (append-nil r.said) ∙ ap (λ (q : Ran Held). q.said) e ∙ append-nil (job_text j) in
    let count : r.count ≡ length (job_bytes j) =
    sym (add-zero r.count) ∙ ap (λ (q : Ran Held). q.count) e ∙ ap length (append-nil (job_bytes j)) in
    let left : r.left ≡ holding [] = nothing_held r.left (ap (λ (q : Ran Held). q.left) e) in
    ran_is r said count left
