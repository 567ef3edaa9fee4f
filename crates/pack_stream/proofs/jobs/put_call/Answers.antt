-- `put_call` meets its contract: a call's function is known and there is room, so that nothing is refused. Assumes nothing.
use Prim.Native.Nat.{ℕ, ◌+◌, ◌-◌, ◌≤◌}
use mathlib.Core.Path.{◌≡◌}
use mathlib.Core.List.{List}
use native.Mathlib.Omega.{arith}
use borrow.Author.Tests.{ne_eqb, le-ltb}
use lib.ListN.{length}
use Rattle.calls.specs.Calls.{number_of}
use Rattle.calls.specs.declared.Call.{Call}
use Rattle.calls.specs.declared.Call.TheVariants.{Rc, Rf, Rd, Rg, Rj, Cel}
use Rattle.packed.specs.Jobs.{arity_of, job_bytes, job_length}
use Rattle.packed.specs.Writing.{left_after, write_at, bytes_after}
use Rattle.packed.specs.LengthLaws.{job_length_bounds}
use Rattle.packed.specs.declared.jobs.Job.{Job}
use Rattle.refusals.specs.declared.Refusal.{Refusal}
use Rattle.std.specs.Prelude.{Result, Ok, Err}
use Rattle.writing.specs.Written.{Put}
use Rattle.pack_stream.specs.Pack.{job_of, job_room}
use Rattle.pack_stream.proofs.jobs.put_call.Goals as goal

known : (c : Call) → arity_of (job_of c).function ≡ 0 → ⊥
unfolding job_of arity_of number_of
known (Rc x y) e = omega arith
known (Rf x y z) e = omega arith
known (Rd x y z) e = omega arith
known (Rg x y z) e = omega arith
known (Rj x y z p) e = omega arith
known (Cel kc p a b) e = omega arith

fits : (l at : ℕ) (c : Call) → at + job_room ≤ l → write_at l at (job_of c) ≡ Ok (at + job_length (job_of c))
unfolding write_at left_after
fits l at c h =
    let j = job_of c in
    rw (
      ne_eqb (arity_of j.function) 0 (known c),
      le-ltb (l - at) (job_length j)
          (omega (arith, (job_length_bounds j (known c)).1)),
    )

put : (l out : List ℕ) (at next : ℕ) (c : Call) (j : Job) (w : Result ℕ Refusal) → at + job_room ≤ length l → j ≡ job_of c
    → w ≡ write_at (length l) at j
    → out ≡ bytes_after w l at j → w ≡ Ok next → Put l at (job_bytes (job_of c)) out next
unfolding bytes_after job_length
put l out at next c j w h e f g k =
    let m : write_at (length l) at j ≡ Ok (at + job_length (job_of c)) = rw e (fits (length l) at c h) in
    let z : next ≡ at + job_length (job_of c) = cc in
    record { bytes = rw (k, e) at g; place = z }

never : (l at : ℕ) (n : Refusal) (c : Call) (j : Job) (w : Result ℕ Refusal) {P : Type 0} → at + job_room ≤ l
    → j ≡ job_of c → w ≡ write_at l at j
    → w ≡ Err n → P
never l at n c j w h e f g =
    let m : write_at l at j ≡ Ok (at + job_length (job_of c)) = rw e (fits l at c h) in
    let z : ◌≡◌ {A = ℕ} 0 1 = cc in
    absurd (omega arith)

pub returns-in-Ok : goal.returns-in-Ok
returns-in-Ok c =
    put _ _ _ _ c.args.call _ _ c.requires c.job_of.ensures c.write_job.ensures.value c.write_job.ensures.bytes_after c.in-Ok.is

pub returns-in-Err : goal.returns-in-Err
returns-in-Err c = never _ _ _ c.args.call _ _ c.requires c.job_of.ensures c.write_job.ensures.value c.in-Err.is
