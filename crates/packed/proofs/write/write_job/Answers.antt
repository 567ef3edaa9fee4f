-- `write_job` meets its contract: it tests 16, then 17, and else writes. Assumes nothing.
use Rattle.std.specs.Prelude.{Ok}
use Prim.Native.Nat.{ℕ, ◌+◌, ◌≤◌}
use mathlib.Core.Path.{◌≡◌, refl, sym, ◌∙◌}
use native.Mathlib.Omega.{arith}
use borrow.Author.Tests.{eq-eqb, ne_eqb, lt-ltb, le-ltb}
use lib.ListN.{length}
use Rattle.packed.specs.Jobs.{arity_of, job_bytes, job_length}
use Rattle.packed.specs.Writing.{left_after, write_at, bytes_after}
use Rattle.packed.specs.LengthLaws.{job_some}
use Rattle.packed.specs.declared.jobs.Job.{Job}
use Rattle.packed.proofs.write.write_job.Goals as goal

written : (l place next : ℕ) (j : Job) → (arity_of j.function ≡ 0 → ⊥) → job_length j ≤ left_after l place
    → next ≡ place + length (job_bytes j)
    → Ok next ≡ write_at l place j
unfolding write_at job_length
written l place next j h k e = rw (ne_eqb (arity_of j.function) 0 h, le-ltb (left_after l place) (length (job_bytes j)) k, e)

pub returns-then-arity-eq0 : goal.returns-then-arity-eq0
unfolding write_at bytes_after
returns-then-arity-eq0 c =
    record { value = rw (eq-eqb _ 0 (sym c.arity.ensures ∙ c.if-arity-eq0.true)); bytes_after = refl }

pub returns-then-left_after-job_length : goal.returns-then-left_after-job_length
unfolding write_at bytes_after
returns-then-left_after-job_length c =
    record {
      value = rw (
        ne_eqb _ 0 (λ e. c.if-arity-eq0.false (c.arity.ensures ∙ e)),
        sym c.left_after.ensures,
        sym c.job_length.ensures,
        lt-ltb _ _ c.if-left_after-job_length.true,
      );
      bytes_after = refl;
    }

pub put_job-requires : goal.put_job-requires
unfolding left_after
put_job-requires c =
    let a = c.args in
    omega (arith, job_some a.job, c.if-left_after-job_length.false, c.left_after.ensures, c.job_length.ensures)

pub returns : goal.returns
unfolding bytes_after
returns c =
    let a = c.args in record {
      value = written (length a.bytes.now) a.place _ a.job (λ e. c.if-arity-eq0.false (c.arity.ensures ∙ e))
          (omega (arith, c.if-left_after-job_length.false, c.left_after.ensures, c.job_length.ensures)) c.put_job.ensures.place;
      bytes_after = c.put_job.ensures.bytes;
    }
