-- `tried` meets its contract, case by case as its definition. Assumes nothing.
use Rattle.refusals.specs.declared.Refusal.{Refusal}
use Rattle.refusals.specs.declared.Refusal.TheVariants.{ListCut}
use Rattle.std.specs.Prelude.{Option, Some, None, Ok, Err}
use Prim.Native.Nat.{ℕ, ◌≤◌}
use mathlib.Core.Path.{◌≡◌, refl, sym, ap, ◌∙◌}
use mathlib.Core.Bool.{true, false}
use mathlib.Core.List.{List}
use native.Mathlib.Omega.{arith}
use lib.ListN.{length}
use lib.Seq.{take-length}
use Rattle.packed.specs.declared.read.Got.{Got}
use Rattle.writing.specs.FedLaws.{fed_quiet}
use Rattle.writing.specs.Written.{Put}
use Rattle.unpack_stream.specs.Text.{job_text}
use Rattle.unpack_stream.specs.Unpack.{holding, refused, is_cut, tried_as, Unpacks}
use Rattle.packed.specs.Reading.{Read}
use Rattle.refusals.specs.contracts.Refusal.{the_type}
use denote.Enum.Bare.{sameb}
use Rattle.unpack_stream.specs.declared.stream.Progress.{Progress}
use Rattle.unpack_stream.proofs.stream.tried.Goals as goal

module _ (r : Read) (h before : List ℕ) (at : ℕ) where
  found : (got : Got) (out : List ℕ) (next : ℕ) → r ≡ Ok (Some got) → Put before at (job_text got.job) out next
      → Unpacks (tried_as h r) h before at out (record { held = 0; used = next; taken = length h; stop = None })
  unfolding tried_as
  found got out next e p = rw e (record { left = refl; said = p; counted = refl })

  abbrev waits : Progress
  waits = record { held = length h; used = at; taken = 0; stop = None }

  none : (p : Progress) → p ≡ waits → r ≡ (Ok None) → Unpacks (tried_as h r) h before at before p × (p.held ≤ length h)
  unfolding tried_as
  none p f e = rw (f, e, take-length h) (fed_quiet (holding h) before at, omega arith)

  cut : (p : Progress) (n : Refusal) → p ≡ waits → r ≡ Err n → is_cut n ≡ true
      → Unpacks (tried_as h r) h before at before p × (p.held ≤ length h)
  unfolding tried_as
  cut p n f e g = rw (f, e, g, take-length h) (fed_quiet (holding h) before at, omega arith)

  bad : (n : Refusal) → r ≡ Err n → is_cut n ≡ false
      → Unpacks (tried_as h r) h before at before (record { held = 0; used = at; taken = 0; stop = Some n })
  unfolding tried_as
  bad n e f = rw (e, f) (fed_quiet (refused n) before at)

pub returns-in-Ok-Some : goal.returns-in-Ok-Some
returns-in-Ok-Some c =
    let e = sym c.read_job.ensures ∙ c.in-Ok-Some.is ∙ ap (λ (o : Option Got). Ok o) c.in-Ok-Some.field-0-is in
    record { unpacks = found _ _ _ _ _ _ _ e c.put_job_text.ensures; held_in_bounds = omega arith }

pub returns-in-Ok-None : goal.returns-in-Ok-None
returns-in-Ok-None c =
    let e = sym c.read_job.ensures ∙ c.in-Ok-None.is ∙ ap (λ (o : Option Got). Ok o) c.in-Ok-None.field-0-is in
    let w = none _ c.args.held.now c.args.out.now c.args.used _ c.waiting.ensures e in
    record { unpacks = w.0; held_in_bounds = w.1 }

-- the code's comparison is the definition's test
same : (r : Refusal) → sameb the_type r ListCut ≡ is_cut r
unfolding is_cut
same ListCut = refl
same r = refl

pub returns-then-eq : goal.returns-then-eq
returns-then-eq c =
    let t : is_cut c.in-Err.refusal ≡ true = sym (same c.in-Err.refusal) ∙ sym c.if-eq.ensures in
    let w = cut _ c.args.held.now c.args.out.now c.args.used _ _ c.waiting-then-eq.ensures (sym c.in-Err.ensures) t in
    record { unpacks = w.0; held_in_bounds = w.1 }

pub returns-else-eq : goal.returns-else-eq
returns-else-eq c =
    let t : is_cut c.in-Err.refusal ≡ false = sym (same c.in-Err.refusal) ∙ sym c.if-eq.ensures in
    record { unpacks = bad _ _ _ _ _ (sym c.in-Err.ensures) t; held_in_bounds = omega arith }
