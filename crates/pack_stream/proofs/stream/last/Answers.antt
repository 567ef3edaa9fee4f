-- `last` meets its contract: an empty rest is no line. Assumes nothing.
use Prim.Native.Nat.{ℕ, zero, suc, ◌≤◌}
use mathlib.Core.Path.{◌≡◌, refl, sym}
use mathlib.Core.Bool.{false}
use mathlib.Core.List.{List, [], ◌∷◌}
use native.Mathlib.Omega.{arith}
use lib.ListN.{length, take}
use lib.Seq.{length-take-le}
use Rattle.listing_read.specs.Lines.{call_of}
use Rattle.writing.specs.Fed.{run}
use Rattle.writing.specs.FedLaws.{fed_quiet, run_one}
use Rattle.writing.specs.Input.{last_line}
use Rattle.pack_stream.specs.Pack.{holding, line_end, pack_last, job_room, Packs}
use Rattle.pack_stream.specs.declared.stream.Progress.{Progress}
use Rattle.pack_stream.proofs.Bounds.{line_short}
use Rattle.pack_stream.proofs.stream.last.Goals as goal

none :
    (o l : List ℕ) (n : ℕ) (r : Progress) → n ≡ 0 → r ≡ record { held = 0; used = 0; lines = 0; bad = false }
    → Packs (pack_last (holding (take n l))) [] o 0 o r × (r.used ≤ job_room)
unfolding run last_line
none o l n r e f = rw (e, f) (fed_quiet (holding []) o 0, omega arith)

some : (l : List ℕ) (n : ℕ) → (n ≡ 0 → ⊥) → n ≤ length l → pack_last (holding (take n l)) ≡ line_end (call_of (take n l))
unfolding last_line
some l zero ne h = absurd (ne refl)
some [] (suc n) ne h = absurd (omega arith)
some (b ∷ l) (suc n) ne h = run_one _ _ (holding (take (suc n) (b ∷ l))) (take (suc n) (b ∷ l)) refl

pub returns-then-n-eq0 : goal.returns-then-n-eq0
returns-then-n-eq0 c =
    record { packs = (none c.args.out.now c.args.held.now _ _ c.if-n-eq0.true c.nothing.ensures).0; used_le_job_room = (none c.args.out.now c.args.held.now _ _ c.if-n-eq0.true c.nothing.ensures).1 }

pub slice_bounds-ended-end : goal.slice_bounds-ended-end
slice_bounds-ended-end c =
    sym (length-take-le _ _ (omega arith))

pub returns : goal.returns
returns c =
    let p = c.ended.ensures.packs in record { packs = rw (some c.args.held.now c.args.n c.if-n-eq0.false c.requires.n_in_bounds) p; used_le_job_room = omega (arith, p.said.place, (line_short (call_of (take c.args.n c.args.held.now))).0) }
