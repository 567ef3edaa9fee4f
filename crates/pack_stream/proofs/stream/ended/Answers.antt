-- `ended` meets its contract: a good line's job is put, and a bad line is said to be bad. Assumes nothing.
use Rattle.std.proofs.Common.{Option, Some, None}
use Prim.Native.Nat.{ℕ}
use mathlib.Core.Path.{◌≡◌, refl, sym, ◌∙◌}
use mathlib.Core.Bool.{true, false}
use mathlib.Core.List.{List, []}
use Rattle.calls.specs.declared.Call.{Call}
use Rattle.packed.specs.Jobs.{job_bytes}
use Rattle.writing.specs.Written.{Put, put_none}
use Rattle.pack_stream.specs.Pack.{job_of, line_end, Packs}
use Rattle.pack_stream.proofs.stream.ended.Goals as goal

good : (r : Option Call) (c : Call) (before out : List ℕ) (at next : ℕ) → r ≡ Some c
    → Put before at (job_bytes (job_of c)) out next
    → Packs (line_end r) [] before at out (record { held = 0; used = next; lines = 1; bad = false })
unfolding line_end
good r c before out at next e p = rw e (record { left = refl; said = p; counted = refl })

bad : (r : Option Call) (before : List ℕ) (at : ℕ) → r ≡ None
    → Packs (line_end r) [] before at before (record { held = 0; used = at; lines = 1; bad = true })
unfolding line_end
bad r before at e = rw e (record { left = refl; said = put_none before at; counted = refl })

pub returns-in-Some : goal.returns-in-Some
returns-in-Some c =
    record { packs = good _ _ _ _ _ _ (sym c.call_of.ensures ∙ c.in-Some.is) c.put_call.ensures; held_value = refl }

pub returns-in-None : goal.returns-in-None
returns-in-None c =
    record { packs = bad _ _ _ (sym c.call_of.ensures ∙ c.in-None.is); held_value = refl }
