-- `put_name` meets its contract: cel's name, or its two letters. Assumes nothing.
use Prim.Native.Nat.{ℕ, ◌+◌}
use mathlib.Core.Path.{◌≡◌, refl, sym, ◌∙◌}
use mathlib.Core.Bool.{true, true≢false}
use mathlib.Core.List.{List, [], ◌∷◌}
use native.Mathlib.Numerals.{add-one}
use native.Mathlib.Omega.{arith}
use borrow.Author.Rules.{rules}
use lib.ListN.{set, length-set}
use Rattle.calls.specs.Calls.{name_of}
use Rattle.calls.specs.declared.Call.{Call}
use Rattle.calls.specs.declared.Call.TheVariants.{Rc, Rf, Rd, Rg, Rj, Cel}
use Rattle.writing.specs.Written.{Put, tried_put, put_length}
use Rattle.listing_write.specs.Text.{is_cel}
use Rattle.listing_write.proofs.put_name.Goals as goal

-- cel's name
cel-name : (c : Call) → is_cel c ≡ true → name_of c ≡ 67 ∷ 69 ∷ 76 ∷ []
unfolding is_cel name_of
cel-name (Rc x y) e = absurd (true≢false (sym e))
cel-name (Rf x y z) e = absurd (true≢false (sym e))
cel-name (Rd x y z) e = absurd (true≢false (sym e))
cel-name (Rg x y z) e = absurd (true≢false (sym e))
cel-name (Rj x y z p) e = absurd (true≢false (sym e))
cel-name (Cel kc p a b) e = refl

pub returns-then-is_cel : goal.returns-then-is_cel
returns-then-is_cel c =
    rw (cel-name _ (sym c.is_cel.ensures ∙ c.if-is_cel.true)) (tried_put (omega arith) c.put_text.ensures)
