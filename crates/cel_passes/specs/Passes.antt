-- Bulirsch's cel as the steps of cel.rs in their general form, each rounded once, with document 02's tolerance and cap (2026-09).
-- Definitions only.
use Rattle.std.specs.Prelude.{ℕ, ◌+◌, ◌-◌, Bool, not, cond, Float}
use Rattle.std.specs.Float.{nan}
use Rattle.std.specs.Float.Ieee.{neg, lt}
use Rattle.binary64.specs.Leaves.{absolute}
use Rattle.binary64.specs.Operators.{◌⊕◌, ◌⊖◌, ◌⊗◌, ◌⊘◌, bits}
use Rattle.root.specs.Root.{root}
use Rattle.carlson.specs.Constants.{zero, one, two, half_pi}
use Rattle.carlson.specs.Loop.{capped}
use Rattle.carlson.specs.Answer.{loop_at}
use Rattle.carlson.specs.declared.answer.Found.{Found}
use Rattle.cel_passes.specs.declared.passes.Running.{Running}

-- ---- the constants: "the tolerance is 2 ^ -26, and the cap 30 passes"
abbrev pub tolerance : Float
tolerance = bits 0x3E50_0000_0000_0000

abbrev pub cel_cap : ℕ
cel_cap = 30

-- ---- before the passes, with the size of kc
-- p above zero
unfoldable pub cel_above : Float → Float → Float → Float → Running
cel_above kc p a b = record { kc = kc; e = kc; m = one; g = one; pp = root p; aa = a; bb = b ⊘ root p }

-- p below zero, by the reduction to one above: from the quotient's root, g = 1 - p and q
unfoldable pub cel_reduced : Float → Float → Float → Float → Float → Float → Running
cel_reduced kc r g q a b =
    let aa = (a ⊖ b) ⊘ g in
    record { kc = kc; e = kc; m = one; g = one; pp = r; aa = aa; bb = neg q ⊘ (g ⊗ g ⊗ r) ⊕ aa ⊗ r }

unfoldable pub cel_below : Float → Float → Float → Float → Running
cel_below kc p a b =
    let f = kc ⊗ kc in
    let g = one ⊖ p in
    cel_reduced kc (root ((f ⊖ p) ⊘ g)) g ((b ⊖ a ⊗ p) ⊗ (one ⊖ f)) a b

unfoldable pub cel_begin : Float → Float → Float → Float → Running
cel_begin kc p a b = cond (lt zero p) (cel_above (absolute kc) p a b) (cel_below (absolute kc) p a b)

-- ---- a pass: the means move, and g keeps the m of before
unfoldable pub cel_moved : Running → Float → Running
cel_moved s inv = record {
  kc = s.kc;
  e = s.e;
  m = s.kc ⊕ s.m;
  g = s.m;
  pp = s.e ⊗ inv ⊕ s.pp;
  aa = s.bb ⊗ inv ⊕ s.aa;
  bb = two ⊗ (s.aa ⊗ (s.e ⊗ inv) ⊕ s.bb);
}

unfoldable pub cel_pass : Running → Running
cel_pass s = cel_moved s (one ⊘ s.pp)

-- whether another is wanted
unfoldable pub cel_far : Running → Bool
cel_far s = lt (s.g ⊗ tolerance) (absolute (s.g ⊖ s.kc))

-- for which kc and e are brought on
unfoldable pub cel_with : Running → Float → Running
cel_with s kc = record { kc = kc; e = kc ⊗ s.m; m = s.m; g = s.g; pp = s.pp; aa = s.aa; bb = s.bb }

unfoldable pub cel_next : Running → Running
cel_next s = cel_pass (cel_with s (two ⊗ root s.e))

unfoldable pub cel_value : Running → Float
cel_value s = half_pi ⊗ (s.aa ⊗ s.m ⊕ s.bb) ⊘ (s.m ⊗ (s.m ⊕ s.pp))

abbrev pub cel_near : Running → Bool
cel_near s = not (cel_far s)

-- "its count the passes begun": the first in any case, and n after it
abbrev pub cel_found : Running → ℕ → Found
cel_found s n = loop_at (cel_value s) (n + 1)

-- "the cap spent is no finite result"
abbrev pub cel_spent : Running → ℕ → Found
cel_spent s n = loop_at nan (n + 1)

unfoldable pub cel_from : Running → Found
cel_from s = capped cel_next cel_near cel_found cel_spent (cel_cap - 1) (cel_near s) s 0

unfoldable pub cel_steps : Float → Float → Float → Float → Found
cel_steps kc p a b = cel_from (cel_pass (cel_begin kc p a b))
