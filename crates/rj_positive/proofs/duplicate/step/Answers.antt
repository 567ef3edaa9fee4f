-- `step` meets its contract: `roots_at` has the roots of the definition. Assumes nothing.
use mathlib.Core.Path.{◌≡◌, sym, ap, ◌∙◌}
use lib.Ieee.{Float}
use Rattle.root.specs.Root.{root}
use Rattle.rj_positive.specs.declared.duplicate.Round.{Round}
use Rattle.rj_term.specs.declared.term.Roots.{Roots}
use Rattle.rj_positive.specs.Duplicate.{rj_with, rj_step}
use Rattle.rj_positive.proofs.duplicate.step.Goals as goal

same-roots : (x y z p : Float) (r : Roots) → (r.x ≡ root x) × ((r.y ≡ root y) × ((r.z ≡ root z) × (r.p ≡ root p)))
    → ◌≡◌ {A = Roots} r (record { x = root x; y = root y; z = root z; p = root p })
same-roots x y z p r h = rw (sym h.0, sym h.1.0, sym h.1.1.0, sym h.1.1.1)

stepped : (s : Round) (r : Roots) {t : Round} → t ≡ rj_with s r
    → (r.x ≡ root s.xn) × ((r.y ≡ root s.yn) × ((r.z ≡ root s.zn) × (r.p ≡ root s.pn))) → t ≡ rj_step s
unfolding rj_step
stepped s r e h = e ∙ ap (λ (k : Roots). rj_with s k) (same-roots s.xn s.yn s.zn s.pn r h)

pub returns : goal.returns
returns c =
    stepped c.args.s c.roots_at.result c.with_roots.ensures
    c.roots_at.ensures
