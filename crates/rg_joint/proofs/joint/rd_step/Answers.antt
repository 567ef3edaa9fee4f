-- `rd_step` meets its contract: a share that is done stays as it is. Assumes nothing.
use mathlib.Core.Path.{◌≡◌, ap, ◌∙◌}
use mathlib.Core.Bool.{true, false}
use lib.Ieee.{Float}
use Rattle.rg_joint.specs.declared.joint.RdPart.{RdPart}
use Rattle.rg_joint.specs.Joint.{rd_moved, rd_ended, rd_next}
use Rattle.rg_joint.proofs.joint.rd_step.Goals as goal

stays : (p : RdPart) (lambda rz zn x y a0 : Float) → p.done ≡ true → p ≡ rd_next p lambda rz zn x y a0
unfolding rd_next
stays p lambda rz zn x y a0 h = rw h

moves : (p : RdPart) (lambda rz zn x y a0 : Float) → p.done ≡ false
    → rd_ended (rd_moved p lambda rz zn) x y a0 ≡ rd_next p lambda rz zn x y a0
unfolding rd_next
moves p lambda rz zn x y a0 h = rw h

pub returns-then-done : goal.returns-then-done
returns-then-done c =
    let a = c.args in stays a.p a.lambda a.rz a.zn a.x a.y a.a0 c.if-done.true

pub returns : goal.returns
returns c =
    let a = c.args in
    c.rd_ended.ensures ∙ ap (λ (q : RdPart). rd_ended q a.x a.y a.a0) c.rd_moved.ensures
    ∙ moves a.p a.lambda a.rz a.zn a.x a.y a.a0 c.if-done.false
