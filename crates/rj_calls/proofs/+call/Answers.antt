-- The answers of `call`, which calls itself: each case of the plan is that of the definition. Assumes nothing.
use Rattle.std.proofs.Common.{Err}
use Rattle.refusals.specs.declared.Refusal.TheVariants.{TooDeep}
use Prim.Native.Nat.{ℕ, zero, suc, ◌-◌, ◌≤◌}
use mathlib.Core.Path.{◌≡◌, refl, sym, ap, ◌∙◌}
use native.Mathlib.Omega.{arith}
use Rattle.carlson.specs.Answer.{Answer}
use Rattle.elliprd.specs.Rd.{over_scale}
use Rattle.rj_negative.specs.declared.reduction.Reduced.{Reduced}
use Rattle.rj_negative.specs.Reduction.{wrapped_answer}
use Rattle.rj_calls.specs.declared.plan.Plan.{Plan}
use Rattle.rj_calls.specs.declared.plan.Rescaled.{Rescaled}
use Rattle.rj_calls.specs.declared.plan.Plan.TheVariants.{Done, Rescale, Reduce}
use Rattle.rj_calls.specs.Run.{plan_of, rj_run}
use Rattle.rj_calls.specs.Few.{run_plain}
use Rattle.rj_calls.proofs.+call.Goals as goal

-- ---- the definition, with calls left
spent : (left : ℕ) (p : Plan) → left ≡ 0 → Err TooDeep ≡ rj_run left p
unfolding rj_run
spent left p e = rw e

done : (left : ℕ) (p q : Plan) (a : Answer) → (left ≡ 0 → ⊥) → p ≡ q → p ≡ Done a → a ≡ rj_run left q
unfolding rj_run
done zero p q a h e f = absurd (h refl)
done (suc left) p q a h e f = rw (sym e ∙ f)

rescales : (left : ℕ) (p q : Plan) (c : Rescaled) → (left ≡ 0 → ⊥) → p ≡ q → p ≡ Rescale c
    → over_scale (rj_run (left - 1) (plan_of c.x c.y c.z c.p)) c.scale ≡ rj_run left q
unfolding rj_run
rescales zero p q c h e f = absurd (h refl)
rescales (suc left) p q c h e f = let s : suc left - 1 ≡ left = omega arith in rw (sym e ∙ f, s)

reduces : (left : ℕ) (p q : Plan) (r : Reduced) → left ≤ 4 → (left ≡ 0 → ⊥) → p ≡ q → p ≡ Reduce r
    → wrapped_answer r (rj_run (left - 1) (plan_of r.x r.y r.z r.p)) ≡ rj_run left q
unfolding rj_run
reduces zero p q r g h e f = absurd (h refl)
reduces (suc left) p q r g h e f =
    let s : suc left - 1 ≡ left = omega arith in
    rw (sym e ∙ f, s) (run_plain left (omega arith) r r.x r.y r.z r.p)

pub returns-then-left-eq0 : goal.returns-then-left-eq0
returns-then-left-eq0 t c = spent c.args.left _ c.if-left-eq0.true

pub returns-in-Done : goal.returns-in-Done
returns-in-Done t c =
    done c.args.left c.planned-plan.result _ _ c.if-left-eq0.false c.planned-plan.ensures c.in-Done.is

pub returns-in-Rescale : goal.returns-in-Rescale
returns-in-Rescale t c =
    c.over_scale.ensures ∙ ap (λ (a : Answer). over_scale a c.in-Rescale.c.scale) c.call.ensures
    ∙ rescales c.args.left c.planned-plan.result _ c.in-Rescale.c c.if-left-eq0.false c.planned-plan.ensures c.in-Rescale.is

pub returns-in-Reduce : goal.returns-in-Reduce
returns-in-Reduce t c =
    c.carried.ensures ∙ ap (λ (a : Answer). wrapped_answer c.in-Reduce.r a) c.call-in-Reduce.ensures
    ∙ reduces c.args.left c.planned-plan.result _ c.in-Reduce.r c.requires c.if-left-eq0.false c.planned-plan.ensures
    c.in-Reduce.is
