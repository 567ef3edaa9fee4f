-- `numbers` meets its contract, by `Finish`. Assumes nothing.
use Rattle.std.proofs.Common.{T, sym, ◌∙◌, subst, arith, rules}
use lib.Ieee.{binary64, fits, to_bits}
use Rattle.nearest.specs.Stands.{wide}
use Rattle.fused.specs.Parts.{Window}
use Rattle.fused.proofs.Pattern.{same_three}
use Rattle.fused.proofs.Finish.{window_product, window_one, windows_fused}
use Rattle.fused.proofs.numbers.numbers.Goals as goal
use Rattle.fused.proofs.numbers.numbers.Goals.{Start}

-- what owning an f64 tells: the format holds it
held-a : (c : Start) → T (fits binary64 c.args.a)
held-a c = subst T (sym c.well_formed.0.1) tt

held-b : (c : Start) → T (fits binary64 c.args.b)
held-b c = subst T (sym c.well_formed.1.0.1) tt

held-c : (c : Start) → T (fits binary64 c.args.c)
held-c c = subst T (sym c.well_formed.1.1.0.1) tt

pub returns : goal.returns
returns c =
    let x = c.args in
    let p = c.product-p in
    windows_fused (to_bits binary64 x.a) (to_bits binary64 x.b) (to_bits binary64 x.c) x.x.m x.y.m x.z.m
    x.x.e x.y.e
    x.z.e (wide p.result.hi p.result.lo) c.requires.0.parts c.requires.1.parts c.requires.2.parts p.ensures
    c.total.result c.total.ensures
    ∙ same_three x.a x.b x.c (held-a (goal.at.returns c).Start) (held-b (goal.at.returns c).Start) (held-c (goal.at.returns c).Start)
