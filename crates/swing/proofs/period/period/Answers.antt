-- `period` meets its contract: its tests are those of the definition, in its order. Assumes nothing.
use Prim.Native.Nat.{ℕ}
use mathlib.Core.Path.{◌≡◌, sym, ◌∙◌, subst}
use mathlib.Core.Bool.{Bool, true}
use native.Mathlib.Omega.{arith}
use Rattle.carlson.specs.Answer.{Answer}
use Rattle.swing.specs.Period.{within, period_of, swing_numbers}
use Rattle.carlson.specs.Only.{Only, Finite}
use Rattle.swing.specs.Ranges.{From1}
use Rattle.swing.proofs.Ranges.{in_within}
use Rattle.swing.proofs.Bounded.{period_only}
use Rattle.swing.proofs.period.period.Goals as goal

-- a test that was passed
passed : (n most : ℕ) (r : Bool) → r ≡ within n most → r ≡ true → From1 n most
passed n most r e t = in_within n most (sym e ∙ t)

-- what the definition gives is a finite value, 11 or 12
only_of : (l h g : ℕ) (r : Answer) → r ≡ period_of l h g → Only Finite swing_numbers r
only_of l h g r e = subst (Only Finite swing_numbers) (sym e) (period_only l h g)

pub overflow_mul-length : goal.overflow_mul-length
overflow_mul-length c =
    let l = passed _ _ _ c.in_range.ensures c.if-in_range.true in
    record { fits = omega arith }

pub overflow_sub-length : goal.overflow_sub-length
overflow_sub-length c =
    let l = passed _ _ _ c.in_range.ensures c.if-in_range.true in
    omega arith

pub swing_time-requires : goal.swing_time-requires
swing_time-requires c =
    let l = passed _ _ _ c.in_range.ensures
    c.if-in_range.true in let g = passed _ _ _ c.in_range-then-in_range.ensures c.if-in_range-2.true in let h = passed _ _ _ c.in_range-then-in_range-2.ensures c.if-in_range-3.true in record { length_len_bound = l.largest; gravity_bound = g.largest; height_bound = omega arith }

pub returns-then-in_range-3 : goal.returns-then-in_range-3
unfolding period_of
returns-then-in_range-3 c =
    record {
      value = rw (
        sym c.in_range.ensures
            ∙ c.if-in_range.true,
        sym c.in_range-then-in_range.ensures ∙ c.if-in_range-2.true,
        sym c.in_range-then-in_range-2.ensures ∙ c.if-in_range-3.true,
      ) c.swing_time.ensures;
      only = only_of c.args.length c.args.height c.args.gravity _ (rw (
        sym c.in_range.ensures
            ∙ c.if-in_range.true,
        sym c.in_range-then-in_range.ensures ∙ c.if-in_range-2.true,
        sym c.in_range-then-in_range-2.ensures ∙ c.if-in_range-3.true,
      ) c.swing_time.ensures);
    }

pub returns-then-in_range-2 : goal.returns-then-in_range-2
unfolding period_of
returns-then-in_range-2 c =
    record {
      value = rw (
        sym c.in_range.ensures ∙ c.if-in_range.true,
        sym c.in_range-then-in_range.ensures ∙ c.if-in_range-2.true,
        sym c.in_range-then-in_range-2.ensures ∙ c.if-in_range-3.false,
      );
      only = only_of c.args.length c.args.height c.args.gravity _ (rw (
        sym c.in_range.ensures ∙ c.if-in_range.true,
        sym c.in_range-then-in_range.ensures ∙ c.if-in_range-2.true,
        sym c.in_range-then-in_range-2.ensures ∙ c.if-in_range-3.false,
      ));
    }

pub returns-then-in_range : goal.returns-then-in_range
unfolding period_of
returns-then-in_range c =
    record {
      value = rw (
        sym c.in_range.ensures ∙ c.if-in_range.true,
        sym c.in_range-then-in_range.ensures
            ∙ c.if-in_range-2.false,
      );
      only = only_of c.args.length c.args.height c.args.gravity _ (rw (
        sym c.in_range.ensures ∙ c.if-in_range.true,
        sym c.in_range-then-in_range.ensures
            ∙ c.if-in_range-2.false,
      ));
    }

pub returns : goal.returns
unfolding period_of
returns c =
    record { value = rw (sym c.in_range.ensures ∙ c.if-in_range.false); only = only_of c.args.length c.args.height c.args.gravity _ (rw (sym c.in_range.ensures ∙ c.if-in_range.false)) }
