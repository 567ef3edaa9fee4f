-- A line of which something has come is no longer at its start. Assumes nothing.
use Rattle.std.specs.Prelude.{ℕ, ◌≡◌, Bool, cond}
use Rattle.std.proofs.Math.Path.{refl}
use Rattle.std.proofs.Math.Bool.{true, false}
use Rattle.std.proofs.Math.Dec.{eqb}
use Rattle.millimetres.specs.Measured.{last_begun}
use Rattle.bench_read.specs.Rows.{open_at, fresh_at, staged_of, field_at, swing_fed, times_fed, swing_blank, blank_in}
use Rattle.bench_read.specs.Rows.{blank_after}
use Rattle.bench_read.specs.Rows.{other_in, other_after, row_after}
use Rattle.bench_read.specs.declared.rows.Stage.{Stage}
use Rattle.bench_read.specs.declared.rows.Stage.TheVariants.{NothingYet, Begun, Returned, Spoilt}
use Rattle.bench_read.specs.declared.rows.Field.{Field}
use Rattle.bench_read.specs.declared.rows.Field.TheVariants.{Name, Swing, Times}
use Rattle.bench_read.specs.declared.rows.Row.{Row}

pub begins : (r : Row) (b : ℕ) → fresh_at (row_after r b).stage ≡ false
unfolding row_after staged_of fresh_at
begins r b = go (open_at r.stage) (eqb b 13) (eqb b 32)
  where
    blank : (f : Field) → fresh_at (blank_in f r).stage ≡ false
    blank Name = unfold blank_in field_at fresh_at in refl
    blank Swing = unfold blank_in swing_blank in by (last_begun r.swing)
      where
        by : (t : Bool) → fresh_at (cond t (field_at r Times) (swing_fed r 32)).stage ≡ false
        by true = unfold field_at fresh_at in refl
        by false = unfold swing_fed fresh_at in refl
    blank Times = unfold blank_in times_fed fresh_at in refl

    other : (f : Field) → fresh_at (other_in f r b).stage ≡ false
    other Name = unfold other_in field_at fresh_at in refl
    other Swing = unfold other_in swing_fed fresh_at in refl
    other Times = unfold other_in times_fed fresh_at in refl

    go : (t u v : Bool) → fresh_at
        (cond t (cond u (staged_of r Returned) (cond v (blank_after r) (other_after r b))) (staged_of r Spoilt)).stage ≡ false
    go true true v = unfold staged_of fresh_at in refl
    go true false true = unfold blank_after in blank r.field
    go true false false = unfold other_after in other r.field
    go false u v = unfold staged_of fresh_at in refl
