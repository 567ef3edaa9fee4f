-- `place` meets its contract: the guess is right for every power of two. Assumes nothing.
use Prim.Native.Nat.{ℕ, ◌+◌, ◌-◌, ◌<◌}
use native.Mathlib.Omega.{arith}
use lib.Count.{count_leading_zeros}
use Rattle.nearest.specs.Normal.{Normal, normal}
use Rattle.decimal_write.specs.Guess.{guess_of, guess_right}
use Rattle.decimal_write.specs.Whole.{Fit, fit}
use Rattle.decimal_write.proofs.parts.place.Goals as goal

guessed : (m y z : ℕ) → y < 2047 → Normal m z → Fit m y (guess_of (y + 63 - z))
guessed m y z h n =
    let l = n.less in
    fit m y z (y + 63 - z) (guess_of (y + 63 - z)) n (omega (arith, l)) (guess_right (y + 63 - z) (omega (arith, l)))

pub returns : goal.returns
returns c =
    guessed c.args.m c.args.y (count_leading_zeros 64 c.args.m) (omega arith)
    (normal c.args.m c.requires.0 c.ranges.m.fits)
