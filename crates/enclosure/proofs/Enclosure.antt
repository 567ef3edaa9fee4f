-- The enclosures of document 01, "What the leaves mean": the ends between which T, atan, ln and ln_1p lie after n terms,
-- and what it is for an answer to lie near every one of them. Definitions, with the six inequalities that they need to be
-- written: a denominator is above zero, and the argument of T below 1.
-- T and atan are odd, so all is said of sizes: the sign of an argument is the sign of the answer.
use Rattle.std.specs.Prelude.{ℕ, zero, suc, ◌+◌, ◌-◌, ◌*◌, ◌<◌}
use Rattle.std.proofs.Common.{mul-pos, mul-le-mul, arith}
use Rattle.enclosure.specs.Quotient.{Quotient, ◌≼◌, whole, over, ◌⊞◌, ◌⊟◌, ◌⊠◌}
use Rattle.enclosure.specs.Enclosure.{gain, loss}

pub gain_proper : (a : Quotient) → (gain a).num < (gain a).den
gain_proper a = omega (arith, a.pos)

pub loss_proper : (a : Quotient) (h : a.num < a.den) → (loss a h).num < (loss a h).den
loss_proper a h = omega arith
