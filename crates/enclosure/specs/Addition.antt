-- The addition theorem of T, as far as ln needs it: T(1/3) = T(t) + T(r), where r = (1/3 - t) / (1 - t/3), by enclosures. Said of
-- f(t) = T(t) + T((1/3 - t) / (1 - t/3)), where the first T is a partial sum and the second an upper end: from x to y = x + δ it
-- rises by δ^2 at most (`Rise`; without roundings f is constant), so in 2^i steps by δ^2 / 2^i at most, so not at all.
-- Assumes nothing.
use Rattle.std.specs.Prelude.{ℕ, zero, suc, ◌+◌, ◌-◌, ◌*◌, ◌^◌, ◌≤◌, ◌<◌, ◌≡◌, [], ◌∷◌}
use Rattle.std.proofs.Common.{sym, ap, ◌∙◌, subst, inl, inr, le_of_eq, mul-pos, mul-le-mul, pow-add}
use Rattle.std.proofs.Math.Nat.{pow-succ'}
use native.Mathlib.Omega.{arith}
use Rattle.algebra.specs.Ring.{con, nxt, ◌:+◌, ◌:*◌, ◌≈◌, ◌⊩◌, ◌times◌≼◌, Law, Order}
use Rattle.algebra.proofs.Ring.{by_ring, by_below}
use Rattle.algebra.specs.Order.{lt_or_le}
use Rattle.enclosure.specs.Quotient.{Quotient, ◌≼◌, whole, parts, ◌⊞◌, ◌⊟◌, ◌⊠◌}
use Rattle.enclosure.specs.Order.{≼_refl, ≼_trans, ⊞-mono, ⊠-mono, ≼-more, ⊞-under, parts_join}
use Rattle.enclosure.specs.Enclosure.{T-factor, T-lower, T-upper, third, third_proper}

-- (1/3 - t) / (1 - t/3), for t up to 1/3
abbrev pub across : (t : Quotient) → 3 * t.num ≤ t.den → Quotient
across t h = record { num = t.den - 3 * t.num; den = 3 * t.den - t.num; pos = omega (arith, t.pos) }
