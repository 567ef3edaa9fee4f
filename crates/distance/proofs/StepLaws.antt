-- The distance is a distance. Assumes nothing.
use Rattle.std.specs.Prelude.{ℕ, ◌+◌, ◌-◌, ◌^◌, ◌≤◌, ◌<◌, ◌≡◌, refl}
use Rattle.std.proofs.Common.{⊎_elim, arith, le-leb}
use Rattle.std.proofs.lemmas.Bool.{lt-leb}
use Rattle.algebra.specs.Order.{lt_or_le}
use Rattle.distance.specs.Steps.{step_of, gap, apart_of}

-- "zeros of both signs being one"
pub zeros_are_one : apart_of 0 (2 ^ 63) ≡ 0
unfolding apart_of step_of gap
zeros_are_one = refl

-- ---- the step number, by the sign
pub step_above : (b : ℕ) → b < 2 ^ 63 → step_of b ≡ 2 ^ 63 + b
unfolding step_of
step_above b h = rw (lt-leb (2 ^ 63) b h) (omega arith)

pub step_below : (b : ℕ) → b < 2 ^ 63 → step_of (2 ^ 63 + b) ≡ 2 ^ 63 - b
unfolding step_of
step_below b h = rw (le-leb (2 ^ 63) (2 ^ 63 + b) (omega arith)) (omega arith)

-- x and -x lie twice x's place apart
pub opposite : (b : ℕ) → b < 2 ^ 63 → apart_of b (2 ^ 63 + b) ≡ b + b
unfolding apart_of gap
opposite b h = rw (step_above b h, step_below b h) (omega arith)

-- ---- neighbours are one step apart, on each side of zero
pub next_above : (b : ℕ) → b + 1 < 2 ^ 63 → apart_of b (b + 1) ≡ 1
unfolding apart_of gap
next_above b h = rw (step_above b (omega arith), step_above (b + 1) h) (omega arith)

pub next_below : (b : ℕ) → b + 1 < 2 ^ 63 → apart_of (2 ^ 63 + b) (2 ^ 63 + (b + 1)) ≡ 1
unfolding apart_of gap
next_below b h = rw (step_below b (omega arith), step_below (b + 1) h) (omega arith)

-- ---- a distance: to itself none, the same from both sides, and no detour is shorter
pub apart_self : (a : ℕ) → apart_of a a ≡ 0
unfolding apart_of gap
apart_self a = omega arith

pub apart_sym : (a b : ℕ) → apart_of a b ≡ apart_of b a
unfolding apart_of gap
apart_sym a b = omega arith

pub apart_detour : (a b c : ℕ) → apart_of a c ≤ apart_of a b + apart_of b c
unfolding apart_of gap
apart_detour a b c = omega arith

-- none only where the step numbers are one
pub apart_none : (a b : ℕ) → apart_of a b ≡ 0 → step_of a ≡ step_of b
unfolding apart_of gap
apart_none a b h = omega arith

-- ---- it fits a u64
pub step_fits : (b : ℕ) → step_of b < 2 ^ 64
unfolding step_of
step_fits b =
    ⊎_elim (λ h. rw (lt-leb (2 ^ 63) b h) (omega arith)) (λ h. rw (le-leb (2 ^ 63) b h) (omega arith)) (lt_or_le b (2 ^ 63))
