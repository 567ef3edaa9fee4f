-- How many digits a number has. Assumes nothing.
use Rattle.std.specs.Prelude.{ℕ, zero, suc, ◌/◌, ◌^◌, ◌≤◌, ◌<◌, ◌≡◌, refl}
use Rattle.std.proofs.Common.{ap, inl, inr, pow-suc, div-lt_iff_lt-mul, arith, lt-ltb, le-ltb}
use Rattle.algebra.specs.Order.{lt_or_le}
use Rattle.writing.specs.Decimal.{places_of}

pub shorter : (k n : ℕ) → n < 10 ^ suc (suc k) → n / 10 < 10 ^ suc k
shorter k n h = (div-lt_iff_lt-mul {k = 10} {x = n} {y = 10 ^ suc k} (omega arith)).1 (rw pow-suc at h)

longer : (k n : ℕ) → n / 10 < 10 ^ suc k → n < 10 ^ suc (suc k)
longer k n h = rw pow-suc ((div-lt_iff_lt-mul {k = 10} {x = n} {y = 10 ^ suc k} (omega arith)).0 h)

-- suc k digits, which hold n, and no more than are allowed
pub record Counted (more n : ℕ) : Type 0 where
  pub k : ℕ
  pub is : places_of more n ≡ suc k
  pub enough : n < 10 ^ suc k
  pub most : k ≤ more

one : (more n : ℕ) → n < 10 → Counted more n
unfolding places_of
one zero n h = record { k = 0; is = refl; enough = omega arith; most = omega arith }
one (suc more) n h = record { k = 0; is = rw (lt-ltb n 10 h); enough = omega arith; most = omega arith }

next : (more n : ℕ) → 10 ≤ n → Counted more (n / 10) → Counted (suc more) n
unfolding places_of
next more n l c = record {
  k = suc c.k;
  is = rw (le-ltb n 10 l) (ap suc c.is);
  enough = longer c.k n c.enough;
  most = omega (arith, c.most);
}

pub counted : (more n : ℕ) → n < 10 ^ suc more → Counted more n
counted zero n h = one zero n (omega arith)
counted (suc more) n h = elim (lt_or_le n 10) [
  | inl l ↦ one (suc more) n l
  | inr l ↦ next more n l (counted more (n / 10) (shorter more n h))
]
