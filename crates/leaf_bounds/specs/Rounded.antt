-- A fraction between two powers of two stays between them when it is rounded. Assumes nothing.
use Rattle.std.specs.Prelude.{ℕ, ◌+◌, ◌*◌, ◌^◌, ◌≤◌, ◌<◌, ◌≡◌, refl, Bool, true, false, Float}
use Rattle.std.proofs.Common.{sym, ◌∙◌, add-le-add, le-add_right, le_trans, le_of_eq, lt_of_le_of_lt, mul-one, one-mul, mul-le-mul_right, zero-lt-suc, arith, pow-add, pow_pos, pow_mono}
use Rattle.std.proofs.Math.Pow.{pow-lt}
use Rattle.std.specs.Float.{Format}
use Rattle.std.specs.Float.Ieee.{low, round, sub}
use Rattle.std.specs.Float.Ieee.Scale.{overflow}
use Rattle.scaling.specs.Near.{near, digits, near_mono, near_exact}
use Rattle.scaling.specs.Units.{Is, round_units, neg_units, add_units}

-- x has the sign s and from 2 ^ lo to 2 ^ hi units
pub record Powers (f : Format) (s : Bool) (lo hi : ℕ) (x : Float) : Type 0 where
  pub n : ℕ
  pub is : Is f x s n
  pub from : 2 ^ lo ≤ n
  pub to : n ≤ 2 ^ hi

-- a power of two is not changed
power : (f : Format) (j : ℕ) → near f (1 * 2 ^ j * 1) 1 ≡ 2 ^ j
power f j = near_exact f 1 j 1 (zero-lt-suc 0) (pow-lt (digits f)) ∙ one-mul (2 ^ j)

plain : (j : ℕ) → 1 * 2 ^ j * 1 ≡ 2 ^ j
plain j = mul-one (1 * 2 ^ j) ∙ one-mul (2 ^ j)

mul_two : (n : ℕ) → n * 2 ≡ n + n
mul_two n = omega arith

module _ (f : Format) (s : Bool) (A t lo hi i j : ℕ) (least : 2 ^ i ≤ A) (most : A ≤ 2 ^ j) (down : lo + t ≤ i + low f)
    (up : j + low f ≤ hi + t)
    (fits : 2 ^ hi < overflow f) where
  abbrev n : ℕ
  n = near f (A * 2 ^ low f) (2 ^ t)

  above : 2 ^ lo ≤ n
  above =
      le_trans (le_of_eq (sym (power f lo)))
      (near_mono f (1 * 2 ^ lo * 1) 1 (A * 2 ^ low f) (2 ^ t) (zero-lt-suc 0) (pow_pos t)
      (rw (plain lo, mul-one)
      (le_trans (le_of_eq (sym (pow-add 2 lo t))) (le_trans (pow_mono down)
      (le_trans (le_of_eq (pow-add 2 i (low f))) (mul-le-mul_right (2 ^ low f) least))))))

  under : n ≤ 2 ^ hi
  under =
      le_trans
      (near_mono f (A * 2 ^ low f) (2 ^ t) (1 * 2 ^ hi * 1) 1 (pow_pos t) (zero-lt-suc 0)
      (rw (plain hi, mul-one)
      (le_trans (mul-le-mul_right (2 ^ low f) most) (le_trans (le_of_eq (sym (pow-add 2 j (low f))))
      (le_trans (pow_mono up) (le_of_eq (pow-add 2 hi t)))))))
      (le_of_eq (power f hi))

  pub rounded_between : Powers f s lo hi (round f s A (2 ^ t))
  rounded_between = record {
    n = n;
    is = round_units f s A (2 ^ t) (A * 2 ^ low f) (2 ^ t) (pow_pos t) (pow_pos t) refl (lt_of_le_of_lt under fits);
    from = above;
    to = under;
  }

-- the difference of one above zero and one below, of one size: at most one power of two more
module _ (f : Format) (lo hi : ℕ) {x y : Float} (v : Powers f false lo hi x) (w : Powers f true lo hi y)
    (fits : 2 ^ (hi + 1) < overflow f) where
  abbrev sum : ℕ
  sum = near f (v.n + w.n) 1

  sum_above : 2 ^ lo ≤ sum
  sum_above =
      le_trans (le_of_eq (sym (power f lo)))
      (near_mono f (1 * 2 ^ lo * 1) 1 (v.n + w.n) 1 (zero-lt-suc 0) (zero-lt-suc 0)
      (mul-le-mul_right 1 (le_trans (le_of_eq (plain lo)) (le_trans v.from (le-add_right v.n w.n)))))

  double : 2 ^ hi + 2 ^ hi ≡ 2 ^ (hi + 1)
  double = sym (pow-add 2 hi 1 ∙ mul_two (2 ^ hi))

  sum_under : sum ≤ 2 ^ (hi + 1)
  sum_under =
      le_trans
      (near_mono f (v.n + w.n) 1 (1 * 2 ^ (hi + 1) * 1) 1 (zero-lt-suc 0) (zero-lt-suc 0)
      (mul-le-mul_right 1 (le_trans (add-le-add v.to w.to) (le_of_eq (double ∙ sym (plain (hi + 1)))))))
      (le_of_eq (power f (hi + 1)))

  pub sum_between : Powers f false lo (hi + 1) (sub f x y)
  unfolding sub
  sum_between = record {
    n = sum;
    is = add_units v.is (neg_units w.is) (lt_of_le_of_lt sum_under fits);
    from =
        sum_above;
    to = sum_under;
  }
