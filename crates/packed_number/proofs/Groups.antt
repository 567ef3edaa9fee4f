-- One group more of a number, read or written. Assumes nothing.
use Rattle.std.specs.Prelude.{ℕ, zero, suc, ◌+◌, ◌-◌, ◌*◌, ◌/◌, ◌%◌, ◌^◌, ◌≤◌, ◌<◌, ◌≡◌, refl, List, Err, [], ◌∷◌, length, get_or, drop}
use Rattle.std.proofs.Common.{sym, mul-le-mul_right, le-mul_of_pos_right, pow-suc, add-one, arith, lt-ltb, le-ltb, eq-eqb, ne_eqb, drop_of_length-le, drop-cons}
use Rattle.std.proofs.Math.Nat.{pow-zero}
use Rattle.packed_number.specs.Numbers.{whole, groups_of, last_group, number_from}
use Rattle.packed_number.proofs.NumberLaws.{power_some, group_adds}
use Rattle.refusals.specs.declared.Refusal.TheVariants.{ListCut, NumberBad}
use Rattle.packed_number.specs.Groups.{tenth}

-- ---- the weight of a group and the value before it
pub weight_more : (w left m : ℕ) → left ≡ suc m → w * 128 ^ left ≤ tenth → w * 128 * 128 ^ m ≤ tenth
weight_more w left m e h = let k : w * (128 ^ m * 128) ≤ tenth = rw (e, pow-suc) at h in omega arith

weight_fits : (w m : ℕ) → w * 128 ^ m ≤ tenth → w ≤ tenth
weight_fits w m h = omega (arith, le-mul_of_pos_right w (power_some m))

pub last_fits : (w left : ℕ) → w * 128 ^ left ≤ tenth → w ≤ tenth
last_fits w left h = weight_fits w left h

pub next_fits : (w left m : ℕ) → left ≡ suc m → w * 128 ^ left ≤ tenth → w * 128 ≤ tenth
next_fits w left m e h = weight_fits (w * 128) m (weight_more w left m e h)

pub value_more : (w v g : ℕ) → v < w → g < 128 → v + g * w < w * 128
value_more w v g h k = let z : g ≤ 127 = omega arith in omega (arith, mul-le-mul_right w z)

-- ---- what is read
pub read_cut : (left w v at : ℕ) (l : List ℕ) → length l ≤ at → Err ListCut ≡ number_from left w v at (drop at l)
unfolding number_from
read_cut zero w v at l h = rw (drop_of_length-le l {i = at} h)
read_cut (suc left) w v at l h = rw (drop_of_length-le l {i = at} h)

pub read_last : (left m w v at : ℕ) (l : List ℕ) → left ≡ suc m → at < length l → get_or l at 0 < 128
    → last_group w v (at + 1) (get_or l at 0) ≡ number_from left w v at (drop at l)
unfolding number_from
read_last left m w v at l e h k = rw (e, drop-cons l at 0 h, lt-ltb (get_or l at 0) 128 k)

pub read_more : (left m w v at : ℕ) (l : List ℕ) → left ≡ suc m → at < length l → 128 ≤ get_or l at 0
    → number_from m (w * 128) (v + (get_or l at 0 - 128) * w) (at + 1) (drop (at + 1) l) ≡ number_from left w v at (drop at l)
read_more left m w v at l e h k =
    rw (e, drop-cons l at 0 h, add-one) (rw add-one at (sym (group_adds m w v at (get_or l at 0) (drop (suc at) l) k)))

pub read_tenth : (left w v at : ℕ) (l : List ℕ) → left ≡ 0 → at < length l → get_or l at 0 ≡ 1
    → whole (v + w) (at + 1) ≡ number_from left w v at (drop at l)
unfolding number_from
read_tenth left w v at l e h k = rw (e, drop-cons l at 0 h, eq-eqb (get_or l at 0) 1 k)

pub read_beyond : (left w v at : ℕ) (l : List ℕ) → left ≡ 0 → at < length l → (get_or l at 0 ≡ 1 → ⊥)
    → Err NumberBad ≡ number_from left w v at (drop at l)
unfolding number_from
read_beyond left w v at l e h k = rw (e, drop-cons l at 0 h, ne_eqb (get_or l at 0) 1 k)

-- ---- what is written
pub groups_last : (left n : ℕ) → n < 128 → groups_of left n ≡ n ∷ []
unfolding groups_of
groups_last zero n h = refl
groups_last (suc left) n h = rw (lt-ltb n 128 h)

pub groups_more : (left m n : ℕ) → left ≡ suc m → 128 ≤ n → groups_of left n ≡ (128 + n % 128) ∷ groups_of m (n / 128)
unfolding groups_of
groups_more left m n e h = rw (e, le-ltb n 128 h)

pub groups_tenth : (left n : ℕ) → left ≡ 0 → groups_of left n ≡ n ∷ []
unfolding groups_of
groups_tenth left n e = rw e

-- nine more groups leave one bit for the last
pub rest_less : (left m n : ℕ) → left ≡ suc m → n < 2 * 128 ^ left → n / 128 < 2 * 128 ^ m
rest_less left m n e h = let k : n < 2 * (128 ^ m * 128) = rw (e, pow-suc) at h in omega arith

pub one_bit : (left n : ℕ) → left ≡ 0 → n < 2 * 128 ^ left → n < 2
one_bit left n e h = let k : n < 2 * 128 ^ 0 = rw e at h in omega (arith, pow-zero 128)
