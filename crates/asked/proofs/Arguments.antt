-- The arguments that the logarithms are given, by their units: from 2 up, and between -3/4 and 3/4. Each step rounds once and
-- keeps the order, and each bound is an f64, so that no error is estimated. Assumes nothing.
use Rattle.std.specs.Prelude.{◌≡◌, refl, true, false, cond, ℕ, ◌+◌, ◌-◌, ◌*◌, ◌^◌, ◌≤◌, ◌<◌, T, Float}
use Rattle.std.proofs.Common.{sym, subst, le_trans, le_of_eq, le_of_lt, lt_of_lt_of_le, lt_of_le_of_lt, zero-lt-suc, add-le-add, arith, le-ltb, lit<, lit≤, pow_pos}
use Rattle.std.specs.Float.{binary64}
use Rattle.std.specs.Float.Ieee.{low, round, neg, sub, le, of_bits}
use Rattle.std.specs.Float.Ieee.Bits.{is_true}
use Rattle.std.specs.Float.Ieee.Order.{round_mono}
use Rattle.std.specs.Float.Ieee.Scale.{overflow}
use Rattle.rounding.specs.Cut.{value}
use Rattle.binary64.specs.Operators.{◌⊕◌, ◌⊖◌, ◌⊘◌}
use Rattle.root.specs.Root.{root, root_of}
use Rattle.root.proofs.Laws.{root_number}
use Rattle.between.proofs.Between.{form_of, div_is}
use Rattle.scaling.specs.Near.{near, near_exact, near_whole}
use Rattle.scaling.specs.Units.{Is, add_units, div_units, neg_units}
use Rattle.scaling.proofs.Kind.{near_le}
use Rattle.scaling.proofs.Last.{digits_of, is_under}
use Rattle.scaling.proofs.Lead.{on_grid, shifted}
use Rattle.scaling.specs.One.{lit_n, lit_ok}
use Rattle.scaling.proofs.One.{lit_is, abs_units}
use Rattle.scaling.proofs.Plain.{units_le}
use Rattle.scaling.specs.Rounded.{units_exact}
use Rattle.scaling.specs.Root.{root_units}
use Rattle.scaling.proofs.Root.{root_mono, root_at, root_value}
use Rattle.carlson.specs.Constants.{one, two, half}
use Rattle.asked.specs.Twice.{half_most}
use Rattle.asked.specs.With.{three_quarters, FromTwo, Within}

-- ---- roots
root_some : (n : ℕ) → 0 < n → 0 < root_units n
root_some n h = lt_of_lt_of_le (pow_pos 537) (le_trans (le_of_eq (sym (root_at 0 (lit≤ tt)))) (root_mono 1 n h))

root_most : (n : ℕ) → n < 2 ^ 2098 → root_units n ≤ 2 ^ 1586
root_most n h = le_trans (root_mono n (2 ^ 2098) (le_of_lt h)) (le_of_eq (root_at 1049 (lit≤ tt)))

-- √(9/16) is 3/4
root_exact : root_units (9 * 2 ^ 1070) ≡ 3 * 2 ^ 1072
unfolding root_units value
root_exact =
    units_exact (root_of (9 * 2 ^ 1070) (2 ^ 1074)) (root_number (9 * 2 ^ 1070) (2 ^ 1074) (pow_pos 1074)) 0x3FE8_0000_0000_0000
    (lit< tt) refl

root_half : (n : ℕ) → n ≤ 2 ^ 1073 → root_units n ≤ 3 * 2 ^ 1072
root_half n h = le_trans (root_mono n (9 * 2 ^ 1070) (le_trans h (lit≤ tt))) (le_of_eq root_exact)

-- ---- sums and differences
-- of a number above zero and one below
fall_units : {x y : Float} {X Y : ℕ} → Is binary64 x false X → Is binary64 y true Y → Y ≤ X
    → Is binary64 (x ⊕ y) false (near binary64 (X - Y) 1)
fall_units {x} {y} {X} {Y} Ix Iy h =
    let e = le-ltb X Y h in
    let l : X - Y ≤ X = omega arith in
    let o : near binary64 (X - Y) 1 < overflow binary64 =
    lt_of_le_of_lt (le_trans (near_le binary64 1 (zero-lt-suc 0) l) (le_of_eq (on_grid (digits_of Ix)))) (is_under Ix) in
    subst (λ b. Is binary64 (x ⊕ y) (cond b true false) (near binary64 (cond b (Y - X) (X - Y)) 1)) e
    (add_units Ix Iy (subst (λ b. near binary64 (cond b (Y - X) (X - Y)) 1 < overflow binary64) (sym e) o))

less_units : {x y : Float} {X Y : ℕ} → Is binary64 x false X → Is binary64 y false Y → Y ≤ X
    → Is binary64 (x ⊖ y) false (near binary64 (X - Y) 1)
unfolding sub
less_units Ix Iy h = fall_units Ix (neg_units Iy) h

sum_units : {x y : Float} {X Y : ℕ} → Is binary64 x false X → Is binary64 y false Y → X ≤ 2 ^ 1586 → Y ≤ 2 ^ 1586
    → Is binary64 (x ⊕ y) false (near binary64 (X + Y) 1)
sum_units {X = X} {Y} Ix Iy h k =
    add_units Ix Iy
    (lt_of_le_of_lt (near_le binary64 1 (zero-lt-suc 0) (most X Y h k))
    (lt_of_le_of_lt (le_of_eq (near_exact binary64 1 1587 1 (zero-lt-suc 0) (lit< tt))) (lit< tt)))
  where
    most : (X Y : ℕ) → X ≤ 2 ^ 1586 → Y ≤ 2 ^ 1586 → X + Y ≤ 1 * 2 ^ 1587 * 1
    most X Y h k = le_trans (add-le-add h k) (lit≤ tt)

-- ---- a quotient that is 2 or more, or the infinity
two_is : round binary64 false 2 1 ≡ two
unfolding round of_bits
two_is = refl

twice_over : {x y : Float} {X Y : ℕ} → Is binary64 x false X → Is binary64 y false Y → 0 < Y → Y * 2 ≤ X → FromTwo (x ⊘ y)
twice_over {x} {y} {X} {Y} Ix Iy pos h =
    let pos' : 0 < X = omega arith in
    let h' : 2 * Y ≤ X * 1 = omega arith in
    λ f. is_true (le two (x ⊘ y))
    (subst (λ z. T (le two z)) (sym (div_is (form_of x X pos' Ix.val) (form_of y Y pos Iy.val) pos))
    (subst (λ z. T (le z (round binary64 false X Y))) two_is (round_mono binary64 2 1 X Y (zero-lt-suc 0) pos h')))

-- ---- RC's ln: (√x + √(x - y)) / √y, where x is 2 y or more
module _ {x y : Float} {X Y : ℕ} (Ix : Is binary64 x false X) (Iy : Is binary64 y false Y) where
  pub ln_least : 0 < Y → Y * 2 ≤ X → FromTwo ((root x ⊕ root (x ⊖ y)) ⊘ root y)
  ln_least pos h =
      let l : Y ≤ X = omega arith in
      let d : Y ≤ X - Y = omega arith in
      let D = less_units Ix Iy l in
      let G = near binary64 (X - Y) 1 in
      let g : Y ≤ G = le_trans (le_of_eq (sym (on_grid (digits_of Iy)))) (near_le binary64 1 (zero-lt-suc 0) d) in
      let S = sum_units (root_value Ix) (root_value D) (root_most X (is_under Ix)) (root_most G (is_under D)) in
      let both : root_units Y * 2 ≤ root_units X + root_units G = twice (root_units Y) _ _ (root_mono Y X l) (root_mono Y G g) in
      twice_over S (root_value Iy) (root_some Y pos)
      (le_trans (le_of_eq (sym (shifted 1 (digits_of (root_value Iy))))) (near_le binary64 1 (zero-lt-suc 0) both))
    where
      twice : (r a b : ℕ) → r ≤ a → r ≤ b → r * 2 ≤ a + b
      twice r a b h k = omega arith

  -- ---- RC's ln_1p: √((x - y) / x) where x is 2 y at most
  pub ratio_most : 0 < X → Y ≤ X → X ≤ Y * 2 → (n : ℕ) × Is binary64 ((x ⊖ y) ⊘ x) false n × (n ≤ 2 ^ 1073)
  ratio_most pos l h =
      let D = less_units Ix Iy l in
      let G = near binary64 (X - Y) 1 in
      let d : (X - Y) * 2 ^ 1 ≤ X = omega arith in
      let g : G * 2 ≤ X = le_trans (le_of_eq (sym (near_whole binary64 (X - Y) 1)))
      (le_trans (near_le binary64 1 (zero-lt-suc 0) d) (le_of_eq (on_grid (digits_of Ix)))) in
      let most = half_most X G pos g in
      (near binary64 (G * 2 ^ low binary64) X, div_units D Ix pos (lt_of_le_of_lt most (lit< tt)), most)

-- ---- constants
pub half_is : Is binary64 half false (2 ^ 1073)
unfolding lit_ok of_bits
half_is = lit_is binary64 half tt

pub one_is : Is binary64 one false (2 ^ 1074)
unfolding lit_ok of_bits
one_is = lit_is binary64 one tt

three_quarters_is : Is binary64 three_quarters false (lit_n binary64 three_quarters)
unfolding lit_ok of_bits
three_quarters_is = lit_is binary64 three_quarters tt

most : 3 * 2 ^ 1072 ≤ lit_n binary64 three_quarters
unfolding of_bits
most = lit≤ tt

-- the root of a half or less, and its negative
pub root_within : {x : Float} {X : ℕ} → Is binary64 x false X → X ≤ 2 ^ 1073
    → Within (root x) × Within (neg (root x))
root_within {X = X} Ix h =
    let R = root_value Ix in
    let l : root_units X ≤ lit_n binary64 three_quarters = le_trans (root_half X h) most in (
      λ f. is_true _ (units_le (abs_units R) three_quarters_is l),
      λ f. is_true _ (units_le (abs_units (neg_units R)) three_quarters_is l),
    )
