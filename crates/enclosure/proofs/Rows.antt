-- What is computed of the rows: the entries fit a word, the first is 1 at least, and what a row leaves out is at most 3 parts of
-- 2 ^ -63. So `value` fits a word, too. And a table that passes the test `right_row` holds the rows. Assumes nothing.
use Rattle.std.specs.Prelude.{ℕ, zero, suc, ◌+◌, ◌*◌, ◌^◌, ◌≤◌, ◌<◌, ◌≡◌, refl, Bool, true, ◌&&◌, List, [], ◌∷◌, T, eqb, leb, length, get_or}
use Rattle.std.proofs.Common.{sym, ap₂, inl, inr, mod-lt, le_trans, arith, leb→le, eqb→eq, pow_pos}
use Rattle.std.specs.Float.Ieee.Fits.{and_l, and_r}
use Rattle.algebra.specs.Order.{lt_or_le}
use Rattle.enclosure.specs.Pieces.{
  Series,
  euler,
  odd,
  pieces,
  row_length,
  row_denominator,
  numerators,
  shifted,
  row,
  piece,
  offset,
  value,
  same_list,
  right_row,
  right_rows,
}
use Rattle.enclosure.specs.Floors.{all_fit, left_out}
use Rattle.enclosure.proofs.Floors.{horner_least, horner_fits}
use Rattle.enclosure.specs.Rows.{all_below, good_row, little_left}

pub all_at : (f : ℕ → Bool) (n : ℕ) → T (all_below f n) → (i : ℕ) → i < n → T (f i)
all_at f zero t i h = absurd (omega arith)
all_at f (suc n) t i h = elim (lt_or_le i n) [
  | inl l ↦ all_at f n (and_r (f n) (all_below f n) t) i l
  | inr l ↦ let e : i ≡ n = omega arith in rw e (and_l (f n) (all_below f n) t)
]

row_good : (s : Series) (i : ℕ) → i < pieces s → T (good_row (row s i))
unfolding row numerators
row_good euler = all_at (λ i. good_row (row euler i)) (pieces euler) tt
row_good odd = all_at (λ i. good_row (row odd i)) (pieces odd) tt

pub row_fits : (s : Series) (i : ℕ) → i < pieces s → T (all_fit (row s i))
row_fits s i h = and_r (leb (2 ^ 63) (get_or (row s i) 0 0)) (all_fit (row s i)) (row_good s i h)

row_first : (s : Series) (i : ℕ) → i < pieces s → 2 ^ 63 ≤ get_or (row s i) 0 0
row_first s i h = leb→le (2 ^ 63) (get_or (row s i) 0 0)
    (and_l (leb (2 ^ 63) (get_or (row s i) 0 0)) (all_fit (row s i)) (row_good s i h))

pub rest_fits : (s : Series) (i : ℕ) → i < pieces s → T (little_left s i)
unfolding numerators
rest_fits euler = all_at (little_left euler) (pieces euler) tt
rest_fits odd = all_at (little_left odd) (pieces odd) tt

-- Horner's rule stays in a word, on each tail of a row too
pub offset_fits : (x : ℕ) → offset x ≤ 2 ^ 60
offset_fits x = omega (arith, mod-lt x (pow_pos 58))

pub value_fits : (s : Series) (x : ℕ) → piece x < pieces s → value s x < 2 ^ 64
unfolding value
value_fits s x h = horner_fits (offset x) (row s (piece x)) (offset_fits x) (row_fits s (piece x) h)

pub value_least : (s : Series) (x : ℕ) → piece x < pieces s → 2 ^ 63 ≤ value s x
unfolding value
value_least s x h = le_trans (row_first s (piece x) h) (horner_least (offset x) (row s (piece x)))

-- ---- a table written out
same_list_is : (xs ys : List ℕ) → T (same_list xs ys) → xs ≡ ys
same_list_is [] [] t = refl
same_list_is [] (y ∷ ys) t = absurd t
same_list_is (x ∷ xs) [] t = absurd t
same_list_is (x ∷ xs) (y ∷ ys) t =
    ap₂ ◌∷◌ (eqb→eq x y (and_l (eqb x y) (same_list xs ys) t)) (same_list_is xs ys (and_r (eqb x y) (same_list xs ys) t))

pub row_is : (s : Series) (i : ℕ) (rs : List ℕ) → T (right_row s i rs) → row s i ≡ rs
row_is s i rs t = sym (same_list_is rs (row s i) t)

pub rows_are : (s : Series) (i : ℕ) (rows : List (List ℕ)) → T (right_rows s i rows) → (k : ℕ) → k < length rows → row s (i + k)
    ≡ get_or rows k []
rows_are s i [] t k h = absurd (omega arith)
rows_are s i (rs ∷ rows) t zero h =
    let e : i + 0 ≡ i = omega arith in
    rw e (row_is s i rs (and_l (right_row s i rs) (right_rows s (suc i) rows) t))
rows_are s i (rs ∷ rows) t (suc k) h =
    let e : i + suc k ≡ suc i + k = omega arith in
    rw e (rows_are s (suc i) rows (and_r (right_row s i rs) (right_rows s (suc i) rows) t) k (omega arith))
