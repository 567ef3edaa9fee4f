-- The two series' sums by short polynomials. Both rules need a partial sum S(z) = c_0 + c_1 z + .. + c_(N-1) z ^ (N-1),
-- 0 ≤ z ≤ 1/2: Euler's, c_n = (2/3) (4/5) .. (2n / (2n+1)) with 64 terms, and that of T(s)/s, c_n = 1 / (2n+1) with 44 terms.
-- [0, 1/2] is cut into pieces of 1/64. On the piece from i/64 the sum is taken as the first 12 terms of its expansion there,
--   S(i/64 + y) = h_0 + h_1 y + h_2 y^2 + ..,
-- whose coefficients, scaled by 4 ^ -k and rounded down to parts of 2 ^ -63, are the row i of a table. Definitions only.
use Rattle.std.specs.Prelude.{ℕ, zero, suc, ◌+◌, ◌*◌, ◌/◌, ◌%◌, ◌^◌, Bool, true, false, ◌&&◌, List, [], ◌∷◌, eqb, length}

pub data Series : Type 0 where
  euler : Series
  odd : Series

-- N
abbrev pub terms : Series → ℕ
terms euler = 64
terms odd = 44

-- how many pieces the table has: the rules meet z ≤ 1/2 and z < 3/8
abbrev pub pieces : Series → ℕ
pieces euler = 33
pieces odd = 24

-- ---- the coefficients over one denominator, 1 * 3 * 5 * .. * (2N - 1). All divisions here leave no rest.
abbrev pub odd_product : ℕ → ℕ
odd_product zero = 1
odd_product (suc n) = (2 * n + 1) * odd_product n

abbrev pub denominator : Series → ℕ
denominator s = odd_product (terms s)

-- c_(n+1) is c_n times (2n+2) / (2n+3), or times (2n+1) / (2n+3)
abbrev pub weight : Series → ℕ → ℕ
weight euler n = 2 * n + 2
weight odd n = 2 * n + 1

abbrev pub next : Series → ℕ → ℕ → ℕ
next s n c = c * weight s n / (2 * n + 3)

-- `left` numerators from the n-th on, which is c
abbrev pub numerators_from : Series → ℕ → ℕ → ℕ → List ℕ
numerators_from s zero n c = []
numerators_from s (suc left) n c = c ∷ numerators_from s left (suc n) (next s n c)

unfoldable pub numerators : Series → List ℕ
numerators s = numerators_from s (terms s) 0 (denominator s)

-- ---- the expansion. The polynomial a + (i + D) b, where b is a list of coefficients of powers of D:
abbrev pub times_shift : ℕ → ℕ → List ℕ → List ℕ
times_shift i a [] = a ∷ []
times_shift i a (b ∷ bs) = (a + i * b) ∷ times_shift i b bs

-- c_0 + c_1 z + .. at z = (i + D) / 64, by powers of D, over 64 ^ N
abbrev pub shifted : ℕ → List ℕ → List ℕ
shifted i [] = []
shifted i (c ∷ cs) = times_shift i (c * 64 ^ suc (length cs)) (shifted i cs)

-- ---- a row. With b the list above and W its denominator, y = D/64 makes h_k = 64 ^ k b_k / W: the k-th entry is
-- 2 ^ 63 * 16 ^ k * b_k / W, rounded down. At the scale g:
abbrev pub entry : ℕ → ℕ → ℕ → ℕ
entry W g b = b * g / W

-- `left` entries, of which the first has the scale g
abbrev pub entries : ℕ → ℕ → ℕ → List ℕ → List ℕ
entries zero W g bs = []
entries (suc left) W g [] = []
entries (suc left) W g (b ∷ bs) = entry W g b ∷ entries left W (16 * g) bs

abbrev pub row_length : ℕ
row_length = 12

-- W
abbrev pub row_denominator : Series → ℕ
row_denominator s = denominator s * 64 ^ terms s

unfoldable pub row : Series → ℕ → List ℕ
row s i = entries row_length (row_denominator s) (2 ^ 63) (shifted i (numerators s))

-- ---- Horner's rule in whole numbers: the row and the answer in parts of 2 ^ -63, d in parts of 2 ^ -64
abbrev pub horner : ℕ → List ℕ → ℕ
horner d [] = 0
horner d (r ∷ []) = r
horner d (r ∷ q ∷ rs) = r + d * horner d (q ∷ rs) / 2 ^ 64

-- z's piece i, and 4 (z - i/64) in parts of 2 ^ -64, where x is z in parts of 2 ^ -64
abbrev pub piece : ℕ → ℕ
piece x = x / 2 ^ 58

abbrev pub offset : ℕ → ℕ
offset x = 4 * (x % 2 ^ 58)

-- S(z) in parts of 2 ^ -63
unfoldable pub value : Series → ℕ → ℕ
value s x = horner (offset x) (row s (piece x))

-- ---- a table written out is the right one: a test to be computed (`unfolding row numerators`)
abbrev pub same_list : List ℕ → List ℕ → Bool
same_list [] [] = true
same_list [] (b ∷ bs) = false
same_list (a ∷ rest) [] = false
same_list (a ∷ rest) (b ∷ bs) = eqb a b && same_list rest bs

abbrev pub right_row : Series → ℕ → List ℕ → Bool
right_row s i rs = same_list rs (row s i)

-- the rows from the i-th on
abbrev pub right_rows : Series → ℕ → List (List ℕ) → Bool
right_rows s i [] = true
right_rows s i (rs ∷ rows) = right_row s i rs && right_rows s (suc i) rows
