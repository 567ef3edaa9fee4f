-- Horner's rule in words is Horner's rule, where the coefficients leave room, as those of the rows do. Assumes nothing.
use Rattle.std.proofs.Common.{◌≡◌, ℕ, ◌+◌, ◌*◌, ◌/◌, ◌%◌, ◌^◌, ◌≤◌, T, leb, List, [], ◌∷◌, refl, ap, ◌∙◌, inl, inr, mod-eq_of_lt, mul-zero, arith, le-ltb, lt-ltb}
use lib.Ieee.Fits.{and_r}
use Rattle.algebra.specs.Order.{lt_or_le}
use Rattle.enclosure.specs.Pieces.{Series, pieces, row, piece, offset, horner, value}
use Rattle.enclosure.specs.Floors.{all_fit}
use Rattle.enclosure.proofs.Floors.{horner_fits}
use Rattle.enclosure.proofs.Rows.{row_fits, offset_fits}
use Rattle.pieces_rows.specs.Row.{row_or_none}
use Rattle.pieces.specs.Row.{value_or_zero, wrapped}

wrapped_is : (d : ℕ) (rs : List ℕ) → d ≤ 2 ^ 60 → T (all_fit rs) → wrapped d rs ≡ horner d rs
wrapped_is d [] h t = refl
wrapped_is d (r ∷ []) h t = refl
wrapped_is d (r ∷ q ∷ rs) h t =
    let later = wrapped_is d (q ∷ rs) h (and_r (leb r (15 * 2 ^ 60)) (all_fit (q ∷ rs)) t) in
    ap (λ (g : ℕ). (r + d * g / 2 ^ 64) % 2 ^ 64) later ∙ mod-eq_of_lt (horner_fits d (r ∷ q ∷ rs) h t)

-- zeros make zero
nothing : (d : ℕ) → wrapped d (0 ∷ 0 ∷ 0 ∷ 0 ∷ 0 ∷ 0 ∷ 0 ∷ 0 ∷ 0 ∷ 0 ∷ 0 ∷ 0 ∷ []) ≡ 0
nothing d = simp mul-zero

-- THE LAW: the row that the table has at x's piece, by Horner's rule at x's place in it
pub value_is : (s : Series) (x : ℕ) (rs : List ℕ) → rs ≡ row_or_none s (piece x) → wrapped (x % 2 ^ 58 * 4) rs ≡ value_or_zero s x
unfolding value
value_is s x rs e =
    let order : x % 2 ^ 58 * 4 ≡ offset x = omega arith in
    rw (order, e) (elim (lt_or_le (piece x) (pieces s)) [
      | inl l ↦ rw (lt-ltb (piece x) (pieces s) l) (wrapped_is (offset x) (row s (piece x)) (offset_fits x)
          (row_fits s (piece x) l))
      | inr l ↦ rw (le-ltb (piece x) (pieces s) l) (nothing (offset x))
    ])
