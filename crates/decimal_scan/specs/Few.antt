-- How large the numbers of a scan can be. Assumes nothing.
use Rattle.std.specs.Prelude.{ℕ, ◌+◌, ◌-◌, ◌*◌, ◌≤◌, ◌<◌, ◌≡◌, Bool, ◌&&◌, ◌||◌, cond, List, [], ◌∷◌, eqb, ltb, leb}
use Rattle.std.proofs.Math.Path.{refl, subst}
use Rattle.std.proofs.Common.{sym, ltb→lt}
use Rattle.std.proofs.Math.Bool.{true, false}
use native.Mathlib.Omega.{arith}
use borrow.Author.Tests.{leb-true}
use Rattle.std.proofs.Math.Dec.{T}
use Rattle.std.specs.Float.Ieee.Fits.{and_l, and_r}
use Rattle.decimal_scan.specs.declared.figures.Figures.{Figures}
use Rattle.decimal_scan.specs.declared.scan.Scan.{Scan}
use Rattle.decimal_scan.specs.Figures.{many, significant, no_figures, grown_by, figures_after, room_for}
use Rattle.decimal_scan.specs.declared.scan.Phase.{Phase}
use Rattle.decimal_scan.specs.declared.scan.Phase.TheVariants.{Digits, Point, Places, Power, Bad}
use Rattle.decimal_scan.specs.Scan.{is_nothing, is_digits, has_digits, is_power, of_whole, of_number, start_of, at_phase, digit_after, most_tens, tens_after, figure_after, sign_after, minus_after, point_after, power_after, byte_after, bytes_after}
use Rattle.decimal_scan.specs.HeldLaws.{byte_cases}

pub record Few (s : Scan) : Type 0 where
  pub digits : s.figures.digits ≤ many
  pub kept : s.figures.kept ≤ significant
  pub places : s.places ≤ many
  pub tens : s.tens ≤ 2147483648

-- another phase, or another sign, changes none of them
same : (s r : Scan) → Few s → r.figures ≡ s.figures → r.places ≡ s.places → r.tens ≡ s.tens → Few r
same s r h f p t = record {
  digits = subst (λ (x : Figures). x.digits ≤ many) (sym f) h.digits;
  kept = subst (λ (x : Figures). x.kept ≤ significant) (sym f) h.kept;
  places = subst (λ (x : ℕ). x ≤ many) (sym p) h.places;
  tens = subst (λ (x : ℕ). x ≤ 2147483648) (sym t) h.tens;
}

-- a test that chooses between two of them
either : (t : Bool) (x y : Scan) → (t ≡ true → Few x) → (t ≡ false → Few y) → Few (cond t x y)
either true x y f g = f refl
either false x y f g = g refl

module _ (s : Scan) (h : Few s) where
  at_few : (p : Phase) → Few (at_phase s p)
  unfolding at_phase
  at_few p = same s (at_phase s p) h refl refl refl

  sign_few : (b : Bool) → Few (sign_after s b)
  unfolding sign_after
  sign_few b = either (is_power s.phase) _ _ (λ e. same s _ h refl refl refl) (λ e. at_few Bad)

  minus_few : Few (minus_after s)
  unfolding minus_after
  minus_few = either (is_nothing s.phase) _ _ (λ e. same s _ h refl refl refl) (λ e. sign_few true)

  point_few : Few (point_after s)
  unfolding point_after
  point_few = either (is_digits s.phase) _ _ (λ e. at_few Point) (λ e. at_few Bad)

  power_few : Few (power_after s)
  unfolding power_after
  power_few = either (has_digits s.phase) _ _ (λ e. at_few Power) (λ e. at_few Bad)

  most_tens_lem : (b : Bool) → most_tens b ≤ 2147483648
  unfolding most_tens
  most_tens_lem true = omega arith
  most_tens_lem false = omega arith

  tens_few : (d : ℕ) → Few (tens_after s d)
  unfolding tens_after
  tens_few d =
      either (leb (s.tens * 10 + d) (most_tens s.below)) _ _
      (λ e. record {
        digits = h.digits;
        kept = h.kept;
        places = h.places;
        tens = omega (arith, leb-true (s.tens * 10 + d) (most_tens s.below) e, most_tens_lem s.below);
      })
      (λ e. at_few Bad)

  -- where there is room, one more is not too many
  abbrev f : Figures
  f = s.figures

  module _ (d : ℕ) (e : room_for f.digits s.places d ≡ true) where
    all : T (ltb f.digits many && (ltb s.places many && (eqb d 0 || ltb f.digits significant)))
    unfolding room_for
    all = subst T (sym e) tt

    digits_few : f.digits < many
    digits_few = ltb→lt f.digits many (and_l (ltb f.digits many) _ all)

    rest : T (ltb s.places many && (eqb d 0 || ltb f.digits significant))
    rest = and_r (ltb f.digits many) _ all

    places_few : s.places < many
    places_few = ltb→lt s.places many (and_l (ltb s.places many) _ rest)

    kept_few : (t : Bool) → T (t || ltb f.digits significant) → cond t f.kept (f.digits + 1) ≤ significant
    kept_few true k = h.kept
    kept_few false k = omega (arith, ltb→lt f.digits significant k)

    grown_digits : (grown_by f d).digits ≤ many
    unfolding grown_by
    grown_digits = omega (arith, digits_few)

    grown_kept : (grown_by f d).kept ≤ significant
    unfolding grown_by
    grown_kept = kept_few (eqb d 0) (and_r (ltb s.places many) _ rest)

    after_digits : (figures_after f d).digits ≤ many
    unfolding figures_after
    after_digits = go (eqb f.digits 0) (eqb d 0)
      where
        go : (t u : Bool) → (cond t (cond u f (grown_by f d)) (grown_by f d)).digits ≤ many
        go true true = h.digits
        go true false = grown_digits
        go false u = grown_digits

    after_kept : (figures_after f d).kept ≤ significant
    unfolding figures_after
    after_kept = go (eqb f.digits 0) (eqb d 0)
      where
        go : (t u : Bool) → (cond t (cond u f (grown_by f d)) (grown_by f d)).kept ≤ significant
        go true true = h.kept
        go true false = grown_kept
        go false u = grown_kept

  digit_few : (d more : ℕ) (p : Phase) → more ≤ 1 → Few (digit_after s d more p)
  unfolding digit_after
  digit_few d more p m =
      either (room_for f.digits s.places d) _ _
      (λ e. record {
        digits = after_digits d e;
        kept = after_kept d e;
        places = omega (arith, places_few d e);
        tens = h.tens;
      })
      (λ e. at_few Bad)

  figure_few : (d : ℕ) → Few (figure_after s d)
  unfolding figure_after
  figure_few d =
      either (of_whole s.phase) _ _ (λ e. digit_few d 0 Digits (omega arith))
      (λ e. either (of_number s.phase) _ _ (λ g. digit_few d 1 Places (omega arith)) (λ g. tens_few d))

  byte_few : (b : ℕ) → Few (byte_after s b)
  byte_few b =
      byte_cases s b (λ (r : Scan). Few r) (λ e. h) (λ e. minus_few) (λ e. sign_few false) (λ e. point_few)
      (λ l u. figure_few (b - 48))
      (λ l. power_few) (λ o. at_few Bad)

start_few : Few start_of
unfolding start_of no_figures
start_few = record { digits = omega arith; kept = omega arith; places = omega arith; tens = omega arith }

bytes_few : (l : List ℕ) (s : Scan) → Few s → Few (bytes_after s l)
unfolding bytes_after
bytes_few [] s h = h
bytes_few (b ∷ l) s h = bytes_few l (byte_after s b) (byte_few s h b)

pub text_few : (l : List ℕ) → Few (bytes_after start_of l)
text_few l = bytes_few l start_of start_few
