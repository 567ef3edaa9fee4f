-- A scanned text: its numbers have room, and each of the three ways gives its f64. Assumes nothing.
use Rattle.std.specs.Prelude.{ℕ, ◌+◌, ◌-◌, ◌*◌, ◌%◌, ◌^◌, ◌≤◌, ◌<◌, ◌≡◌, false, List, Float}
use Rattle.std.proofs.Math.Path.{sym, ap}
use Rattle.std.proofs.Common.{◌∙◌, subst, mod-eq_of_lt, arith}
use Rattle.std.specs.Float.Ieee.{binary64, round}
use Rattle.limbs.specs.Value.{room}
use Rattle.decimal.specs.Decimal.{decimal_of}
use Rattle.decimal_scan.specs.declared.figures.Figures.{Figures}
use Rattle.decimal_scan.specs.declared.scan.Scan.{Scan}
use Rattle.decimal_scan.specs.Scan.{is_bad, start_of, bytes_after}
use Rattle.decimal_scan.specs.Number.{whole_from, up_of, down_of, said_by, text_value}
use Rattle.decimal_scan.specs.Held.{Held}
use Rattle.decimal_scan.specs.HeldLaws.{text_held}
use Rattle.decimal_scan.specs.Few.{Few, text_few}
use Rattle.decimal_long.specs.First.{first_digits}
use Rattle.decimal_long.specs.FirstLaws.{first_digits_lem, first_fit}
use Rattle.decimal_read.specs.Said.{leading_of, raised_by, lowered_by}
use Rattle.decimal_read.specs.SaidLaws.{leading_kept, leading_le, leading_few, word_digits, same_number, far_too_small}

module _ (l : List ℕ) (s : Scan) (e : s ≡ bytes_after start_of l) (n : is_bad s.phase ≡ false) where
  abbrev f : Figures
  f = s.figures

  abbrev w : ℕ
  w = whole_from start_of 0 l

  good : is_bad (bytes_after start_of l).phase ≡ false
  good = subst (λ (x : Scan). is_bad x.phase ≡ false) e n

  held : Held w f
  held = subst (λ (x : Scan). Held w x.figures) (sym e) (text_held l good)

  pub few : Few s
  few = subst Few (sym e) (text_few l)

  said : said_by s w ≡ text_value l
  unfolding text_value
  said = ap (λ (x : Scan). said_by x w) e

  module _ (taken : ℕ) (t : taken ≡ leading_of f.digits f.kept) where
    pub taken_le : taken ≤ f.digits
    taken_le = subst (λ (x : ℕ). x ≤ f.digits) (sym t) (leading_le w f held)

    few_taken : taken ≤ 800
    few_taken = subst (λ (x : ℕ). x ≤ 800) (sym t) (leading_few f.digits f.kept few.kept)

    abbrev z : ℕ
    z = f.digits - taken

    module _ (up down : ℕ) (p : up ≡ raised_by z s.below s.tens)
        (q : down ≡ lowered_by s.places s.below s.tens) where
      ups : up ≡ z + up_of s + 1200
      unfolding raised_by up_of
      ups = p

      downs : down ≡ down_of s
      unfolding lowered_by down_of
      downs = q

      pub nothing_said : up < down → (r : Float) → r ≡ decimal_of s.minus 0 1200 → r ≡ text_value l
      unfolding said_by
      nothing_said h r y =
          let b : f.digits + up_of s + 400 ≤ down_of s = omega (arith, ups, downs, few_taken, taken_le, h) in
          y ∙ sym (far_too_small s.minus w f.digits (up_of s) (down_of s) held.under b) ∙ said

      by_digits : (d : ℕ) → down ≤ up → d * 10 ^ z ≡ w → decimal_of s.minus d (up - down) ≡ text_value l
      unfolding said_by
      by_digits d h g =
          let a : up - down ≡ z + up_of s + 1200 - down_of s = omega (arith, ups, downs) in
          let b : down_of s ≤ z + up_of s + 1200 = omega (arith, ups, downs, h) in
          ap (λ (x : ℕ). decimal_of s.minus d x) a
          ∙ sym (same_number s.minus d z (up_of s) (down_of s) b)
          ∙ ap (λ (x : ℕ). round binary64 s.minus (x * 10 ^ up_of s) (10 ^ down_of s)) g
          ∙ said

      pub word_said : down ≤ up → f.kept ≤ 19 → (r : Float) → r ≡ decimal_of s.minus f.value (up - down) → r ≡ text_value l
      word_said h k r y = y ∙ by_digits f.value h (ap (λ (x : ℕ). f.value * 10 ^ (f.digits - x)) t ∙ word_digits w f held k)

      first_said : down ≤ up → 19 < f.kept → decimal_of s.minus (first_digits f.kept l) (up - down) ≡ text_value l
      first_said h k =
          let all : taken ≡ f.kept = t ∙ leading_kept f.digits f.kept k in
          by_digits (first_digits f.kept l) h
          (ap (λ (x : ℕ). first_digits f.kept l * 10 ^ (f.digits - x)) all ∙ kept_digits (omega arith))
        where
          kept_digits : 0 < f.kept → first_digits f.kept l * 10 ^ (f.digits - f.kept) ≡ w
          kept_digits =
              subst
              (λ (x : Scan). 0 < x.figures.kept
              → first_digits x.figures.kept l * 10 ^ (x.figures.digits - x.figures.kept) ≡ w)
              (sym e) (first_digits_lem l good)

      -- 42 limbs hold them all
      whole_held : 19 < f.kept → first_digits f.kept l % room 42 ≡ first_digits f.kept l
      whole_held k =
          mod-eq_of_lt
          (subst (λ (x : Scan). 0 < x.figures.kept → x.figures.kept ≤ 800 → first_digits x.figures.kept l < room 42)
          (sym e)
          (first_fit l good) (omega arith) few.kept)

      pub long_said : down ≤ up → 19 < f.kept → (r : Float)
          → r ≡ decimal_of s.minus (first_digits f.kept l % room 42) (up - down)
          → r ≡ text_value l
      long_said h k r y = y ∙ ap (λ (x : ℕ). decimal_of s.minus x (up - down)) (whole_held k) ∙ first_said h k
