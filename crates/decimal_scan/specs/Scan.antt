-- A decimal as people write it: `-1.5`, `0.25`, `1e-3`, `6.02E23`. Definitions only.
use Rattle.std.specs.Prelude.{ℕ, ◌+◌, ◌-◌, ◌*◌, Bool, true, false, cond, List, [], ◌∷◌, eqb, ltb, leb}
use Rattle.decimal_scan.specs.declared.scan.Phase.{Phase}
use Rattle.decimal_scan.specs.declared.scan.Phase.TheVariants.{Nothing, Minus, Digits, Point, Places, Power, PowerSign, PowerDigits, Bad}
use Rattle.decimal_scan.specs.declared.scan.Scan.{Scan}
use Rattle.decimal_scan.specs.Figures.{no_figures, figures_after, room_for}

-- ---- the phases
-- nothing has come
abbrev pub is_nothing : Phase → Bool
is_nothing Nothing = true
is_nothing _ = false

-- the last byte was a digit before the point
abbrev pub is_digits : Phase → Bool
is_digits Digits = true
is_digits _ = false

-- it was a digit of the number itself
abbrev pub has_digits : Phase → Bool
has_digits Digits = true
has_digits Places = true
has_digits _ = false

-- it was the `e`
abbrev pub is_power : Phase → Bool
is_power Power = true
is_power _ = false

-- no number, whatever follows
abbrev pub is_bad : Phase → Bool
is_bad Bad = true
is_bad _ = false

-- a digit that comes is one before the point
abbrev pub of_whole : Phase → Bool
of_whole Nothing = true
of_whole Minus = true
of_whole Digits = true
of_whole _ = false

-- it is one of the number itself, not of the power
abbrev pub of_number : Phase → Bool
of_number Nothing = true
of_number Minus = true
of_number Digits = true
of_number Point = true
of_number Places = true
of_number _ = false

-- a number ends after a digit
abbrev pub may_end : Phase → Bool
may_end Digits = true
may_end Places = true
may_end PowerDigits = true
may_end _ = false

-- ---- a byte more
unfoldable pub start_of : Scan
start_of = record { phase = Nothing; minus = false; figures = no_figures; places = 0; below = false; tens = 0 }

unfoldable pub at_phase : Scan → Phase → Scan
at_phase s p = record { phase = p; minus = s.minus; figures = s.figures; places = s.places; below = s.below; tens = s.tens }

-- a digit of the number itself, before the point or after it
unfoldable pub digit_after : Scan → ℕ → ℕ → Phase → Scan
digit_after s d more p =
    cond (room_for s.figures.digits s.places d)
    (record {
      phase = p;
      minus = s.minus;
      figures = figures_after s.figures d;
      places = s.places + more;
      below = s.below;
      tens = s.tens;
    })
    (at_phase s Bad)

-- "exponent any that fits an i32"
unfoldable pub most_tens : Bool → ℕ
most_tens below = cond below 2147483648 2147483647

unfoldable pub tens_after : Scan → ℕ → Scan
tens_after s d =
    cond (leb (s.tens * 10 + d) (most_tens s.below))
    (record {
      phase = PowerDigits;
      minus = s.minus;
      figures = s.figures;
      places = s.places;
      below = s.below;
      tens = s.tens * 10 + d;
    })
    (at_phase s Bad)

-- a digit, by where it stands
unfoldable pub figure_after : Scan → ℕ → Scan
figure_after s d =
    cond (of_whole s.phase) (digit_after s d 0 Digits) (cond (of_number s.phase) (digit_after s d 1 Places) (tens_after s d))

-- the sign of the power
unfoldable pub sign_after : Scan → Bool → Scan
sign_after s below =
    cond (is_power s.phase)
    (record { phase = PowerSign; minus = s.minus; figures = s.figures; places = s.places; below = below; tens = s.tens })
    (at_phase s Bad)

-- a minus: that of the number, or of the power
unfoldable pub minus_after : Scan → Scan
minus_after s =
    cond (is_nothing s.phase)
    (record { phase = Minus; minus = true; figures = s.figures; places = s.places; below = s.below; tens = s.tens })
    (sign_after s true)

unfoldable pub point_after : Scan → Scan
point_after s = cond (is_digits s.phase) (at_phase s Point) (at_phase s Bad)

-- the `e`
unfoldable pub power_after : Scan → Scan
power_after s = cond (has_digits s.phase) (at_phase s Power) (at_phase s Bad)

unfoldable pub byte_after : Scan → ℕ → Scan
byte_after s b =
    cond (is_bad s.phase) s
    (cond (eqb b 45) (minus_after s)
    (cond (eqb b 43) (sign_after s false)
    (cond (eqb b 46) (point_after s)
    (cond (ltb b 48) (at_phase s Bad)
    (cond (ltb b 58) (figure_after s (b - 48))
    (cond (eqb b 101) (power_after s) (cond (eqb b 69) (power_after s) (at_phase s Bad))))))))

unfoldable pub is_whole : Scan → Bool
is_whole s = may_end s.phase

unfoldable pub bytes_after : Scan → List ℕ → Scan
bytes_after s [] = s
bytes_after s (b ∷ bs) = bytes_after (byte_after s b) bs
