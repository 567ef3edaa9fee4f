-- A text that is scanned to its end is held: its figures are those of its digits' number. Assumes nothing.
use Rattle.std.specs.Prelude.{ℕ, ◌+◌, ◌-◌, ◌*◌, ◌≤◌, ◌<◌, ◌≡◌, Bool, ◌&&◌, cond, ◌⊎◌, List, [], ◌∷◌, leb}
use Rattle.std.proofs.Math.Path.{refl}
use Rattle.std.proofs.Common.{sym, ◌∙◌, subst, true≢false, inl, inr, arith}
use Rattle.std.proofs.Math.Bool.{true, false}
use borrow.Author.Tests.{eqb-true, ltb-true, ltb-false, le-leb, lt-leb, lt-ltb, le-ltb}
use Rattle.std.proofs.Math.Dec.{eqb, ltb}
use Rattle.decimal_scan.specs.declared.figures.Figures.{Figures}
use Rattle.decimal_scan.specs.declared.scan.Scan.{Scan}
use Rattle.decimal_scan.specs.Figures.{figures_after, room_for}
use Rattle.decimal_scan.specs.declared.scan.Phase.{Phase}
use Rattle.decimal_scan.specs.declared.scan.Phase.TheVariants.{Nothing, Minus, Digits, Point, Places, Power, PowerSign, PowerDigits, Bad}
use Rattle.decimal_scan.specs.Scan.{
  is_nothing,
  is_digits,
  has_digits,
  is_power,
  of_whole,
  of_number,
  is_bad,
  start_of,
  at_phase,
  digit_after,
  most_tens,
  tens_after,
  figure_after,
  sign_after,
  minus_after,
  point_after,
  power_after,
  byte_after,
  bytes_after,
}
use Rattle.decimal_scan.specs.Number.{counts, whole_after, whole_from}
use Rattle.decimal_scan.specs.Held.{Held, held_none, held_digit}

-- ---- a digit before the point is one of the number itself
pub whole_number : (p : Phase) → of_whole p ≡ true → of_number p ≡ true
whole_number Nothing e = refl
whole_number Minus e = refl
whole_number Digits e = refl
whole_number _ e = cc

-- ---- a byte by what it is
-- `byte_after` by its tests
abbrev chain : Scan → ℕ → Bool → Bool → Bool → Bool → Bool → Bool → Bool → Bool → Scan
chain s b o p q r t u v x =
    cond o s
    (cond p (minus_after s)
    (cond q (sign_after s false)
    (cond r (point_after s)
    (cond t (at_phase s Bad)
    (cond u (figure_after s (b - 48)) (cond v (power_after s) (cond x (power_after s) (at_phase s Bad))))))))

pub byte_cases : (s : Scan) (b : ℕ) (P : Scan → Type 0) → (is_bad s.phase ≡ true → P s) → (b ≡ 45 → P (minus_after s))
    → (b ≡ 43 → P (sign_after s false))
    → (b ≡ 46 → P (point_after s))
    → (48 ≤ b → b < 58 → P (figure_after s (b - 48)))
    → (58 ≤ b → P (power_after s))
    → ((b < 48) ⊎ (58 ≤ b) → P (at_phase s Bad))
    → P (byte_after s b)
unfolding byte_after
byte_cases s b P same minus plus point figure power none =
    go (is_bad s.phase) refl (eqb b 45) refl (eqb b 43) refl (eqb b 46) refl (ltb b 48) refl (ltb b 58) refl (eqb b 101)
    (eqb b 69)
  where
    go : (o : Bool) → is_bad s.phase ≡ o → (p : Bool) → eqb b 45 ≡ p → (q : Bool) → eqb b 43 ≡ q → (r : Bool) → eqb b 46 ≡ r
        → (t : Bool) → ltb b 48 ≡ t → (u : Bool) → ltb b 58 ≡ u → (v x : Bool) → P (chain s b o p q r t u v x)
    go true eo p ep q eq' r er t et u eu v x = same eo
    go false eo true ep q eq' r er t et u eu v x = minus (eqb-true b 45 ep)
    go false eo false ep true eq' r er t et u eu v x = plus (eqb-true b 43 eq')
    go false eo false ep false eq' true er t et u eu v x = point (eqb-true b 46 er)
    go false eo false ep false eq' false er true et u eu v x = none (inl (ltb-true b 48 et))
    go false eo false ep false eq' false er false et true eu v x = figure (ltb-false b 48 et) (ltb-true b 58 eu)
    go false eo false ep false eq' false er false et false eu true x = power (ltb-false b 58 eu)
    go false eo false ep false eq' false er false et false eu false true = power (ltb-false b 58 eu)
    go false eo false ep false eq' false er false et false eu false false = none (inr (ltb-false b 58 eu))

-- ---- marks leave the figures as they are
pub sign_keeps : (s : Scan) (b : Bool) → (sign_after s b).figures ≡ s.figures
unfolding sign_after at_phase
sign_keeps s b = go (is_power s.phase)
  where
    go : (t : Bool)
        → (cond t
        (record { phase = PowerSign; minus = s.minus; figures = s.figures; places = s.places; below = b; tens = s.tens })
        (at_phase s Bad)).figures
        ≡ s.figures
    go true = refl
    go false = refl

pub minus_keeps : (s : Scan) → (minus_after s).figures ≡ s.figures
unfolding minus_after
minus_keeps s = go (is_nothing s.phase)
  where
    go : (t : Bool)
        → (cond t (record { phase = Minus; minus = true; figures = s.figures; places = s.places; below = s.below; tens = s.tens })
        (sign_after s true)).figures
        ≡ s.figures
    go true = refl
    go false = sign_keeps s true

pub point_keeps : (s : Scan) → (point_after s).figures ≡ s.figures
unfolding point_after at_phase
point_keeps s = go (is_digits s.phase)
  where
    go : (t : Bool) → (cond t (at_phase s Point) (at_phase s Bad)).figures ≡ s.figures
    go true = refl
    go false = refl

pub power_keeps : (s : Scan) → (power_after s).figures ≡ s.figures
unfolding power_after at_phase
power_keeps s = go (has_digits s.phase)
  where
    go : (t : Bool) → (cond t (at_phase s Power) (at_phase s Bad)).figures ≡ s.figures
    go true = refl
    go false = refl

pub tens_keeps : (s : Scan) (d : ℕ) → (tens_after s d).figures ≡ s.figures
unfolding tens_after at_phase
tens_keeps s d = go (leb (s.tens * 10 + d) (most_tens s.below))
  where
    go : (t : Bool)
        → (cond t
        (record {
          phase = PowerDigits;
          minus = s.minus;
          figures = s.figures;
          places = s.places;
          below = s.below;
          tens = s.tens * 10 + d;
        })
        (at_phase s Bad)
        ).figures
        ≡ s.figures
    go true = refl
    go false = refl

-- ---- a byte more
module _ (s : Scan) (w : ℕ) (h : Held w s.figures) where
  kept : (r : Scan) → r.figures ≡ s.figures → Held w r.figures
  kept r e = subst (λ (f : Figures). Held w f) (sym e) h

  -- a digit of the number itself
  digit_held : (d more : ℕ) (p : Phase) → d < 10 → is_bad (digit_after s d more p).phase ≡ false
      → Held (w * 10 + d) (digit_after s d more p).figures
  unfolding digit_after at_phase
  digit_held d more p D = go (room_for s.figures.digits s.places d)
    where
      grown : Scan
      grown = record {
        phase = p;
        minus = s.minus;
        figures = figures_after s.figures d;
        places = s.places + more;
        below = s.below;
        tens = s.tens;
      }

      go : (t : Bool) → is_bad (cond t grown (at_phase s Bad)).phase ≡ false
          → Held (w * 10 + d) (cond t grown (at_phase s Bad)).figures
      go true n = held_digit w d s.figures D h
      go false n = absurd (true≢false n)

  figure_held : (d : ℕ) → d < 10 → is_bad (figure_after s d).phase ≡ false
      → Held (cond (of_number s.phase) (w * 10 + d) w) (figure_after s d).figures
  unfolding figure_after
  figure_held d D = go (of_whole s.phase) refl (of_number s.phase) refl
    where
      go : (t : Bool) → of_whole s.phase ≡ t → (u : Bool) → of_number s.phase ≡ u
          → is_bad (cond t (digit_after s d 0 Digits) (cond u (digit_after s d 1 Places) (tens_after s d))).phase ≡ false
          → Held (cond u (w * 10 + d) w)
          (cond t (digit_after s d 0 Digits) (cond u (digit_after s d 1 Places) (tens_after s d))).figures
      go true e true g n = digit_held d 0 Digits D n
      go true e false g n = absurd (true≢false (sym (whole_number s.phase e) ∙ g))
      go false e true g n = digit_held d 1 Places D n
      go false e false g n = kept (tens_after s d) (tens_keeps s d)

  -- no digit: nothing counts
  pub none_low : (b : ℕ) → b < 48 → whole_after s w b ≡ w
  unfolding whole_after counts
  none_low b l = rw (lt-leb 48 b l, and-false (of_number s.phase))
    where
      and-false : (t : Bool) → (t && false) ≡ false
      and-false true = refl
      and-false false = refl

  pub none_high : (b : ℕ) → 58 ≤ b → whole_after s w b ≡ w
  unfolding whole_after counts
  none_high b l = rw (le-ltb b 58 l, and-false (leb 48 b), and-false (of_number s.phase))
    where
      and-false : (t : Bool) → (t && false) ≡ false
      and-false true = refl
      and-false false = refl

  pub one : (b : ℕ) → 48 ≤ b → b < 58 → whole_after s w b ≡ cond (of_number s.phase) (w * 10 + (b - 48)) w
  unfolding whole_after counts
  one b l u = rw (le-leb 48 b l, lt-ltb b 58 u, and_true (of_number s.phase))
    where
      and_true : (t : Bool) → (t && true) ≡ t
      and_true true = refl
      and_true false = refl

  unmarked : (b : ℕ) (r : Scan) → r.figures ≡ s.figures → whole_after s w b ≡ w → Held (whole_after s w b) r.figures
  unmarked b r e z = subst (λ (k : ℕ). Held k r.figures) (sym z) (kept r e)

  pub byte_held : (b : ℕ) → is_bad (byte_after s b).phase ≡ false → Held (whole_after s w b) (byte_after s b).figures
  byte_held b =
      byte_cases s b (λ (r : Scan). is_bad r.phase ≡ false → Held (whole_after s w b) r.figures)
      (λ e n. absurd (true≢false (sym e ∙ n)))
      (λ e n. unmarked b (minus_after s) (minus_keeps s) (none_low b (omega arith)))
      (λ e n. unmarked b (sign_after s false) (sign_keeps s false) (none_low b (omega arith)))
      (λ e n. unmarked b (point_after s) (point_keeps s) (none_low b (omega arith)))
      (λ l u n. subst (λ (k : ℕ). Held k (figure_after s (b - 48)).figures) (sym (one b l u))
      (figure_held (b - 48) (omega arith) n))
      (λ l n. unmarked b (power_after s) (power_keeps s) (none_high b l))
      (λ o n. absurd (true≢false (unfold at_phase in n)))

-- ---- what is no number stays none
pub bad_stays : (l : List ℕ) (s : Scan) → is_bad s.phase ≡ true → is_bad (bytes_after s l).phase ≡ true
unfolding bytes_after
bad_stays [] s e = e
bad_stays (b ∷ l) s e = bad_stays l (byte_after s b) (unfold byte_after in rw e e)

pub not_bad : (l : List ℕ) (s : Scan) → is_bad (bytes_after s l).phase ≡ false → is_bad s.phase ≡ false
not_bad l s n = go (is_bad s.phase) refl
  where
    go : (t : Bool) → is_bad s.phase ≡ t → is_bad s.phase ≡ false
    go true e = absurd (true≢false (sym (bad_stays l s e) ∙ n))
    go false e = e

-- THE LAW: what is held at a number's end
pub bytes_held : (l : List ℕ) (s : Scan) (w : ℕ) → Held w s.figures → is_bad (bytes_after s l).phase ≡ false
    → Held (whole_from s w l) (bytes_after s l).figures
unfolding bytes_after whole_from
bytes_held [] s w h n = h
bytes_held (b ∷ l) s w h n = bytes_held l (byte_after s b) (whole_after s w b) (byte_held s w h b (not_bad l (byte_after s b) n)) n

pub text_held : (l : List ℕ) → is_bad (bytes_after start_of l).phase ≡ false
    → Held (whole_from start_of 0 l) (bytes_after start_of l).figures
text_held l n = bytes_held l start_of 0 (unfold start_of in held_none) n
