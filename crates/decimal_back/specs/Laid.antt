-- A laid out decimal, scanned: which number it says. Assumes nothing.
use Prim.Native.Nat.{ℕ, zero, suc, ◌+◌, ◌*◌, ◌^◌, ◌≤◌, ◌<◌}
use Rattle.std.specs.Prelude.{◌≡◌, Bool, cond, List, [], ◌∷◌, ◌++◌, eqb}
use Rattle.std.proofs.Math.Path.{refl, subst}
use Rattle.std.proofs.Common.{sym, ap, ◌∙◌, ne_eqb}
use Rattle.std.proofs.Math.Bool.{true, false}
use native.Mathlib.Omega.{arith}
use Rattle.std.specs.Float.{binary64}
use Rattle.std.specs.Float.Ieee.{round}
use Rattle.digits.specs.Digits.{digits}
use Rattle.writing.specs.Decimal.{places_of, decimal}
use Rattle.decimal_scan.specs.declared.figures.Figures.{Figures}
use Rattle.decimal_scan.specs.declared.scan.Phase.{Phase}
use Rattle.decimal_scan.specs.declared.scan.Phase.TheVariants.{Nothing, Minus, Digits, Point, Places, Power, PowerDigits}
use Rattle.decimal_scan.specs.declared.scan.Scan.{Scan}
use Rattle.decimal_scan.specs.Figures.{no_figures}
use Rattle.decimal_scan.specs.Scan.{start_of, bytes_after, is_whole}
use Rattle.decimal_scan.specs.Number.{whole_from, up_of, down_of, said_by, text_value}
use Rattle.decimal_text.specs.declared.shape.Shape.{Shape}
use Rattle.decimal_text.specs.Shape.{places_text, power_text, shape_text}
use Rattle.decimal_text.specs.Text.{sign_text}
use Rattle.decimal_back.specs.Count.{Counted, counted}
use Rattle.decimal_back.specs.Goes.{
  at,
  Goes,
  goes_none,
  goes_on,
  goes_to,
  figures_over,
  over_few,
  Takes,
  digits_goes,
  before_none,
  before_minus,
  before,
  after_point,
  after,
  power_goes,
  after_e,
  after_sign,
  point_goes,
  whole_e,
  places_e,
  minus_goes,
  below_goes,
}

-- the text l is a number: v times 10 ^ up over 10 ^ down, with the sign m
pub record Says (l : List ℕ) (m : Bool) (v up down : ℕ) : Type 0 where
  pub whole : is_whole (bytes_after start_of l) ≡ true
  pub value : text_value l ≡ round binary64 m (v * 10 ^ up) (10 ^ down)

says : {l : List ℕ} {m : Bool} {v up down : ℕ} (r : Scan) → Goes start_of 0 l r v → is_whole r ≡ true → r.minus ≡ m → up_of r ≡ up
    → down_of r ≡ down → Says l m v up down
unfolding text_value said_by
says {l} {m} {v} {up} {down} r g e p q t = record {
  whole = ap is_whole g.ends ∙ e;
  value = ap (λ (s : Scan). said_by s (whole_from start_of 0 l)) g.ends ∙ ap (λ (w : ℕ). said_by r w) g.whole
      ∙ ap (λ (z : Bool). round binary64 z (v * 10 ^ up_of r) (10 ^ down_of r)) p
      ∙ ap (λ (z : ℕ). round binary64 m (v * 10 ^ z) (10 ^ down_of r)) q
      ∙ ap (λ (z : ℕ). round binary64 m (v * 10 ^ up) (10 ^ z)) t;
}

-- ---- the sign and the whole part
abbrev sign_phase : Bool → Phase
sign_phase m = cond m Minus Nothing

sign_goes : (m : Bool) → Goes start_of 0 (sign_text m) (at (sign_phase m) m no_figures 0 false 0) 0
unfolding start_of sign_text
sign_goes true = minus_goes false false no_figures 0 0 0
sign_goes false = goes_none

sign_takes : (m : Bool) → Takes m false 0 (sign_phase m) 0 Digits
sign_takes true = before_minus true false 0
sign_takes false = before_none false false 0

abbrev whole_figures : ℕ → Figures
whole_figures n = figures_over no_figures (places_of 19 n) n

abbrev signed : Bool → Scan
signed m = at (sign_phase m) m no_figures 0 false 0

whole_goes : (m : Bool) (n : ℕ) → n < 10 ^ 20 → Goes (signed m) 0 (decimal 19 n) (at Digits m (whole_figures n) 0 false 0) n
unfolding decimal no_figures
whole_goes m n h =
    let c : Counted 19 n = counted 19 n h in
    let k = c.k in
    let z : 0 + suc k * 0 ≡ 0 = omega arith in
    let v : 0 * 10 ^ suc k + n ≡ n = omega arith in
    let few : k + 1 ≤ 800 = omega (arith, c.most) in
    let g = digits_goes m false 0 (sign_takes m) (before m false 0) no_figures 0 0 k n c.enough (omega arith) (omega arith) in
    subst (λ (p : ℕ). Goes (signed m) 0 (digits 10 p n) (at Digits m (figures_over no_figures p n) 0 false 0) n) (sym c.is)
    (goes_to g (ap (λ (x : ℕ). at Digits m (figures_over no_figures (suc k) n) x false 0) z) v)

whole_few : (n : ℕ) → n < 10 ^ 20 → (whole_figures n).digits ≤ 20
unfolding no_figures
whole_few n h =
    let c : Counted 19 n = counted 19 n h in
    omega (arith, over_few no_figures (places_of 19 n) n, c.is, c.most)

-- ---- the places
-- after the bytes l a number may end, or go on with an `e`
record Next (m : Bool) (f : Figures) (w : ℕ) (l : List ℕ) (j v : ℕ) : Type 0 where
  phase : Phase
  figures : Figures
  goes : Goes (at Digits m f 0 false 0) w l (at phase m figures j false 0) v
  power : Goes (at phase m figures j false 0) v (101 ∷ []) (at Power m figures j false 0) v
  ended : is_whole (at phase m figures j false 0) ≡ true

module _ (m : Bool) (f : Figures) (w : ℕ) (F : f.digits ≤ 20) where
  none_next : Next m f w [] 0 w
  unfolding is_whole
  none_next = record { phase = Digits; figures = f; goes = goes_none; power = whole_e m false f 0 0 w; ended = refl }

  point_next : (k c : ℕ) → c < 10 ^ suc k → k ≤ 40 → Next m f w (46 ∷ digits 10 (suc k) c) (suc k) (w * 10 ^ suc k + c)
  unfolding is_whole
  point_next k c C K =
      let o = figures_over f (suc k) c in
      let j : 0 + suc k * 1 ≡ suc k = omega arith in
      record {
        phase = Places;
        figures = o;
        goes = goes_on (point_goes m false f 0 0 w)
            (subst
            (λ (x : ℕ). Goes (at Point m f 0 false 0) w (digits 10 (suc k) c) (at Places m o x false 0) (w * 10 ^ suc k + c)) j
            (digits_goes m false 0 (after_point m false 0) (after m false 0) f 0 w k c C (omega arith) (omega arith)));
        power = places_e m false o (suc k) 0 (w * 10 ^ suc k + c);
        ended = refl;
      }

  places_next : (k c : ℕ) → c < 10 ^ k → k ≤ 40 → Next m f w (cond (eqb k 0) [] (46 ∷ digits 10 k c)) k (w * 10 ^ k + c)
  places_next zero c C K =
      let e : w ≡ w * 10 ^ 0 + c = omega arith in
      subst (λ (x : ℕ). Next m f w [] 0 x) e none_next
  places_next (suc k) c C K = rw (ne_eqb (suc k) 0 (λ e. omega arith)) (point_next k c C (omega arith))

-- ---- the power
abbrev tens_text : Bool → List ℕ → List ℕ
tens_text b l = cond b (45 ∷ []) [] ++ l

module _ (m : Bool) (f : Figures) (j w : ℕ) where
  power_digits : (b : Bool) (n : ℕ) → n < 1000
      → Goes (at Power m f j false 0) w (tens_text b (decimal 9 n)) (at PowerDigits m f j b n) w
  unfolding decimal
  power_digits b n h =
      subst (λ (p : ℕ). Goes (at Power m f j false 0) w (tens_text b (digits 10 p n)) (at PowerDigits m f j b n) w) (sym c.is) (go b)
    where
      c : Counted 9 n
      c = counted 9 n (omega arith)

      go : (b : Bool) → Goes (at Power m f j false 0) w (tens_text b (digits 10 (suc c.k) n)) (at PowerDigits m f j b n) w
      go true = goes_on (below_goes m false f j 0 w) (power_goes m true f j w (after_sign m true f j w) c.k n c.enough h)
      go false = power_goes m false f j w (after_e m false f j w) c.k n c.enough h

-- the bytes l end a number
record End (s : Scan) (w : ℕ) (l : List ℕ) (m : Bool) (up down : ℕ) : Type 0 where
  last : Scan
  goes : Goes s w l last w
  ended : is_whole last ≡ true
  minus : last.minus ≡ m
  above : up_of last ≡ up
  under : down_of last ≡ down

module _ (m : Bool) (f : Figures) (w : ℕ) (l : List ℕ) (j v : ℕ) (x : Next m f w l j v) where
  abbrev here : Scan
  here = at x.phase m x.figures j false 0

  no_power : (b : Bool) → End here v [] m (cond b 0 0) (cond b 0 0 + j)
  unfolding up_of down_of
  no_power true = record { last = _; goes = goes_none; ended = x.ended; minus = refl; above = refl; under = refl }
  no_power false = record { last = _; goes = goes_none; ended = x.ended; minus = refl; above = refl; under = refl }

  some_power : (b : Bool) (n : ℕ) → n < 1000
      → End here v (101 ∷ tens_text b (decimal 9 n)) m (cond b 0 n) (cond b n 0 + j)
  unfolding up_of down_of is_whole
  some_power b n h = record {
    last = at PowerDigits m x.figures j b n;
    goes = goes_on x.power (power_digits m x.figures j v b n h);
    ended = refl;
    minus = refl;
    above = refl;
    under = refl;
  }

  power_end : (b : Bool) (n : ℕ) → n < 1000
      → End here v (cond (eqb n 0) [] (101 ∷ tens_text b (decimal 9 n))) m (cond b 0 n) (cond b n 0 + j)
  power_end b zero h = no_power b
  power_end b (suc n) h = rw (ne_eqb (suc n) 0 (λ e. omega arith)) (some_power b (suc n) h)

-- ---- all of it
pub record Fair (s : Shape) : Type 0 where
  pub whole : s.whole < 10 ^ 20
  pub places : s.places ≤ 40
  pub part : s.part < 10 ^ s.places
  pub power : s.power < 1000

-- THE LAW: what a laid out decimal says
pub shape_says : (m : Bool) (s : Shape) → Fair s
    → Says (sign_text m ++ shape_text s) m (s.whole * 10 ^ s.places + s.part) (cond s.below 0 s.power)
    (cond s.below s.power 0 + s.places)
unfolding shape_text places_text power_text
shape_says m s h =
    let f = whole_figures s.whole in
    let v = s.whole * 10 ^ s.places + s.part in
    let x = places_next m f s.whole (whole_few s.whole h.whole) s.places s.part h.part h.places in
    let e = power_end m f s.whole _ s.places v x s.below s.power (omega (arith, h.power)) in
    let g = goes_on (sign_goes m) (goes_on (whole_goes m s.whole h.whole) (goes_on x.goes e.goes)) in
    says e.last g e.ended e.minus e.above e.under
