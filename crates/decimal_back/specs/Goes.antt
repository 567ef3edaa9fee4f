-- How digits, a point, an `e` and a minus take a scan on. Assumes nothing.
use Prim.Native.Nat.{ℕ, zero, suc, ◌+◌, ◌-◌, ◌*◌, ◌/◌, ◌%◌, ◌^◌, ◌≤◌, ◌<◌}
use Rattle.std.specs.Prelude.{◌≡◌, Bool, ◌&&◌, ◌||◌, cond, List, [], ◌∷◌, ◌++◌, eqb}
use Rattle.std.proofs.Math.Path.{refl, ap}
use Rattle.std.proofs.Common.{sym, ◌∙◌, subst, pow-suc}
use Rattle.std.proofs.Math.Bool.{true, false}
use native.Mathlib.Omega.{arith}
use borrow.Author.Tests.{lt-ltb, le-ltb, le-leb, ne_eqb}
use Rattle.std.proofs.Math.Dec.{leb}
use Rattle.algebra.specs.Ring.{con, nxt, ◌:+◌, ◌:*◌, ◌≈◌, ◌⊩◌, ◌times◌≼◌}
use Rattle.algebra.proofs.Ring.{ring}
use Rattle.digits.specs.Digits.{glyph_of, digits}
use Rattle.decimal_scan.specs.declared.figures.Figures.{Figures}
use Rattle.decimal_scan.specs.declared.scan.Phase.{Phase}
use Rattle.decimal_scan.specs.declared.scan.Phase.TheVariants.{Nothing, Minus, Digits, Point, Places, Power, PowerSign, PowerDigits}
use Rattle.decimal_scan.specs.declared.scan.Scan.{Scan}
use Rattle.decimal_scan.specs.Figures.{many, significant, grown_by, figures_after, room_for}
use Rattle.decimal_scan.specs.Scan.{
  is_bad,
  of_number,
  at_phase,
  digit_after,
  most_tens,
  tens_after,
  figure_after,
  sign_after,
  minus_after,
  point_after,
  power_after,
  byte_after,
  bytes_after,
}
use Rattle.decimal_scan.specs.Number.{counts, whole_after, whole_from}
use Rattle.decimal_back.specs.Count.{shorter}

-- a scan by its fields
abbrev pub at : Phase → Bool → Figures → ℕ → Bool → ℕ → Scan
at p m f k b t = record { phase = p; minus = m; figures = f; places = k; below = b; tens = t }

-- the bytes l take the scan s to r, and the number w of the digits before to v
pub record Goes (s : Scan) (w : ℕ) (l : List ℕ) (r : Scan) (v : ℕ) : Type 0 where
  pub ends : bytes_after s l ≡ r
  pub whole : whole_from s w l ≡ v

bytes_more : (l : List ℕ) (s : Scan) (m : List ℕ) → bytes_after s (l ++ m) ≡ bytes_after (bytes_after s l) m
unfolding bytes_after
bytes_more [] s m = refl
bytes_more (b ∷ l) s m = bytes_more l (byte_after s b) m

whole_more : (l : List ℕ) (s : Scan) (w : ℕ) (m : List ℕ)
    → whole_from s w (l ++ m) ≡ whole_from (bytes_after s l) (whole_from s w l) m
unfolding bytes_after whole_from
whole_more [] s w m = refl
whole_more (b ∷ l) s w m = whole_more l (byte_after s b) (whole_after s w b) m

pub goes_none : {s : Scan} {w : ℕ} → Goes s w [] s w
unfolding bytes_after whole_from
goes_none = record { ends = refl; whole = refl }

pub goes_to : {s r q : Scan} {w v u : ℕ} {l : List ℕ} → Goes s w l r v → r ≡ q → v ≡ u → Goes s w l q u
goes_to g e f = record { ends = g.ends ∙ e; whole = g.whole ∙ f }

pub goes_on : {s r q : Scan} {w v u : ℕ} {l m : List ℕ} → Goes s w l r v → Goes r v m q u → Goes s w (l ++ m) q u
goes_on {s} {r} {q} {w} {v} {u} {l} {m} a b = record {
  ends = bytes_more l s m ∙ ap (λ (x : Scan). bytes_after x m) a.ends ∙ b.ends;
  whole = whole_more l s w m
      ∙ ap (λ (x : Scan). whole_from x (whole_from s w l) m) a.ends ∙ ap (λ (x : ℕ). whole_from r x m) a.whole ∙ b.whole;
}

byte_goes : (s : Scan) (w b : ℕ) (r : Scan) (v : ℕ) → byte_after s b ≡ r → whole_after s w b ≡ v → Goes s w (b ∷ []) r v
unfolding bytes_after whole_from
byte_goes s w b r v e g = record { ends = e; whole = g }

-- ---- one digit
glyph : (d : ℕ) → d < 10 → glyph_of d ≡ 48 + d
unfolding glyph_of
glyph d h = rw (lt-ltb d 10 h)

glyph_goes : {s r : Scan} {w v : ℕ} (d : ℕ) → d < 10 → Goes s w ((48 + d) ∷ []) r v → Goes s w (glyph_of d ∷ []) r v
glyph_goes {s} {r} {w} {v} d h g = subst (λ (x : ℕ). Goes s w (x ∷ []) r v) (sym (glyph d h)) g

figure_byte : (s : Scan) (d : ℕ) → is_bad s.phase ≡ false → d < 10 → byte_after s (48 + d) ≡ figure_after s d
unfolding byte_after
figure_byte s d g h =
    let z : 48 + d - 48 ≡ d = omega arith in
    rw (
      g,
      ne_eqb (48 + d) 45 (λ e. omega arith),
      ne_eqb (48 + d) 43 (λ e. omega arith),
      ne_eqb (48 + d) 46 (λ e. omega arith),
      le-ltb (48 + d) 48 (omega arith),
      lt-ltb (48 + d) 58 (omega arith),
      z,
    )

figure_whole : (s : Scan) (w d : ℕ) → d < 10 → whole_after s w (48 + d) ≡ cond (of_number s.phase) (w * 10 + d) w
unfolding whole_after counts
figure_whole s w d h =
    let z : 48 + d - 48 ≡ d = omega arith in
    rw (le-leb 48 (48 + d) (omega arith), lt-ltb (48 + d) 58 (omega arith), z) (go (of_number s.phase))
  where
    go : (t : Bool) → cond (t && (true && true)) (w * 10 + d) w ≡ cond t (w * 10 + d) w
    go true = refl
    go false = refl

-- ---- digits of the number
-- the figures after the k digits of n
unfoldable pub figures_over : Figures → ℕ → ℕ → Figures
figures_over f zero n = f
figures_over f (suc k) n = figures_after (figures_over f k (n / 10)) (n % 10)

one_more : (f : Figures) (d : ℕ) → (figures_after f d).digits ≤ f.digits + 1
unfolding figures_after grown_by
one_more f d = go (eqb f.digits 0) (eqb d 0)
  where
    go : (t u : Bool) → (cond t (cond u f (grown_by f d)) (grown_by f d)).digits ≤ f.digits + 1
    go true true = omega arith
    go true false = unfold grown_by in omega arith
    go false u = unfold grown_by in omega arith

pub over_few : (f : Figures) (k n : ℕ) → (figures_over f k n).digits ≤ f.digits + k
unfolding figures_over
over_few f zero n = omega arith
over_few f (suc k) n = omega (arith, one_more (figures_over f k (n / 10)) (n % 10), over_few f k (n / 10))

grown : (w P q d n : ℕ) → q * 10 + d ≡ n → (w * P + q) * 10 + d ≡ w * (P * 10) + n
grown = ring 5 (λ w P q d n. (con 1 times q :* con 10 :+ d ≼ n) ∷ [] ⊩ (w :* P :+ q) :* con 10 :+ d ≈ w :* (P :* con 10) :+ n) tt

module _ (m b : Bool) (t : ℕ) where
  -- a phase p in which a digit is one of the number, with so many places more, and the phase after it
  pub record Takes (p : Phase) (more : ℕ) (q : Phase) : Type 0 where
    pub good : is_bad p ≡ false
    pub number : of_number p ≡ true
    pub is : (f : Figures) (k d : ℕ) → figure_after (at p m f k b t) d ≡ digit_after (at p m f k b t) d more q

  room : (n k d : ℕ) → n < 800 → k < many → room_for n k d ≡ true
  unfolding room_for
  room n k d h g = rw (lt-ltb n many (omega arith), lt-ltb k many g, lt-ltb n significant h) (go (eqb d 0))
    where
      go : (t : Bool) → (true && (true && (t || true))) ≡ true
      go true = refl
      go false = refl

  module _ {p : Phase} {more : ℕ} {q : Phase} (T : Takes p more q) where
    digit_taken : (f : Figures) (k d : ℕ) → f.digits < 800 → k < many
        → digit_after (at p m f k b t) d more q ≡ at q m (figures_after f d) (k + more) b t
    unfolding digit_after
    digit_taken f k d h g = rw (room f.digits k d h g)

    digit_goes : (f : Figures) (k w d : ℕ) → d < 10 → f.digits < 800 → k < many
        → Goes (at p m f k b t) w (glyph_of d ∷ []) (at q m (figures_after f d) (k + more) b t) (w * 10 + d)
    digit_goes f k w d D h g =
        let s = at p m f k b t in
        glyph_goes d D (byte_goes s w (48 + d) _ _ (figure_byte s d T.good D ∙ T.is f k d ∙ digit_taken f k d h g)
        (figure_whole s w d D ∙ ap (λ (x : Bool). cond x (w * 10 + d) w) T.number))

  module _ {p : Phase} {more : ℕ} {q : Phase} (T : Takes p more q) (U : Takes q more q) where
    further : (j k : ℕ) → j + suc k * more + more ≡ j + suc (suc k) * more
    further j k = ring 3 (λ j k c. j :+ nxt k :* c :+ c ≈ j :+ nxt (nxt k) :* c) tt j k more

    -- THE LAW: the digits of n add it to the number
    pub digits_goes : (f : Figures) (j w k n : ℕ) → n < 10 ^ suc k → f.digits + suc k ≤ 800 → j + suc k * more < many
        → Goes (at p m f j b t) w (digits 10 (suc k) n) (at q m (figures_over f (suc k) n) (j + suc k * more) b t)
        (w * 10 ^ suc k + n)
    unfolding digits figures_over
    digits_goes f j w zero n h F J =
        let e : w * 10 + n % 10 ≡ w * 10 ^ 1 + n = omega arith in
        let g : j + more ≡ j + 1 * more = omega arith in
        goes_to (digit_goes T f j w (n % 10) (omega arith) (omega arith) (omega arith))
        (ap (λ (x : ℕ). at q m (figures_after f (n % 10)) x b t) g) e
    digits_goes f j w (suc k) n h F J =
        let o = figures_over f (suc k) (n / 10) in
        let i = j + suc k * more in
        let v = w * 10 ^ suc k + n / 10 in
        let few : o.digits ≤ f.digits + suc k = over_few f (suc k) (n / 10) in
        let c : i + more ≡ j + suc (suc k) * more = further j k in
        let r : n / 10 * 10 + n % 10 ≡ n = omega arith in
        let e : v * 10 + n % 10 ≡ w * 10 ^ suc (suc k) + n =
        grown w (10 ^ suc k) (n / 10) (n % 10) n r ∙ ap (λ (x : ℕ). w * x + n) (sym (pow-suc 10 (suc k))) in
        goes_on (digits_goes f j w k (n / 10) (shorter k n h) (omega arith) (omega arith))
        (goes_to (digit_goes U o i v (n % 10) (omega arith) (omega arith) (omega arith))
        (ap (λ (x : ℕ). at q m (figures_after o (n % 10)) x b t) c) e)

  -- before the point
  pub before_none : Takes Nothing 0 Digits
  unfolding figure_after
  before_none = record { good = refl; number = refl; is = λ f k d. refl }

  pub before_minus : Takes Minus 0 Digits
  unfolding figure_after
  before_minus = record { good = refl; number = refl; is = λ f k d. refl }

  pub before : Takes Digits 0 Digits
  unfolding figure_after
  before = record { good = refl; number = refl; is = λ f k d. refl }

  -- after the point
  pub after_point : Takes Point 1 Places
  unfolding figure_after
  after_point = record { good = refl; number = refl; is = λ f k d. refl }

  pub after : Takes Places 1 Places
  unfolding figure_after
  after = record { good = refl; number = refl; is = λ f k d. refl }

-- ---- digits of the power
module _ (m b : Bool) (f : Figures) (j w : ℕ) where
  pub record Raises (p : Phase) : Type 0 where
    pub good : is_bad p ≡ false
    pub power : of_number p ≡ false
    pub is : (t d : ℕ) → figure_after (at p m f j b t) d ≡ tens_after (at p m f j b t) d

  allowed : (n : ℕ) → n < 2147483648 → leb n (most_tens b) ≡ true
  unfolding most_tens
  allowed n h = go b
    where
      go : (b : Bool) → leb n (cond b 2147483648 2147483647) ≡ true
      go true = le-leb n 2147483648 (omega arith)
      go false = le-leb n 2147483647 (omega arith)

  module _ {p : Phase} (R : Raises p) where
    raised : (t d : ℕ) → t * 10 + d < 2147483648 → tens_after (at p m f j b t) d ≡ at PowerDigits m f j b (t * 10 + d)
    unfolding tens_after
    raised t d h = rw (allowed (t * 10 + d) h)

    tens_goes : (t d : ℕ) → d < 10 → t * 10 + d < 2147483648
        → Goes (at p m f j b t) w (glyph_of d ∷ []) (at PowerDigits m f j b (t * 10 + d)) w
    tens_goes t d D h =
        let s = at p m f j b t in
        glyph_goes d D (byte_goes s w (48 + d) _ _ (figure_byte s d R.good D ∙ R.is t d ∙ raised t d h)
        (figure_whole s w d D ∙ ap (λ (x : Bool). cond x (w * 10 + d) w) R.power))

  raises_on : Raises PowerDigits
  unfolding figure_after
  raises_on = record { good = refl; power = refl; is = λ t d. refl }

  -- THE LAW: the digits of n after the `e` make it the power
  pub power_goes : {p : Phase} → Raises p → (k n : ℕ) → n < 10 ^ suc k → n < 1000
      → Goes (at p m f j b 0) w (digits 10 (suc k) n) (at PowerDigits m f j b n) w
  unfolding digits
  power_goes {p} R zero n h l =
      let e : 0 * 10 + n % 10 ≡ n = omega arith in
      goes_to (tens_goes R 0 (n % 10) (omega arith) (omega arith)) (ap (at PowerDigits m f j b) e) refl
  power_goes {p} R (suc k) n h l =
      let e : n / 10 * 10 + n % 10 ≡ n = omega arith in
      goes_on (power_goes R k (n / 10) (shorter k n h) (omega arith))
      (goes_to (tens_goes raises_on (n / 10) (n % 10) (omega arith) (omega arith)) (ap (at PowerDigits m f j b) e) refl)

  pub after_e : Raises Power
  unfolding figure_after
  after_e = record { good = refl; power = refl; is = λ t d. refl }

  pub after_sign : Raises PowerSign
  unfolding figure_after
  after_sign = record { good = refl; power = refl; is = λ t d. refl }

-- ---- marks
module _ (m b : Bool) (f : Figures) (j t w : ℕ) where
  pub point_goes : Goes (at Digits m f j b t) w (46 ∷ []) (at Point m f j b t) w
  unfolding byte_after point_after at_phase whole_after counts
  point_goes = byte_goes (at Digits m f j b t) w 46 _ _ refl refl

  pub whole_e : Goes (at Digits m f j b t) w (101 ∷ []) (at Power m f j b t) w
  unfolding byte_after power_after at_phase whole_after counts
  whole_e = byte_goes (at Digits m f j b t) w 101 _ _ refl refl

  pub places_e : Goes (at Places m f j b t) w (101 ∷ []) (at Power m f j b t) w
  unfolding byte_after power_after at_phase whole_after counts
  places_e = byte_goes (at Places m f j b t) w 101 _ _ refl refl

  pub minus_goes : Goes (at Nothing m f j b t) w (45 ∷ []) (at Minus true f j b t) w
  unfolding byte_after minus_after whole_after counts
  minus_goes = byte_goes (at Nothing m f j b t) w 45 _ _ refl refl

  pub below_goes : Goes (at Power m f j b t) w (45 ∷ []) (at PowerSign m f j true t) w
  unfolding byte_after minus_after sign_after whole_after counts
  below_goes = byte_goes (at Power m f j b t) w 45 _ _ refl refl
