-- What the tests before RC's logarithms tell of x and y: x is above zero and no less than y, which is a zero or above it too;
-- and by the last test x is twice y or more, or twice y at most. Assumes nothing.
use Rattle.std.specs.Prelude.{◌≡◌, refl, ◌⊎◌, Bool, true, false, not, ℕ, ◌+◌, ◌*◌, ◌^◌, ◌≤◌, ◌<◌, T, Float}
use Rattle.std.proofs.Common.{sym, ap, ◌∙◌, subst, inl, inr, true≢false, le_of_eq, lt_of_le_of_lt, eq-zero-or-pos, mul-le-mul_right, zero-lt-suc, arith, T_not, ltb→lt, nltb→le, lit<}
use Rattle.std.specs.Float.{nan, inf, fin, binary64}
use Rattle.std.specs.Float.Ieee.{low, unlike, lt, eq, below, level, fits, of_bits}
use Rattle.std.specs.Float.Ieee.Scale.{finite}
use Rattle.binary64.specs.Operators.{◌⊘◌}
use Rattle.scaling.specs.Near.{near, near_mono, near_exact}
use Rattle.scaling.specs.Units.{Is, div_units, lt_units, eq_units}
use Rattle.scaling.proofs.Last.{digits_of}
use Rattle.scaling.proofs.Plain.{whole_units_of}
use Rattle.scaling.proofs.Tests.{zero_is}
use Rattle.carlson.specs.Constants.{zero, half}
use Rattle.asked.proofs.Arguments.{half_is}
use Rattle.asked.specs.Twice.{at_most_half, more_than_half}
use Rattle.asked.specs.Reached.{Ordered, Tested}

-- ---- the order, from tests
some : (s : Bool) (X : ℕ) → T (not (level s X false 0)) → 0 < X
some s X h = elim (eq-zero-or-pos X) [
  | inl z ↦ absurd (T_not (level s 0 false 0) (subst (λ n. T (not (level s n false 0))) z h) (both s))
  | inr p ↦ p
]
  where
    both : (s : Bool) → T (level s 0 false 0)
    both true = tt
    both false = tt

above : (s t : Bool) (X Y : ℕ) → 0 < X → T (not (below t Y false 0)) → T (not (below s X t Y)) → s ≡ false
above false t X Y p h k = refl
above true false X Y p h k = let l = nltb→le 0 (X + Y) k in let r : ⊥ = omega arith in absurd r
above true true X Y p h k =
    let l = nltb→le Y X k in let z = nltb→le 0 (Y + 0) h in let r : ⊥ = omega arith in absurd r

order : (t : Bool) (X Y : ℕ) → T (not (below t Y false 0)) → T (not (below false X t Y)) → (Y ≤ X) × ((t ≡ false) ⊎ (Y ≡ 0))
order false X Y h k = (nltb→le X Y k, inl refl)
order true X Y h k =
    let z = nltb→le 0 (Y + 0) h in
    let l : Y ≤ X = omega arith in
    let n : Y ≡ 0 = omega arith in
    (l, inr n)

-- with x finite, y is NaN or both are ordered: an infinite y did not pass the tests
pub ordered : (x y : Float) → Tested x y → finite x ≡ true → (y ≡ nan) ⊎ Ordered x y
unfolding lt of_bits
ordered nan y h f = absurd (true≢false (sym f))
ordered (inf s) y h f = absurd (true≢false (sym f))
ordered (fin s m e) nan h f = inl refl
ordered (fin s m e) (inf true) h f = absurd h.y_above
ordered (fin s m e) (inf false) h f = absurd h.not_less
ordered (fin s m e) (fin t n d) h f =
    let x = fin s m e in
    let y = fin t n d in
    let A = whole_units_of binary64 x h.fit_x tt in
    let B = whole_units_of binary64 y h.fit_y tt in
    let pos = some s A.0 (subst (λ b. T (not b)) (eq_units A.1 (zero_is binary64)) h.not_zero) in
    let y_above = subst (λ b. T (not b)) (lt_units B.1 (zero_is binary64)) h.y_above in
    let not_less = subst (λ b. T (not b)) (lt_units A.1 B.1) h.not_less in
    let S = above s t A.0 B.0 pos y_above not_less in
    let o = order t A.0 B.0 y_above (subst (λ b. T (not (below b A.0 t B.0))) S not_less) in
    inr (record {
      X = A.0;
      Y = B.0;
      t = t;
      x_is = subst (λ b. Is binary64 x b A.0) S A.1;
      y_is = B.1;
      pos = pos;
      most = o.0;
      sign = o.1;
    })

-- ---- the test of y / x against 1/2
module _ {x y : Float} (o : Ordered x y) where
  abbrev ratio : ℕ
  ratio = near binary64 (o.Y * 2 ^ low binary64) o.X

  ratio_is : Is binary64 (y ⊘ x) (unlike o.t false) ratio
  ratio_is =
      div_units o.y_is o.x_is o.pos
      (lt_of_le_of_lt (near_mono binary64 (o.Y * 2 ^ low binary64) o.X (1 * 2 ^ 1074 * 1) 1 o.pos (zero-lt-suc 0)
      (cross o.X o.Y (2 ^ 1074) o.most))
      (lt_of_le_of_lt (le_of_eq (near_exact binary64 1 1074 1 (zero-lt-suc 0) (lit< tt))) (lit< tt)))
    where
      cross : (X Y q : ℕ) → Y ≤ X → Y * q * 1 ≤ 1 * q * 1 * X
      cross X Y q h = omega (arith, mul-le-mul_right q h)

  -- not above: either y is a zero, or x is twice y or more
  pub not_above : T (not (lt half (y ⊘ x))) → (o.Y ≡ 0) ⊎ ((o.t ≡ false) × (0 < o.Y) × (o.Y * 2 ≤ o.X))
  not_above h = elim (eq-zero-or-pos o.Y) [
    | inl z ↦ inl z
    | inr p ↦
        let most = at_most_half o.X o.Y (digits_of o.x_is) (digits_of o.y_is) o.pos (low_ratio (plus p)) in
        inr (plus p, p, most)
  ]
    where
      plus : 0 < o.Y → o.t ≡ false
      plus p = elim o.sign [ inl e ↦ e | inr z ↦ (let r : ⊥ = omega arith in absurd r) ]

      low_ratio : o.t ≡ false → ratio ≤ 2 ^ 1073
      low_ratio e =
          nltb→le (2 ^ 1073) ratio
          (subst (λ b. T (not b)) (lt_units half_is ratio_is ∙ ap (λ t. below false (2 ^ 1073) (unlike t false) ratio) e) h)

  -- above: x is twice y at most
  pub over_half : T (lt half (y ⊘ x)) → (o.t ≡ false) × (o.X ≤ o.Y * 2)
  over_half h =
      let l = more_than_half o.X o.Y o.pos (high (unlike o.t false) ratio (subst T (lt_units half_is ratio_is) h)) in
      let pos = o.pos in
      (elim o.sign [ inl e ↦ e | inr z ↦ (let r : ⊥ = omega arith in absurd r) ], l)
    where
      high : (s : Bool) (n : ℕ) → T (below false (2 ^ 1073) s n) → 2 ^ 1073 < n
      high true n t = absurd t
      high false n t = ltb→lt (2 ^ 1073) n t
