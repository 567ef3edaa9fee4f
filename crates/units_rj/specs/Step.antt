-- A pass of RJ's duplication in two runs: what it keeps. Assumes nothing.
use Rattle.std.proofs.Math.Path.{◌≡◌, ap₂, subst₂}
use Rattle.std.specs.Prelude.{refl, ◌⊎◌, [], ◌∷◌, ℕ, suc, ◌+◌, ◌-◌, ◌*◌, ◌%◌, ◌^◌, ◌≤◌, ◌<◌, Bool, true, false, ◌&&◌, cond, T, leb, Float}
use Rattle.std.proofs.Common.{sym, ap, ◌∙◌, subst, inl, inr, le_trans, le_of_eq, mul-le-mul, zero-lt-suc, mul-pos, arith, T_not, leb→le, lit≤, pow_mono}
use Rattle.std.proofs.Math.Nat.{le_of_mul-le-mul_left}
use Rattle.std.specs.Float.Ieee.{binary64, neg, lt, le, low, of_bits}
use Rattle.std.specs.Float.Ieee.Fits.{and_l, and_r}
use Rattle.algebra.specs.Ring.{con, ◌:*◌, ◌≈◌, ◌⊩◌, ◌times◌≼◌, Order}
use Rattle.algebra.proofs.Ring.{by_below}
use Rattle.binary64.specs.Operators.{◌⊕◌, ◌⊗◌, ◌⊘◌, bits}
use Rattle.root.specs.Root.{root}
use Rattle.carlson.specs.Constants.{one, four, half}
use Rattle.carlson.specs.Common.{lambda_of}
use Rattle.carlson.specs.declared.answer.Found.{Found}
use Rattle.elliprc.specs.Rc.{rc_unchecked}
use Rattle.rj_term.specs.Helper.{three_halves, rc1p}
use Rattle.rj_term.specs.Term.{rj_middle, rj_term, rj_rescalings}
use Rattle.rj_positive.specs.Duplicate.{rj_denominator, rj_ratio, rj_moved, rj_with, rj_step}
use Rattle.rj_positive.specs.declared.duplicate.Round.{Round}
use Rattle.rj_term.specs.declared.term.Roots.{Roots}
use Rattle.scaling.specs.Near.{near, near_same, near_zero_lem}
use Rattle.scaling.specs.Kind.{Kind, In, last, mul_k, mul_ok, div_k, div_ok, plus_k, plus_ok, within, same_k}
use Rattle.scaling.proofs.Kind.{and₃, floor_le}
use Rattle.scaling.specs.Last.{Digits}
use Rattle.scaling.proofs.Last.{digits_of}
use Rattle.scaling.specs.Two.{Two}
use Rattle.scaling.proofs.Two.{mul_two, div_two, plus_two, summed}
use Rattle.scaling.proofs.Tests.{same_float}
use Rattle.scaling.specs.One.{lit_ok}
use Rattle.scaling.proofs.One.{lit_two, widen_two}
use Rattle.scaling.specs.Every.{all, every}
use Rattle.scaling.proofs.Pick.{choose}
use Rattle.scaling.specs.Nan.{mul_nan, add_nan, nan_add}
use Rattle.scaling.specs.Maybe.{Maybe, none, some, some?, units, units'}
use Rattle.scaling.proofs.Maybe.{force}
use Rattle.units.specs.Runs.{Fair}
use Rattle.units_rd.specs.Lead.{part}
use Rattle.units_rd.specs.Mean.{mean_k}
use Rattle.units_rd.specs.Step.{lambda_k, quarter_two, mean_fourth, roots_two, lambda_two}
use Rattle.units_rj.specs.Helper.{ratio_of_k, term_k, FairTerm, rc1p_fair}
use Rattle.units_rj.specs.Middle.{middle_k, middle_fair}
use Rattle.units_rj.specs.Pass.{l, l_pos}
use Rattle.units_rj.specs.Ratio.{denominator_k, delta_k, taken, denominator_of, denominator_of'}
use Rattle.units_rj.specs.Ratio.{denominator_two, normal, ratio_two, middle_two}

-- ---- what RC gives, at floats that are the same in both runs
abbrev term_of : Float → Float → Found
term_of e b =
    cond (lt e (neg half)) (cond (lt (neg three_halves) e) (rc_unchecked one b) (rc1p e)) (rc1p e)

module _ {k : ℕ} (e e' b b' : Float) (E : Two binary64 k ratio_of_k e e') (B : Two binary64 k middle_k b b') where
  pub term_same : term_of e b ≡ term_of e' b'
  term_same = ap₂ term_of (same_float E refl) (same_float B refl)

  pub term_fair : FairTerm k (term_of e b) (term_of e' b')
  term_fair =
      subst (λ f. FairTerm k (term_of e b) f) term_same
      (choose (FairTerm k) (lt e (neg half)) (lt e (neg half)) refl
      (λ t. choose (FairTerm k) (lt (neg three_halves) e) (lt (neg three_halves) e) refl
      (λ u. middle_fair B₀)
      (λ u. rc1p_fair E₀ (λ q. u)))
      (λ t. rc1p_fair E₀ (λ q. absurd (T_not (lt e (neg half)) t q))))
    where
      E₀ : Two binary64 k ratio_of_k e e
      E₀ = subst (λ i. Two binary64 k ratio_of_k e i) (sym (same_float E refl)) E

      B₀ : Two binary64 k middle_k b b
      B₀ = subst (λ i. Two binary64 k middle_k b i) (sym (same_float B refl)) B

-- ---- kinds, with j passes left
abbrev pub fourth_k : ℕ → Kind
fourth_k j = record {
  any = false;
  zer = false;
  lo = 2 ^ (874 + 2 * j);
  hi = 2 ^ (874 + 2 * j);
  g =
      last binary64 (2 ^ (874 + 2 * j));
  u = 0;
  d = 0;
}

abbrev pub any_fourth_k : Kind
any_fourth_k = record { any = false; zer = false; lo = 2 ^ 874; hi = 2 ^ 1074; g = last binary64 (2 ^ 874); u = 0; d = 0 }

abbrev pub product_k : ℕ → Kind
product_k j = record {
  any = true;
  zer = true;
  lo = 2 ^ (120 + 6 * j);
  hi = 2 ^ 1270;
  g = last binary64 (2 ^ (120 + 6 * j));
  u =
      6;
  d = 0;
}

abbrev added_k : Kind
added_k = record { any = false; zer = false; lo = 2 ^ 570; hi = 2 ^ 1335; g = last binary64 (2 ^ 570); u = 0; d = 3 }

abbrev pub sums_k : ℕ → Kind
sums_k j = record { any = false; zer = true; lo = 2 ^ 570; hi = (100 - j) * 2 ^ 1335; g = last binary64 (2 ^ 570); u = 0; d = 3 }

four_k : Kind
four_k = same_k binary64 false (4 * 2 ^ low binary64)

sixty_four_k : Kind
sixty_four_k = same_k binary64 false (64 * 2 ^ low binary64)

fourth_ok : ℕ → Bool
unfolding four_k div_k div_ok within
fourth_ok j = div_ok binary64 (fourth_k (suc j)) four_k && within (div_k binary64 (fourth_k (suc j)) four_k) (fourth_k j)

product_ok : ℕ → Bool
unfolding sixty_four_k div_k div_ok within
product_ok j = div_ok binary64 (product_k (suc j)) sixty_four_k && within (div_k binary64 (product_k (suc j)) sixty_four_k) (product_k j)

sums_ok : ℕ → Bool
unfolding plus_k plus_ok within
sums_ok j = plus_ok binary64 (sums_k (suc j)) added_k && within (plus_k binary64 (sums_k (suc j)) added_k) (sums_k j)

fourths : (j : ℕ) → j < 100 → T (fourth_ok j)
unfolding all fourth_ok
fourths = every 100 fourth_ok tt

products : (j : ℕ) → j < 100 → T (product_ok j)
unfolding all product_ok
products = every 100 product_ok tt

sums : (j : ℕ) → j < 100 → T (sums_ok j)
unfolding all sums_ok
sums = every 100 sums_ok tt

pub any_fourth : (j : ℕ) → j < 101 → T (within (fourth_k j) any_fourth_k)
unfolding all within
any_fourth = every 101 (λ j. within (fourth_k j) any_fourth_k) tt

any_product : (j : ℕ) → j < 101 → T (within (product_k j) delta_k)
unfolding all within
any_product = every 101 (λ j. within (product_k j) delta_k) tt

pub any_sums : (j : ℕ) → j < 101 → T (within (sums_k j) (sums_k 0))
unfolding all within
any_sums = every 101 (λ j. within (sums_k j) (sums_k 0)) tt

-- ---- the added term, and the sum
added_fair : {k : ℕ} {w w' d d' t t' : Float} → Two binary64 k any_fourth_k w w' → Two binary64 k denominator_k d d'
    → Fair k term_k t t'
    → Fair k added_k (w ⊘ d ⊗ t) (w' ⊘ d' ⊗ t')
unfolding mul_k mul_ok div_k div_ok within
added_fair {w = w} {w'} {d} {d'} W D (inl z) =
    inl (ap (λ a. w ⊘ d ⊗ a) z.0 ∙ mul_nan binary64 (w ⊘ d), ap (λ a. w' ⊘ d' ⊗ a) z.1 ∙ mul_nan binary64 (w' ⊘ d'))
added_fair W D (inr t) = inr (widen_two (mul_two (div_two W D tt) t tt) tt)

sum_fair : {k : ℕ} (j : ℕ) {s s' t t' : Float} → j < 100 → Fair k (sums_k (suc j)) s s' → Fair k added_k t t'
    → Fair k (sums_k j) (s ⊕ t) (s' ⊕ t')
unfolding sums_ok
sum_fair j {s} {s'} {t} {t'} h (inl z) b = inl (
  ap (λ a. a ⊕ t) z.0 ∙ nan_add binary64 t,
  ap (λ a. a ⊕ t') z.1
      ∙ nan_add binary64 t',
)
sum_fair j {s} {s'} {t} {t'} h (inr a) (inl z) = inl (
  ap (λ b. s ⊕ b) z.0 ∙ add_nan binary64 s,
  ap (λ b. s' ⊕ b) z.1
      ∙ add_nan binary64 s',
)
sum_fair j h (inr a) (inr b) =
    inr (widen_two (plus_two a b (and_l (plus_ok binary64 (sums_k (suc j)) added_k) _ (sums j h)))
    (and_r (plus_ok binary64 (sums_k (suc j)) added_k) _ (sums j h)))

-- ---- a running argument falls to a quarter at most
pub record Next (k A A' : ℕ) (v v' : Float) : Type 0 where
  pub two : Two binary64 k mean_k v v'
  pub more : A ≤ two.m * 4
  pub more' : A' ≤ two.n * 4

pub next : {k : ℕ} {x x' v v' : Float} (a : Two binary64 k mean_k x x') → Two binary64 k lambda_k v v'
    → Next k a.m a.n ((x ⊕ v) ⊘ four) ((x' ⊕ v') ⊘ four)
unfolding quarter_two widen_two div_two plus_two summed lit_two of_bits
next a L = record {
  two = quarter_two a L;
  more = mean_fourth a.m L.m a.s L.s (a.in_first.sign tt) (L.in_first.sign tt) (digits_of a.first)
      (far a.m (floor_le a.in_first));
  more' = mean_fourth a.n L.n a.s L.s (a.in_first.sign tt) (L.in_first.sign tt) (digits_of a.second)
      (far a.n (floor_le a.in_second));
}
  where
    far : (n : ℕ) → 2 ^ 1008 ≤ n → 2 ^ 55 ≤ n
    far n g = le_trans (pow_mono {i = 55} {j = 1008} (lit≤ tt)) g

-- ---- the product of the differences stays below that of the sums
sixty_fourth : (n : ℕ) → Digits binary64 n → (n ≡ 0) ⊎ (2 ^ 59 ≤ n) → near binary64 (n * l) (64 * l) * 64 ≡ n
sixty_fourth n D h = ap (λ (i : ℕ). i * 64) (near_same binary64 (n * l) (64 * l) n 64 (mul-pos (zero-lt-suc 63) l_pos)
    (zero-lt-suc 63)
    (turned n l)) ∙ go h
  where
    turned : (n l : ℕ) → n * l * 64 ≡ n * (64 * l)
    turned n l = omega arith

    go : (n ≡ 0) ⊎ (2 ^ 59 ≤ n) → near binary64 n 64 * 64 ≡ n
    go (inl e) = ap (λ (i : ℕ). near binary64 i 64 * 64) e ∙ ap (λ (i : ℕ). i * 64) (near_zero_lem binary64 64 (zero-lt-suc 63))
        ∙ sym e
    go (inr g) = part 6 D g

small_kept : (D E a b c a' b' c' : ℕ) → E * 64 ≡ D → a ≤ a' * 4 → b ≤ b' * 4 → c ≤ c' * 4 → D * (l * l) ≤ 4 * (a * b * c)
    → E * (l * l) ≤ 4 * (a' * b' * c')
small_kept D E a b c a' b' c' e h i j small =
    let three : a * b * c ≤ a' * 4 * (b' * 4) * (c' * 4) = mul-le-mul (mul-le-mul h i) j in
    le_of_mul-le-mul_left (chain.law D E l (a * b * c) a' b' c' (le_of_eq e) small three) (zero-lt-suc 63)
  where
    chain : Order 7 (λ D E l t a b c. (l :* l times E :* con 64 ≼ D) ∷ (con 1 times D :* (l :* l) ≼ con 4 :* t)
        ∷ (con 4 times t ≼ a :* con 4 :* (b :* con 4) :* (c :* con 4)) ∷ []
        ⊩ con 64 :* (E :* (l :* l)) ≈ con 64 :* (con 4 :* (a :* b :* c)))
    chain = by_below tt

pair_falls : (P X P' X' : ℕ) → P ≤ P' * 4 → X ≤ X' * 4 → P + X ≤ (P' + X') * 4
pair_falls P X P' X' h i = omega arith

-- ---- what is kept
pub record Inv (k j : ℕ) (s s' : Round) : Type 0 where
  pub x : Maybe binary64 k mean_k s.xn s'.xn
  pub y : Maybe binary64 k mean_k s.yn s'.yn
  pub z : Maybe binary64 k mean_k s.zn s'.zn
  pub p : Two binary64 k mean_k s.pn s'.pn
  pub a : Two binary64 k mean_k s.an s'.an
  pub delta : Two binary64 k (product_k j) s.delta s'.delta
  pub w : Two binary64 k (fourth_k j) s.fmn s'.fmn
  pub sum : Fair k (sums_k j) s.sum s'.sum
  pub rescalings : s.rescalings ≡ s'.rescalings
  pub small : delta.m * (l * l) ≤ 4 * ((p.m + units x) * (p.m + units y) * (p.m + units z))
  pub small' : delta.n * (l * l) ≤ 4 * ((p.n + units' x) * (p.n + units' y) * (p.n + units' z))

spare_ok : ℕ → Bool
spare_ok j = leb (2 ^ 59) (2 ^ (120 + 6 * j))

spares : (j : ℕ) → j < 101 → T (spare_ok j)
unfolding all spare_ok
spares = every 101 spare_ok tt

many : {K : Kind} {s : Bool} {m : ℕ} → In K s m → T (leb (2 ^ 59) K.lo) → (m ≡ 0) ⊎ (2 ^ 59 ≤ m)
many {K} i t = elim i.from [ inl p ↦ inl p.1 | inr h ↦ inr (le_trans (leb→le (2 ^ 59) K.lo t) h) ]

abbrev pub roots : Round → Roots
roots s = record { x = root s.xn; y = root s.yn; z = root s.zn; p = root s.pn }

abbrev pub lambda_at : Round → Float
lambda_at s = lambda_of (root s.xn) (root s.yn) (root s.zn)

module _ {k j : ℕ} {s s' : Round} (h : j < 100) (i : Inv k (suc j) s s') (L : Two binary64 k lambda_k (lambda_at s) (lambda_at s'))
    (X : Next k (units i.x) (units' i.x) ((s.xn ⊕ lambda_at s) ⊘ four) ((s'.xn ⊕ lambda_at s') ⊘ four))
    (Y : Next k (units i.y) (units' i.y) ((s.yn ⊕ lambda_at s) ⊘ four) ((s'.yn ⊕ lambda_at s') ⊘ four))
    (Z : Next k (units i.z) (units' i.z) ((s.zn ⊕ lambda_at s) ⊘ four) ((s'.zn ⊕ lambda_at s') ⊘ four)) where
  j₁ : suc j < 101
  j₁ = let r : suc j < 101 = omega arith in r

  P : Next k i.p.m i.p.n ((s.pn ⊕ lambda_at s) ⊘ four) ((s'.pn ⊕ lambda_at s') ⊘ four)
  P = next i.p L

  wide_delta : Two binary64 k delta_k s.delta s'.delta
  wide_delta = widen_two i.delta (any_product (suc j) j₁)

  small_wide : wide_delta.m * (l * l) ≤ 4 * ((i.p.m + units i.x) * (i.p.m + units i.y) * (i.p.m + units i.z))
  unfolding wide_delta widen_two
  small_wide = i.small

  small_wide' : wide_delta.n * (l * l) ≤ 4 * ((i.p.n + units' i.x) * (i.p.n + units' i.y) * (i.p.n + units' i.z))
  unfolding wide_delta widen_two
  small_wide' = i.small'

  -- the ratio of both runs, past its test
  ratio_is : (s : Round) (d : Float) → T (le (bits 0x0010_0000_0000_0000) (d ⊗ d)) → (r : Roots)
      → rj_ratio s r d ≡ s.delta ⊘ (d ⊗ d)
  unfolding rj_ratio
  ratio_is s d t r = taken (le (bits 0x0010_0000_0000_0000) (d ⊗ d)) (s.delta ⊘ (d ⊗ d)) _ t

  abbrev term_at : Round → Found
  term_at s = rj_term s.pn (roots s) (rj_denominator (roots s)) (rj_ratio s (roots s) (rj_denominator (roots s)))

  -- at the two ratios, past their tests
  past : (R : Found → Found → Type 0)
      → (let d = denominator_of i.p i.x i.y i.z in
      let d' = denominator_of' i.p i.x i.y i.z in
      R (term_of (s.delta ⊘ (d ⊗ d)) (rj_middle s.pn (roots s) d))
      (term_of (s'.delta ⊘ (d' ⊗ d')) (rj_middle s'.pn (roots s') d')))
      → R (term_at s) (term_at s')
  unfolding rj_denominator rj_term rj_middle
  past R r =
      let t = normal i.p i.x i.y i.z in
      let d = denominator_of i.p i.x i.y i.z in
      let d' = denominator_of' i.p i.x i.y i.z in
      subst₂ (λ e e'. R (rj_term s.pn (roots s) d e) (rj_term s'.pn (roots s') d' e')) (sym (ratio_is s d t.0 (roots s)))
      (sym (ratio_is s' d' t.1 (roots s')))
      r

  E : (let d = denominator_of i.p i.x i.y i.z in
      let d' = denominator_of' i.p i.x i.y i.z in
      Two binary64 k ratio_of_k (s.delta ⊘ (d ⊗ d)) (s'.delta ⊘ (d' ⊗ d')))
  E = ratio_two i.p i.x i.y i.z wide_delta small_wide small_wide'

  -- the terms are the same, in both runs
  terms : term_at s ≡ term_at s'
  unfolding rj_middle
  terms = past ◌≡◌ (term_same _ _ _ _ E (middle_two i.p i.x i.y i.z))

  added : Fair k added_k (s.fmn ⊘ rj_denominator (roots s) ⊗ (term_at s).value)
      (s'.fmn ⊘ rj_denominator (roots s') ⊗ (term_at s').value)
  unfolding rj_denominator rj_middle
  added =
      added_fair (widen_two i.w (any_fourth (suc j) j₁)) (denominator_two i.p i.x i.y i.z)
      (past (FairTerm k) (term_fair _ _ _ _ E (middle_two i.p i.x i.y i.z)))

  spare : T (leb (2 ^ 59) (2 ^ (120 + 6 * suc j)))
  unfolding spare_ok
  spare = spares (suc j) j₁

  pub pass : Inv k j (rj_step s) (rj_step s')
  unfolding rj_step rj_with rj_moved rj_rescalings fourth_ok product_ok four_k sixty_four_k lit_ok of_bits widen_two div_two lit_two
  pass = record {
    x = some X.two;
    y = some Y.two;
    z = some Z.two;
    p = P.two;
    a = quarter_two i.a L;
    delta = widen_two (div_two i.delta (lit_two (bits 0x4050_0000_0000_0000) tt)
        (and_l (div_ok binary64 (product_k (suc j)) sixty_four_k) _ (products j h)))
        (and_r (div_ok binary64 (product_k (suc j)) sixty_four_k) _ (products j h));
    w = widen_two (div_two i.w (lit_two four tt) (and_l (div_ok binary64 (fourth_k (suc j)) four_k) _ (fourths j h)))
        (and_r (div_ok binary64 (fourth_k (suc j)) four_k) _ (fourths j h));
    sum = sum_fair j h i.sum added;
    rescalings = ap₂ (λ m n. (m + n) % 2 ^ 32) i.rescalings (ap (λ f. f.way.rescalings) terms);
    small = small_kept i.delta.m _ _ _ _ _ _ _ (sixty_fourth i.delta.m (digits_of i.delta.first)
        (many i.delta.in_first spare))
        (pair_falls i.p.m (units i.x) P.two.m X.two.m P.more X.more)
        (pair_falls i.p.m (units i.y) P.two.m Y.two.m P.more Y.more)
        (pair_falls i.p.m (units i.z) P.two.m Z.two.m P.more Z.more) i.small;
    small' = small_kept i.delta.n _ _ _ _ _ _ _ (sixty_fourth i.delta.n (digits_of i.delta.second)
        (many i.delta.in_second spare))
        (pair_falls i.p.n (units' i.x) P.two.n X.two.n P.more' X.more')
        (pair_falls i.p.n (units' i.y) P.two.n Y.two.n P.more' Y.more')
        (pair_falls i.p.n (units' i.z) P.two.n Z.two.n P.more' Z.more') i.small';
  }

  pub pass_some : T (some? pass.x && some? pass.y && some? pass.z)
  unfolding pass
  pass_some = tt

-- ---- from the second pass on no argument is a zero
pub record Whole (k j : ℕ) (s s' : Round) : Type 0 where
  pub inv : Inv k j s s'
  pub all_some : T (some? inv.x && some? inv.y && some? inv.z)

next_maybe : {k : ℕ} {x x' v v' : Float} (a : Maybe binary64 k mean_k x x') → T (some? a) → Two binary64 k lambda_k v v'
    → Next k (units a) (units' a) ((x ⊕ v) ⊘ four) ((x' ⊕ v') ⊘ four)
next_maybe (none z) t L = absurd t
next_maybe (some a) t L = next a L

pub step_whole : {k j : ℕ} {s s' : Round} → j < 100 → Whole k (suc j) s s' → Whole k j (rj_step s) (rj_step s')
step_whole h w =
    let i = w.inv in
    let t = and₃ (some? i.x) (some? i.y) (some? i.z) w.all_some in
    let L = lambda_two (roots_two (force i.x t.0)) (roots_two (force i.y t.1)) (roots_two (force i.z t.2)) in
    record {
      inv = pass h i L (next_maybe i.x t.0 L) (next_maybe i.y t.1 L) (next_maybe i.z t.2 L);
      all_some = pass_some h i L (next_maybe i.x t.0 L) (next_maybe i.y t.1 L) (next_maybe i.z t.2 L);
    }
