-- RJ's bound and series in two runs: where the loop ends the corrections are at most 1/32, the series' factor lies between a
-- half and two, and the value is divided by 2 ^ 3k. Assumes nothing.
use Rattle.std.specs.Prelude.{◌≡◌, ◌⊎◌, [], ◌∷◌, ℕ, ◌*◌, ◌^◌, ◌≤◌, ◌<◌, Bool, true, cond, Float}
use Rattle.std.proofs.Common.{sym, ap, ◌∙◌, subst, inl, inr, zero-le, le_trans, le_of_eq, le_of_lt, lt_of_lt_of_le, mul-le-mul, mul-le-mul_right, one-mul, mul-zero, zero-lt-suc, arith, lit≤, lit<, ltb→lt, pow_mono}
use Rattle.std.proofs.Math.Path.{ap₂}
use Rattle.std.proofs.Math.Nat.{le_of_mul-le-mul_left}
use Rattle.std.proofs.Math.Bool.{false}
use Rattle.std.proofs.Math.Dec.{T}
use Rattle.std.proofs.Math.Pow.{pow-lt}
use Rattle.std.specs.Float.{nan, binary64}
use Rattle.std.specs.Float.Ieee.{lt, below, of_bits}
use Rattle.algebra.specs.Ring.{con, ◌:*◌, ◌≈◌, ◌⊩◌, ◌times◌≼◌, Order}
use Rattle.algebra.proofs.Ring.{by_below}
use Rattle.binary64.specs.Leaves.{absolute}
use Rattle.binary64.specs.Operators.{◌⊕◌, ◌⊖◌, ◌⊗◌, bits}
use Rattle.carlson.specs.Constants.{two, three, four}
use Rattle.rj_positive.specs.Duplicate.{rj_start, rj_correction, rj_factor, rj_series}
use Rattle.rj_positive.specs.declared.duplicate.Round.{Round}
use Rattle.scaling.specs.Near.{near, digits, near_mono, near_exact}
use Rattle.scaling.specs.Units.{lt_units}
use Rattle.scaling.specs.Half.{half_less}
use Rattle.scaling.specs.Kind.{Kind, In, last, mul_k, mul_ok, div_k, div_ok, plus_k, plus_ok, sum_k, sum_ok, within}
use Rattle.scaling.proofs.Kind.{floor_le}
use Rattle.scaling.specs.Last.{Digits}
use Rattle.scaling.proofs.Last.{digits_of}
use Rattle.scaling.specs.Two.{Two}
use Rattle.scaling.proofs.Two.{mul_two, div_two, plus_two, sum_two, lt_two}
use Rattle.scaling.specs.One.{lit_ok, lit_n, clip_k}
use Rattle.scaling.proofs.One.{neg_two, sub_two}
use Rattle.scaling.proofs.One.{lit_two, widen_two, clip_two, abs_two}
use Rattle.scaling.specs.Power.{power_k, power_ok}
use Rattle.scaling.proofs.Power.{power_two}
use Rattle.scaling.proofs.Signed.{larger_two}
use Rattle.scaling.proofs.Lead.{shifted}
use Rattle.scaling.specs.Nan.{mul_nan, add_nan}
use Rattle.units.specs.Runs.{Fair}
use Rattle.units_rd.specs.Lead.{part}
use Rattle.units_rd.specs.Mean.{mean_k, gap_k}
use Rattle.units_rd.specs.Series.{factor_k}
use Rattle.units_rd.proofs.Series.{third_two}
use Rattle.units_rj.specs.Pass.{l, l_pos}
use Rattle.units_rj.specs.Step.{fourth_k, any_fourth_k, sums_k, any_fourth, any_sums}

-- ---- the bound q: 64 times the largest difference, at least
abbrev pub size_k : Kind
size_k = record { any = false; zer = true; lo = 2 ^ 956; hi = 2 ^ 1139; g = 956; u = 2; d = 0 }

abbrev pub bound_k : Kind
bound_k = record { any = false; zer = true; lo = 2 ^ 950; hi = 2 ^ 1150; g = last binary64 (2 ^ 950); u = 2; d = 0 }

ahead : (C M : ℕ) → Digits binary64 M → 64 * l ≤ C → 64 * M ≤ near binary64 (C * M) l
ahead C M G c =
    le_trans (le_of_eq (turned M)) (le_trans (le_of_eq (sym (shifted 6 G)))
    (near_mono binary64 (M * 2 ^ 6) 1 (C * M) l (zero-lt-suc 0) l_pos (scaled.law M l C c)))
  where
    scaled : Order 3 (λ m l c. (m times con 64 :* l ≼ c) ∷ [] ⊩ m :* con 64 :* l ≈ c :* m :* con 1)
    scaled = by_below tt

    turned : (n : ℕ) → 64 * n ≡ n * 2 ^ 6
    turned n = omega arith

pub record Start (k : ℕ) (x x' y y' z z' p p' a a' : Float) (G₁ G₁' G₂ G₂' G₃ G₃' : ℕ) : Type 0 where
  pub M : ℕ
  pub M' : ℕ
  pub q : Two binary64 k bound_k (rj_start a x y z p) (rj_start a' x' y' z' p')
  pub lead : 64 * M ≤ q.m
  pub lead' : 64 * M' ≤ q.n
  pub first : G₁ ≤ M
  pub first' : G₁' ≤ M'
  pub second : G₂ ≤ M
  pub second' : G₂' ≤ M'
  pub third : G₃ ≤ M
  pub third' : G₃' ≤ M'

sized : {k : ℕ} {v v' : Float} → Two binary64 k gap_k v v' → Two binary64 k size_k (absolute v) (absolute v')
sized g = abs_two g

pub start_two : {k : ℕ} (x x' y y' z z' p p' a a' : Float) (X : Two binary64 k gap_k (a ⊖ x) (a' ⊖ x'))
    (Y : Two binary64 k gap_k (a ⊖ y) (a' ⊖ y')) (Z : Two binary64 k gap_k (a ⊖ z) (a' ⊖ z'))
    (P : Two binary64 k gap_k (a ⊖ p) (a' ⊖ p')) → Start k x x' y y' z z' p p' a a' X.m X.n Y.m Y.n Z.m Z.n
unfolding rj_start sized abs_two mul_k mul_ok within lit_ok of_bits mul_two widen_two lit_two
start_two x x' y y' z z' p p' a a' X Y Z P =
    let xy = larger_two (sized X) (sized Y) tt in
    let xyz = larger_two xy.two (sized Z) tt in
    let all = larger_two xyz.two (sized P) tt in
    let plain : (s : Bool) → s ≡ false → (n : ℕ) → cond s 0 n ≡ n = λ s e n. ap (λ b. cond b 0 n) e in
    let E₁ = xy.two.in_first.sign tt in
    let E₂ = xyz.two.in_first.sign tt in
    let E₃ = all.two.in_first.sign tt in
    record {
      M = all.two.m;
      M' = all.two.n;
      q = widen_two (mul_two (lit_two (bits 0x405B_AB78_E4D1_420D) tt) all.two tt) tt;
      lead = ahead (lit_n binary64 (bits 0x405B_AB78_E4D1_420D)) all.two.m (digits_of all.two.first) (lit≤ tt);
      lead' = ahead (lit_n binary64 (bits 0x405B_AB78_E4D1_420D)) all.two.n (digits_of all.two.second) (lit≤ tt);
      first = le_trans xy.left (le_trans (le_trans xyz.left all.left) (le_of_eq (plain all.two.s E₃ all.two.m)));
      first' = le_trans xy.left_second (le_trans (le_trans xyz.left_second all.left_second)
          (le_of_eq (plain all.two.s E₃ all.two.n)));
      second = le_trans xy.right (le_trans (le_trans xyz.left all.left)
          (le_of_eq (plain all.two.s E₃ all.two.m)));
      second' = le_trans xy.right_second (le_trans (le_trans xyz.left_second all.left_second)
          (le_of_eq (plain all.two.s E₃ all.two.n)));
      third = le_trans xyz.right (le_trans all.left (le_of_eq (plain all.two.s E₃ all.two.m)));
      third' = le_trans xyz.right_second (le_trans all.left_second (le_of_eq (plain all.two.s E₃ all.two.n)));
    }

-- ---- where the loop ends: F is the units of fmn * q, below the mean's
abbrev fallen_k : Kind
fallen_k = record { any = false; zer = true; lo = 2 ^ 740; hi = 2 ^ 1160; g = last binary64 (2 ^ 740); u = 2; d = 0 }

fallen : {k : ℕ} (j : ℕ) {w w' q q' : Float} → j < 101 → Two binary64 k (fourth_k j) w w' → Two binary64 k bound_k q q'
    → Two binary64 k fallen_k (w ⊗ q) (w' ⊗ q')
unfolding mul_k mul_ok within
fallen j h W Q = widen_two (mul_two (widen_two {B = any_fourth_k} W (any_fourth j h)) Q tt) tt

product_less : (a b u v : ℕ) → 2 ^ 52 * l ≤ u * v → u ≤ a → (b ≡ 0) ⊎ (v ≤ b) → a * b ≤ 2 * (near binary64 (a * b) l * l)
product_less a b u v h p (inl e) = le_trans (le_of_eq (ap (λ (i : ℕ). a * i) e ∙ mul-zero a)) zero-le
product_less a b u v h p (inr q) = half_less binary64 (a * b) l l_pos (le_trans h (mul-le-mul p q))

some_or_none : {K : Kind} {s : Bool} {m : ℕ} → In K s m → (m ≡ 0) ⊎ (K.lo ≤ m)
some_or_none i = elim i.from [ inl p ↦ inl p.1 | inr h ↦ inr h ]

lead_end : (M Q W F A : ℕ) → 64 * M ≤ Q → W * Q ≤ 2 * (F * l) → F ≤ A → 32 * M * W ≤ A * l
lead_end M Q W F A h i j = le_of_mul-le-mul_left (chain.law M Q W F A l h i j) (zero-lt-suc 1)
  where
    chain : Order 6 (λ M Q W F A l. (W times con 64 :* M ≼ Q) ∷ (con 1 times W :* Q ≼ con 2 :* (F :* l)) ∷
        (con 2 :* l times F ≼ A) ∷ []
        ⊩ con 2 :* (con 32 :* M :* W) ≈ con 2 :* (A :* l))
    chain = by_below tt

module _ {k : ℕ} (j : ℕ) (h : j < 101) {a a' w w' q q' : Float} (A : Two binary64 k mean_k a a')
    (W : Two binary64 k (fourth_k j) w w')
    (Q : Two binary64 k bound_k q q') where
  pub test_two : lt (w ⊗ q) a ≡ lt (w' ⊗ q') a'
  test_two = lt_two (fallen j h W Q) A tt

  pub ended : (M M' : ℕ) → 64 * M ≤ Q.m → 64 * M' ≤ Q.n → T (lt (w ⊗ q) a)
      → (32 * M * W.m ≤ A.m * l) × (32 * M' * W.n ≤ A.n * l)
  unfolding fallen mul_two widen_two
  ended M M' lead lead' t =
      let F = fallen j h W Q in
      let S : A.s ≡ false = A.in_first.sign tt in
      let R : F.s ≡ false = F.in_first.sign tt in
      let B = widen_two {B = any_fourth_k} W (any_fourth j h) in (
        lead_end M Q.m W.m F.m A.m lead
            (product_less W.m Q.m (2 ^ 874) (2 ^ 950) (lit≤ tt) (floor_le B.in_first) (some_or_none Q.in_first))
            (le_of_lt (ltb→lt F.m A.m (subst T (lt_units F.first A.first ∙ ap₂ (λ s t. below s F.m t A.m) R S)
            t))),
        lead_end M' Q.n W.n F.n A.n lead'
            (product_less W.n Q.n (2 ^ 874) (2 ^ 950) (lit≤ tt) (floor_le B.in_second) (some_or_none Q.in_second))
            (le_of_lt (ltb→lt F.n A.n (subst T (test_two ∙ lt_units F.second A.second
            ∙ ap₂ (λ s t. below s F.n t A.n) R S) t))),
      )

-- ---- a correction: at most 1/32
ends_small : (G M W A : ℕ) → Digits binary64 A → 2 ^ 58 ≤ A → 0 < A → G ≤ M → 32 * M * W ≤ A * l
    → near binary64 (near binary64 (W * G) l * l) A ≤ 2 ^ 1069
ends_small G M W A D big pos g lead =
    let C = near binary64 (W * G) l in
    let first : W * G * 32 ≤ A * l = scaled.law W G M A l lead g in
    let small : C ≤ near binary64 A 32 = near_mono binary64 (W * G) l A 32 l_pos (zero-lt-suc 31) first in
    let C-small : C * 32 ≤ A = le_trans (mul-le-mul_right 32 small) (le_of_eq (part 5 D big)) in
    le_trans (near_mono binary64 (C * l) A (1 * 2 ^ 1069 * 1) 1 pos (zero-lt-suc 0) (last_step.law C A C-small))
    (le_of_eq (near_exact binary64 1 1069 1 (zero-lt-suc 0) (pow-lt (digits binary64)) ∙ one-mul (2 ^ 1069)))
  where
    scaled : Order 5 (λ w g m a l. (con 1 times con 32 :* m :* w ≼ a :* l) ∷ (con 32 :* w times g ≼ m)
        ∷ [] ⊩ w :* g :* con 32 ≈ a :* l)
    scaled = by_below tt

    last_step : Order 2 (λ c a. (con (2 ^ 1069) times c :* con 32 ≼ a) ∷ [] ⊩ c :* con (2 ^ 1074) :* con 1 ≈ con (2 ^ 1069) :* a)
    last_step = by_below tt

abbrev tiny_k : Kind
tiny_k = record { any = true; zer = true; lo = 0; hi = 2 ^ 1069; g = 0; u = 0; d = 0 }

pub correction_two : {k : ℕ} (j : ℕ) {a a' w w' : Float} (d d' x x' : Float) → j < 101
    → (A : Two binary64 k mean_k a a') (W : Two binary64 k (fourth_k j) w w')
    (G : Two binary64 k gap_k (d ⊖ x) (d' ⊖ x')) (M M' : ℕ) → G.m ≤ M → G.n ≤ M' → 32 * M * W.m ≤ A.m * l
    → 32 * M' * W.n ≤ A.n * l
    → Two binary64 k tiny_k (rj_correction w d x a) (rj_correction w' d' x' a')
unfolding rj_correction mul_k mul_ok div_k div_ok within clip_k widen_two mul_two div_two
correction_two j d d' x x' h A W G M M' g g' lead lead' =
    let far : (n : ℕ) → 2 ^ 1008 ≤ n → 2 ^ 58 ≤ n = λ n g. le_trans (pow_mono {i = 58} {j = 1008} (lit≤ tt)) g in
    let pos : (n : ℕ) → 2 ^ 1008 ≤ n → 0 < n = λ n g. lt_of_lt_of_le (lit< tt) g in
    let F = widen_two {B = any_fourth_k} W (any_fourth j h) in
    let b = floor_le A.in_first in
    let b' = floor_le A.in_second in
    widen_two
    (clip_two (2 ^ 1069) (div_two (mul_two F G tt) A tt)
    (ends_small G.m M W.m A.m (digits_of A.first) (far A.m b) (pos A.m b) g lead)
    (ends_small G.n M' W.n A.n (digits_of A.second) (far A.n b') (pos A.n b') g' lead'))
    tt

-- ---- the factor and the value
factor_two : {k : ℕ} {x x' y y' z z' : Float} → Two binary64 k tiny_k x x' → Two binary64 k tiny_k y y' → Two binary64 k tiny_k z z'
    → Two binary64 k factor_k (rj_factor x y z) (rj_factor x' y' z')
unfolding rj_factor mul_k mul_ok div_k div_ok sum_k sum_ok within lit_ok of_bits
factor_two x y z =
    let p = div_two (sub_two (sub_two (neg_two x) y tt) z tt) (lit_two two tt) tt in
    let xyz = mul_two (mul_two x y tt) z tt in
    let p2 = mul_two p p tt in
    let p3 = mul_two p2 p tt in
    let e2 = sub_two (sum_two (sum_two (mul_two x y tt) (mul_two x z tt) tt) (mul_two y z tt) tt)
    (mul_two (lit_two three tt) p2 tt) tt in
    let e3 = sum_two (sum_two xyz (mul_two (mul_two (lit_two two tt) e2 tt) p tt) tt) (mul_two (lit_two four tt) p3 tt) tt in
    let e4 = mul_two (sum_two (sum_two (mul_two (lit_two two tt) xyz tt) (mul_two e2 p tt) tt)
    (mul_two (lit_two three tt) p3 tt) tt) p tt in
    let e5 = mul_two xyz p2 tt in
    third_two (widen_two e2 tt) (widen_two e3 tt) (widen_two e4 tt) (widen_two e5 tt)

abbrev pub value_k : Kind
value_k = record { any = false; zer = false; lo = 2 ^ 560; hi = 2 ^ 1400; g = last binary64 (2 ^ 560); u = 0; d = 3 }

pub series_fair : {k : ℕ} (j : ℕ) (s s' : Round) (x x' y y' z z' d d' : Float) → j < 101 → Two binary64 k mean_k s.an s'.an
    → Two binary64 k (fourth_k j) s.fmn s'.fmn
    → Fair k (sums_k j) s.sum s'.sum → Two binary64 k tiny_k (rj_correction s.fmn d x s.an)
    (rj_correction s'.fmn d' x' s'.an)
    → Two binary64 k tiny_k (rj_correction s.fmn d y s.an) (rj_correction s'.fmn d' y' s'.an)
    → Two binary64 k tiny_k (rj_correction s.fmn d z s.an) (rj_correction s'.fmn d' z' s'.an)
    → Fair k value_k (rj_series x y z d s) (rj_series x' y' z' d' s')
unfolding rj_series power_k power_ok mul_k mul_ok plus_k plus_ok within lit_ok of_bits
series_fair j s s' x x' y y' z z' d d' h A W (inl e) X Y Z = inl (gone s.sum e.0 _, gone s'.sum e.1 _)
  where
    gone : (v : Float) → v ≡ nan → (u : Float) → u ⊕ bits 0x4018_0000_0000_0000 ⊗ v ≡ nan
    gone v e u = ap (λ a. u ⊕ bits 0x4018_0000_0000_0000 ⊗ a) e
        ∙ ap (λ a. u ⊕ a) (mul_nan binary64 (bits 0x4018_0000_0000_0000)) ∙ add_nan binary64 u
series_fair j s s' x x' y y' z z' d d' h A W (inr S) X Y Z =
    let F = widen_two {B = any_fourth_k} W (any_fourth j h) in
    let R = widen_two {B = sums_k 0} S (any_sums j h) in
    inr (widen_two (plus_two (mul_two (mul_two F (power_two A tt) tt) (factor_two X Y Z) tt)
    (mul_two (lit_two (bits 0x4018_0000_0000_0000) tt) R tt) tt) tt)
