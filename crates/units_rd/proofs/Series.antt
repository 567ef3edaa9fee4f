-- RD's series in two runs: its corrections are the same in both and at most an eighth, so its factor lies between a half and
-- two, and the value is divided by 2 ^ 3k. Assumes nothing.
use Rattle.std.specs.Prelude.{◌≡◌, refl, ℕ, ◌+◌, ◌*◌, ◌^◌, ◌≤◌, ◌<◌, Bool, true, false, T, Float}
use Rattle.std.proofs.Common.{◌∙◌, subst, le_trans, lt_of_lt_of_le, lit≤, lit<, pow_mono}
use Rattle.std.specs.Float.{binary64}
use Rattle.std.specs.Float.Ieee.{sub, lt, low, of_bits}
use Rattle.binary64.specs.Operators.{◌⊖◌, bits}
use Rattle.carlson.specs.Constants.{one, three}
use Rattle.carlson.specs.Common.{third_kind}
use Rattle.rd_duplicate.specs.Duplicate.{rd_correction, rd_factor, rd_series}
use Rattle.scaling.specs.Units.{lt_units}
use Rattle.scaling.specs.Kind.{Kind, last, mul_k, mul_ok, div_k, div_ok, plus_k, plus_ok, sum_k, sum_ok, nudge_k, nudge_ok, neg_k}
use Rattle.scaling.proofs.Kind.{floor_le}
use Rattle.scaling.specs.Kind.{within}
use Rattle.scaling.proofs.Last.{digits_of}
use Rattle.scaling.specs.Two.{Two}
use Rattle.scaling.proofs.Two.{mul_two, div_two, plus_two, sum_two, nudge_two, lt_two}
use Rattle.scaling.specs.One.{lit_ok, clip_k}
use Rattle.scaling.proofs.One.{neg_two, sub_two}
use Rattle.scaling.proofs.One.{lit_two, widen_two, clip_two}
use Rattle.scaling.specs.Power.{power_k, power_ok}
use Rattle.scaling.proofs.Power.{power_two}
use Rattle.scaling.specs.Every.{all, every}
use Rattle.scaling.specs.Signed.{above}
use Rattle.scaling.proofs.Signed.{passed}
use Rattle.units_rd.specs.Lead.{ends_small}
use Rattle.units_rd.specs.Mean.{mean_k, gap_k}
use Rattle.units_rd.specs.Step.{bound_k, fourth_k, any_fourth_k, sums_k, any_fourth}
use Rattle.units_rd.specs.Series.{factor_k, small_k, value_k}

-- ---- the factor
-- what is subtracted from one is less than it
less_two : {k : ℕ} {A B : Kind} {x x' y y' : Float} → Two binary64 k A x x' → Two binary64 k B y y'
    → T (nudge_ok binary64 A (neg_k B))
    → Two binary64 k (nudge_k binary64 A (neg_k B)) (x ⊖ y) (x' ⊖ y')
unfolding sub
less_two a b ok = nudge_two a (neg_two b) ok

-- sizes of the four elementary symmetric sums
abbrev sum_of : ℕ → Kind
sum_of h = record { any = true; zer = true; lo = 0; hi = 2 ^ h; g = 0; u = 0; d = 0 }

pub third_two : {k : ℕ} {a a' b b' c c' d d' : Float} → Two binary64 k (sum_of 1071) a a' → Two binary64 k (sum_of 1069) b b'
    → Two binary64 k (sum_of 1069) c c' → Two binary64 k (sum_of 1069) d d'
    → Two binary64 k factor_k (third_kind a b c d) (third_kind a' b' c' d')
unfolding third_kind mul_k mul_ok div_k div_ok sum_k sum_ok nudge_k nudge_ok within lit_ok of_bits
third_two e2 e3 e4 e5 =
    let nine = lit_two (bits 0x4022_0000_0000_0000) tt in
    let three = lit_two (bits 0x4008_0000_0000_0000) tt in
    let t1 = less_two (lit_two one tt) (div_two (mul_two three e2 tt) (lit_two (bits 0x402C_0000_0000_0000) tt) tt) tt in
    let t2 = nudge_two t1 (div_two e3 (lit_two (bits 0x4018_0000_0000_0000) tt) tt) tt in
    let t3 = nudge_two t2 (div_two (mul_two (mul_two nine e2 tt) e2 tt) (lit_two (bits 0x4056_0000_0000_0000) tt) tt) tt in
    let t4 = less_two t3 (div_two (mul_two three e4 tt) (lit_two (bits 0x4036_0000_0000_0000) tt) tt) tt in
    let t5 = less_two t4 (div_two (mul_two (mul_two nine e2 tt) e3 tt) (lit_two (bits 0x404A_0000_0000_0000) tt) tt) tt in
    let t6 = nudge_two t5 (div_two (mul_two three e5 tt) (lit_two (bits 0x403A_0000_0000_0000) tt) tt) tt in
    let t7 = less_two t6 (div_two (mul_two (mul_two e2 e2 tt) e2 tt) (lit_two (bits 0x4030_0000_0000_0000) tt) tt) tt in
    let t8 = nudge_two t7 (div_two (mul_two (mul_two three e3 tt) e3 tt) (lit_two (bits 0x4044_0000_0000_0000) tt) tt) tt in
    let t9 = nudge_two t8 (div_two (mul_two (mul_two three e2 tt) e4 tt) (lit_two (bits 0x4034_0000_0000_0000) tt) tt) tt in
    let t10 = nudge_two t9 (div_two (mul_two (mul_two (mul_two (lit_two (bits 0x4046_8000_0000_0000) tt) e2 tt) e2 tt) e3 tt)
    (lit_two (bits 0x4071_0000_0000_0000) tt) tt) tt in
    let t11 = div_two (mul_two nine (sum_two (mul_two e3 e4 tt) (mul_two e2 e5 tt) tt) tt)
    (lit_two (bits 0x4051_0000_0000_0000) tt) tt in
    widen_two (less_two t10 t11 tt) tt

pub factor_two : {k : ℕ} {x x' y y' : Float} → Two binary64 k small_k x x' → Two binary64 k small_k y y'
    → Two binary64 k factor_k (rd_factor x y) (rd_factor x' y')
unfolding rd_factor mul_k mul_ok div_k div_ok sum_k sum_ok within lit_ok of_bits
factor_two x y =
    let three = lit_two (bits 0x4008_0000_0000_0000) tt in
    let z = div_two (neg_two (sum_two x y tt)) three tt in
    let xyz = mul_two (mul_two x y tt) z tt in
    let z2 = mul_two z z tt in
    let z3 = mul_two z2 z tt in
    let e2 = sub_two (mul_two x y tt) (mul_two (lit_two (bits 0x4018_0000_0000_0000) tt) z2 tt) tt in
    let e3 = sub_two (mul_two three xyz tt) (mul_two (lit_two (bits 0x4020_0000_0000_0000) tt) z3 tt) tt in
    let e4 = mul_two (mul_two three (sub_two xyz z3 tt) tt) z tt in
    let e5 = mul_two xyz z2 tt in
    third_two (widen_two e2 tt) (widen_two e3 tt) (widen_two e4 tt) (widen_two e5 tt)

-- ---- where the loop ends: q is below the mean
module _ {k : ℕ} (j : ℕ) {a a' q q' : Float} (A : Two binary64 k mean_k a a') (Q : Two binary64 k (bound_k j) q q') where
  pub test_two : lt q a ≡ lt q' a'
  test_two = lt_two Q A tt

  pub ended : T (lt q a) → (above Q.s Q.m ≤ A.m) × (above Q.s Q.n ≤ A.n)
  ended t =
      let S : A.s ≡ false = A.in_first.sign tt in (
        subst (λ (s : Bool). above Q.s Q.m ≤ above s A.m) S (passed Q.s A.s Q.m A.m
            (subst T (lt_units Q.first A.first) t)),
        subst (λ (s : Bool). above Q.s Q.n ≤ above s A.n) S
            (passed Q.s A.s Q.n A.n (subst T (test_two ∙ lt_units Q.second A.second) t)),
      )

-- a correction: D is the first difference's units, M the largest above zero, B the first mean
pub correction_two : {k : ℕ} (j : ℕ) {a a' w w' : Float} (d d' x x' : Float) → j < 51
    → (A : Two binary64 k mean_k a a') (W : Two binary64 k (fourth_k j) w w')
    (G : Two binary64 k gap_k (d ⊖ x) (d' ⊖ x')) (M M' B B' : ℕ)
    → 2 ^ 40 * G.m ≤ 6 * 2 ^ 40 * M + B → 2 ^ 40 * G.n ≤ 6 * 2 ^ 40 * M' + B'
    → 64 * M * W.m ≤ A.m * 2 ^ low binary64 → 64 * M' * W.n ≤ A.n * 2 ^ low binary64
    → B * W.m ≤ A.m * 2 ^ low binary64 → B' * W.n ≤ A.n * 2 ^ low binary64
    → Two binary64 k small_k (rd_correction w d x a) (rd_correction w' d' x' a')
unfolding rd_correction mul_k mul_ok div_k div_ok within clip_k widen_two mul_two div_two
correction_two j d d' x x' h A W G M M' B B' g g' lead lead' base base' =
    let far : (n : ℕ) → 2 ^ 1008 ≤ n → 2 ^ 56 ≤ n = λ n g. le_trans (pow_mono {i = 56} {j = 1008} (lit≤ tt)) g in
    let pos : (n : ℕ) → 2 ^ 1008 ≤ n → 0 < n = λ n g. lt_of_lt_of_le (lit< tt) g in
    let F = widen_two {B = any_fourth_k} W (any_fourth j h) in
    let l = floor_le A.in_first in
    let l' = floor_le A.in_second in
    widen_two
    (clip_two (2 ^ 1071) (div_two (mul_two F G tt) A tt)
    (ends_small binary64 G.m M B W.m A.m 1071 (digits_of A.first) refl (far A.m l) (pos A.m l) g lead base)
    (ends_small binary64 G.n M' B' W.n A.n 1071 (digits_of A.second) refl (far A.n l') (pos A.n l')
    g' lead' base'))
    tt

sums_first : (j : ℕ) → j < 51 → T (within (sums_k j) (sums_k 0))
unfolding all within
sums_first = every 51 (λ j. within (sums_k j) (sums_k 0)) tt

pub series_two : {k : ℕ} (j : ℕ) {a a' w w' s s' : Float} (x x' y y' d d' : Float) → j < 51 → Two binary64 k mean_k a a'
    → Two binary64 k (fourth_k j) w w' → Two binary64 k (sums_k j) s s'
    → Two binary64 k small_k (rd_correction w d x a) (rd_correction w' d' x' a')
    → Two binary64 k small_k (rd_correction w d y a) (rd_correction w' d' y' a')
    → Two binary64 k value_k (rd_series x y d a w s) (rd_series x' y' d' a' w' s')
unfolding rd_series power_k power_ok mul_k mul_ok plus_k plus_ok within lit_ok of_bits
series_two j x x' y y' d d' h A W S X Y =
    let F = widen_two {B = any_fourth_k} W (any_fourth j h) in
    let R = widen_two {B = sums_k 0} S (sums_first j h) in
    widen_two (plus_two (mul_two (mul_two F (power_two A tt) tt) (factor_two X Y) tt) (mul_two (lit_two three tt) R tt) tt) tt
