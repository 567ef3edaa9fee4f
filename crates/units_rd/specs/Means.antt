-- RD(0, y, z) by the arithmetic-geometric mean, in two runs. Assumes nothing.
use Rattle.std.specs.Prelude.{◌≡◌, ℕ, suc, ◌-◌, ◌*◌, ◌^◌, ◌≤◌, ◌<◌, Bool, true, false, not, ◌&&◌, T, Float}
use Rattle.std.proofs.Math.Path.{refl, subst}
use Rattle.std.proofs.Common.{ap, le_refl, inr}
use native.Mathlib.Omega.{arith}
use Rattle.std.specs.Float.Ieee.{binary64, eq, of_bits}
use Rattle.std.specs.Float.Ieee.Fits.{and_l, and_r}
use Rattle.binary64.specs.Operators.{◌⊕◌, ◌⊖◌, ◌⊗◌, ◌⊘◌, bits}
use Rattle.root.specs.Root.{root}
use Rattle.carlson.specs.Constants.{two, three, four, pi}
use Rattle.carlson.specs.Common.{apart}
use Rattle.carlson.specs.Loop.{capped}
use Rattle.elliprd.specs.Means.{sums_of, rd_mean_value, rd_agm_start, rd_together, rd_agm_found, rd_agm_spent, rd_agm_of}
use Rattle.elliprd.specs.declared.means.Sums.{Sums}
use Rattle.scaling.specs.Kind.{Kind, last, mul_k, mul_ok, div_k, div_ok, plus_k, plus_ok, sum_k, sum_ok, within, same_k}
use Rattle.scaling.specs.Two.{Two}
use Rattle.scaling.proofs.Two.{mul_two, div_two, plus_two, sum_two}
use Rattle.scaling.proofs.Tests.{le_two, zero_is}
use Rattle.scaling.specs.One.{lit_ok}
use Rattle.scaling.proofs.One.{sub_two}
use Rattle.scaling.proofs.One.{lit_two, widen_two, abs_two}
use Rattle.scaling.specs.Root.{root_k, root_ok}
use Rattle.scaling.proofs.Root.{root_two}
use Rattle.scaling.specs.Distinct.{distinct_k}
use Rattle.scaling.proofs.Distinct.{distinct_two}
use Rattle.scaling.specs.Nothing.{nothing_two}
use Rattle.scaling.specs.Every.{all, every}
use Rattle.units.specs.Runs.{mean, loop_two}
use Rattle.units.specs.Ran.{Ran, refusal, result}
use Rattle.units_rd.specs.Mean.{arg_k}

-- ---- kinds, with j passes left: a mean, the power of two, the sum of squares
abbrev pub side_k : Kind
side_k = record { any = false; zer = false; lo = 2 ^ 1042; hi = 2 ^ 1106; g = last binary64 (2 ^ 1042); u = 1; d = 0 }

abbrev pub double_k : ℕ → Kind
double_k j = record {
  any = false;
  zer = false;
  lo = 2 ^ (1112 - j);
  hi = 2 ^ (1112 - j);
  g = last binary64 (2 ^ (1112 - j));
  u =
      0;
  d = 0;
}

abbrev pub any_double_k : Kind
any_double_k = record { any = false; zer = false; lo = 2 ^ 1072; hi = 2 ^ 1112; g = last binary64 (2 ^ 1072); u = 0; d = 0 }

abbrev pub square_k : Kind
square_k = record { any = true; zer = true; lo = 2 ^ 840; hi = 2 ^ 1180; g = 840; u = 2; d = 0 }

abbrev squares_k : ℕ → Kind
squares_k j = record { any = true; zer = true; lo = 2 ^ 840; hi = (40 - j) * 2 ^ 1180; g = 840; u = 2; d = 0 }

-- the value: it may cancel to zero
abbrev pub agm_k : Kind
agm_k = record { any = true; zer = true; lo = 2 ^ 600; hi = 2 ^ 1420; g = 500; u = 0; d = 3 }

-- its two parts
abbrev first_k : Kind
first_k = record { any = false; zer = false; lo = 2 ^ 940; hi = 2 ^ 1210; g = last binary64 (2 ^ 940); u = 0; d = 2 }

abbrev second_k : Kind
second_k = record { any = true; zer = true; lo = 2 ^ 700; hi = 2 ^ 1380; g = last binary64 (2 ^ 700); u = 0; d = 2 }

two_k : Kind
two_k = same_k binary64 false (2 * 2 ^ 1074)

double_ok : ℕ → Bool
unfolding two_k mul_k mul_ok within
double_ok j = mul_ok binary64 (double_k (suc j)) two_k && within (mul_k binary64 (double_k (suc j)) two_k) (double_k j)

squares_ok : ℕ → Bool
unfolding sum_k sum_ok within
squares_ok j = sum_ok binary64 (squares_k (suc j)) square_k && within (sum_k binary64 (squares_k (suc j)) square_k) (squares_k j)

doubles : (j : ℕ) → j < 40 → T (double_ok j)
unfolding all double_ok
doubles = every 40 double_ok tt

pub any_double : (j : ℕ) → j < 41 → T (within (double_k j) any_double_k)
unfolding all within
any_double = every 41 (λ j. within (double_k j) any_double_k) tt

squares : (j : ℕ) → j < 40 → T (squares_ok j)
unfolding all squares_ok
squares = every 40 squares_ok tt

any_squares : (j : ℕ) → j < 41 → T (within (squares_k j) (squares_k 0))
unfolding all within
any_squares = every 41 (λ j. within (squares_k j) (squares_k 0)) tt

-- the power of two doubles
pub double_two : {k j : ℕ} {p p' : Float} → j < 40 → Two binary64 k (double_k (suc j)) p p'
    → Two binary64 k (double_k j) (p ⊗ two) (p' ⊗ two)
unfolding double_ok two_k lit_ok of_bits
double_two {j = j} h p =
    let o = mul_ok binary64 (double_k (suc j)) two_k in
    widen_two (mul_two p (lit_two two tt) (and_l o _ (doubles j h))) (and_r o _ (doubles j h))

-- a mean at the start
pub side_two : {k : ℕ} {v v' : Float} → Two binary64 k arg_k v v' → Two binary64 k side_k (root v) (root v')
unfolding root_k root_ok within
side_two a = widen_two (root_two a tt) tt

-- ---- one pass
pub record Inv (k j : ℕ) (s t : Sums) : Type 0 where
  pub x : Two binary64 k side_k s.xn t.xn
  pub y : Two binary64 k side_k s.yn t.yn
  pub sum : Two binary64 k (squares_k j) s.sum t.sum
  pub power : Two binary64 k (double_k j) s.sumpow t.sumpow

module _ {k : ℕ} {x x' y y' : Float} (X : Two binary64 k side_k x x') (Y : Two binary64 k side_k y y') where
  pub half_two : Two binary64 k side_k ((x ⊕ y) ⊘ two) ((x' ⊕ y') ⊘ two)
  unfolding div_k div_ok plus_k plus_ok within lit_ok of_bits
  half_two = widen_two (div_two (plus_two X Y tt) (lit_two two tt) tt) tt

  pub middle_two : Two binary64 k side_k (root (x ⊗ y)) (root (x' ⊗ y'))
  unfolding mul_k mul_ok root_k root_ok within
  middle_two = widen_two (root_two (mul_two X Y tt) tt) tt

  pub apart_two : apart x y ≡ apart x' y'
  unfolding apart mul_k mul_ok sum_k sum_ok lit_ok of_bits
  apart_two = le_two (mul_two (mul_two (lit_two (bits 0x4005_9999_9999_999A) tt) (lit_two (bits 0x3CB0_0000_0000_0000) tt) tt)
      (abs_two X) tt)
      (abs_two (sub_two X Y tt)) tt

pub square_two : {k : ℕ} {p p' x x' y y' : Float} → Two binary64 k any_double_k p p' → Two binary64 k side_k x x'
    → Two binary64 k side_k y y'
    → Two binary64 k square_k (p ⊗ (x ⊖ y) ⊗ (x ⊖ y)) (p' ⊗ (x' ⊖ y') ⊗ (x' ⊖ y'))
unfolding mul_k mul_ok sum_k sum_ok within
square_two p x y = let d = sub_two x y tt in widen_two (mul_two (mul_two p d tt) d tt) tt

pass : (k j : ℕ) (s t : Sums) → j < 40 → Inv k (suc j) s t → Inv k j (sums_of s) (sums_of t)
unfolding sums_of squares_ok
pass k j s t h i =
    let x = half_two i.x i.y in
    let y = middle_two i.x i.y in
    let q = squares j h in
    let f : j < 41 = omega arith in
    let p = double_two h i.power in
    let S = square_two (widen_two p (any_double j f)) x y in
    record {
      x = x;
      y = y;
      sum = widen_two (sum_two i.sum S (and_l (sum_ok binary64 (squares_k (suc j)) square_k) _ q))
          (and_r (sum_ok binary64 (squares_k (suc j)) square_k) _ q);
      power = p;
    }

-- ---- the value: y and z are not equal
value_two : {k : ℕ} {x x' y y' u u' v v' w w' q q' s s' : Float} → Two binary64 k side_k x x' → Two binary64 k side_k y y'
    → Two binary64 k arg_k u u' → Two binary64 k arg_k v v' → T (not (eq u v))
    → Two binary64 k side_k w w' → Two binary64 k side_k q q' → Two binary64 k (squares_k 0) s s'
    → Two binary64 k agm_k (((x ⊕ three ⊗ y) ⊘ (four ⊗ v ⊗ (x ⊕ y)) ⊖ s ⊘ (v ⊗ (u ⊖ v))) ⊗ (pi ⊘ (w ⊕ q)) ⊗ three)
    (((x' ⊕ three ⊗ y') ⊘ (four ⊗ v' ⊗ (x' ⊕ y')) ⊖ s' ⊘ (v' ⊗ (u' ⊖ v'))) ⊗ (pi ⊘ (w' ⊕ q')) ⊗ three)
unfolding mul_k mul_ok div_k div_ok plus_k plus_ok sum_k sum_ok distinct_k within lit_ok of_bits
value_two x y u v h w q s =
    let first = div_two (plus_two x (mul_two (lit_two three tt) y tt) tt)
    (mul_two (mul_two (lit_two four tt) v tt) (plus_two x y tt) tt) tt in
    let second = div_two s (mul_two v (distinct_two u v h tt tt tt) tt) tt in
    let rest = sub_two (widen_two {B = first_k} first tt) (widen_two {B = second_k} second tt) tt in
    widen_two (mul_two (mul_two rest (div_two (lit_two pi tt) (plus_two w q tt) tt) tt) (lit_two three tt) tt) tt

-- ---- the loop
module _ {k : ℕ} {y y' z z' : Float} (Y : Two binary64 k arg_k y y') (Z : Two binary64 k arg_k z z') (h : T (not (eq y z))) where
  begun : Inv k 40 (rd_agm_start y z) (rd_agm_start y' z')
  unfolding rd_agm_start within lit_ok of_bits
  begun = record {
    x = side_two Y;
    y = side_two Z;
    sum = nothing_two (squares_k 40) (record { s = false; first = zero_is binary64; second = zero_is binary64 }) refl tt;
    power = widen_two (lit_two (bits 0x3FD0_0000_0000_0000) tt) tt;
  }

  same_test : (j : ℕ) (s t : Sums) → Inv k j s t → rd_together s ≡ rd_together t
  same_test j s t i = ap not (apart_two i.x i.y)

  ends : (j : ℕ) (s t : Sums) (n : ℕ) → j ≤ 40 → Inv k j s t
      → Ran k agm_k (rd_agm_found (root y) (root z) y z s n) (rd_agm_found (root y') (root z') y' z' t n)
  unfolding rd_mean_value
  ends j s t n l i =
      let f : j < 41 = omega arith in
      result (mean n (inr (value_two (side_two Y) (side_two Z) Y Z h i.x i.y (widen_two i.sum (any_squares j f)))))

  pub agm_two : Ran k agm_k (rd_agm_of y z) (rd_agm_of y' z')
  unfolding rd_agm_of
  agm_two =
      let s = rd_agm_start y z in
      let t = rd_agm_start y' z' in
      subst (λ (b : Bool). Ran k agm_k (rd_agm_of y z) (capped sums_of rd_together (rd_agm_found (root y') (root z') y' z')
      rd_agm_spent 40 b t 0))
      (same_test 40 s t begun)
      (loop_two sums_of rd_together (rd_agm_found (root y) (root z) y z) rd_agm_spent (rd_agm_found (root y') (root z') y' z')
      rd_agm_spent (Ran k agm_k)
      (Inv k) 40
      (pass k) (λ j s t l i. same_test j s t i) (λ j s t n l i q. ends j s t n l i) (λ s t n i. refusal) 40 (rd_together s) s t 0
      (le_refl 40)
      (λ q. q) begun)
