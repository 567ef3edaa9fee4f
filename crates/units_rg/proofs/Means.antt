-- RG with one zero, by the compensated arithmetic-geometric mean, in two runs. The sums may have any sign and cancel to zero,
-- but all are multiples of one power of two, so no step is rounded below the normal range; a pass makes them at most 16 times
-- as large. Assumes nothing.
use Rattle.std.specs.Prelude.{◌≡◌, ℕ, suc, ◌+◌, ◌-◌, ◌*◌, ◌^◌, ◌≤◌, ◌<◌, Bool, true, not, ◌&&◌, T, Float}
use Rattle.std.proofs.Common.{ap, subst, le_refl, arith, inr}
use Rattle.std.specs.Float.{binary64}
use Rattle.std.specs.Float.Ieee.{of_bits}
use Rattle.std.specs.Float.Ieee.Fits.{and_l, and_r}
use Rattle.binary64.specs.Operators.{◌⊕◌, ◌⊖◌, ◌⊗◌, ◌⊘◌, bits}
use Rattle.root.specs.Root.{root}
use Rattle.carlson.specs.Constants.{two, pi}
use Rattle.carlson.specs.Loop.{capped}
use Rattle.rg_means.specs.Means.{rg_begin, rg_moved, rg_next, rg_mean_value, rg_together, rg_agm_found, rg_agm_spent, rg_agm_of}
use Rattle.rg_means.specs.declared.means.Sums.{Sums}
use Rattle.scaling.specs.Kind.{Kind, mul_k, mul_ok, div_k, div_ok, plus_k, plus_ok, sum_k, sum_ok, neg_k, within}
use Rattle.scaling.specs.Two.{Two}
use Rattle.scaling.proofs.Two.{mul_two, div_two, plus_two}
use Rattle.scaling.specs.One.{lit_ok}
use Rattle.scaling.proofs.One.{neg_two, sub_two}
use Rattle.scaling.proofs.One.{lit_two, widen_two}
use Rattle.scaling.specs.Fused.{fused_k, fused_ok}
use Rattle.scaling.proofs.Fused.{fused_two}
use Rattle.scaling.specs.Every.{all, every}
use Rattle.units.specs.Kinds.{mean_k}
use Rattle.units.specs.Runs.{mean, loop_two}
use Rattle.units.specs.Ran.{Ran, refusal, result}
use Rattle.units_rd.specs.Means.{side_k, double_k, square_k, any_double, double_two, side_two, half_two, middle_two, apart_two}
use Rattle.units_rd.specs.Means.{square_two}
use Rattle.units_rg.specs.Means.{value_k}

-- ---- kinds, with j passes left: the sum, and what its roundings lost; the squares and their powers of two are RD's
abbrev size_k : ℕ → Kind
size_k h = record { any = true; zer = true; lo = 2 ^ 840; hi = 2 ^ h; g = 840; u = 2; d = 0 }

abbrev total_k : ℕ → Kind
total_k j = size_k (1180 + 4 * (40 - j))

abbrev lost_k : ℕ → Kind
lost_k j = size_k (1182 + 4 * (40 - j))

-- the correction, and how far the sum moved
abbrev correction_k : ℕ → Kind
correction_k j = size_k (1179 + 4 * (40 - j))

abbrev moved_k : ℕ → Kind
moved_k j = size_k (1181 + 4 * (40 - j))

-- ---- tests for all passes at once
-- a difference of the kinds A and B is of the kind C
less_ok : Kind → Kind → Kind → Bool
unfolding sum_k sum_ok within
less_ok A B C = sum_ok binary64 A (neg_k B) && within (sum_k binary64 A (neg_k B)) C

less_two : {k : ℕ} {A B C : Kind} {x x' y y' : Float} → Two binary64 k A x x' → Two binary64 k B y y' → T (less_ok A B C)
    → Two binary64 k C (x ⊖ y) (x' ⊖ y')
unfolding less_ok
less_two {A = A} {B} a b ok = widen_two (sub_two a b (and_l (sum_ok binary64 A (neg_k B)) _ ok))
    (and_r (sum_ok binary64 A (neg_k B)) _ ok)

pass_ok : ℕ → Bool
unfolding less_ok
pass_ok j =
    (less_ok square_k (lost_k (suc j)) (correction_k j) && less_ok (total_k (suc j)) (correction_k j) (total_k j))
    && (less_ok (total_k (suc j)) (total_k j) (moved_k j) && less_ok (moved_k j) (correction_k j) (lost_k j))

passes : (j : ℕ) → j < 40 → T (pass_ok j)
unfolding all pass_ok
passes = every 40 pass_ok tt

any_total : (j : ℕ) → j < 41 → T (within (total_k j) (total_k 0))
unfolding all within
any_total = every 41 (λ j. within (total_k j) (total_k 0)) tt

-- ---- one pass
record Inv (k j : ℕ) (s t : Sums) : Type 0 where
  x : Two binary64 k side_k s.xn t.xn
  y : Two binary64 k side_k s.yn t.yn
  total : Two binary64 k (total_k j) s.rg t.rg
  lost : Two binary64 k (lost_k j) s.lost t.lost
  power : Two binary64 k (double_k j) s.sumpow t.sumpow

pass : (k j : ℕ) (s t : Sums) → j < 40 → Inv k (suc j) s t → Inv k j (rg_next s) (rg_next t)
unfolding rg_next rg_moved pass_ok
pass k j s t h i =
    let f : j < 41 = omega arith in
    let x = half_two i.x i.y in
    let y = middle_two i.x i.y in
    let o = passes j h in
    let p = double_two h i.power in
    let a = less_ok square_k (lost_k (suc j)) (correction_k j) in
    let b = less_ok (total_k (suc j)) (correction_k j) (total_k j) in
    let c = less_ok (total_k (suc j)) (total_k j) (moved_k j) in
    let C = less_two {C = correction_k j} (square_two (widen_two p (any_double j f)) x y) i.lost
    (and_l a b (and_l (a && b) _ o)) in
    let N = less_two {C = total_k j} i.total C (and_r a b (and_l (a && b) _ o)) in
    let M = less_two {C = moved_k j} i.total N (and_l c _ (and_r (a && b) _ o)) in
    record { x = x; y = y; total = N; lost = less_two M C (and_r c _ (and_r (a && b) _ o)); power = p }

-- ---- the start, where the fused step gives what the square lost; and the value
begun : {k : ℕ} {x x' y y' : Float} → Two binary64 k side_k x x' → Two binary64 k side_k y y'
    → Inv k 40 (rg_begin x y) (rg_begin x' y')
unfolding rg_begin mul_k mul_ok fused_k fused_ok within lit_ok of_bits
begun x y =
    let m = half_two x y in
    let q = mul_two m m tt in
    record {
      x = x;
      y = y;
      total = widen_two q tt;
      lost = widen_two (fused_two m m (neg_two q) tt) tt;
      power = widen_two (lit_two (bits 0x3FD0_0000_0000_0000) tt) tt;
    }

value_two : {k : ℕ} {x x' y y' r r' : Float} → Two binary64 k side_k x x' → Two binary64 k side_k y y'
    → Two binary64 k (total_k 0) r r'
    → Two binary64 k value_k (r ⊗ (pi ⊘ (x ⊕ y)) ⊘ two) (r' ⊗ (pi ⊘ (x' ⊕ y')) ⊘ two)
unfolding mul_k mul_ok div_k div_ok plus_k plus_ok within lit_ok of_bits
value_two x y r = widen_two (div_two (mul_two r (div_two (lit_two pi tt) (plus_two x y tt) tt) tt) (lit_two two tt) tt) tt

-- ---- the loop
same_test : {k : ℕ} (j : ℕ) (s t : Sums) → Inv k j s t → rg_together s ≡ rg_together t
same_test j s t i = ap not (apart_two i.x i.y)

ends : {k : ℕ} (j : ℕ) (s t : Sums) (n : ℕ) → j ≤ 40 → Inv k j s t → Ran k value_k (rg_agm_found s n) (rg_agm_found t n)
unfolding rg_mean_value
ends j s t n l i = let f : j < 41 = omega arith in result
    (mean n (inr (value_two i.x i.y (widen_two i.total (any_total j f)))))

pub agm_two : {k : ℕ} {x x' z z' : Float} → Two binary64 k mean_k x x' → Two binary64 k mean_k z z'
    → Ran k value_k (rg_agm_of x z) (rg_agm_of x' z')
unfolding rg_agm_of
agm_two {k} {x} {x'} {z} {z'} X Z =
    let s = rg_begin (root x) (root z) in
    let t = rg_begin (root x') (root z') in
    let i = begun (side_two X) (side_two Z) in
    subst (λ b. Ran k value_k (rg_agm_of x z) (capped rg_next rg_together rg_agm_found rg_agm_spent 40 b t 0)) (same_test 40 s t i)
    (loop_two rg_next rg_together rg_agm_found rg_agm_spent rg_agm_found rg_agm_spent (Ran k value_k) (Inv k) 40 (pass k)
    (λ j s t l i. same_test j s t i) (λ j s t n l i q. ends j s t n l i) (λ s t n i. refusal) 40 (rg_together s) s t 0
    (le_refl 40) (λ q. q) i)
