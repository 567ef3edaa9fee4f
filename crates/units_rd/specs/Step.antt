-- One pass of RD's duplication in two runs: the kinds of its floats, and what it keeps. Assumes nothing.
use Rattle.std.specs.Prelude.{◌≡◌, refl, ◌⊎◌, Bool, true, false, ◌&&◌, T, leb, Float}
use Rattle.std.proofs.Common.{sym, ap, ap₂, ◌∙◌, le_trans, le_of_eq, zero-mul, zero-lt-suc, mul-pos, mul-le-mul_right, le-add_right, arith, inl, inr, leb→le, lit≤, pow_mono, pow_pos}
use Prim.Native.Nat.{ℕ, suc, ◌+◌, ◌-◌, ◌*◌, ◌^◌, ◌≤◌, ◌<◌}
use Rattle.std.specs.Float.Ieee.{binary64, low, of_bits, unlike}
use Rattle.std.specs.Float.Ieee.Fits.{and_l, and_r}
use Rattle.binary64.specs.Operators.{◌⊕◌, ◌⊗◌, ◌⊘◌}
use Rattle.root.specs.Root.{root}
use Rattle.carlson.specs.Constants.{four}
use Rattle.carlson.specs.Common.{lambda_of}
use Rattle.rd_duplicate.specs.Duplicate.{rd_moved, rd_step}
use Rattle.rd_duplicate.specs.declared.duplicate.Round.{Round}
use Rattle.scaling.specs.Near.{near, near_mono, near_zero_lem}
use Rattle.scaling.specs.Cross.{add_n}
use Rattle.scaling.specs.Kind.{Kind, In, last, mul_k, mul_ok, div_k, div_ok, plus_k, plus_ok, within, same_k}
use Rattle.scaling.proofs.Kind.{floor_le, near_le}
use Rattle.scaling.specs.Last.{Digits}
use Rattle.scaling.proofs.Last.{digits_of}
use Rattle.scaling.specs.Two.{Two}
use Rattle.scaling.proofs.Two.{mul_two, div_two, plus_two, summed}
use Rattle.scaling.specs.One.{lit_ok}
use Rattle.scaling.proofs.One.{lit_two, widen_two}
use Rattle.scaling.specs.Root.{root_k, root_ok}
use Rattle.scaling.proofs.Root.{root_two}
use Rattle.scaling.specs.Signed.{above}
use Rattle.scaling.proofs.Lead.{on_grid, quarter}
use Rattle.scaling.specs.Every.{all, every}
use Rattle.units_rd.specs.Lead.{lead_kept, mean_kept}
use Rattle.units_rd.specs.Mean.{mean_k}

-- ---- kinds, with j passes left
-- lambda: three products of two roots
abbrev pub lambda_k : Kind
lambda_k = record {
  any = false;
  zer = false;
  lo = 3 * 2 ^ 1008;
  hi = 3 * 2 ^ 1138;
  g = last binary64 (3 * 2 ^ 1008);
  u = 2;
  d =
      0;
}

-- the bound q, a quarter of the last one
abbrev pub bound_k : ℕ → Kind
bound_k j = record {
  any = true;
  zer = true;
  lo = 2 ^ (850 + 2 * j);
  hi = 2 ^ 1200;
  g = last binary64 (2 ^ (850 + 2 * j));
  u =
      2;
  d = 0;
}

-- the power of four
abbrev pub fourth_k : ℕ → Kind
fourth_k j = record {
  any = false;
  zer = false;
  lo = 2 ^ (974 + 2 * j);
  hi = 2 ^ (974 + 2 * j);
  g =
      last binary64 (2 ^ (974 + 2 * j));
  u = 0;
  d = 0;
}

abbrev pub any_fourth_k : Kind
any_fourth_k = record { any = false; zer = false; lo = 2 ^ 974; hi = 2 ^ 1074; g = last binary64 (2 ^ 974); u = 0; d = 0 }

-- a term of the sum, and the sum of as many as passes were made
abbrev term_k : Kind
term_k = record { any = false; zer = false; lo = 2 ^ 870; hi = 2 ^ 1175; g = last binary64 (2 ^ 870); u = 0; d = 3 }

abbrev pub sums_k : ℕ → Kind
sums_k j = record { any = false; zer = true; lo = 2 ^ 870; hi = (50 - j) * 2 ^ 1175; g = last binary64 (2 ^ 870); u = 0; d = 3 }

abbrev pub roots_k : Kind
roots_k = record { any = false; zer = false; lo = 2 ^ 1041; hi = 2 ^ 1106; g = last binary64 (2 ^ 1041); u = 1; d = 0 }

four_k : Kind
four_k = same_k binary64 false (4 * 2 ^ low binary64)

-- ---- tests for all passes at once
bound_ok : ℕ → Bool
unfolding four_k div_k div_ok within
bound_ok j = div_ok binary64 (bound_k (suc j)) four_k && within (div_k binary64 (bound_k (suc j)) four_k) (bound_k j)

fourth_ok : ℕ → Bool
unfolding four_k div_k div_ok within
fourth_ok j = div_ok binary64 (fourth_k (suc j)) four_k && within (div_k binary64 (fourth_k (suc j)) four_k) (fourth_k j)

sums_ok : ℕ → Bool
unfolding plus_k plus_ok within
sums_ok j = plus_ok binary64 (sums_k (suc j)) term_k && within (plus_k binary64 (sums_k (suc j)) term_k) (sums_k j)

bounds : (j : ℕ) → j < 50 → T (bound_ok j)
unfolding all bound_ok
bounds = every 50 bound_ok tt

fourths : (j : ℕ) → j < 50 → T (fourth_ok j)
unfolding all fourth_ok
fourths = every 50 fourth_ok tt

sums : (j : ℕ) → j < 50 → T (sums_ok j)
unfolding all sums_ok
sums = every 50 sums_ok tt

pub any_fourth : (j : ℕ) → j < 51 → T (within (fourth_k j) any_fourth_k)
unfolding all within
any_fourth = every 51 (λ j. within (fourth_k j) any_fourth_k) tt

-- ---- what is kept, but for x and y: M and A are of the start, the largest difference above zero and the mean
pub record Kept (k j M M' A A' : ℕ) (s s' : Round) : Type 0 where
  pub z : Two binary64 k mean_k s.zn s'.zn
  pub a : Two binary64 k mean_k s.an s'.an
  pub q : Two binary64 k (bound_k j) s.q s'.q
  pub w : Two binary64 k (fourth_k j) s.fnval s'.fnval
  pub sum : Two binary64 k (sums_k j) s.sum s'.sum
  pub lead : 64 * M * w.m ≤ above q.s q.m * 2 ^ low binary64
  pub lead' : 64 * M' * w.n ≤ above q.s q.n * 2 ^ low binary64
  pub base : A * w.m ≤ a.m * 2 ^ low binary64
  pub base' : A' * w.n ≤ a.n * 2 ^ low binary64

pub record Inv (k j M M' A A' : ℕ) (s s' : Round) : Type 0 where
  pub x : Two binary64 k mean_k s.xn s'.xn
  pub y : Two binary64 k mean_k s.yn s'.yn
  pub kept : Kept k j M M' A A' s s'

abbrev l : ℕ
l = 2 ^ low binary64

-- a quarter, of a zero or of what has digits to spare
pub fourth : (n : ℕ) → Digits binary64 n → (n ≡ 0) ⊎ (2 ^ 55 ≤ n) → near binary64 (n * l) (4 * l) * 4 ≡ n
fourth n D (inl e) =
    ap (λ (i : ℕ). near binary64 (i * l) (4 * l) * 4) e
    ∙ ap (λ (i : ℕ). i * 4) (ap (λ (i : ℕ). near binary64 i (4 * l)) (zero-mul l)
    ∙ near_zero_lem binary64 (4 * l) (mul-pos (zero-lt-suc 3) (pow_pos (low binary64))))
    ∙ sym e
fourth n D (inr h) = quarter D h

fourth_above : (s : Bool) (n : ℕ) → Digits binary64 n → (n ≡ 0) ⊎ (2 ^ 55 ≤ n)
    → above (unlike s false) (near binary64 (n * l) (4 * l)) * 4 ≡ above s n
fourth_above true n D h = refl
fourth_above false n D h = fourth n D h

-- a mean falls to a quarter at most
pub mean_fourth : (A L : ℕ) (s t : Bool) → s ≡ false → t ≡ false → Digits binary64 A → 2 ^ 55 ≤ A
    → A ≤ near binary64 (near binary64 (add_n s A t L) 1 * l) (4 * l) * 4
mean_fourth A L s t e g D h =
    le_trans (le_of_eq (sym (quarter D h)))
    (mul-le-mul_right 4
    (near_mono binary64 (A * l) (4 * l) (near binary64 (add_n s A t L) 1 * l) (4 * l) four_pos four_pos
    (mul-le-mul_right (4 * l) (mul-le-mul_right l up))))
  where
    four_pos : 0 < 4 * l
    four_pos = mul-pos (zero-lt-suc 3) (pow_pos (low binary64))

    up : A ≤ near binary64 (add_n s A t L) 1
    up =
        le_trans (le_of_eq (sym (on_grid D)))
        (le_trans (near_le binary64 1 (zero-lt-suc 0) (le-add_right A L))
        (le_of_eq (ap₂ (λ (s t : Bool). near binary64 (add_n s A t L) 1) (sym e) (sym g))))

pub few_or_many : {K : Kind} {s : Bool} {m : ℕ} → In K s m → T (leb (2 ^ 55) K.lo) → (m ≡ 0) ⊎ (2 ^ 55 ≤ m)
few_or_many {K} i t = elim i.from [ inl p ↦ inl p.1 | inr h ↦ inr (le_trans (leb→le (2 ^ 55) K.lo t) h) ]

spare_ok : ℕ → Bool
spare_ok j = leb (2 ^ 55) (2 ^ (850 + 2 * j)) && leb (2 ^ 55) (2 ^ (974 + 2 * j))

spares : (j : ℕ) → j < 51 → T (spare_ok j)
unfolding all spare_ok
spares = every 51 spare_ok tt

unfoldable pub quarter_two : {k : ℕ} {x x' v v' : Float} → Two binary64 k mean_k x x' → Two binary64 k lambda_k v v'
    → Two binary64 k mean_k ((x ⊕ v) ⊘ four) ((x' ⊕ v') ⊘ four)
unfolding div_k div_ok plus_k plus_ok within lit_ok of_bits
quarter_two x v = widen_two (div_two (plus_two x v tt) (lit_two four tt) tt) tt

term_two : {k : ℕ} {w w' r r' z z' v v' : Float} → Two binary64 k any_fourth_k w w' → Two binary64 k roots_k r r'
    → Two binary64 k mean_k z z'
    → Two binary64 k lambda_k v v'
    → Two binary64 k term_k (w ⊘ (r ⊗ (z ⊕ v))) (w' ⊘ (r' ⊗ (z' ⊕ v')))
unfolding mul_k mul_ok div_k div_ok plus_k plus_ok within
term_two w r z v = widen_two (div_two w (mul_two r (plus_two z v tt) tt) tt) tt

module _ {k j M M' A A' : ℕ} {s s' : Round} (h : j < 50) (i : Kept k (suc j) M M' A A' s s') {v v' : Float}
    (L : Two binary64 k lambda_k v v') where
  abbrev j₁ : suc j < 51
  j₁ = let r : suc j < 51 = omega arith in r

  abbrev spare : T (spare_ok (suc j))
  spare = spares (suc j) j₁

  big_w : T (leb (2 ^ 55) (2 ^ (974 + 2 * suc j)))
  unfolding spare_ok
  big_w = and_r (leb (2 ^ 55) (2 ^ (850 + 2 * suc j))) (leb (2 ^ 55) (2 ^ (974 + 2 * suc j))) spare

  big_q : T (leb (2 ^ 55) (2 ^ (850 + 2 * suc j)))
  unfolding spare_ok
  big_q = and_l (leb (2 ^ 55) (2 ^ (850 + 2 * suc j))) (leb (2 ^ 55) (2 ^ (974 + 2 * suc j))) spare

  far : (n : ℕ) → 2 ^ 1008 ≤ n → 2 ^ 55 ≤ n
  far n g = le_trans (pow_mono {i = 55} {j = 1008} (lit≤ tt)) g

  pub moved : {r r' : Float} → Two binary64 k roots_k r r'
      → Kept k j M M' A A' (rd_moved s (record { lambda = v; rz = r })) (rd_moved s' (record { lambda = v'; rz = r' }))
  unfolding rd_moved bound_ok fourth_ok sums_ok four_k lit_ok of_bits widen_two div_two plus_two summed lit_two quarter_two
  moved r = record {
    z = quarter_two i.z L;
    a = quarter_two i.a L;
    q = widen_two (div_two i.q (lit_two four tt) (and_l (div_ok binary64 (bound_k (suc j)) four_k) _ (bounds j h)))
        (and_r (div_ok binary64 (bound_k (suc j)) four_k) _ (bounds j h));
    w = widen_two (div_two i.w (lit_two four tt) (and_l (div_ok binary64 (fourth_k (suc j)) four_k) _ (fourths j h)))
        (and_r (div_ok binary64 (fourth_k (suc j)) four_k) _ (fourths j h));
    sum = widen_two (plus_two i.sum (term_two (widen_two i.w (any_fourth (suc j) j₁)) r i.z L)
        (and_l (plus_ok binary64 (sums_k (suc j)) term_k) _ (sums j h)))
        (and_r (plus_ok binary64 (sums_k (suc j)) term_k) _ (sums j h));
    lead = lead_kept M i.w.m (above i.q.s i.q.m) _ _ l
        (fourth i.w.m (digits_of i.w.first) (few_or_many i.w.in_first big_w))
        (fourth_above i.q.s i.q.m (digits_of i.q.first) (few_or_many i.q.in_first big_q)) i.lead;
    lead' = lead_kept M' i.w.n (above i.q.s i.q.n) _ _ l
        (fourth i.w.n (digits_of i.w.second) (few_or_many i.w.in_second big_w))
        (fourth_above i.q.s i.q.n (digits_of i.q.second) (few_or_many i.q.in_second big_q)) i.lead';
    base = mean_kept A i.w.m i.a.m _ _ l (fourth i.w.m (digits_of i.w.first) (few_or_many i.w.in_first big_w))
        (mean_fourth i.a.m L.m i.a.s L.s (i.a.in_first.sign tt) (L.in_first.sign tt) (digits_of i.a.first)
        (far i.a.m (floor_le i.a.in_first))) i.base;
    base' = mean_kept A' i.w.n i.a.n _ _ l (fourth i.w.n (digits_of i.w.second)
        (few_or_many i.w.in_second big_w))
        (mean_fourth i.a.n L.n i.a.s L.s (i.a.in_first.sign tt) (L.in_first.sign tt) (digits_of i.a.second)
        (far i.a.n (floor_le i.a.in_second))) i.base';
  }

-- ---- a pass where none of the arguments is zero
pub roots_two : {k : ℕ} {x x' : Float} → Two binary64 k mean_k x x' → Two binary64 k roots_k (root x) (root x')
unfolding root_k root_ok within
roots_two x = widen_two (root_two x tt) tt

pub lambda_two : {k : ℕ} {x x' y y' z z' : Float} → Two binary64 k roots_k x x' → Two binary64 k roots_k y y'
    → Two binary64 k roots_k z z'
    → Two binary64 k lambda_k (lambda_of x y z) (lambda_of x' y' z')
unfolding lambda_of mul_k mul_ok plus_k plus_ok within
lambda_two x y z = widen_two (plus_two (plus_two (mul_two x y tt) (mul_two x z tt) tt) (mul_two y z tt) tt) tt

pub step_inv : {k j M M' A A' : ℕ} {s s' : Round} → j < 50 → Inv k (suc j) M M' A A' s s'
    → Inv k j M M' A A' (rd_step s) (rd_step s')
unfolding rd_step rd_moved
step_inv h i =
    let x = roots_two i.x in
    let y = roots_two i.y in
    let z = roots_two i.kept.z in
    let L = lambda_two x y z in
    record { x = quarter_two i.x L; y = quarter_two i.y L; kept = moved h i.kept L z }
