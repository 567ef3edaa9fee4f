-- RD's duplication in two runs up to the end of its first pass, where x or y may be a zero of either sign. Assumes nothing.
use Rattle.std.specs.Prelude.{◌≡◌, ℕ, ◌*◌, ◌^◌, ◌≤◌, Bool, true, false, ◌||◌, [], ◌∷◌, T, Float}
use Rattle.std.proofs.Math.Path.{refl}
use Rattle.std.proofs.Common.{sym, zero-le, le_trans, le_of_eq, mul-le-mul_right, zero-lt-suc, arith, lit≤, lit<, pow_pos}
use Rattle.std.proofs.Math.Nat.{le_refl}
use Rattle.std.specs.Float.Ieee.{binary64, low, of_bits, unlike}
use Rattle.algebra.specs.Ring.{con, ◌:*◌, ◌≈◌, ◌⊩◌, ◌times◌≼◌, Order}
use Rattle.algebra.proofs.Ring.{by_below}
use Rattle.binary64.specs.Leaves.{maximum}
use Rattle.binary64.specs.Operators.{◌⊕◌, ◌⊖◌, ◌⊗◌, ◌⊘◌, bits}
use Rattle.root.specs.Root.{root}
use Rattle.carlson.specs.Constants.{one, four}
use Rattle.carlson.specs.Common.{lambda_of}
use Rattle.rd_duplicate.specs.Duplicate.{rd_mean, rd_start, rd_begin, rd_moved, rd_step}
use Rattle.scaling.specs.Near.{near, near_mono}
use Rattle.scaling.specs.Kind.{Kind, last, mul_k, mul_ok, div_k, div_ok, within}
use Rattle.scaling.specs.Last.{Digits}
use Rattle.scaling.proofs.Last.{digits_of}
use Rattle.scaling.specs.Two.{Two}
use Rattle.scaling.proofs.Two.{mul_two, div_two}
use Rattle.scaling.proofs.Tests.{zero_is}
use Rattle.scaling.specs.One.{lit_ok, lit_n}
use Rattle.scaling.proofs.One.{lit_two, widen_two}
use Rattle.scaling.specs.Root.{root_k, root_ok}
use Rattle.scaling.proofs.Root.{root_two}
use Rattle.scaling.specs.Nothing.{Nothing}
use Rattle.scaling.proofs.Nothing.{no_product_last, skip_first, skip_last}
use Rattle.scaling.proofs.Nothing.{no_product_first, no_sum, root_nothing}
use Rattle.scaling.specs.Nothing.{nothing_two}
use Rattle.scaling.specs.Signed.{above}
use Rattle.scaling.proofs.Signed.{Larger, larger_two}
use Rattle.scaling.proofs.Lead.{shifted}
use Rattle.units_rd.specs.Mean.{arg_k, mean_k, Arg, none, some, some?, Mean, mean}
use Rattle.units_rd.specs.Gaps.{Gap, gap}
use Rattle.units_rd.specs.Step.{lambda_k, sums_k, Kept, Inv, quarter_two, roots_two, lambda_two, moved}

-- ---- the first bound: C and D are the units of its two constants, 107.6 and 1.2
abbrev l : ℕ
l = 2 ^ low binary64

ahead : (C D M : ℕ) → Digits binary64 M → 64 * l ≤ C → l ≤ D → 64 * M ≤ near binary64 (near binary64 (C * M) l * D) l
ahead C D M G c d =
    let P = near binary64 (C * M) l in
    let first : M * 2 ^ 6 ≤ P =
    le_trans (le_of_eq (sym (shifted 6 G))) (near_mono binary64 (M * 2 ^ 6) 1 (C * M) l (zero-lt-suc 0) (pow_pos (low binary64))
    (first_times.law M l C c)) in
    let second : M * 2 ^ 6 ≤ near binary64 (P * D) l =
    le_trans (le_of_eq (sym (shifted 6 G))) (near_mono binary64 (M * 2 ^ 6) 1 (P * D) l (zero-lt-suc 0) (pow_pos (low binary64))
    (more.law M l P D first d)) in
    le_trans (le_of_eq (turned M)) second
  where
    first_times : Order 3 (λ m l c. (m times con 64 :* l ≼ c) ∷ [] ⊩ m :* con 64 :* l ≈ c :* m :* con 1)
    first_times = by_below tt

    more : Order 4 (λ m l p d. (l times m :* con 64 ≼ p) ∷ (p times l ≼ d) ∷ [] ⊩ m :* con 64 :* l ≈ p :* d :* con 1)
    more = by_below tt

    turned : (n : ℕ) → 64 * n ≡ n * 2 ^ 6
    turned n = omega arith

ahead_above : (C D : ℕ) (s : Bool) (M : ℕ) → Digits binary64 M → 64 * l ≤ C → l ≤ D
    → 64 * above s M * l ≤ above (unlike (unlike false s) false) (near binary64 (near binary64 (C * M) l * D) l) * l
ahead_above C D true M G c d = zero-le
ahead_above C D false M G c d = mul-le-mul_right l (ahead C D M G c d)

module _ {k : ℕ} {x x' y y' z z' : Float} (a : Arg k x x') (b : Arg k y y') (c : Two binary64 k arg_k z z')
    (h : T (some? a || some? b)) where
  abbrev pub m : Mean a b c
  m = mean a b c h

  abbrev pub gx : Gap m.two a
  gx = gap m.two a

  abbrev pub gy : Gap m.two b
  gy = gap m.two b

  abbrev pub gz : Gap m.two (some c)
  gz = gap m.two (some c)

  abbrev pub xy : Larger gx.two gy.two tt (maximum (rd_mean x y z ⊖ x) (rd_mean x y z ⊖ y))
      (maximum (rd_mean x' y' z' ⊖ x') (rd_mean x' y' z' ⊖ y'))
  xy = larger_two gx.two gy.two tt

  abbrev pub xyz : Larger xy.two gz.two tt (maximum (maximum (rd_mean x y z ⊖ x) (rd_mean x y z ⊖ y)) (rd_mean x y z ⊖ z))
      (maximum (maximum (rd_mean x' y' z' ⊖ x') (rd_mean x' y' z' ⊖ y')) (rd_mean x' y' z' ⊖ z'))
  xyz = larger_two xy.two gz.two tt

  -- the largest difference above zero, of both runs
  abbrev pub largest : ℕ
  largest = above xyz.two.s xyz.two.m

  abbrev pub largest' : ℕ
  largest' = above xyz.two.s xyz.two.n

  argument : Two binary64 k mean_k z z'
  unfolding within
  argument = widen_two c tt

  pub begun : Kept k 50 largest largest' m.two.m m.two.n (rd_begin x y z) (rd_begin x' y' z')
  unfolding rd_begin rd_start mul_k mul_ok within lit_ok of_bits mul_two lit_two widen_two nothing_two
  begun = record {
    z = argument;
    a = m.two;
    q = widen_two (mul_two (mul_two (lit_two (bits 0x405A_E89F_995A_D3AD) tt) xyz.two tt)
        (lit_two (bits 0x3FF3_3333_3333_3333) tt) tt) tt;
    w = widen_two (lit_two one tt) tt;
    sum = nothing_two (sums_k 50) (record { s = false; first = zero_is binary64; second = zero_is binary64 }) refl tt;
    lead = ahead_above (lit_n binary64 (bits 0x405A_E89F_995A_D3AD)) (lit_n binary64 (bits 0x3FF3_3333_3333_3333)) xyz.two.s
        xyz.two.m
        (digits_of xyz.two.first) (lit≤ tt) (lit≤ tt);
    lead' = ahead_above (lit_n binary64 (bits 0x405A_E89F_995A_D3AD)) (lit_n binary64 (bits 0x3FF3_3333_3333_3333)) xyz.two.s
        xyz.two.n
        (digits_of xyz.two.second) (lit≤ tt) (lit≤ tt);
    base = le_refl _;
    base' = le_refl _;
  }

-- ---- the first pass: with a zero, lambda is one product, of arguments that are no less than the least
abbrev first_k : Kind
first_k = record { any = false; zer = false; lo = 2 ^ 1010; hi = 2 ^ 1138; g = last binary64 (2 ^ 1010); u = 2; d = 0 }

first_roots : {k : ℕ} {x x' : Float} → Two binary64 k arg_k x x' → Two binary64 k (root_k arg_k) (root x) (root x')
unfolding root_ok
first_roots x = root_two x tt

product : {k : ℕ} {x x' y y' : Float} → Two binary64 k arg_k x x' → Two binary64 k arg_k y y'
    → Two binary64 k first_k (root x ⊗ root y) (root x' ⊗ root y')
unfolding root_k mul_k mul_ok within
product x y = widen_two (mul_two (first_roots x) (first_roots y) tt) tt

-- the zero's own next value
next_two : {k : ℕ} {x x' v v' : Float} → Nothing binary64 x x' → Two binary64 k first_k v v'
    → Two binary64 k mean_k ((x ⊕ v) ⊘ four) ((x' ⊕ v') ⊘ four)
unfolding div_k div_ok within lit_ok of_bits
next_two z v = widen_two (div_two (skip_first (lit< tt) z v tt tt tt) (lit_two four tt) tt) tt

pub record First (k : ℕ) (x x' y y' z z' : Float) : Type 0 where
  pub lambda : Two binary64 k lambda_k (lambda_of (root x) (root y) (root z)) (lambda_of (root x') (root y') (root z'))
  pub nextx : Two binary64 k mean_k ((x ⊕ lambda_of (root x) (root y) (root z)) ⊘ four)
      ((x' ⊕ lambda_of (root x') (root y') (root z')) ⊘ four)
  pub nexty : Two binary64 k mean_k ((y ⊕ lambda_of (root x) (root y) (root z)) ⊘ four)
      ((y' ⊕ lambda_of (root x') (root y') (root z')) ⊘ four)

wide : {k : ℕ} {x x' : Float} → Two binary64 k arg_k x x' → Two binary64 k mean_k x x'
unfolding within
wide x = widen_two x tt

wide_lambda : {k : ℕ} {x x' : Float} → Two binary64 k first_k x x' → Two binary64 k lambda_k x x'
unfolding within
wide_lambda x = widen_two x tt

pub first : {k : ℕ} {x x' y y' z z' : Float} (a : Arg k x x') (b : Arg k y y') (c : Two binary64 k arg_k z z')
    → T (some? a || some? b)
    → First k x x' y y' z z'
unfolding lambda_of root_k
first (none u) (none w) c h = absurd h
first (none u) (some b) c h =
    let r = root_nothing u in
    let s = no_sum (lit< tt) (no_product_first (lit< tt) r (first_roots b)) (no_product_first (lit< tt) r (first_roots c)) in
    let L = skip_first (lit< tt) s (product b c) tt tt tt in
    record { lambda = wide_lambda L; nextx = next_two u L; nexty = quarter_two (wide b) (wide_lambda L) }
first (some a) (none u) c h =
    let r = root_nothing u in
    let s = skip_first (lit< tt) (no_product_last (lit< tt) r (first_roots a) tt tt tt) (product a c) tt tt tt in
    let L = skip_last (lit< tt) (no_product_first (lit< tt) r (first_roots c)) s tt tt tt in
    record { lambda = wide_lambda L; nextx = quarter_two (wide a) (wide_lambda L); nexty = next_two u L }
first (some a) (some b) c h =
    let L = lambda_two (roots_two (wide a)) (roots_two (wide b)) (roots_two (wide c)) in
    record { lambda = L; nextx = quarter_two (wide a) L; nexty = quarter_two (wide b) L }

pub started : {k : ℕ} {x x' y y' z z' : Float} (a : Arg k x x') (b : Arg k y y') (c : Two binary64 k arg_k z z')
    (h : T (some? a || some? b))
    → Inv k 49 (largest a b c h) (largest' a b c h) (m a b c h).two.m (m a b c h).two.n (rd_step (rd_begin x y z))
    (rd_step (rd_begin x' y' z'))
unfolding rd_step rd_moved rd_begin
started a b c h =
    let f = first a b c h in
    record { x = f.nextx; y = f.nexty; kept = moved (lit< tt) (begun a b c h) f.lambda (roots_two (wide c)) }
