-- RJ's duplication in two runs up to the end of its first pass, where one of x, y, z may be a zero of either sign. Assumes
-- nothing.
use Rattle.std.specs.Prelude.{◌≡◌, ◌⊎◌, [], ◌∷◌, ℕ, ◌+◌, ◌-◌, ◌*◌, ◌^◌, ◌≤◌, ◌<◌, Bool, true, false, not, ◌&&◌, cond, ltb, Float}
use Rattle.std.proofs.Math.Path.{refl, ap₂}
use Rattle.std.proofs.Common.{sym, ap, ◌∙◌, subst, inl, zero-le, le_trans, le_of_eq, le_refl, mul-le-mul, zero-mul, mul-zero, zero-lt-suc, arith, lit≤, pow_mono}
use Rattle.std.proofs.Math.Logic.{inr}
use Rattle.std.proofs.Math.Bool.{◌||◌}
use Rattle.std.proofs.Math.Dec.{T, lit<}
use Rattle.std.specs.Float.Ieee.{binary64, sub, of_bits}
use Rattle.std.specs.Float.Ieee.Scale.{overflow}
use Rattle.algebra.specs.Ring.{con, ◌:*◌, ◌≈◌, ◌⊩◌, ◌times◌≼◌, Order}
use Rattle.algebra.proofs.Ring.{by_below}
use Rattle.binary64.specs.Operators.{◌⊕◌, ◌⊖◌, ◌⊗◌, ◌⊘◌, bits}
use Rattle.root.specs.Root.{root}
use Rattle.carlson.specs.Constants.{one, two, four}
use Rattle.carlson.specs.Common.{lambda_of}
use Rattle.rj_positive.specs.Duplicate.{rj_mean, rj_begin, rj_step}
use Rattle.scaling.specs.Near.{near, near_zero_lem}
use Rattle.scaling.specs.Cross.{add_n}
use Rattle.scaling.specs.Units.{neg_units}
use Rattle.scaling.specs.Half.{half_more}
use Rattle.scaling.specs.Kind.{Kind, In, last, mul_k, mul_ok, div_k, div_ok, plus_k, plus_ok, sum_k, sum_ok, within}
use Rattle.scaling.proofs.Kind.{floor_le, near_le}
use Rattle.scaling.specs.Last.{Digits}
use Rattle.scaling.proofs.Last.{digits_of}
use Rattle.scaling.specs.Two.{Two}
use Rattle.scaling.proofs.Two.{mul_two, div_two, plus_two, sum_two, summed}
use Rattle.scaling.proofs.Tests.{zero_is}
use Rattle.scaling.specs.One.{lit_ok}
use Rattle.scaling.proofs.One.{sub_two, neg_two}
use Rattle.scaling.proofs.One.{lit_two, widen_two}
use Rattle.scaling.specs.Root.{root_k, root_ok}
use Rattle.scaling.proofs.Root.{root_two}
use Rattle.scaling.specs.Nothing.{Nothing, nothing_two}
use Rattle.scaling.proofs.Nothing.{skip_last, skip_last_units}
use Rattle.scaling.proofs.Nothing.{root_nothing}
use Rattle.scaling.proofs.Lead.{on_grid, quarter}
use Rattle.scaling.specs.Maybe.{Maybe, solid?}
use Rattle.scaling.proofs.Maybe.{force, mul_maybe, mul_some, add_maybe, add_some, add_law}
use Rattle.scaling.specs.Maybe as maybe
use Rattle.units_rd.specs.Mean.{arg_k, mean_k, gap_k, Arg, none, some, some?, units, units'}
use Rattle.units_rd.specs.Step.{lambda_k}
use Rattle.units_rj.specs.Pass.{l, l_pos}
use Rattle.units_rj.specs.Step.{product_k, sums_k, Next, Inv, Whole, pass, pass_some}

-- ---- arguments as floats that may be a zero
abbrev arg : {k : ℕ} {x x' : Float} → Arg k x x' → Maybe binary64 k arg_k x x'
arg (none z) = maybe.none z
arg (some a) = maybe.some a

wide : {k : ℕ} {x x' : Float} → Two binary64 k arg_k x x' → Two binary64 k mean_k x x'
unfolding within
wide a = widen_two a tt

abbrev start_mean : {k : ℕ} {x x' : Float} → Arg k x x' → Maybe binary64 k mean_k x x'
start_mean (none z) = maybe.none z
start_mean (some a) = maybe.some (wide a)

-- ---- lambda: a product of two roots of arguments above zero, at least
abbrev roots_k : Kind
roots_k = record { any = false; zer = false; lo = 2 ^ 1042; hi = 2 ^ 1106; g = last binary64 (2 ^ 1042); u = 1; d = 0 }

roots : {k : ℕ} {x x' : Float} → Arg k x x' → Maybe binary64 k roots_k (root x) (root x')
unfolding root_k root_ok within
roots (none z) = maybe.none (root_nothing z)
roots (some a) = maybe.some (widen_two (root_two a tt) tt)

roots_some : {k : ℕ} {x x' : Float} (a : Arg k x x') → maybe.some? (roots a) ≡ some? a
unfolding roots
roots_some (none z) = refl
roots_some (some a) = refl

abbrev sum_one_k : Kind
sum_one_k = record { any = false; zer = false; lo = 2 ^ 1010; hi = 2 ^ 1139; g = last binary64 (2 ^ 1010); u = 2; d = 0 }

abbrev first_k : Kind
first_k = record { any = false; zer = false; lo = 2 ^ 1010; hi = 3 * 2 ^ 1138; g = last binary64 (2 ^ 1010); u = 2; d = 0 }

-- at most one is a zero
abbrev pub at_most_one : Bool → Bool → Bool → Bool
at_most_one a b c = (a && b || a && c) || b && c

lambda : {k : ℕ} {x x' y y' z z' : Float} (a : Arg k x x') (b : Arg k y y') (c : Arg k z z')
    → T (at_most_one (some? a) (some? b) (some? c))
    → Two binary64 k first_k (lambda_of (root x) (root y) (root z)) (lambda_of (root x') (root y') (root z'))
unfolding lambda_of solid? mul_k mul_ok plus_k plus_ok within
lambda a b c t =
    let o : 0 < overflow binary64 = lit< tt in
    let rx = roots a in
    let ry = roots b in
    let rz = roots c in
    let xy = mul_maybe o rx ry tt tt in
    let xz = mul_maybe o rx rz tt tt in
    let yz = mul_maybe o ry rz tt tt in
    let s = add_maybe o sum_one_k xy xz tt tt tt tt tt in
    let L = add_maybe o first_k s yz tt tt tt tt tt in
    let e : maybe.some? L ≡ at_most_one (some? a) (some? b) (some? c) =
    add_some o first_k s yz tt tt tt tt tt
    ∙ ap₂ ◌||◌ (add_some o sum_one_k xy xz tt tt tt tt tt
    ∙ ap₂ ◌||◌ (mul_some o rx ry tt tt ∙ ap₂ ◌&&◌ (roots_some a) (roots_some b))
    (mul_some o rx rz tt tt ∙ ap₂ ◌&&◌ (roots_some a) (roots_some c)))
    (mul_some o ry rz tt tt ∙ ap₂ ◌&&◌ (roots_some b) (roots_some c)) in
    force L (subst T (sym e) t)

wide_lambda : {k : ℕ} {v v' : Float} → Two binary64 k first_k v v' → Two binary64 k lambda_k v v'
unfolding within
wide_lambda L = widen_two L tt

-- ---- an argument's next value
abbrev next_sum_k : Kind
next_sum_k = record { any = false; zer = false; lo = 2 ^ 1010; hi = 2 ^ 1140; g = last binary64 (2 ^ 1010); u = 2; d = 0 }

fourth_law : (x s : ℕ) → Digits binary64 s → 2 ^ 1010 ≤ s → x ≤ s → x ≤ near binary64 (s * l) (4 * l) * 4
fourth_law x s D h i = le_trans i (le_of_eq (sym (quarter D (le_trans (pow_mono {i = 55} {j = 1010} (lit≤ tt)) h))))

next : {k : ℕ} {x x' v v' : Float} (a : Arg k x x') → Two binary64 k first_k v v'
    → Next k (maybe.units (start_mean a)) (maybe.units' (start_mean a)) ((x ⊕ v) ⊘ four) ((x' ⊕ v') ⊘ four)
unfolding solid? plus_k plus_ok within wide widen_two div_k div_ok lit_ok of_bits div_two lit_two
next {k} {x} {x'} {v} {v'} a L =
    let o : 0 < overflow binary64 = lit< tt in
    let L₀ : Maybe binary64 k first_k v v' = maybe.some L in
    let s = add_maybe o next_sum_k (arg a) L₀ tt tt tt tt tt in
    let law = add_law o next_sum_k (arg a) L₀ tt tt tt tt tt in
    made s (subst T (sym (add_some o next_sum_k (arg a) L₀ tt tt tt tt tt ∙ last_true (maybe.some? (arg a)))) tt) law.0.0
    law.1.0
    (same_first a) (same_second a)
  where
    last_true : (b : Bool) → b || true ≡ true
    last_true true = refl
    last_true false = refl

    same_first : (a : Arg k x x') → maybe.units (start_mean a) ≡ maybe.units (arg a)
    same_first (none z) = refl
    same_first (some b) = refl

    same_second : (a : Arg k x x') → maybe.units' (start_mean a) ≡ maybe.units' (arg a)
    same_second (none z) = refl
    same_second (some b) = refl

    made : (s : Maybe binary64 k next_sum_k (x ⊕ v) (x' ⊕ v')) → T (maybe.some? s) → maybe.units (arg a) ≤ maybe.units s
        → maybe.units' (arg a) ≤ maybe.units' s
        → maybe.units (start_mean a) ≡ maybe.units (arg a) → maybe.units' (start_mean a) ≡ maybe.units' (arg a)
        → Next k (maybe.units (start_mean a)) (maybe.units' (start_mean a)) ((x ⊕ v) ⊘ four) ((x' ⊕ v') ⊘ four)
    made (maybe.none z) t h i e g = absurd t
    made (maybe.some s) t h i e g = record {
      two = widen_two (div_two s (lit_two four tt) tt) tt;
      more = fourth_law (maybe.units (start_mean a)) s.m (digits_of s.first) (floor_le s.in_first)
          (le_trans (le_of_eq e) h);
      more' = fourth_law (maybe.units' (start_mean a)) s.n (digits_of s.second) (floor_le s.in_second)
          (le_trans (le_of_eq g) i);
    }

-- ---- the mean
abbrev three_k : Kind
three_k = record { any = false; zer = false; lo = 2 ^ 1010; hi = 3 * 2 ^ 1138; g = last binary64 (2 ^ 1010); u = 2; d = 0 }

abbrev five_k : Kind
five_k = record { any = false; zer = false; lo = 2 ^ 1011; hi = 5 * 2 ^ 1138; g = last binary64 (2 ^ 1010); u = 2; d = 0 }

module _ {k : ℕ} {x x' y y' z z' p p' : Float} (a : Arg k x x') (b : Arg k y y') (c : Arg k z z') (P : Two binary64 k arg_k p p')
    (t : T (at_most_one (some? a) (some? b) (some? c))) where
  pub mean : Two binary64 k mean_k (rj_mean x y z p) (rj_mean x' y' z' p')
  unfolding rj_mean solid? mul_k mul_ok div_k div_ok plus_k plus_ok within lit_ok of_bits
  mean =
      let o : 0 < overflow binary64 = lit< tt in
      let xy = add_maybe o sum_one_k (arg a) (arg b) tt tt tt tt tt in
      let xyz = add_maybe o three_k xy (arg c) tt tt tt tt tt in
      let q = mul_two (lit_two two tt) P tt in
      let e : maybe.some? xyz ≡ (some? a || some? b) || some? c =
      add_some o three_k xy (arg c) tt tt tt tt tt ∙ ap₂ ◌||◌
      (add_some o sum_one_k (arg a) (arg b) tt tt tt tt tt ∙ ap₂ ◌||◌ (as_arg a) (as_arg b))
      (as_arg c) in
      widen_two (div_two (plus_two (force xyz (subst T (sym e) (some_of (some? a) (some? b) (some? c) t))) q tt)
      (lit_two (bits 0x4014_0000_0000_0000) tt) tt) tt
    where
      as_arg : {v v' : Float} (a : Arg k v v') → maybe.some? (arg a) ≡ some? a
      as_arg (none z) = refl
      as_arg (some b) = refl

      some_of : (a b c : Bool) → T (at_most_one a b c) → T ((a || b) || c)
      some_of true b c t = tt
      some_of false true c t = tt
      some_of false false true t = absurd t
      some_of false false false t = absurd t

-- ---- the product of the differences
record Difference (k A A' X X' : ℕ) (v v' : Float) : Type 0 where
  two : Two binary64 k gap_k v v'
  size : two.m ≤ A + X
  size' : two.n ≤ A' + X'

difference_size : (A X : ℕ) (s t : Bool) → s ≡ false → t ≡ true → Digits binary64 A → Digits binary64 X
    → near binary64 (add_n s A t X) 1 ≤ A + X
difference_size A X s t e g D E = rw (e, g) (go (ltb A X))
  where
    go : (b : Bool) → near binary64 (cond b (X - A) (A - X)) 1 ≤ A + X
    go true =
        let h : X - A ≤ X = omega arith in
        let i : X ≤ A + X = omega arith in
        le_trans (near_le binary64 1 (zero-lt-suc 0) h) (le_trans (le_of_eq (on_grid E)) i)
    go false =
        let h : A - X ≤ A = omega arith in
        let i : A ≤ A + X = omega arith in
        le_trans (near_le binary64 1 (zero-lt-suc 0) h) (le_trans (le_of_eq (on_grid D)) i)

difference : {k : ℕ} {p p' x x' : Float} (P : Two binary64 k mean_k p p') (a : Arg k x x')
    → Difference k P.m P.n (maybe.units (start_mean a)) (maybe.units' (start_mean a)) (p ⊖ x) (p' ⊖ x')
unfolding sub sum_k sum_ok within sub_two neg_two sum_two summed widen_two wide
difference P (none z) =
    let w : Nothing binary64 _ _ = record { s = not z.s; first = neg_units z.first; second = neg_units z.second } in
    let s = skip_last (lit< tt) w P tt tt tt in
    let u = skip_last_units (lit< tt) w P tt tt tt in
    record { two = widen_two s tt; size = alone s.m P.m u.1; size' = alone s.n P.n u.2 }
  where
    alone : (s m : ℕ) → s ≡ m → s ≤ m + 0
    alone s m e = omega arith
difference P (some b) =
    let S : P.s ≡ false = P.in_first.sign tt in
    let R : not b.s ≡ true = ap not (b.in_first.sign tt) in
    record {
      two = widen_two (sub_two P b tt) tt;
      size = difference_size P.m b.m P.s (not b.s) S R (digits_of P.first) (digits_of b.first);
      size' = difference_size P.n b.n P.s (not b.s) S R (digits_of P.second) (digits_of b.second);
    }

some_or_none : {K : Kind} {s : Bool} {m : ℕ} → In K s m → (m ≡ 0) ⊎ (K.lo ≤ m)
some_or_none i = elim i.from [ inl p ↦ inl p.1 | inr h ↦ inr h ]

-- a product that may be zero, up to a factor of two
product_more : (a b u v : ℕ) → 2 ^ 52 * l ≤ u * v → (a ≡ 0) ⊎ (u ≤ a) → (b ≡ 0) ⊎ (v ≤ b)
    → near binary64 (a * b) l * l ≤ 2 * (a * b)
product_more a b u v h (inl e) q = nothing (a * b) (ap (λ (i : ℕ). i * b) e ∙ zero-mul b)
  where
    nothing : (n : ℕ) → n ≡ 0 → near binary64 n l * l ≤ 2 * n
    nothing n e = le_trans (le_of_eq (ap (λ (i : ℕ). near binary64 i l * l) e ∙ ap (λ (i : ℕ). i * l) (near_zero_lem binary64 l l_pos)
        ∙ zero-mul l)) zero-le
product_more a b u v h (inr p) (inl e) = nothing (a * b) (ap (λ (i : ℕ). a * i) e ∙ mul-zero a)
  where
    nothing : (n : ℕ) → n ≡ 0 → near binary64 n l * l ≤ 2 * n
    nothing n e = le_trans (le_of_eq (ap (λ (i : ℕ). near binary64 i l * l) e ∙ ap (λ (i : ℕ). i * l) (near_zero_lem binary64 l l_pos)
        ∙ zero-mul l)) zero-le
product_more a b u v h (inr p) (inr q) = half_more binary64 (a * b) l l_pos (le_trans h (mul-le-mul p q))

abbrev pair_k : Kind
pair_k = record { any = true; zer = true; lo = 2 ^ 838; hi = 2 ^ 1204; g = last binary64 (2 ^ 838); u = 4; d = 0 }

three_more : (E D a b c x y z : ℕ) → E * l ≤ 2 * (a * b) → D * l ≤ 2 * (E * c) → a ≤ x → b ≤ y → c ≤ z
    → D * (l * l) ≤ 4 * (x * y * z)
three_more E D a b c x y z h i p q r =
    le_trans (chain.law E D a b c l h i) (mul-le-mul (le_refl 4) (mul-le-mul (mul-le-mul p q) r))
  where
    chain : Order 6 (λ E D a b c l. (con 2 :* c times E :* l ≼ con 2 :* (a :* b)) ∷ (l times D :* l ≼ con 2 :* (E :* c)) ∷ []
        ⊩ D :* (l :* l) ≈ con 4 :* (a :* b :* c))
    chain = by_below tt

record Delta (k A A' B B' C C' : ℕ) (v v' : Float) : Type 0 where
  two : Two binary64 k (product_k 100) v v'
  small : two.m * (l * l) ≤ 4 * (A * B * C)
  small' : two.n * (l * l) ≤ 4 * (A' * B' * C')

delta : {k A A' B B' C C' D D' : ℕ} {a a' b b' c c' : Float} → Difference k D D' A A' a a' → Difference k D D' B B' b b'
    → Difference k D D' C C' c c'
    → Delta k (D + A) (D' + A') (D + B) (D' + B') (D + C) (D' + C') (a ⊗ b ⊗ c) (a' ⊗ b' ⊗ c')
unfolding mul_k mul_ok within mul_two widen_two
delta a b c =
    let E = widen_two {B = pair_k} (mul_two a.two b.two tt) tt in
    record {
      two = widen_two (mul_two E c.two tt) tt;
      small = three_more E.m _ a.two.m b.two.m c.two.m _ _ _
          (product_more a.two.m b.two.m (2 ^ 956) (2 ^ 956) (lit≤ tt) (some_or_none a.two.in_first)
          (some_or_none b.two.in_first))
          (product_more E.m c.two.m (2 ^ 838) (2 ^ 956) (lit≤ tt) (some_or_none E.in_first)
          (some_or_none c.two.in_first))
          a.size b.size c.size;
      small' = three_more E.n _ a.two.n b.two.n c.two.n _ _ _
          (product_more a.two.n b.two.n (2 ^ 956) (2 ^ 956) (lit≤ tt) (some_or_none a.two.in_second)
          (some_or_none b.two.in_second))
          (product_more E.n c.two.n (2 ^ 838) (2 ^ 956) (lit≤ tt) (some_or_none E.in_second)
          (some_or_none c.two.in_second))
          a.size' b.size' c.size';
    }

-- ---- the start, and the first pass
module _ {k : ℕ} {x x' y y' z z' p p' : Float} (a : Arg k x x') (b : Arg k y y') (c : Arg k z z') (P : Two binary64 k arg_k p p')
    (t : T (at_most_one (some? a) (some? b) (some? c))) where
  pub begun : Inv k 100 (rj_begin x y z p) (rj_begin x' y' z' p')
  unfolding rj_begin within lit_ok of_bits
  begun =
      let Q = wide P in
      let D = delta (difference Q a) (difference Q b) (difference Q c) in
      record {
        x = start_mean a;
        y = start_mean b;
        z = start_mean c;
        p = Q;
        a = mean a b c P t;
        delta = D.two;
        w = widen_two (lit_two one tt) tt;
        sum = inr (nothing_two (sums_k 100) (record { s = false; first = zero_is binary64; second = zero_is binary64 }) refl tt);
        rescalings = refl;
        small = D.small;
        small' = D.small';
      }

  pub started : Whole k 99 (rj_step (rj_begin x y z p)) (rj_step (rj_begin x' y' z' p'))
  unfolding rj_begin begun
  started =
      let L = lambda a b c t in
      record {
        inv = pass (lit< tt) begun (wide_lambda L) (next a L) (next b L) (next c L);
        all_some = pass_some (lit< tt) begun (wide_lambda L)
            (next a L) (next b L) (next c L);
      }
