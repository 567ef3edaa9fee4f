-- RD's first mean a = (x + y + 3z) / 5 and the differences a - x, a - y, a - z in two runs, and how far their roundings can be
-- off. x or y may be a zero of either sign. Assumes nothing.
use Rattle.std.specs.Prelude.{◌≡◌, ℕ, suc, ◌+◌, ◌*◌, ◌^◌, ◌≤◌, ◌<◌, Bool, true, false, ◌||◌, T, Float}
use Rattle.std.proofs.Common.{sym, ap, ap₂, ◌∙◌, inl, inr, le_trans, le_of_eq, mul-one, zero-lt-suc, mul-pos, arith, lit≤, lit<, pow_pos, pow_mono}
use Rattle.std.specs.Float.{binary64}
use Rattle.std.specs.Float.Ieee.{low, of_bits}
use Rattle.binary64.specs.Operators.{◌⊕◌, bits}
use Rattle.carlson.specs.Constants.{three}
use Rattle.rd_duplicate.specs.Duplicate.{rd_mean}
use Rattle.algebra.specs.Ring.{con, ◌:*◌, ◌≈◌}
use Rattle.algebra.proofs.Ring.{ring}
use Rattle.scaling.specs.Near.{near, near_same, near_exact, either}
use Rattle.scaling.specs.Cross.{add_n}
use Rattle.scaling.specs.Mean.{mean_not_less}
use Rattle.scaling.specs.Error.{near_not_less, near_not_more}
use Rattle.scaling.specs.Kind.{Kind, last, mul_k, mul_ok, div_k, div_ok, plus_k, plus_ok, within}
use Rattle.scaling.proofs.Kind.{floor_le}
use Rattle.scaling.specs.Two.{Two}
use Rattle.scaling.proofs.Two.{mul_two, div_two, plus_two, summed}
use Rattle.scaling.specs.One.{lit_ok}
use Rattle.scaling.proofs.One.{lit_two, widen_two}
use Rattle.scaling.specs.Nothing.{Nothing}
use Rattle.scaling.proofs.Nothing.{skip_first, skip_last, skip_first_units, skip_last_units}

-- ---- how far a whole number is off when it is rounded: 2 ^ -52 of it
abbrev pub off : ℕ
off = 2 ^ 52

pub whole_not_less : (n : ℕ) → off * n ≤ suc off * near binary64 n 1
whole_not_less n =
    elim (either off n) [
      | inl h ↦ le_trans (near_not_less binary64 n 1 (zero-lt-suc 0) (le_trans (le_of_eq (mul-one off)) h))
          (le_of_eq (ap (λ (z : ℕ). suc off * z) (mul-one (near binary64 n 1))))
      | inr h ↦ (let e = exact n h in omega (arith, e))
    ]
  where
    exact : (n : ℕ) → n < off → near binary64 n 1 ≡ n
    exact n h =
        let one : n * 2 ^ 0 * 1 ≡ n = omega arith in
        ap (λ (z : ℕ). near binary64 z 1) (sym one) ∙ near_exact binary64 n 0 1 (zero-lt-suc 0)
        (let r : n < 2 ^ 53 = omega arith in r) ∙ mul-one n

pub whole_not_more : (n : ℕ) → off * near binary64 n 1 ≤ suc off * n
whole_not_more n =
    elim (either off n) [
      | inl h ↦
          le_trans (le_of_eq (ap (λ (z : ℕ). off * z) (sym (mul-one (near binary64 n 1)))))
          (near_not_more binary64 n 1 (zero-lt-suc 0) (le_trans (le_of_eq (mul-one off)) h))
      | inr h ↦ (let e = exact n h in omega (arith, e))
    ]
  where
    exact : (n : ℕ) → n < off → near binary64 n 1 ≡ n
    exact n h =
        let one : n * 2 ^ 0 * 1 ≡ n = omega arith in
        ap (λ (z : ℕ). near binary64 z 1) (sym one) ∙ near_exact binary64 n 0 1 (zero-lt-suc 0)
        (let r : n < 2 ^ 53 = omega arith in r) ∙ mul-one n

-- ---- kinds: an argument above zero, and the running mean and arguments, which a first pass with a zero may take to a quarter
-- of the least
abbrev pub arg_k : Kind
arg_k = record { any = false; zer = false; lo = 2 ^ 1010; hi = 2 ^ 1138; g = last binary64 (2 ^ 1010); u = 2; d = 0 }

abbrev pub mean_k : Kind
mean_k = record { any = false; zer = false; lo = 2 ^ 1008; hi = 2 ^ 1138; g = last binary64 (2 ^ 1008); u = 2; d = 0 }

-- the sum of two arguments
abbrev pair_k : Kind
pair_k = record { any = false; zer = false; lo = 2 ^ 1010; hi = 2 ^ 1139; g = last binary64 (2 ^ 1010); u = 2; d = 0 }

-- a difference
abbrev pub gap_k : Kind
gap_k = record { any = true; zer = true; lo = 2 ^ 956; hi = 2 ^ 1139; g = 956; u = 2; d = 0 }

-- an argument that may be zero
pub data Arg (k : ℕ) (x x' : Float) : Type 0 where
  none : Nothing binary64 x x' → Arg k x x'
  some : Two binary64 k arg_k x x' → Arg k x x'

abbrev pub units : {k : ℕ} {x x' : Float} → Arg k x x' → ℕ
units (none z) = 0
units (some a) = a.m

abbrev pub units' : {k : ℕ} {x x' : Float} → Arg k x x' → ℕ
units' (none z) = 0
units' (some a) = a.n

abbrev pub some? : {k : ℕ} {x x' : Float} → Arg k x x' → Bool
some? (none z) = false
some? (some a) = true

-- ---- x + y
pub record Pair {k : ℕ} {x x' y y' : Float} (a : Arg k x x') (b : Arg k y y') : Type 0 where
  pub two : Two binary64 k pair_k (x ⊕ y) (x' ⊕ y')
  pub first : off * (units a + units b) ≤ suc off * two.m
  pub second : off * (units' a + units' b) ≤ suc off * two.n

as_is : (n m : ℕ) → m ≡ n → off * n ≤ suc off * m
as_is n m e = omega arith

pub pair : {k : ℕ} {x x' y y' : Float} (a : Arg k x x') (b : Arg k y y') → T (some? a || some? b) → Pair a b
unfolding plus_k plus_ok within plus_two summed widen_two
pair (none z) (none w) h = absurd h
pair (none z) (some b) h =
    let s = skip_first (lit< tt) z b tt tt tt in
    let u = skip_first_units (lit< tt) z b tt tt tt in
    record {
      two = widen_two s tt;
      first = as_is (0 + b.m) s.m (u.1 ∙ zero_sum b.m);
      second = as_is (0 + b.n) s.n
          (u.2 ∙ zero_sum b.n);
    }
  where
    zero_sum : (n : ℕ) → n ≡ 0 + n
    zero_sum n = omega arith
pair (some a) (none z) h =
    let s = skip_last (lit< tt) z a tt tt tt in
    let u = skip_last_units (lit< tt) z a tt tt tt in
    record {
      two = widen_two s tt;
      first = as_is (a.m + 0) s.m (u.1 ∙ sum_zero a.m);
      second = as_is (a.n + 0) s.n
          (u.2 ∙ sum_zero a.n);
    }
  where
    sum_zero : (n : ℕ) → n ≡ n + 0
    sum_zero n = omega arith
pair (some a) (some b) h =
    let A : a.s ≡ false = a.in_first.sign tt in
    let B : b.s ≡ false = b.in_first.sign tt in
    record {
      two = widen_two (plus_two a b tt) tt;
      first = plain a.m b.m a.s b.s A B;
      second = plain a.n b.n a.s b.s A B;
    }
  where
    plain : (m n : ℕ) (s t : Bool) → s ≡ false → t ≡ false → off * (m + n) ≤ suc off * near binary64 (add_n s m t n) 1
    plain m n s t e g = le_trans (whole_not_less (m + n))
        (le_of_eq (ap₂ (λ (s t : Bool). suc off * near binary64 (add_n s m t n) 1) (sym e) (sym g)))

-- ---- the mean
pub record Mean {k : ℕ} {x x' y y' z z' : Float} (a : Arg k x x') (b : Arg k y y') (c : Two binary64 k arg_k z z') : Type 0 where
  pub two : Two binary64 k mean_k (rd_mean x y z) (rd_mean x' y' z')
  pub first : off * (units a + units b + 3 * c.m) ≤ (off + 4) * (5 * two.m)
  pub second : off * (units' a + units' b + 3 * c.n) ≤ (off + 4) * (5 * two.n)

abbrev l : ℕ
l = 2 ^ low binary64

triple : (n : ℕ) → near binary64 (3 * l * n) l ≡ near binary64 (3 * n) 1
triple n = near_same binary64 (3 * l * n) l (3 * n) 1 (pow_pos (low binary64)) (zero-lt-suc 0)
    (ring 2 (λ l n. con 3 :* l :* n :* con 1 ≈ con 3 :* n :* l) tt l n)

fifth : (t : ℕ) → near binary64 (t * l) (5 * l) ≡ near binary64 t 5
fifth t =
    near_same binary64 (t * l) (5 * l) t 5 (mul-pos (zero-lt-suc 4) (pow_pos (low binary64))) (zero-lt-suc 4)
    (ring 2 (λ t l. t :* l :* con 5 ≈ t :* (con 5 :* l)) tt t l)

-- of one run: P is the units of x + y
one_run : (X Y Z P : ℕ) (s t : Bool) → s ≡ false → t ≡ false → 2 ^ 60 ≤ P → off * (X + Y) ≤ suc off * P
    → off * (X + Y + 3 * Z) ≤ (off + 4) * (5 * near binary64 (near binary64 (add_n s P t (near binary64 (3 * l * Z) l)) 1 * l)
    (5 * l))
one_run X Y Z P s t e g big h =
    let v = near binary64 (3 * l * Z) l in
    let w = near binary64 (add_n s P t v) 1 in
    let V-law : off * (3 * Z) ≤ suc off * v = le_trans (whole_not_less (3 * Z))
    (le_of_eq (ap (λ (n : ℕ). suc off * n) (sym (triple Z)))) in
    let W-law : off * (P + v) ≤ suc off * w =
    le_trans (whole_not_less (P + v)) (le_of_eq (ap₂ (λ (s t : Bool). suc off * near binary64 (add_n s P t v) 1) (sym e)
    (sym g))) in
    let normal : off * 5 ≤ w = enough P v w big W-law in
    let last : off * w ≤ suc off * (near binary64 w 5 * 5) = near_not_less binary64 w 5 (zero-lt-suc 4) normal in
    le_trans (mean_not_less off X Y (3 * Z) P v w (near binary64 w 5) (lit≤ tt) h V-law W-law
    (le_trans last (le_of_eq (turned (near binary64 w 5)))))
    (le_of_eq (ap (λ (n : ℕ). (off + 4) * (5 * n)) (sym (fifth w))))
  where
    enough : (P v w : ℕ) → 2 ^ 60 ≤ P → off * (P + v) ≤ suc off * w → off * 5 ≤ w
    enough P v w h i = omega arith

    turned : (n : ℕ) → suc off * (n * 5) ≡ suc off * (5 * n)
    turned n = omega arith

pub mean : {k : ℕ} {x x' y y' z z' : Float} (a : Arg k x x') (b : Arg k y y') (c : Two binary64 k arg_k z z')
    → T (some? a || some? b) → Mean a b c
unfolding rd_mean mul_k mul_ok div_k div_ok plus_k plus_ok within mul_two div_two plus_two summed widen_two lit_two lit_ok of_bits
mean a b c h =
    let p = pair a b h in
    let w = mul_two (lit_two three tt) c tt in
    let S : p.two.s ≡ false = p.two.in_first.sign tt in
    let W : w.s ≡ false = w.in_first.sign tt in
    let big : (n : ℕ) → 2 ^ 1010 ≤ n → 2 ^ 60 ≤ n = λ n g. le_trans (pow_mono {i = 60} {j = 1010} (lit≤ tt)) g in
    record {
      two = widen_two (div_two (plus_two p.two w tt) (lit_two (bits 0x4014_0000_0000_0000) tt) tt) tt;
      first = one_run (units a) (units b) c.m p.two.m p.two.s w.s S W
          (big p.two.m (floor_le p.two.in_first)) p.first;
      second = one_run (units' a) (units' b) c.n p.two.n p.two.s w.s S W
          (big p.two.n (floor_le p.two.in_second)) p.second;
    }
