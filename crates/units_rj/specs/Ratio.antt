-- The denominator of RJ's pass in two runs, the ratio of the differences' product to its square, and the middle: neither has a
-- dimension, so both are the same float in both runs, and both are bounded. Assumes nothing.
use Rattle.std.specs.Prelude.{◌≡◌, refl, ℕ, ◌+◌, ◌*◌, ◌^◌, ◌≤◌, ◌<◌, Bool, ◌||◌, cond, [], ◌∷◌, Float}
use Rattle.std.proofs.Common.{sym, ◌∙◌, le_trans, le_of_eq, lt_of_lt_of_le, le_refl, mul_comm, mul-le-mul, one-mul, zero-lt-suc, lit≤}
use Rattle.std.proofs.Math.Path.{subst}
use Rattle.std.proofs.Math.Nat.{le_of_mul-le-mul_left}
use Rattle.std.proofs.Math.Bool.{true, false}
use Rattle.std.proofs.Math.Dec.{T, lit<}
use Rattle.std.proofs.Math.Pow.{pow-lt}
use Rattle.std.specs.Float.Ieee.{binary64, le, of_bits}
use Rattle.std.specs.Float.Ieee.Scale.{overflow}
use Rattle.algebra.specs.Ring.{con, ◌:*◌, ◌≈◌, ◌⊩◌, ◌times◌≼◌, Law, Order}
use Rattle.algebra.proofs.Ring.{by_ring, by_below}
use Rattle.binary64.specs.Operators.{◌⊕◌, ◌⊗◌, ◌⊘◌, bits}
use Rattle.root.specs.Root.{root}
use Rattle.carlson.specs.Constants.{two}
use Rattle.scaling.specs.Near.{near, digits, near_mono, near_exact}
use Rattle.scaling.specs.Units.{Is}
use Rattle.scaling.specs.Half.{half_less, half_more}
use Rattle.scaling.specs.Kind.{Kind, last, mul_k, mul_ok, div_k, div_ok, plus_k, plus_ok, within}
use Rattle.scaling.proofs.Kind.{floor_le}
use Rattle.scaling.specs.Two.{Two}
use Rattle.scaling.proofs.Two.{mul_two, div_two}
use Rattle.scaling.specs.One.{lit_ok, clip_k}
use Rattle.scaling.proofs.One.{lit_two, lit_is, widen_two, clip_two}
use Rattle.scaling.proofs.Plain.{units_le}
use Rattle.scaling.specs.Maybe.{Maybe, none, some, some?, units, units', solid?, normal?}
use Rattle.scaling.proofs.Maybe.{mul_maybe, mul_law, add_maybe, add_some}
use Rattle.scaling.proofs.Maybe.{add_law}
use Rattle.units_rd.specs.Mean.{mean_k}
use Rattle.units_rd.specs.Step.{roots_two}
use Rattle.units_rj.specs.Bound.{of_three, ratio_bound, middle_bound}
use Rattle.units_rj.specs.Helper.{ratio_of_k}
use Rattle.units_rj.specs.Middle.{middle_k}
use Rattle.units_rj.specs.Pass.{l, l_pos, roots_square, roots_maybe, pair_k, Pair, pair}

-- ---- kinds
abbrev two_pairs_k : Kind
two_pairs_k = record { any = false; zer = false; lo = 2 ^ 1008; hi = 2 ^ 1140; g = last binary64 (2 ^ 1008); u = 2; d = 0 }

abbrev pub denominator_k : Kind
denominator_k = record { any = false; zer = false; lo = 2 ^ 975; hi = 2 ^ 1173; g = last binary64 (2 ^ 975); u = 3; d = 0 }

-- the product of the differences, in any pass
abbrev pub delta_k : Kind
delta_k = record { any = true; zer = true; lo = 2 ^ 110; hi = 2 ^ 1270; g = last binary64 (2 ^ 110); u = 6; d = 0 }

-- ---- a product of two, up to a factor of two
times_law : (a b : ℕ) → 2 ^ 52 * l ≤ a * b → a * b ≤ 2 * (near binary64 (a * b) l * l)
times_law a b h = half_less binary64 (a * b) l l_pos h

two_pairs : (m n : ℕ) → 2 ^ 1041 ≤ m → 2 ^ 1041 ≤ n → 2 ^ 52 * l ≤ m * n
two_pairs m n h i = let p : 2 ^ 1041 * 2 ^ 1041 ≤ m * n = mul-le-mul h i in le_trans (lit≤ tt) p

with_third : (m n : ℕ) → 2 ^ 1008 ≤ m → 2 ^ 1041 ≤ n → 2 ^ 52 * l ≤ m * n
with_third m n h i = let p : 2 ^ 1008 * 2 ^ 1041 ≤ m * n = mul-le-mul h i in le_trans (lit≤ tt) p

squared : (m : ℕ) → 2 ^ 975 ≤ m → 2 ^ 52 * l ≤ m * m
squared m h = let p : 2 ^ 975 * 2 ^ 975 ≤ m * m = mul-le-mul h h in le_trans (lit≤ tt) p

pub record Denominator (k : ℕ) (a a' b b' c c' : ℕ) (v v' : Float) : Type 0 where
  pub two : Two binary64 k denominator_k v v'
  pub three : a * b * c ≤ 4 * two.m * (l * l)
  pub three' : a' * b' * c' ≤ 4 * two.n * (l * l)

pub denominator : {k : ℕ} {a a' b b' c c' : Float} (A : Two binary64 k pair_k a a') (B : Two binary64 k pair_k b b')
    (C : Two binary64 k pair_k c c')
    → Denominator k A.m A.n B.m B.n C.m C.n (a ⊗ b ⊗ c) (a' ⊗ b' ⊗ c')
unfolding mul_k mul_ok within mul_two widen_two
denominator A B C =
    let E = widen_two {B = two_pairs_k} (mul_two A B tt) tt in
    record {
      two = widen_two (mul_two E C tt) tt;
      three = of_three A.m B.m C.m E.m _ l
          (times_law A.m B.m (two_pairs A.m B.m (floor_le A.in_first) (floor_le B.in_first)))
          (times_law E.m C.m (with_third E.m C.m (floor_le E.in_first) (floor_le C.in_first)));
      three' = of_three A.n B.n C.n E.n _ l
          (times_law A.n B.n (two_pairs A.n B.n (floor_le A.in_second) (floor_le B.in_second)))
          (times_law E.n C.n (with_third E.n C.n (floor_le E.in_second) (floor_le C.in_second)));
    }

-- ---- the ratio: at most 2 ^ 16 in size
abbrev square_k : Kind
square_k = record { any = false; zer = false; lo = 2 ^ 876; hi = 2 ^ 1272; g = last binary64 (2 ^ 876); u = 6; d = 0 }

clipped : (D q : ℕ) → 0 < q → D ≤ 2 ^ 16 * q → near binary64 (D * l) q ≤ 2 ^ 1090
clipped D q pos h =
    le_trans (near_mono binary64 (D * l) q (1 * 2 ^ 1090 * 1) 1 pos (zero-lt-suc 0) (quotient.law D q l h))
    (le_of_eq (near_exact binary64 1 1090 1 (zero-lt-suc 0) (pow-lt (digits binary64)) ∙ one-mul (2 ^ 1090)))
  where
    quotient : Order 3 (λ D q l. (l times D ≼ con (2 ^ 16) :* q) ∷ [] ⊩ D :* l :* con 1 ≈ con (2 ^ 16) :* l :* q)
    quotient = by_below tt

pub taken : {A : Type 0} (b : Bool) (u v : A) → T b → cond b u v ≡ u
taken true u v t = refl
taken false u v t = absurd t

module _ {k : ℕ} {p p' x x' y y' z z' : Float} (P : Two binary64 k mean_k p p') (X : Maybe binary64 k mean_k x x')
    (Y : Maybe binary64 k mean_k y y') (Z : Maybe binary64 k mean_k z z') where
  abbrev pub denominator_of : Float
  denominator_of = (root p ⊕ root x) ⊗ (root p ⊕ root y) ⊗ (root p ⊕ root z)

  abbrev pub denominator_of' : Float
  denominator_of' = (root p' ⊕ root x') ⊗ (root p' ⊕ root y') ⊗ (root p' ⊕ root z')

  abbrev a : Pair k P.m P.n (units X) (units' X) (roots_two P).m (roots_two P).n (units (roots_maybe X))
      (units' (roots_maybe X))
      (root p ⊕ root x) (root p' ⊕ root x')
  a = pair P X

  abbrev b : Pair k P.m P.n (units Y) (units' Y) (roots_two P).m (roots_two P).n (units (roots_maybe Y))
      (units' (roots_maybe Y))
      (root p ⊕ root y) (root p' ⊕ root y')
  b = pair P Y

  abbrev c : Pair k P.m P.n (units Z) (units' Z) (roots_two P).m (roots_two P).n (units (roots_maybe Z))
      (units' (roots_maybe Z))
      (root p ⊕ root z) (root p' ⊕ root z')
  c = pair P Z

  abbrev d : Denominator k a.two.m a.two.n b.two.m b.two.n c.two.m c.two.n denominator_of denominator_of'
  d = denominator a.two b.two c.two

  pub denominator_two : Two binary64 k denominator_k denominator_of denominator_of'
  denominator_two = d.two

  square_two : Two binary64 k square_k (denominator_of ⊗ denominator_of) (denominator_of' ⊗ denominator_of')
  unfolding mul_k mul_ok within
  square_two = widen_two (mul_two d.two d.two tt) tt

  square_laws : (d.two.m * d.two.m ≤ 2 * (square_two.m * l)) × (d.two.n * d.two.n ≤ 2 * (square_two.n * l))
  unfolding square_two mul_two widen_two
  square_laws = (
    times_law d.two.m d.two.m (squared d.two.m (floor_le d.two.in_first)),
    times_law d.two.n d.two.n (squared d.two.n (floor_le d.two.in_second)),
  )

  -- the square is normal
  pub normal : T (le (bits 0x0010_0000_0000_0000) (denominator_of ⊗ denominator_of))
      × T (le (bits 0x0010_0000_0000_0000) (denominator_of' ⊗ denominator_of'))
  unfolding lit_ok of_bits
  normal =
      let S : square_two.s ≡ false = square_two.in_first.sign tt in (
        units_le (lit_is binary64 (bits 0x0010_0000_0000_0000) tt)
            (subst (λ (s : Bool). Is binary64 (denominator_of ⊗ denominator_of) s square_two.m) S square_two.first)
            (le_trans (lit≤ tt) (floor_le square_two.in_first)),
        units_le (lit_is binary64 (bits 0x0010_0000_0000_0000) tt)
            (subst (λ (s : Bool). Is binary64 (denominator_of' ⊗ denominator_of') s square_two.n) S square_two.second)
            (le_trans (lit≤ tt) (floor_le square_two.in_second)),
      )

  module _ {v v' : Float} (D : Two binary64 k delta_k v v')
      (small : D.m * (l * l) ≤ 4 * ((P.m + units X) * (P.m + units Y) * (P.m + units Z)))
      (small' : D.n * (l * l) ≤ 4 * ((P.n + units' X) * (P.n + units' Y) * (P.n + units' Z))) where
    pub ratio_two : Two binary64 k ratio_of_k (v ⊘ (denominator_of ⊗ denominator_of)) (v' ⊘ (denominator_of' ⊗ denominator_of'))
    unfolding div_k div_ok within clip_k div_two
    ratio_two =
        let q = square_laws in
        widen_two
        (clip_two (2 ^ 1090) (div_two D square_two tt)
        (clipped D.m square_two.m (lt_of_lt_of_le (lit< tt) (floor_le square_two.in_first))
        (ratio_bound (P.m + units X) (P.m + units Y) (P.m + units Z) a.two.m b.two.m c.two.m d.two.m
        square_two.m
        D.m l l_pos a.square b.square c.square d.three q.0 small))
        (clipped D.n square_two.n (lt_of_lt_of_le (lit< tt) (floor_le square_two.in_second))
        (ratio_bound (P.n + units' X) (P.n + units' Y) (P.n + units' Z) a.two.n b.two.n c.two.n d.two.n
        square_two.n
        D.n l l_pos a.square' b.square' c.square' d.three' q.1 small')))
        tt

-- ---- the middle: at most 2 ^ 12
abbrev sum_k : Kind
sum_k = record { any = false; zer = false; lo = 2 ^ 1041; hi = 2 ^ 1107; g = last binary64 (2 ^ 1041); u = 1; d = 0 }

abbrev first_k : Kind
first_k = record { any = false; zer = false; lo = 2 ^ 1008; hi = 2 ^ 1140; g = last binary64 (2 ^ 1008); u = 2; d = 0 }

abbrev inner_k : Kind
inner_k = record { any = false; zer = false; lo = 2 ^ 1008; hi = 2 ^ 1141; g = last binary64 (2 ^ 1008); u = 2; d = 0 }

abbrev double_k : Kind
double_k = record { any = false; zer = false; lo = 2 ^ 1042; hi = 2 ^ 1107; g = last binary64 (2 ^ 1042); u = 1; d = 0 }

abbrev top_k : Kind
top_k = record { any = false; zer = false; lo = 2 ^ 975; hi = 2 ^ 1176; g = last binary64 (2 ^ 975); u = 3; d = 0 }

clipped_middle : (D q : ℕ) → 0 < q → D ≤ 2 ^ 12 * q → near binary64 (D * l) q ≤ 2 ^ 1086
clipped_middle D q pos h =
    le_trans (near_mono binary64 (D * l) q (1 * 2 ^ 1086 * 1) 1 pos (zero-lt-suc 0) (quotient.law D q l h))
    (le_of_eq (near_exact binary64 1 1086 1 (zero-lt-suc 0) (pow-lt (digits binary64)) ∙ one-mul (2 ^ 1086)))
  where
    quotient : Order 3 (λ D q l. (l times D ≼ con (2 ^ 12) :* q) ∷ [] ⊩ D :* l :* con 1 ≈ con (2 ^ 12) :* l :* q)
    quotient = by_below tt

-- twice a root, and its product with the inner sum
twice_law : (r : ℕ) → 2 ^ 1041 ≤ r → near binary64 (2 * l * r) l ≤ 4 * r
twice_law r h =
    let p : 2 ^ 52 * l ≤ 2 * l * r = le_trans (lit≤ tt) (mul-le-mul (le_refl (2 * l)) h) in
    le_of_mul-le-mul_left (le_trans (le_of_eq (mul_comm l _))
    (le_trans (half_more binary64 (2 * l * r) l l_pos p) (le_of_eq (turned r l)))) l_pos
  where
    turned : (r l : ℕ) → 2 * (2 * l * r) ≡ l * (4 * r)
    turned r l = four.law r l
      where
        four : Law 2 (λ r l. con 2 :* (con 2 :* l :* r) ≈ l :* (con 4 :* r))
        four = by_ring tt

top_law : (v n : ℕ) → 2 ^ 1042 ≤ v → 2 ^ 1008 ≤ n → near binary64 (v * n) l * l ≤ 2 * (v * n)
top_law v n h i = let p : 2 ^ 1042 * 2 ^ 1008 ≤ v * n = mul-le-mul h i in
    half_more binary64 (v * n) l l_pos (le_trans (lit≤ tt) p)

-- the sums and products under the middle, as they come in one run
record Inner (r s t u P N : ℕ) : Type 0 where
  y : ℕ
  m : ℕ
  a : ℕ
  n : ℕ
  y_law : y ≤ 2 * (t + u)
  m_law : m * l ≤ 2 * (s * y)
  a_law : a ≤ 2 * (P + m)
  n_law : n * l ≤ 2 * (t * u)
  N-law : N ≤ 2 * (a + n)

module _ {k : ℕ} {p p' x x' y y' z z' : Float} (P : Two binary64 k mean_k p p') (X : Maybe binary64 k mean_k x x')
    (Y : Maybe binary64 k mean_k y y') (Z : Maybe binary64 k mean_k z z') where
  record Summed : Type 0 where
    two : Two binary64 k inner_k (p ⊕ root x ⊗ (root y ⊕ root z) ⊕ root y ⊗ root z)
        (p' ⊕ root x' ⊗ (root y' ⊕ root z') ⊕ root y' ⊗ root z')
    laws : Inner (roots_two P).m (units (roots_maybe X)) (units (roots_maybe Y)) (units (roots_maybe Z)) P.m two.m
    laws' : Inner (roots_two P).n (units' (roots_maybe X)) (units' (roots_maybe Y)) (units' (roots_maybe Z)) P.n two.n

  summed_two : Summed
  unfolding solid? normal? mul_k mul_ok plus_k plus_ok within
  summed_two =
      let o : 0 < overflow binary64 = lit< tt in
      let rx = roots_maybe X in
      let ry = roots_maybe Y in
      let rz = roots_maybe Z in
      let P₀ : Maybe binary64 k mean_k p p' = some P in
      let yz = add_maybe o sum_k ry rz tt tt tt tt tt in
      let m = mul_maybe o rx yz tt tt in
      let a = add_maybe o first_k P₀ m tt tt tt tt tt in
      let n = mul_maybe o ry rz tt tt in
      let N = add_maybe o inner_k a n tt tt tt tt tt in
      let h₁ = add_law o sum_k ry rz tt tt tt tt tt in
      let h₂ = mul_law o rx yz tt tt tt in
      let h₃ = add_law o first_k P₀ m tt tt tt tt tt in
      let h₄ = mul_law o ry rz tt tt tt in
      let h₅ = add_law o inner_k a n tt tt tt tt tt in
      let t : T (some? N) = subst T (sym (add_some o inner_k a n tt tt tt tt tt))
      (first_of (some? a) (some? n) (subst T (sym (add_some o first_k P₀ m tt tt tt tt tt)) tt)) in
      made N t
      (record {
        y = units yz;
        m = units m;
        a = units a;
        n = units n;
        y_law = h₁.0.2;
        m_law = h₂.0.0;
        a_law =
            h₃.0.2;
        n_law = h₄.0.0;
        N-law = h₅.0.2;
      })
      (record {
        y = units' yz;
        m = units' m;
        a = units' a;
        n = units' n;
        y_law = h₁.1.2;
        m_law = h₂.1.0;
        a_law =
            h₃.1.2;
        n_law = h₄.1.0;
        N-law = h₅.1.2;
      })
    where
      first_of : (b c : Bool) → T b → T (b || c)
      first_of true c t = tt
      first_of false c t = absurd t

      made : (N : Maybe binary64 k inner_k (p ⊕ root x ⊗ (root y ⊕ root z) ⊕ root y ⊗ root z)
          (p' ⊕ root x' ⊗ (root y' ⊕ root z') ⊕ root y' ⊗ root z')) → T (some? N)
          → Inner (roots_two P).m (units (roots_maybe X)) (units (roots_maybe Y)) (units (roots_maybe Z)) P.m (units N)
          → Inner (roots_two P).n (units' (roots_maybe X)) (units' (roots_maybe Y)) (units' (roots_maybe Z)) P.n (units' N)
          → Summed
      made (none z) t i j = absurd t
      made (some c) t i j = record { two = c; laws = i; laws' = j }

  pub middle_two : Two binary64 k middle_k (two ⊗ root p ⊗ (p ⊕ root x ⊗ (root y ⊕ root z) ⊕ root y ⊗ root z)
      ⊘ denominator_of P X Y Z)
      (two ⊗ root p' ⊗ (p' ⊕ root x' ⊗ (root y' ⊕ root z') ⊕ root y' ⊗ root z') ⊘ denominator_of' P X Y Z)
  unfolding mul_k mul_ok div_k div_ok within lit_ok of_bits clip_k mul_two div_two widen_two lit_two
  middle_two =
      let r = roots_two P in
      let N = summed_two in
      let i = N.laws in
      let j = N.laws' in
      let dn = d P X Y Z in
      let q = roots_square P in
      let v = widen_two {B = double_k} (mul_two (lit_two two tt) r tt) tt in
      let top = widen_two {B = top_k} (mul_two v N.two tt) tt in
      widen_two
      (clip_two (2 ^ 1086) (div_two top dn.two tt)
      (clipped_middle top.m dn.two.m (lt_of_lt_of_le (lit< tt) (floor_le dn.two.in_first))
      (middle_bound r.m (units (roots_maybe X)) (units (roots_maybe Y)) (units (roots_maybe Z)) P.m i.y i.m i.a
      i.n N.two.m
      v.m top.m
      (a P X Y Z).two.m (b P X Y Z).two.m (c P X Y Z).two.m dn.two.m l l_pos i.y_law i.m_law i.a_law
      i.n_law i.N-law
      (twice_law r.m (floor_le r.in_first)) (top_law v.m N.two.m (floor_le v.in_first)
      (floor_le N.two.in_first)) q.0
      (a P X Y Z).sums (b P X Y Z).sums (c P X Y Z).sums dn.three))
      (clipped_middle top.n dn.two.n (lt_of_lt_of_le (lit< tt) (floor_le dn.two.in_second))
      (middle_bound r.n (units' (roots_maybe X)) (units' (roots_maybe Y)) (units' (roots_maybe Z)) P.n j.y j.m
      j.a j.n
      N.two.n v.n top.n
      (a P X Y Z).two.n (b P X Y Z).two.n (c P X Y Z).two.n dn.two.n l l_pos j.y_law j.m_law j.a_law
      j.n_law j.N-law
      (twice_law r.n (floor_le r.in_second)) (top_law v.n N.two.n (floor_le v.in_second)
      (floor_le N.two.in_second)) q.1
      (a P X Y Z).sums' (b P X Y Z).sums' (c P X Y Z).sums' dn.three')))
      tt
