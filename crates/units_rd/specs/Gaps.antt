-- The first differences a - x, a - y, a - z of RD in two runs, and the largest of them with its sign. Assumes nothing.
use Rattle.std.specs.Prelude.{◌≡◌, ℕ, suc, ◌+◌, ◌-◌, ◌*◌, ◌^◌, ◌≤◌, ◌<◌, Bool, true, false, not, ◌&&◌, cond, T, ltb, Float}
use Rattle.std.proofs.Common.{sym, ap, subst, zero-le, le_trans, le_of_eq, mul-le-mul_left, arith, ltb→lt, nltb→le, lit<, pow_pos}
use Rattle.std.specs.Float.{binary64}
use Rattle.std.specs.Float.Ieee.{sub}
use Rattle.binary64.specs.Operators.{◌⊖◌}
use Rattle.scaling.specs.Near.{near}
use Rattle.scaling.specs.Cross.{add_n, add_s, add_s_cross}
use Rattle.scaling.specs.Mean.{above_mean}
use Rattle.scaling.specs.Units.{neg_units}
use Rattle.scaling.specs.Kind.{sum_k, sum_ok, within}
use Rattle.scaling.specs.Two.{Two}
use Rattle.scaling.proofs.Two.{sum_two, summed}
use Rattle.scaling.proofs.One.{neg_two, sub_two}
use Rattle.scaling.proofs.One.{widen_two}
use Rattle.scaling.specs.Nothing.{Nothing}
use Rattle.scaling.proofs.Nothing.{skip_last, skip_last_units}
use Rattle.scaling.specs.Signed.{above}
use Rattle.units_rd.specs.Lead.{low_side, high_side}
use Rattle.units_rd.specs.Mean.{off, whole_not_less, whole_not_more, mean_k, gap_k, Arg, none, some, units, units'}

-- ---- one difference: of A and X units it has the sign s and m units, which are off by little
pub record Fact (A X : ℕ) (s : Bool) (m : ℕ) : Type 0 where
  pub more : off * (A - X) ≤ suc off * above s m
  pub less : off * above (not s) m ≤ suc off * (X - A)

difference : (A X : ℕ) → Fact A X (add_s false A true X) (near binary64 (add_n false A true X) 1)
difference A X = go (ltb A X) (ltb→lt A X) (nltb→le A X)
  where
    go : (b : Bool) → (T b → A < X) → (T (not b) → X ≤ A)
        → Fact A X (cond b true (false && ltb X A)) (near binary64 (cond b (X - A) (A - X)) 1)
    go true h k =
        let l = h tt in
        let z : A - X ≡ 0 = omega arith in
        record { more = le_trans (le_of_eq (ap (λ (n : ℕ). off * n) z)) zero-le; less = whole_not_more (X - A) }
    go false h k = record { more = whole_not_less (A - X); less = zero-le }

pub record Gap {k : ℕ} {a a' x x' : Float} (m : Two binary64 k mean_k a a') (b : Arg k x x') : Type 0 where
  pub two : Two binary64 k gap_k (a ⊖ x) (a' ⊖ x')
  pub first : Fact m.m (units b) two.s two.m
  pub second : Fact m.n (units' b) two.s two.n

whole : (A : ℕ) (s : Bool) (m : ℕ) → s ≡ false → m ≡ A → Fact A 0 s m
whole A s m e g = subst (λ (t : Bool). Fact A 0 t m) (sym e) (record { more = omega arith; less = zero-le })

signed : (A X : ℕ) (s t : Bool) → s ≡ false → t ≡ true → Fact A X (add_s s A t X) (near binary64 (add_n s A t X) 1)
signed A X s t e g = rw (e, g) (difference A X)

pub gap : {k : ℕ} {a a' x x' : Float} (m : Two binary64 k mean_k a a') (b : Arg k x x') → Gap m b
unfolding sub sum_k sum_ok within sub_two neg_two sum_two summed widen_two
gap {k} m (none z) =
    let w : Nothing binary64 _ _ = record { s = not z.s; first = neg_units z.first; second = neg_units z.second } in
    let s = skip_last (lit< tt) w m tt tt tt in
    let u = skip_last_units (lit< tt) w m tt tt tt in
    record {
      two = widen_two s tt;
      first = whole m.m s.s s.m u.0 u.1;
      second =
          whole m.n s.s s.n u.0 u.2;
    }
gap {k} m (some b) =
    let S : m.s ≡ false = m.in_first.sign tt in
    let R : not b.s ≡ true = ap not (b.in_first.sign tt) in
    record {
      two = widen_two (sub_two m b tt) tt;
      first = signed m.m b.m m.s (not b.s) S R;
      second = subst (λ (s : Bool). Fact m.n b.n s (near binary64 (add_n m.s m.n (not b.s) b.n) 1))
          (add_s_cross (2 ^ (k * 0)) (2 ^ (k * 2)) m.n b.n m.m b.m (pow_pos (k * 0)) (pow_pos (k * 2)) m.tie
          b.tie m.s
          (not b.s))
          (signed m.n b.n m.s (not b.s) S R);
    }

-- ---- the bound of a difference below zero, of one run: M is above the parts above zero
pub bounded : (A X Y Z M G : ℕ) (s t r : Bool) (m n : ℕ) → off * (X + Y + 3 * Z) ≤ (off + 4) * (5 * A) → Fact A X s G
    → Fact A Y t m → Fact A Z r n
    → above s G ≤ M → above t m ≤ M → above r n ≤ M → 2 ^ 40 * G ≤ 6 * 2 ^ 40 * M + A
bounded A X Y Z M G false t r m n law x y z h i j = high_side G M A h
bounded A X Y Z M G true t r m n law x y z h i j =
    low_side G (X - A) (A - Y) (A - Z) A M x.less (above_mean off X Y Z A law)
    (le_trans y.more (mul-le-mul_left (suc off) i))
    (le_trans z.more (mul-le-mul_left (suc off) j))

-- the sum in another order
pub turned : (X Y Z A : ℕ) → off * (X + Y + 3 * Z) ≤ (off + 4) * (5 * A) → off * (Y + X + 3 * Z) ≤ (off + 4) * (5 * A)
turned X Y Z A h = omega arith
