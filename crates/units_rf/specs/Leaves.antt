-- atan, ln and the spread ln(1 + a) - ln(1 - a) as RC's two runs take them: at a number from 2 ^ -90 to 2 ^ 71, ln from 9/8 on,
-- the value is a NaN or lies from 2 ^ -104 to 2 ^ 16. Such a bound is a leaf's whole rule, since its argument is the same float
-- in both runs.
use Rattle.std.specs.Prelude.{refl, ℕ, ◌*◌, ◌^◌, ◌≤◌, Bool, false, Float}
use Rattle.std.proofs.Common.{subst, inl, inr, le_trans, lt_of_lt_of_le, lit≤, lit<, pow_mono}
use Rattle.std.specs.Float.{binary64}
use Rattle.std.specs.Float.Ieee.{neg}
use Rattle.binary64.specs.Operators.{◌⊖◌}
use Rattle.series.specs.Atan.{atan}
use Rattle.series.specs.Ln.{ln}
use Rattle.series.specs.Ln1p.{ln_1p}
use Rattle.scaling.specs.Units.{Is}
use Rattle.scaling.specs.Kind.{Kind, last}
use Rattle.scaling.proofs.Kind.{floor_le}
use Rattle.scaling.specs.Leaf.{Leaf, Value}
use Rattle.leaf_bounds.specs.Rounded.{Powers}
use Rattle.leaf_bounds.specs.Leaves.{low}
use Rattle.leaf_bounds.proofs.Leaves.{atan_between, ln_between, spread_between}
use Rattle.leaf_bounds.specs.Leaves as bounds

-- ln(1 + a) - ln(1 - a)
abbrev pub spread : Float → Float
spread a = ln_1p a ⊖ ln_1p (neg a)

-- ---- the kinds of what a leaf is taken of, and of what it gives
abbrev pub ratio_k : Kind
ratio_k = record { any = false; zer = false; lo = 2 ^ 984; hi = 2 ^ 1145; g = last binary64 (2 ^ 984); u = 0; d = 0 }

-- of ln: 9/8 at least
abbrev pub above_k : Kind
above_k = record { any = false; zer = false; lo = 9 * 2 ^ 1071; hi = 2 ^ 1300; g = 0; u = 0; d = 0 }

abbrev pub leaf_k : Kind
leaf_k = record { any = false; zer = false; lo = 2 ^ 970; hi = 2 ^ 1090; g = last binary64 (2 ^ 970); u = 0; d = 0 }

-- ---- the rules
pub leaf_value : {y : Float} {h : ℕ} → h ≤ 1090 → Powers binary64 false low h y → Value binary64 leaf_k y
leaf_value {h = h} l v = record {
  s = false;
  n = v.n;
  is = v.is;
  within = record {
    sign = λ t. refl;
    from = inr (le_trans (pow_mono {i = 970} {j = low} (lit≤ tt)) v.from);
    to = le_trans v.to (pow_mono {i = h} {j = 1090} l);
  };
}

module _ {x : Float} (v : Value binary64 ratio_k x) where
  pub plain : Is binary64 x false v.n
  plain = subst (λ (s : Bool). Is binary64 x s v.n) (v.within.sign tt) v.is

  far : v.n ≤ 2 ^ bounds.most
  far = le_trans v.within.to (pow_mono {i = 1145} {j = bounds.most} (lit≤ tt))

pub atan_leaf : Leaf binary64 atan ratio_k leaf_k
atan_leaf x v = inr (leaf_value (lit≤ tt) (atan_between (plain v) (floor_le v.within) (far v)))

pub ln_leaf : Leaf binary64 ln above_k leaf_k
ln_leaf x v =
    let X = subst (λ (s : Bool). Is binary64 x s v.n) (v.within.sign tt) v.is in
    let from = floor_le v.within in
    inr (leaf_value (lit≤ tt)
    (ln_between X (le_trans (lit≤ tt) from) (le_trans v.within.to (pow_mono {i = 1300} {j = bounds.most} (lit≤ tt)))
    (lt_of_lt_of_le (lit< tt) from)))

pub spread_leaf : Leaf binary64 spread ratio_k leaf_k
spread_leaf x v = elim (spread_between (plain v) (floor_le v.within) (far v))
    [ inl e ↦ inl e | inr w ↦ inr (leaf_value (lit≤ tt) w) ]
