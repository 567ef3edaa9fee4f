-- The larger of two floats of either sign, and the smaller: each run takes the same one. The part above zero of either is no more
-- than the larger's.
use Rattle.std.specs.Prelude.{◌≡◌, ℕ, ◌+◌, ◌≤◌, Bool, true, false, not, T, Float}
use Rattle.std.proofs.Common.{sym, ◌∙◌, subst, subst₂, zero-le, le_refl, le_of_lt, arith, ltb→lt, nltb→le}
use Rattle.std.proofs.Math.Path.{ap}
use Rattle.std.proofs.Math.Bool.{cond}
use Rattle.std.specs.Float.{Format}
use Rattle.std.specs.Float.Ieee.{lt, below}
use Rattle.binary64.specs.Leaves.{maximum}
use Rattle.scaling.specs.Units.{Is, lt_units}
use Rattle.scaling.specs.Kind.{Kind, level?}
use Rattle.scaling.proofs.One.{number}
use Rattle.scaling.specs.Two.{Two}
use Rattle.scaling.proofs.Two.{lt_two}
use Rattle.scaling.specs.Signed.{above}

pub passed : (s t : Bool) (m n : ℕ) → T (below s m t n) → above s m ≤ above t n
passed false false m n h = le_of_lt (ltb→lt m n h)
passed false true m n h = absurd h
passed true t m n h = zero-le

kept : (s t : Bool) (m n : ℕ) → T (not (below s m t n)) → above t n ≤ above s m
kept false false m n h = nltb→le m n h
kept false true m n h = zero-le
kept true true m n h = zero-le
kept true false m n h = let k = nltb→le 0 (m + n) h in let r : n ≤ 0 = omega arith in r

module _ {f : Format} {k : ℕ} {A : Kind} {x y x' y' : Float} (a : Two f k A x y) (b : Two f k A x' y') (w : T (level? A A)) where
  -- v of the first run and v' of the second are the larger
  pub record Larger (v v' : Float) : Type 0 where
    pub two : Two f k A v v'
    pub left : above a.s a.m ≤ above two.s two.m
    pub right : above b.s b.m ≤ above two.s two.m
    pub left_second : above a.s a.n ≤ above two.s two.n
    pub right_second : above b.s b.n ≤ above two.s two.n

  first_test : lt x x' ≡ below a.s a.m b.s b.m
  first_test = lt_units a.first b.first

  second_test : lt x x' ≡ below a.s a.n b.s b.n
  second_test = lt_two a b w ∙ lt_units a.second b.second

  taken : (t : Bool) → (T t → T (lt x x')) → (T (not t) → T (not (lt x x'))) → Larger (cond t x' x) (cond t y' y)
  taken true h k = record {
    two = b;
    left = passed a.s b.s a.m b.m (subst T first_test (h tt));
    right = le_refl (above b.s b.m);
    left_second = passed a.s b.s a.n b.n (subst T second_test (h tt));
    right_second = le_refl (above b.s b.n);
  }
  taken false h k = record {
    two = a;
    left = le_refl (above a.s a.m);
    right = kept a.s b.s a.m b.m (subst (λ (t : Bool). T (not t)) first_test (k tt));
    left_second = le_refl (above a.s a.n);
    right_second = kept a.s b.s a.n b.n (subst (λ (t : Bool). T (not t)) second_test (k tt));
  }

  pub larger_two : Larger (maximum x x') (maximum y y')
  larger_two =
      subst₂ Larger (sym (opened x x' a.first))
      (sym (opened y y' a.second ∙ ap (λ (t : Bool). cond t y' y) (sym (lt_two a b w))))
      (taken (lt x x') (λ h. h) (λ h. h))
    where
      opened : (u v : Float) {s : Bool} {n : ℕ} → Is f u s n → maximum u v ≡ cond (lt u v) v u
      opened u v i = unfold maximum in ap (λ (t : Bool). cond t v (cond (lt u v) v u)) (number i)
