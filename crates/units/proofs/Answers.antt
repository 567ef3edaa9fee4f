-- From the rules back to the claim: what an entry settles of two runs is alike. And both signs of k: the second way round, the
-- runs change places.
use Rattle.std.specs.Prelude.{◌≡◌, refl, ℕ, ◌+◌, ◌-◌, ◌*◌, ◌^◌, Bool, true, false, cond, [], ◌∷◌, Float}
use Rattle.std.proofs.Common.{sym, ap, ◌∙◌, subst, subst₂, inl, inr, arith, pow-add, Ok, Err}
use Rattle.std.specs.Float.{nan, inf, fin, binary64}
use Rattle.std.specs.Float.Ieee.Scale.{finite}
use Rattle.refusals.specs.declared.Refusal.{Refusal}
use Rattle.algebra.specs.Ring.{◌:*◌, ◌≈◌, ◌⊩◌, ◌times◌≼◌}
use Rattle.algebra.proofs.Ring.{ring}
use Rattle.algebra.specs.Order.{lt_or_le}
use Rattle.scaling.specs.Units.{Is}
use Rattle.scaling.specs.Kind.{Kind}
use Rattle.scaling.specs.Two.{Two}
use Rattle.scaling.proofs.Plain.{cross, is_finite, units_times}
use Rattle.carlson.specs.Answer.{settled, settled_told, settled_late}
use Rattle.carlson.specs.declared.answer.Road.{Road}
use Rattle.carlson.specs.declared.answer.Way.{Way}
use Rattle.carlson.specs.declared.answer.Found.{Found}
use Rattle.carlson.specs.Answer.{Answer}
use Rattle.units.specs.Statement.{Times, TimesFour, Alike, refused, values}
use Rattle.units.specs.Runs.{Same, both, lost}
use Rattle.units.specs.Answers.{Pair, no, yes}

finite_is : {x : Float} {s : Bool} {n : ℕ} → Is binary64 x s n → finite x ≡ true
finite_is {x = nan} a = absurd a.val
finite_is {x = inf t} a = absurd a.val
finite_is {x = fin t m e} a = refl

pub settled_same : {k : ℕ} {K : Kind} {f g : Found} (r : Refusal) → Same k K f g → Pair k K (settled f r) (settled g r)
unfolding settled
settled_same {k} {K} r (both {v = v} {w = w} {r = o} {c = c} a) =
    let f : Found = record { value = v; road = o; way = c } in
    let g : Found = record { value = w; road = o; way = c } in
    subst₂ (λ p q. Pair k K (cond p (Ok f) (Err r)) (cond q (Ok g) (Err r))) (sym (finite_is a.first))
    (sym (finite_is a.second))
    (yes a)
settled_same r lost = no

pub late_same : {k : ℕ} {K : Kind} {f g : Found} (r : Refusal) → Same k K f g
    → Pair k K (settled_late f false false r) (settled_late g false false r)
unfolding settled_told
late_same {k} {K} r (both {v = v} {w = w} {r = o} {c = c} a) =
    let f : Found = record { value = v; road = o; way = c } in
    let g : Found = record { value = w; road = o; way = c } in
    subst₂ (λ p q. Pair k K (cond p (Ok f) (Err r)) (cond q (Ok g) (Err r))) (sym (finite_is a.first))
    (sym (finite_is a.second))
    (yes a)
late_same r lost = no

-- ---- to the claim: of a weight in k, with a common power beside both
beside : (m n p q e : ℕ) → n * 2 ^ p ≡ m * 2 ^ q → n * 2 ^ (p + e) ≡ m * 2 ^ (q + e)
beside m n p q e h =
    ap (λ z. n * z) (pow-add 2 p e)
    ∙ ring 5 (λ n m p q e. (e times n :* p ≼ m :* q) ∷ [] ⊩ n :* (p :* e) ≈ m :* (q :* e)) tt n m (2 ^ p) (2 ^ q) (2 ^ e) h
    ∙ ap (λ z. m * z) (sym (pow-add 2 q e))

pub times_of : {k : ℕ} {K : Kind} {v w : Float} (u d e : ℕ) → u ≡ k * K.u + e → d ≡ k * K.d + e → Two binary64 k K v w
    → Times u d v w
times_of {k} {K} u d e U D a = record {
  finite_first = is_finite a.first;
  finite_second = is_finite a.second;
  signs = (cross a.first).1 ∙ sym (cross a.second).1;
  sizes =
      units_times a.first a.second u d
      (ap (λ z. a.n * 2 ^ z) D ∙ beside a.m a.n (k * K.d) (k * K.u) e a.tie ∙ ap (λ z. a.m * 2 ^ z) (sym U));
}

pub alike_of : {k : ℕ} {K : Kind} {r s : Answer} (u d e : ℕ) → u ≡ k * K.u + e → d ≡ k * K.d + e → Pair k K r s → Alike u d r s
alike_of u d e U D no = refused
alike_of u d e U D (yes a) = values (times_of u d e U D a)

-- ---- the other way round
pub times_back : {u d : ℕ} {x y : Float} → Times u d x y → Times d u y x
times_back t = record {
  finite_first = t.finite_second;
  finite_second = t.finite_first;
  signs = sym t.signs;
  sizes =
      sym t.sizes;
}

pub alike_back : {u d : ℕ} {r s : Answer} → Alike u d r s → Alike d u s r
alike_back refused = refused
alike_back (values t) = values (times_back t)

-- the arguments, each way round
pub onward : {u : ℕ} {x y : Float} (k d : ℕ) → u ≡ k + d → TimesFour u d x y → TimesFour (k + d) d x y
onward {u} {x} {y} k d e t = subst (λ i. TimesFour i d x y) e t

pub backward : {d : ℕ} {x y : Float} (k u : ℕ) → d ≡ k + u → TimesFour u d x y → TimesFour (k + u) u y x
backward {d} {x} {y} k u e t = subst (λ i. TimesFour i u y x) e (times_back t)

pub either_way : (u d : ℕ) {X : Type 0} → ((k : ℕ) → u ≡ k + d → X) → ((k : ℕ) → d ≡ k + u → X) → X
either_way u d f g =
    elim (lt_or_le u d) [
      | inl l ↦ g (d - u) (let r : d ≡ d - u + u = omega arith in r)
      | inr l ↦ f (u - d) (let r : u ≡ u - d + d = omega arith in r)
    ]
