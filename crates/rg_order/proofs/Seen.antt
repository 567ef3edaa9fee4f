-- What RG sees of its arguments before it sorts them is the same in any order: whether one is below zero, whether one is NaN,
-- the scale, and whether they are rescaled. Assumes nothing.
use Rattle.std.proofs.Math.Path.{◌≡◌, ap}
use Rattle.std.specs.Prelude.{refl, Bool, not, ◌&&◌, ◌||◌, T, Float}
use Rattle.std.proofs.Common.{sym, ◌∙◌, subst, true≢false}
use Rattle.std.proofs.Math.Bool.{true, false, cond, and_assoc, and_comm, or_assoc, or_comm}
use Rattle.std.specs.Float.{nan, inf, fin}
use Rattle.std.specs.Float.Ieee.{is_nan, lt}
use Rattle.std.specs.Float.Ieee.Bits.{is_true, is_false}
use Rattle.std.specs.Float.Ieee.Fits.{and_l, and_r}
use Rattle.std.specs.Float.Ieee.Scale.{finite}
use Rattle.binary64.specs.Leaves.{absolute, maximum, minimum}
use Rattle.binary64.specs.Operators.{◌⊘◌}
use Rattle.derived.specs.Limits.{limit, reciprocal}
use Rattle.scaling.proofs.Kind.{nor_l, nor_r}
use Rattle.scaling.proofs.Pick.{choose}
use Rattle.carlson.specs.Constants.{zero}
use Rattle.carlson_arguments.specs.Checks.{any_nan3, below3}
use Rattle.carlson_arguments.specs.Rescaling.{scale_of3, beyond_limits, survives, survive3, rescales3, rescaling3}
use Rattle.sorting.specs.declared.Triple.{Triple}
use Rattle.sorting.specs.Order.{lt_once, not_below_through}
use Rattle.sorting.specs.Sorting.{Permuted}
use Rattle.sorting.specs.Permuted.{Each, mapped}
use Rattle.sorting.proofs.Permuted.{each_permuted, mapped_permuted, joined_permuted, same_below}
use Rattle.rg_order.specs.Plain.{Plain}
use Rattle.rg_order.proofs.PlainLaws.{told_apart, size_plain, larger_plain, quotient_plain}
use Rattle.rg_order.specs.Seen.{at}

-- ---- the smaller and the larger of two, by what is below a value: of two values the one that is not above the other is below
-- whatever the other is below
or_first : (p q : Bool) → (p ≡ false → q ≡ false) → p ≡ (p || q)
or_first true q h = refl
or_first false q h = sym (h refl)

and_last : (p q : Bool) → (p ≡ false → q ≡ false) → q ≡ (p && q)
and_last true q h = refl
and_last false q h = h refl

-- a NaN is below nothing
nan_below : (x v : Float) → is_nan x ≡ true → lt x v ≡ false
unfolding is_nan lt
nan_below nan v n = refl
nan_below (inf s) v n = absurd (true≢false (sym n))
nan_below (fin s m e) v n = absurd (true≢false (sym n))

below_number : (x v : Float) → lt x v ≡ true → is_nan x ≡ false
below_number x v h = go (is_nan x) refl
  where
    go : (b : Bool) → is_nan x ≡ b → b ≡ false
    go true n = absurd (true≢false (sym h ∙ nan_below x v n))
    go false n = refl

-- of any two, since the smaller of two passes over a NaN
pub smaller_below : (x y v : Float) → lt (minimum x y) v ≡ (lt x v || lt y v)
unfolding minimum
smaller_below x y v = passed (is_nan x) refl
  where
    go : is_nan x ≡ false → (b : Bool) → lt y x ≡ b → lt (cond b y x) v ≡ (lt x v || lt y v)
    go n true e =
        or_first (lt y v) (lt x v) (λ h. not_below_through v y x (below_number y x e) h (lt_once y x e))
        ∙ or_comm (lt y v) (lt x v)
    go n false e = or_first (lt x v) (lt y v) (λ h. not_below_through v x y n h e)

    passed : (b : Bool) → is_nan x ≡ b → lt (cond b y (cond (lt y x) y x)) v ≡ (lt x v || lt y v)
    passed true n = sym (ap (λ b. b || lt y v) (nan_below x v n))
    passed false n = go n (lt y x) refl

module _ {x y : Float} (p : Plain x) (q : Plain y) (v : Float) where
  larger_below : lt (maximum x y) v ≡ (lt x v && lt y v)
  unfolding maximum
  larger_below = rw p.number (go (lt x y) refl)
    where
      go : (b : Bool) → lt x y ≡ b → lt (cond b y x) v ≡ (lt x v && lt y v)
      go true e = and_last (lt x v) (lt y v) (λ h. not_below_through v x y p.number h (lt_once x y e))
      go false e = and_last (lt y v) (lt x v) (λ h. not_below_through v y x q.number h e) ∙ and_comm (lt y v) (lt x v)

-- ---- the smallest of three, and the largest size: the scale
pub below3_any : (t : Triple) → at below3 t ≡ (lt t.x zero || lt t.y zero || lt t.z zero)
below3_any t =
    smaller_below (minimum t.x t.y) t.z zero
    ∙ ap (λ (b : Bool). b || lt t.z zero) (smaller_below t.x t.y zero)

sizes : {t : Triple} → Each Plain t → Each Plain (mapped absolute t)
sizes {t} e = record { x = size_plain t.x e.x; y = size_plain t.y e.y; z = size_plain t.z e.z }

scale_plain : {t : Triple} → Each Plain t → Plain (at scale_of3 t)
scale_plain e = let s = sizes e in larger_plain (larger_plain s.x s.y) s.z

scale_below : {t : Triple} → Each Plain t → (v : Float)
    → lt (at scale_of3 t) v ≡ (lt (absolute t.x) v && lt (absolute t.y) v && lt (absolute t.z) v)
scale_below {t} e v =
    let s = sizes e in
    larger_below (larger_plain s.x s.y) s.z v
    ∙ ap (λ (b : Bool). b && lt (absolute t.z) v) (larger_below s.x s.y v)

-- none is below zero, so that none has a sign, and none gets one over a scale that is finite and above zero
scaled : {t : Triple} (s : Float) → Each Plain t → T (not (at below3 t)) → T (beyond_limits s)
    → Each Plain (mapped (λ a. a ⊘ s) t)
scaled {t} s e h b =
    let n = subst (λ (c : Bool). T (not c)) (below3_any t) h in
    let m = nor_l (lt t.x zero || lt t.y zero) (lt t.z zero) n in
    let bounds = lt zero s && (lt limit s || lt s reciprocal) in
    let f = is_true (finite s) (and_l (finite s) bounds b) in
    let g = is_true (lt zero s) (and_l (lt zero s) (lt limit s || lt s reciprocal) (and_r (finite s) bounds b)) in
    record {
      x = quotient_plain t.x s e.x (is_false (lt t.x zero) (nor_l (lt t.x zero) (lt t.y zero) m)) f g;
      y = quotient_plain t.y s e.y (is_false (lt t.y zero) (nor_r (lt t.x zero) (lt t.y zero) m)) f g;
      z = quotient_plain t.z s e.z
          (is_false (lt t.z zero) (nor_r (lt t.x zero || lt t.y zero) (lt t.z zero) n)) f g;
    }

-- ---- THE LAWS, of three arguments and the same three in another order: whether one is below zero and whether one is NaN, of
-- any; the scale and whether they are rescaled, of plain ones
pub below3_permuted : {t u : Triple} → Permuted t u → at below3 t ≡ at below3 u
below3_permuted {t} {u} p = below3_any t ∙ joined_permuted ◌||◌ or_comm or_assoc (λ a. lt a zero) p ∙ sym (below3_any u)

pub nan_permuted : {t u : Triple} → Permuted t u → at any_nan3 t ≡ at any_nan3 u
nan_permuted p = joined_permuted ◌||◌ or_comm or_assoc is_nan p

module _ {t u : Triple} (p : Permuted t u) (e : Each Plain t) where
  scale_permuted : at scale_of3 t ≡ at scale_of3 u
  scale_permuted =
      let f = each_permuted p e in
      same_below told_apart (scale_plain e) (scale_plain f)
      (λ v. scale_below e v ∙ joined_permuted ◌&&◌ and_comm and_assoc (λ a. lt (absolute a) v) p ∙ sym (scale_below f v))

  rescales_permuted : (s : Float) → rescales3 t.x t.y t.z s ≡ rescales3 u.x u.y u.z s
  rescales_permuted s = ap (λ (b : Bool). beyond_limits s && b) (joined_permuted ◌&&◌ and_comm and_assoc (λ a. survives a s) p)

  -- of any steps that are the same in any order of plain arguments
  pub rescaling_permuted : {A : Type 0} (back : A → Float → A) (steps : Float → Float → Float → A)
      → ((t u : Triple) → Permuted t u → Each Plain t → at steps t ≡ at steps u)
      → T (not (at below3 t)) → at (rescaling3 back steps) t ≡ at (rescaling3 back steps) u
  unfolding rescaling3
  rescaling_permuted back steps each h =
      let s = at scale_of3 t in
      let over = mapped (λ a. a ⊘ s) in
      choose ◌≡◌ (rescales3 t.x t.y t.z s) (rescales3 u.x u.y u.z s) (rescales_permuted s)
      (λ b. ap (λ a. back a s) (each (over t) (over u) (mapped_permuted (λ a. a ⊘ s) p)
      (scaled s e h (and_l (beyond_limits s) (survive3 t.x t.y t.z s) b))))
      (λ b. each t u p e)
      ∙ ap (λ s. cond (rescales3 u.x u.y u.z s) (back (steps (u.x ⊘ s) (u.y ⊘ s) (u.z ⊘ s)) s) (at steps u))
      scale_permuted
