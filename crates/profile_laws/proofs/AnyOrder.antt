-- The bench profile in any order (document 02, 2026-14): "any order of the sorted arguments gives the same answer", the whole of
-- it, value, count, road and rescalings, or refusal, at any bits, NaNs and -0 included. Each check is the same in any order, and
-- past them the arguments are plain, of which three can be sorted in one way only. Assumes nothing.
use Rattle.std.specs.Prelude.{ℕ, not, ◌&&◌, ◌||◌, T, Float}
use Rattle.std.proofs.Math.Path.{◌≡◌, refl, ap}
use Rattle.std.proofs.Common.{sym, ◌∙◌}
use Rattle.std.proofs.Math.Bool.{and_assoc, and_comm, or_comm}
use Rattle.std.specs.Float.{binary64}
use Rattle.std.specs.Float.Ieee.{is_nan, lt, le, eq}
use Rattle.std.specs.Float.Ieee.Bits.{of_bits-fits, is_false}
use Rattle.binary64.specs.Leaves.{minimum}
use Rattle.scaling.proofs.Kind.{nor_l, nor_r}
use Rattle.scaling.proofs.Pick.{choose}
use Rattle.carlson.specs.Constants.{zero}
use Rattle.carlson_arguments.specs.Checks.{any_nan3, below3, zeros_of3}
use Rattle.sorting.specs.declared.Triple.{Triple}
use Rattle.sorting.specs.Sorting.{three, Permuted, first_two}
use Rattle.sorting.specs.Permuted.{Each, mapped}
use Rattle.sorting.proofs.Permuted.{mapped_permuted, joined_permuted, two_permuted}
use Rattle.sorting.proofs.SortingLaws.{rising_only, first_two_only}
use Rattle.elliprf.specs.Rf as rf_entry
use Rattle.elliprd.specs.Rd as rd_entry
use Rattle.elliprj.specs.Rj.{rj_of_positive}
use Rattle.calls.specs.declared.Call.{Call}
use Rattle.calls.specs.declared.Call.TheVariants.{Rc, Rf, Rd, Rg, Rj, Cel}
use Rattle.answers.specs.Answers.{number}
use Rattle.rg_order.specs.Plain.{Plain}
use Rattle.rg_order.proofs.PlainLaws.{told_apart}
use Rattle.rg_order.specs.Seen.{at}
use Rattle.rg_order.proofs.Seen.{smaller_below, below3_permuted, nan_permuted}
use Rattle.rg_order.proofs.AnyOrder.{rg_any_order}
use Rattle.profile.specs.Profile.{rf_upward, rf_plain, rd_upward, rd_plain, rg_plain, rj_upward, rj_plain, profile_rf, profile_rd}
use Rattle.profile.specs.Profile.{profile_rg, profile_rj}
use Rattle.profile_arguments.specs.Arguments.{plus_zero, sized, sized2, sized3, sized4}
use Rattle.profile_answers.specs.ProfileAnswers.{profile_of}
use Rattle.profile_laws.specs.Statement.{Reordered, rc, rf, rd, rg, rj}
use Rattle.profile_laws.specs.Arguments.{F64, plus_zero_plain}

-- ---- the checks of three arguments, besides those of RG
zeros_permuted : {t u : Triple} → Permuted t u → at zeros_of3 t ≡ at zeros_of3 u
zeros_permuted p = two_permuted (λ a. eq a zero) p

sized_permuted : {t u : Triple} → Permuted t u → at sized3 t ≡ at sized3 u
unfolding sized3 sized2
sized_permuted p = joined_permuted ◌&&◌ and_comm and_assoc sized p

-- ---- past the check for NaN the arguments are plain
all_plain : (t : Triple) → Each F64 t → T (not (at any_nan3 (mapped plus_zero t))) → Each Plain (mapped plus_zero t)
all_plain t f h =
    let a = is_nan (plus_zero t.x) in
    let b = is_nan (plus_zero t.y) in
    let c = is_nan (plus_zero t.z) in
    record {
      x = plus_zero_plain t.x f.x (is_false a (nor_l a b (nor_l (a || b) c h)));
      y = plus_zero_plain t.y f.y (is_false b (nor_r a b (nor_l (a || b) c h)));
      z = plus_zero_plain t.z f.z (is_false c (nor_r (a || b) c h));
    }

-- ---- the entries
module _ (t u : Triple) (p : Permuted t u) (f : Each F64 t) where
  abbrev v : Triple
  v = mapped plus_zero t

  abbrev w : Triple
  w = mapped plus_zero u

  q : Permuted v w
  q = mapped_permuted plus_zero p

  rf_permuted : at profile_rf t ≡ at profile_rf u
  unfolding profile_rf rf_plain rf_upward
  rf_permuted =
      choose ◌≡◌ (at any_nan3 v) (at any_nan3 w) (nan_permuted q) (λ h. refl)
      (λ h. choose ◌≡◌ (at below3 v) (at below3 w) (below3_permuted q) (λ i. refl)
      (λ i. choose ◌≡◌ (at zeros_of3 v) (at zeros_of3 w) (zeros_permuted q) (λ j. refl)
      (λ j. choose ◌≡◌ (at sized3 v) (at sized3 w) (sized_permuted q)
      (λ k. ap (at rf_entry.rf) (rising_only told_apart q (all_plain t f h))) (λ k. refl))))

  rg_permuted : at profile_rg t ≡ at profile_rg u
  unfolding profile_rg rg_plain
  rg_permuted =
      choose ◌≡◌ (at below3 v) (at below3 w) (below3_permuted q) (λ h. refl)
      (λ h. choose ◌≡◌ (at any_nan3 v) (at any_nan3 w) (nan_permuted q) (λ i. refl)
      (λ i. choose ◌≡◌ (at sized3 v) (at sized3 w) (sized_permuted q)
      (λ j. let e = all_plain t f i in rg_any_order q e.x e.y e.z) (λ j. refl)))

  rj_permuted : (s : Float) → profile_rj t.x t.y t.z s ≡ profile_rj u.x u.y u.z s
  unfolding profile_rj rj_plain rj_upward sized4
  rj_permuted s =
      let r = plus_zero s in
      choose ◌≡◌ (at any_nan3 v || is_nan r) (at any_nan3 w || is_nan r) (ap (λ b. b || is_nan r) (nan_permuted q)) (λ h. refl)
      (λ h. choose ◌≡◌ (eq r zero) (eq r zero) refl (λ i. refl)
      (λ i. choose ◌≡◌ (at below3 v) (at below3 w) (below3_permuted q) (λ j. refl)
      (λ j. choose ◌≡◌ (at zeros_of3 v) (at zeros_of3 w) (zeros_permuted q) (λ k. refl)
      (λ k. choose ◌≡◌ (at sized3 v && sized r) (at sized3 w && sized r) (ap (λ b. b && sized r) (sized_permuted q))
      (λ l. ap (at (λ x y z. rj_of_positive x y z r)) (rising_only told_apart q
      (all_plain t f (nor_l (at any_nan3 v) (is_nan r) h)))) (λ l. refl)))))

-- x and y alone
rd_permuted : (x y z : Float) → Each F64 (three x y z) → profile_rd x y z ≡ profile_rd y x z
unfolding profile_rd rd_plain rd_upward
rd_permuted x y z f =
    let a = plus_zero x in
    let b = plus_zero y in
    let c = plus_zero z in
    choose ◌≡◌ (lt (minimum a b) zero) (lt (minimum b a) zero)
    (smaller_below a b zero ∙ or_comm (lt a zero) (lt b zero) ∙ sym (smaller_below b a zero)) (λ h. refl)
    (λ h. choose ◌≡◌ (eq a zero && eq b zero) (eq b zero && eq a zero) (and_comm (eq a zero) (eq b zero)) (λ i. refl)
    (λ i. choose ◌≡◌ (le c zero) (le c zero) refl (λ j. refl)
    (λ j. choose ◌≡◌ (any_nan3 a b c) (any_nan3 b a c) (nan_permuted first_two) (λ k. refl)
    (λ k. choose ◌≡◌ (sized3 a b c) (sized3 b a c) (sized_permuted first_two)
    (λ l. let e = all_plain (three x y z) f k in ap (at rd_entry.rd) (first_two_only c told_apart e.x e.y)) (λ l. refl)))))

-- ---- THE LAW, over calls
numbers : (x y z : ℕ) → Each F64 (three (number x) (number y) (number z))
numbers x y z = record { x = of_bits-fits binary64 x; y = of_bits-fits binary64 y; z = of_bits-fits binary64 z }

pub any_order : (c c' : Call) → Reordered c c' → profile_of c ≡ profile_of c'
unfolding profile_of
any_order (Rc x y) (Rc x' y') rc = refl
any_order (Rf x y z) (Rf x' y' z') (rf p) = rf_permuted _ _ p (numbers x y z)
any_order (Rd x y z) (Rd x' y' z') rd = rd_permuted (number x) (number y) (number z) (numbers x y z)
any_order (Rg x y z) (Rg x' y' z') (rg p) = rg_permuted _ _ p (numbers x y z)
any_order (Rj x y z s) (Rj x' y' z' s') (rj p) = rj_permuted _ _ p (numbers x y z) (number s)
any_order (Rc x y) c' h = elim h [ ]
any_order (Rf x y z) c' h = elim h [ ]
any_order (Rd x y z) c' h = elim h [ ]
any_order (Rg x y z) c' h = elim h [ ]
any_order (Rj x y z s) c' h = elim h [ ]
any_order (Cel kc p a b) c' h = elim h [ ]
