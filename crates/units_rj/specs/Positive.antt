-- RJ for p above zero in two runs: the special cases, and which road is taken. Assumes nothing.
use Rattle.std.specs.Prelude.{◌≡◌, ℕ, ◌^◌, true, false, not, ◌&&◌, eqb, Float, Ok}
use Rattle.std.proofs.Common.{sym, ap₂, ◌∙◌, subst, T_not, eqb→eq}
use Rattle.std.proofs.Math.Path.{ap}
use Rattle.std.proofs.Math.Logic.{inl, inr}
use Rattle.std.proofs.Math.Bool.{Bool}
use Rattle.std.proofs.Math.Dec.{T, not_T}
use Rattle.std.specs.Float.Ieee.Fits.{and_i, and_l, eq→eqb}
use Rattle.std.specs.Float.Ieee.{nan, binary64, le, eq, level, of_bits}
use Rattle.binary64.specs.Leaves.{maximum}
use Rattle.binary64.specs.Operators.{◌⊖◌, ◌⊗◌, ◌⊘◌, bits}
use Rattle.root.specs.Root.{root}
use Rattle.carlson.specs.Constants.{zero, one, three}
use Rattle.carlson.specs.Answer.{both_ways}
use Rattle.carlson.specs.Answer.{Answer}
use Rattle.elliprc.specs.Rc.{rc_unchecked}
use Rattle.rj_positive.specs.Duplicate.{rj_duplication}
use Rattle.rj_positive.specs.Positive.{well_apart, rj_all, rj_three, rj_two, rj_last, rj_pair, rj_cases, rj_positive}
use Rattle.scaling.specs.Kind.{Kind, last, mul_k, mul_ok, div_k, div_ok, sum_k, sum_ok, within}
use Rattle.scaling.specs.Units.{eq_units}
use Rattle.scaling.specs.Two.{Two}
use Rattle.scaling.proofs.Two.{mul_two, div_two, lt_two}
use Rattle.scaling.proofs.Tests.{eq_two, le_two}
use Rattle.scaling.specs.One.{lit_ok}
use Rattle.scaling.proofs.One.{sub_two}
use Rattle.scaling.proofs.One.{lit_two, widen_two}
use Rattle.scaling.proofs.Pick.{choose, smaller_two, larger_two}
use Rattle.scaling.specs.Root.{root_k, root_ok}
use Rattle.scaling.proofs.Root.{root_two}
use Rattle.scaling.specs.Distinct.{distinct_k}
use Rattle.scaling.proofs.Distinct.{distinct_two}
use Rattle.scaling.specs.Nan.{nan_sub, sub_nan, mul_nan, nan_div}
use Rattle.units.specs.Arguments.{Argument}
use Rattle.units.proofs.Arguments.{above, distinct}
use Rattle.units.specs.Runs.{Fair, closed, carried, same_way}
use Rattle.units.specs.Ran.{Ran, refusal, result, wider_same}
use Rattle.units_rf.specs.Rc.{result_k}
use Rattle.units_rf.proofs.Rc.{rc_same, unchecked_fair}
use Rattle.units_rd.specs.Mean.{arg_k}
use Rattle.units_rd.specs.Means.{agm_k}
use Rattle.units_rd.proofs.Steps.{arg_of, arg_some, equal_zero}
use Rattle.units_rd.proofs.Rd.{unchecked_ran}
use Rattle.units_rj.specs.Start.{at_most_one}
use Rattle.units_rj.specs.Loop.{duplication_two}

-- ---- the value's kind, on every road
abbrev pub rj_k : Kind
rj_k = record { any = true; zer = true; lo = 2 ^ 500; hi = 2 ^ 1500; g = 400; u = 0; d = 3 }

wider : {k : ℕ} {r s : Answer} → Ran k agm_k r s → Ran k rj_k r s
unfolding within
wider refusal = refusal
wider (result s) = result (wider_same s tt)

-- ---- closed forms
module _ {k : ℕ} {x x' : Float} (X : Two binary64 k arg_k x x') where
  all_two : Ran k rj_k (rj_all x) (rj_all x')
  unfolding rj_all mul_k mul_ok div_k div_ok root_k root_ok within lit_ok of_bits
  all_two = result (closed (widen_two (div_two (lit_two one tt) (mul_two X (root_two X tt) tt) tt) tt))

  module _ {p p' : Float} (P : Two binary64 k arg_k p p') where
    abbrev one_k : Kind
    one_k = record { any = false; zer = false; lo = 2 ^ 1000; hi = 2 ^ 1150; g = last binary64 (2 ^ 1000); u = 0; d = 1 }

    over_root_lem : Two binary64 k one_k (one ⊘ root x) (one ⊘ root x')
    unfolding div_k div_ok root_k root_ok within lit_ok of_bits
    over_root_lem = widen_two (div_two (lit_two one tt) (root_two X tt) tt) tt

    three_fair : (v v' : Float) → T (not (eq x p)) → Fair k result_k v v'
        → Fair k rj_k (three ⊘ (x ⊖ p) ⊗ (v ⊖ one ⊘ root x)) (three ⊘ (x' ⊖ p') ⊗ (v' ⊖ one ⊘ root x'))
    unfolding mul_k mul_ok div_k div_ok sum_k sum_ok distinct_k within lit_ok of_bits
    three_fair v v' n (inl e) = inl (gone v e.0 _ _, gone v' e.1 _ _)
      where
        gone : (v : Float) → v ≡ nan → (u w : Float) → u ⊗ (v ⊖ w) ≡ nan
        gone v e u w = ap (λ a. u ⊗ (a ⊖ w)) e ∙ ap (λ a. u ⊗ a) (nan_sub binary64 w) ∙ mul_nan binary64 u
    three_fair v v' n (inr R) = inr (widen_two (mul_two (div_two (lit_two three tt) (distinct_two X P n tt tt tt) tt)
        (sub_two R over_root_lem tt) tt) tt)

two_fair : {k : ℕ} {y y' p p' : Float} (u u' v v' : Float) (Y : Two binary64 k arg_k y y') (P : Two binary64 k arg_k p p')
    → T (not (eq p y))
    → Fair k result_k u u' → Fair k result_k v v'
    → Fair k rj_k (three ⊗ (u ⊖ v) ⊘ (p ⊖ y)) (three ⊗ (u' ⊖ v') ⊘ (p' ⊖ y'))
unfolding mul_k mul_ok div_k div_ok sum_k sum_ok distinct_k within lit_ok of_bits
two_fair {y = y} {y'} {p} {p'} u u' v v' Y P n (inl e) b = inl (gone u e.0 v (p ⊖ y), gone u' e.1 v' (p' ⊖ y'))
  where
    gone : (u : Float) → u ≡ nan → (v w : Float) → three ⊗ (u ⊖ v) ⊘ w ≡ nan
    gone u e v w = ap (λ a. three ⊗ (a ⊖ v) ⊘ w) e ∙ ap (λ a. three ⊗ a ⊘ w) (nan_sub binary64 v)
        ∙ ap (λ a. a ⊘ w) (mul_nan binary64 three)
        ∙ nan_div binary64 w
two_fair {y = y} {y'} {p} {p'} u u' v v' Y P n (inr a) (inl e) = inl (gone v e.0 u (p ⊖ y), gone v' e.1 u' (p' ⊖ y'))
  where
    gone : (v : Float) → v ≡ nan → (u w : Float) → three ⊗ (u ⊖ v) ⊘ w ≡ nan
    gone v e u w = ap (λ a. three ⊗ (u ⊖ a) ⊘ w) e ∙ ap (λ a. three ⊗ a ⊘ w) (sub_nan binary64 u)
        ∙ ap (λ a. a ⊘ w) (mul_nan binary64 three)
        ∙ nan_div binary64 w
two_fair u u' v v' Y P n (inr a) (inr b) = inr (widen_two
    (div_two (mul_two (lit_two three tt) (sub_two a b tt) tt) (distinct_two P Y n tt tt tt) tt) tt)

-- ---- the test of the larger over the smaller
abbrev quotient_k : Kind
quotient_k = record { any = false; zer = false; lo = 2 ^ 940; hi = 2 ^ 1210; g = last binary64 (2 ^ 940); u = 0; d = 0 }

apart_test : {k : ℕ} {p p' x x' : Float} → Two binary64 k arg_k p p' → Two binary64 k arg_k x x' → well_apart p x ≡ well_apart p' x'
unfolding well_apart div_k div_ok within lit_ok of_bits
apart_test P X = lt_two (lit_two (bits 0x3FF3_3333_3333_3333) tt)
    (widen_two {B = quotient_k} (div_two (larger_two P X tt) (smaller_two P X tt) tt) tt) tt

-- equal either way round
other_way : {k : ℕ} {u u' v v' : Float} → Two binary64 k arg_k u u' → Two binary64 k arg_k v v' → T (not (eq u v))
    → T (not (eq v u))
other_way {u = u} {v = v} a b h =
    not_T (eq v u)
    (λ t.
    let A : a.s ≡ false = a.in_first.sign tt in
    let B : b.s ≡ false = b.in_first.sign tt in
    let e = eqb→eq b.m a.m (and_l (eqb b.m a.m) true
    (subst T (eq_units b.first a.first ∙ ap₂ (λ s t. level s b.m t a.m) B A) t)) in
    T_not (eq u v) h (subst T (sym (eq_units a.first b.first ∙ ap₂ (λ s t. level s a.m t b.m) A B))
    (and_i (eqb a.m b.m) true (eq→eqb (sym e)) tt)))

-- ---- which road
at_most_one_lem : (a b c : Bool) → T (not (a && b)) → T (not (a && c)) → T (not (b && c)) → T (at_most_one (not a) (not b) (not c))
at_most_one_lem true true c h i j = absurd h
at_most_one_lem true false true h i j = absurd i
at_most_one_lem true false false h i j = tt
at_most_one_lem false true true h i j = absurd j
at_most_one_lem false true false h i j = tt
at_most_one_lem false false c h i j = tt

turned : (a b : Bool) → T (not (a && b)) → T (not (b && a))
turned true true t = t
turned true false t = tt
turned false true t = tt
turned false false t = tt

module _ {k : ℕ} {p p' : Float} (P : Argument k p p') (P⁺ : T (not (eq p zero))) where
  abbrev Q : Two binary64 k arg_k p p'
  Q = above P P⁺

  -- an argument equal to p is above zero
  like_p : {x x' : Float} → Argument k x x' → T (eq x p) → T (not (eq x zero))
  like_p {x} X e = not_T (eq x zero) (λ z. T_not (eq p zero) P⁺ (equal_zero X.two.first P.two.first e z))

  module _ {x x' y y' z z' : Float} (X : Argument k x x') (Y : Argument k y y') (Z : Argument k z z')
      (xy : T (not (eq x zero && eq y zero)))
      (xz : T (not (eq x zero && eq z zero))) (yz : T (not (eq y zero && eq z zero))) where
    duplicated : Ran k rj_k (Ok (rj_duplication x y z p)) (Ok (rj_duplication x' y' z' p'))
    unfolding within
    duplicated =
        let a = arg_of X.two X.plus in
        let b = arg_of Y.two Y.plus in
        let c = arg_of Z.two Z.plus in
        let e = ap₃ at_most_one (arg_some X.two X.plus) (arg_some Y.two Y.plus) (arg_some Z.two Z.plus) in
        result (wider_same (duplication_two a b c Q (subst T (sym e)
        (at_most_one_lem (eq x zero) (eq y zero) (eq z zero) xy xz yz))) tt)
      where
        ap₃ : (f : Bool → Bool → Bool → Bool) {a a' b b' c c' : Bool} → a ≡ a' → b ≡ b' → c ≡ c' → f a b c ≡ f a' b' c'
        ap₃ f {a' = a'} {b = b} {b' = b'} {c = c} h i j = ap (λ v. f v b c) h ∙ ap (λ v. f a' v c) i ∙ ap (λ v. f a' b' v) j

    last_two : Ran k rj_k (rj_last x y z p) (rj_last x' y' z' p')
    unfolding rj_last
    last_two =
        choose (Ran k rj_k) (eq z p) (eq z' p') (eq_two Z.two P.two tt)
        (λ e. wider (unchecked_ran X.two Y.two Z.two X.plus Y.plus xy Z.plus (like_p Z e))) (λ e. duplicated)

    -- y = z
    pair_two : T (eq y z) → Ran k rj_k (rj_pair x y z p) (rj_pair x' y' z' p')
    unfolding rj_pair rj_two
    pair_two e =
        let y⁺ = distinct Y Z e yz in
        let Y⁺ = above Y y⁺ in
        choose (Ran k rj_k) (eq y p) (eq y' p') (eq_two Y.two P.two tt)
        (λ f. wider (unchecked_ran X.two Y.two Y.two X.plus Y.plus xy Y.plus y⁺))
        (λ f. choose (Ran k rj_k) (well_apart p y) (well_apart p' y') (apart_test Q Y⁺)
        (λ g. choose (Ran k rj_k) (le x (maximum y p)) (le x' (maximum y' p')) (le_two X.two (larger_two Y⁺ Q tt) tt)
        (λ h. result (carried (ap₂ both_ways (same_way (rc_same X Y y⁺)) (same_way (rc_same X P P⁺)))
        (two_fair (rc_unchecked x y).value (rc_unchecked x' y').value (rc_unchecked x p).value (rc_unchecked x' p').value Y⁺ Q
        (other_way Y⁺ Q f)
        (unchecked_fair X Y y⁺) (unchecked_fair X P P⁺))))
        (λ h. last_two)) (λ g. last_two))

    cases_two : Ran k rj_k (rj_cases x y z p) (rj_cases x' y' z' p')
    unfolding rj_cases
    cases_two = choose (Ran k rj_k) (eq y z) (eq y' z') (eq_two Y.two Z.two tt) pair_two (λ e. last_two)

  pub positive_two : {x x' y y' z z' : Float} (X : Argument k x x') (Y : Argument k y y') (Z : Argument k z z')
      → T (not (eq x zero && eq y zero))
      → T (not (eq x zero && eq z zero)) → T (not (eq y zero && eq z zero))
      → Ran k rj_k (rj_positive x y z p) (rj_positive x' y' z' p')
  unfolding rj_positive rj_three
  positive_two {x} {x'} {y} {y'} {z} {z'} X Y Z xy xz yz =
      choose (Ran k rj_k) (eq x y) (eq x' y') (eq_two X.two Y.two tt)
      (λ e.
      let x⁺ = distinct X Y e xy in
      let X⁺ = above X x⁺ in
      choose (Ran k rj_k) (eq x z) (eq x' z') (eq_two X.two Z.two tt)
      (λ f. choose (Ran k rj_k) (eq x p) (eq x' p') (eq_two X.two P.two tt) (λ g. all_two X⁺)
      (λ g. choose (Ran k rj_k) (well_apart p x) (well_apart p' x') (apart_test Q X⁺)
      (λ h. result (carried (same_way (rc_same X P P⁺)) (three_fair X⁺ Q _ _ g (unchecked_fair X P P⁺))))
      (λ h. cases_two X Y Z xy xz yz)))
      (λ f. cases_two Z Y X (turned (eq y zero) (eq z zero) yz) (turned (eq x zero) (eq z zero) xz)
      (turned (eq x zero) (eq y zero) xy)))
      (λ e. cases_two X Y Z xy xz yz)
