-- Units drop out of RF: every argument in range before and after all are multiplied by 4 ^ k, both calls refuse alike, or they
-- have one round count and the second value is the first times 2 ^ -k.
use Rattle.std.specs.Prelude.{◌≡◌, ℕ, ◌+◌, ◌*◌, not, ◌&&◌, cond, T, Float}
use Rattle.std.proofs.Common.{sym, subst, arith, Err}
use Rattle.std.proofs.Math.Path.{subst₂}
use Rattle.std.specs.Float.{binary64}
use Rattle.std.specs.Float.Ieee.{eq}
use Rattle.refusals.specs.declared.Refusal.TheVariants.{BelowZero, NanGiven, NoResult, Zeros}
use Rattle.binary64.specs.Leaves.{absolute}
use Rattle.scaling.specs.Kind.{mul_k, mul_ok, div_k, div_ok, within}
use Rattle.scaling.specs.Two.{Two}
use Rattle.scaling.proofs.Two.{mul_two, div_two}
use Rattle.scaling.specs.One.{lit_ok}
use Rattle.scaling.proofs.One.{lit_two, widen_two}
use Rattle.scaling.proofs.Tests.{eq_two, zero_two}
use Rattle.scaling.specs.Root.{root_k, root_ok}
use Rattle.scaling.proofs.Root.{root_two}
use Rattle.scaling.proofs.Pick.{choose}
use Rattle.carlson.specs.Constants.{zero, one, two, pi}
use Rattle.carlson.specs.Answer.{infinite_at, settled}
use Rattle.carlson_arguments.specs.Checks.{any_infinite3, below3, zeros_of3}
use Rattle.carlson.specs.Answer.{Answer}
use Rattle.elliprc.specs.Rc.{over_root}
use Rattle.elliprf.specs.Rf.{rf_equal, rf_zero, rf_two, rf_general, rf_steps, rf_unchecked, rf}
use Rattle.units.specs.Statement.{InRange, TimesFour, Alike}
use Rattle.units.specs.Kinds.{argument_k, mean_k}
use Rattle.units.specs.Arguments.{Argument}
use Rattle.units.proofs.Arguments.{argument, above, other, distinct}
use Rattle.units.proofs.Checks.{numbers3, finite3, below3_two, above3, zeros3_two, zeros_apart}
use Rattle.units.specs.Limits.{Size, first_size, second_size, unscaled3}
use Rattle.units.specs.Runs.{Same, closed}
use Rattle.units.specs.Answers.{Pair, no}
use Rattle.units.proofs.Answers.{settled_same, alike_of, alike_back, onward, backward, either_way}
use Rattle.units_rf.specs.Rc.{result_k}
use Rattle.units_rf.proofs.Rc.{rc_same}
use Rattle.units_rf.proofs.Rounds.{duplication_same}
use Rattle.units_rf.proofs.Means.{agm_same}

-- no argument in range is rescaled
pub unscaled : (x y z : Float) → Size (absolute x) → Size (absolute y) → Size (absolute z) → rf_unchecked x y z ≡ rf_steps x y z
unfolding rf_unchecked
unscaled x y z a b c = unscaled3 over_root rf_steps x y z a b c

-- what follows the check for NaN
abbrev numbered : Float → Float → Float → Answer
numbered x y z =
    cond (below3 x y z) (Err BelowZero)
    (cond (zeros_of3 x y z) (Err Zeros)
    (cond (any_infinite3 x y z) infinite_at (settled (rf_unchecked x y z) NoResult)))

module _ {k : ℕ} where
  all_equal : {x x' : Float} → Two binary64 k mean_k x x' → Same k result_k (rf_equal x) (rf_equal x')
  unfolding rf_equal div_k div_ok root_k root_ok within lit_ok
  all_equal x = closed (widen_two (div_two (lit_two one tt) (root_two x tt) tt) tt)

  one_zero : {x x' : Float} → Two binary64 k mean_k x x' → Same k result_k (rf_zero x) (rf_zero x')
  unfolding rf_zero div_k div_ok mul_k mul_ok root_k root_ok within lit_ok
  one_zero x = closed (widen_two (div_two (lit_two pi tt) (mul_two (lit_two two tt) (root_two x tt) tt) tt) tt)

module _ {k : ℕ} where
  two_equal : {x y x' y' : Float} → Argument k x x' → Argument k y y' → T (not (eq y zero))
      → Same k result_k (rf_two x y) (rf_two x' y')
  unfolding rf_two
  two_equal X Y z = rc_same X Y z

  module _ {x y z x' y' z' : Float} (X : Argument k x x') (Y : Argument k y y') (Z : Argument k z z')
      (xy : T (not (eq x zero && eq y zero))) (xz : T (not (eq x zero && eq z zero))) (yz : T (not (eq y zero && eq z zero)))
    where
      general_same : Same k result_k (rf_general x y z) (rf_general x' y' z')
      unfolding rf_general
      general_same =
          choose (Same k result_k) (eq x zero) (eq x' zero) (zero_two X.two)
          (λ s. agm_same (above Z (other (eq x zero) (eq z zero) xz s)) (above Y (other (eq x zero) (eq y zero) xy s)))
          (λ s.
          choose (Same k result_k) (eq y zero) (eq y' zero) (zero_two Y.two)
          (λ t. agm_same (above X s) (above Z (other (eq y zero) (eq z zero) yz t)))
          (λ t.
          choose (Same k result_k) (eq z zero) (eq z' zero) (zero_two Z.two) (λ u. agm_same (above X s) (above Y t))
          (λ u. duplication_same (above X s) (above Y t) (above Z u))))

      -- two are equal and the third differs
      pair_same : {p q p' q' : Float} → Argument k p p' → Argument k q q' → T (not (eq q zero))
          → Same k result_k (cond (eq p zero) (rf_zero q) (rf_two p q)) (cond (eq p' zero) (rf_zero q') (rf_two p' q'))
      pair_same {p} {q} {p'} {q'} P Q n =
          choose (Same k result_k) (eq p zero) (eq p' zero) (zero_two P.two) (λ s. one_zero (above Q n)) (λ s. two_equal P Q n)

      pub steps_same : Same k result_k (rf_steps x y z) (rf_steps x' y' z')
      unfolding rf_steps
      steps_same =
          choose (Same k result_k) (eq x y) (eq x' y') (eq_two X.two Y.two tt)
          (λ p.
          let n = distinct X Y p xy in
          choose (Same k result_k) (eq x z) (eq x' z') (eq_two X.two Z.two tt) (λ q. all_equal (above X n))
          (λ q. pair_same Z X n))
          (λ p.
          choose (Same k result_k) (eq x z) (eq x' z') (eq_two X.two Z.two tt) (λ q. pair_same Y X (distinct X Z q xz))
          (λ q.
          choose (Same k result_k) (eq y z) (eq y' z') (eq_two Y.two Z.two tt) (λ r. pair_same X Y (distinct Y Z r yz))
          (λ r. general_same)))

  -- ---- RF as RG and RJ call it
  pub unchecked_same : {x y z x' y' z' : Float} → Argument k x x' → Argument k y y' → Argument k z z' → T (not (zeros_of3 x y z))
      → Same k result_k (rf_unchecked x y z) (rf_unchecked x' y' z')
  unchecked_same {x} {y} {z} {x'} {y'} {z'} X Y Z n =
      let h = zeros_apart (eq x zero) (eq y zero) (eq z zero) n in
      subst₂ (Same k result_k) (sym (unscaled x y z (first_size X.two) (first_size Y.two) (first_size Z.two)))
      (sym (unscaled x' y' z' (second_size X.two) (second_size Y.two) (second_size Z.two)))
      (steps_same X Y Z h.0 h.1 h.2)

  -- ---- the entry
  pub rf_pair : {x y z x' y' z' : Float} → Two binary64 k argument_k x x' → Two binary64 k argument_k y y'
      → Two binary64 k argument_k z z'
      → Pair k result_k (rf x y z) (rf x' y' z')
  unfolding rf
  rf_pair {x} {y} {z} {x'} {y'} {z'} X Y Z =
      subst₂ (λ a b. Pair k result_k (cond a (Err NanGiven) (numbered x y z)) (cond b (Err NanGiven) (numbered x' y' z')))
      (sym (numbers3 X.first Y.first Z.first)) (sym (numbers3 X.second Y.second Z.second))
      (choose (Pair k result_k) (below3 x y z) (below3 x' y' z') (below3_two X Y Z) (λ t. no)
      (λ t.
      let a = above3 X Y Z t in
      choose (Pair k result_k) (zeros_of3 x y z) (zeros_of3 x' y' z') (zeros3_two X Y Z) (λ n. no)
      (λ n.
      subst₂ (λ a b. Pair k result_k (cond a infinite_at (settled (rf_unchecked x y z) NoResult))
      (cond b infinite_at (settled (rf_unchecked x' y' z') NoResult)))
      (sym (finite3 X.first Y.first Z.first)) (sym (finite3 X.second Y.second Z.second))
      (settled_same NoResult (unchecked_same a.0 a.1 a.2 n)))))

upward : (k d : ℕ) (x y z x' y' z' : Float) → InRange x → InRange y → InRange z → InRange x' → InRange y' → InRange z'
    → TimesFour (k + d) d x x' → TimesFour (k + d) d y y' → TimesFour (k + d) d z z' → Alike d (k + d) (rf x y z) (rf x' y' z')
upward k d x y z x' y' z' X Y Z X' Y' Z' r s t =
    alike_of d (k + d) d (let e : d ≡ k * 0 + d = omega arith in e) (let e : k + d ≡ k * 1 + d = omega arith in e)
    (rf_pair (argument k d X X' r) (argument k d Y Y' s) (argument k d Z Z' t))

-- THE CLAIM FOR RF: its weight is 2 ^ -k
pub rf_scales : (u d : ℕ) (x y z x' y' z' : Float) → InRange x → InRange y → InRange z → InRange x' → InRange y' → InRange z'
    → TimesFour u d x x' → TimesFour u d y y' → TimesFour u d z z' → Alike d u (rf x y z) (rf x' y' z')
rf_scales u d x y z x' y' z' X Y Z X' Y' Z' r s t =
    either_way u d
    (λ k e.
    subst (λ i. Alike d i (rf x y z) (rf x' y' z')) (sym e)
    (upward k d x y z x' y' z' X Y Z X' Y' Z' (onward k d e r) (onward k d e s) (onward k d e t)))
    (λ k e.
    subst (λ i. Alike i u (rf x y z) (rf x' y' z')) (sym e)
    (alike_back (upward k u x' y' z' x y z X' Y' Z' X Y Z (backward k u e r) (backward k u e s) (backward k u e t))))
