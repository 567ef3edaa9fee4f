-- A run over input that comes in parts, wherever it is cut. Assumes nothing.
use Prim.Native.Nat.{ℕ, suc, ◌+◌, ◌*◌, ◌≤◌, ◌<◌}
use Rattle.std.specs.Prelude.{◌≡◌, Bool, get_or, take, drop}
use Rattle.std.proofs.Math.Path.{refl, sym, ap}
use Rattle.std.proofs.Common.{subst, ◌∙◌, add_assoc, add-zero, mul-add, add-one, length-append, length-drop, take-append-drop, take-suc, take-take, take-add, length-take-le}
use Rattle.std.proofs.Math.Bool.{true, false, cond}
use mathlib.Core.List.{List, [], ◌∷◌, ◌++◌, append_assoc, append-nil}
use Rattle.std.proofs.Math.Nat.{zero-add, mul-suc}
use native.Mathlib.Omega.{arith}
use Rattle.std.proofs.Math.ListN.{length}
use Rattle.writing.specs.Fed.{Ran, quiet, and_ran, Fed, run}
use Rattle.writing.specs.Written.{put_more, put_none}

module _ {S : Type 0} where
  pub quiet_and : (s : S) (p : Ran S) → and_ran (quiet s) p ≡ p
  unfolding and_ran
  quiet_and s p = rw zero-add

  pub and_quiet : (p : Ran S) → and_ran p (quiet p.left) ≡ p
  unfolding and_ran
  and_quiet p = rw (append-nil, add-zero)

  pub and_assoc : (p q r : Ran S) → and_ran (and_ran p q) r ≡ and_ran p (and_ran q r)
  unfolding and_ran
  and_assoc p q r = rw (append_assoc, add_assoc)

module _ {S A : Type 0} (step : S → A → Ran S) (over : S → Bool) where
  abbrev ran : S → List A → Ran S
  ran = run step over

  -- a state that is over takes nothing more
  pub run_over : (xs : List A) (s : S) → over s ≡ true → run step over s xs ≡ quiet s
  unfolding run
  run_over [] s e = refl
  run_over (x ∷ xs) s e = rw e

  pub run_one : (s : S) (x : A) → over s ≡ false → run step over s (x ∷ []) ≡ step s x
  unfolding run
  run_one s x e = rw e (and_quiet (step s x))

  -- THE LAW: what comes of two parts is what comes of the first, and then of the second from where the first left off
  pub run_more : (xs : List A) (s : S) (ys : List A)
      → run step over s (xs ++ ys) ≡ and_ran (run step over s xs) (run step over (run step over s xs).left ys)
  unfolding run and_ran
  run_more [] s ys = sym (quiet_and s (ran s ys))
  run_more (x ∷ xs) s ys = go (over s) refl (run_more xs (step s x).left ys)
    where
      go :
          (t : Bool) → over s ≡ t
          → (let q : Ran S = ran (step s x).left xs in
          let p : Ran S = cond t (quiet s) (and_ran (step s x) q) in
          ran (step s x).left (xs ++ ys) ≡ and_ran q (ran q.left ys)
          → cond t (quiet s) (and_ran (step s x) (ran (step s x).left (xs ++ ys))) ≡ and_ran p (ran p.left ys))
      go true e f = sym (ap (and_ran (quiet s)) (run_over ys s e) ∙ quiet_and s (quiet s))
      go false e f =
          let q : Ran S = ran (step s x).left xs in
          ap (and_ran (step s x)) f ∙ sym (and_assoc (step s x) q (ran q.left ys))

-- ---- what was fed
module _ {S : Type 0} where
  pub fed_quiet : (s : S) (before : List ℕ) (at : ℕ) → Fed (quiet s) s before at before at 0
  fed_quiet s before at = record { left = refl; said = put_none before at; counted = refl }

  pub fed_and :
      {p q : Ran S} {s t : S} {before half out : List ℕ} {at h next c d : ℕ} → Fed p s before at half h c
      → Fed q t half h out next d
      → Fed (and_ran p q) t before at out next (c + d)
  unfolding and_ran
  fed_and f g = record { left = g.left; said = put_more f.said g.said; counted = rw (f.counted, g.counted) }

module _ {S A : Type 0} (step : S → A → Ran S) (over : S → Bool) (r : S) (xs ys : List A) where
  -- a part after a part
  pub fed_more :
      {s t : S} {before half out : List ℕ} {at h next c d : ℕ} → Fed (run step over r xs) s before at half h c
      → Fed (run step over s ys) t half h out next d
      → Fed (run step over r (xs ++ ys)) t before at out next (c + d)
  fed_more f g = rw (run_more step over xs r ys) (fed_and f (rw f.left at g))

  -- once it is over, whatever comes
  pub fed_stop :
      {s : S} {before out : List ℕ} {at next c : ℕ} → Fed (run step over r xs) s before at out next c → over s ≡ true
      → Fed (run step over r (xs ++ ys)) s before at out next c
  fed_stop {s} {before} {out} {at} {next} {c} f e =
      subst (λ (n : ℕ). Fed (run step over r (xs ++ ys)) s before at out next n) (add-zero c)
      (fed_more f (rw (run_over step over ys s e) (fed_quiet s out next)))

-- ---- the bytes of a block one after the other, where what comes of each has some room and counts for so much at most
module _ {S : Type 0} where
  abbrev pub Short : ℕ → ℕ → Ran S → Type 0
  Short room most p = (length p.said ≤ room) × (p.count ≤ most)

  pub run_short :
      (step : S → ℕ → Ran S) (over : S → Bool) (room most : ℕ) → ((s : S) (b : ℕ) → Short room most (step s b)) → (xs : List ℕ)
      (s : S) → Short (room * length xs) (most * length xs) (run step over s xs)
  unfolding run and_ran
  run_short step over room most short [] s = (omega arith, omega arith)
  run_short step over room most short (x ∷ xs) s =
      go (over s) (short s x) (run_short step over room most short xs (step s x).left)
    where
      go :
          (t : Bool) → Short room most (step s x)
          → (let q : Ran S = run step over (step s x).left xs in
          Short (room * length xs) (most * length xs) q
          → Short (room * suc (length xs)) (most * suc (length xs)) (cond t (quiet s) (and_ran (step s x) q)))
      go true h k = (omega arith, omega arith)
      go false h k =
          (rw (length-append, mul-suc) (omega (arith, h.0, k.0)), rw mul-suc (omega (arith, h.1, k.1)))

  module _ (step : S → ℕ → Ran S) (over : S → Bool) (room most : ℕ) (block : List ℕ) (s₀ : S) (out₀ : List ℕ) where
    -- the invariant of a loop in code: the first i bytes were fed
    pub record Upto (i : ℕ) (s : S) (out : List ℕ) (used count : ℕ) : Type 0 where
      pub fed : Fed (run step over s₀ (take i block)) s out₀ 0 out used count
      pub used_most : used ≤ room * i
      pub count_most : count ≤ most * i

module _ {S : Type 0} {step : S → ℕ → Ran S} {over : S → Bool} {room most : ℕ} {block : List ℕ} {s₀ : S} {out₀ : List ℕ} where
  pub upto_none : Upto step over room most block s₀ out₀ 0 s₀ out₀ 0 0
  unfolding run
  upto_none = record { fed = fed_quiet s₀ out₀ 0; used_most = omega arith; count_most = omega arith }

  module _ {i : ℕ} {s : S} {out : List ℕ} {used count : ℕ} (u : Upto step over room most block s₀ out₀ i s out used count) where
    more :
        (ys : List ℕ) {t : S} {after : List ℕ} {next d : ℕ} → take (i + length ys) block ≡ take i block ++ ys
        → ((s : S) (b : ℕ) → Short room most (step s b)) → Fed (run step over s ys) t out used after next d
        → Upto step over room most block s₀ out₀ (i + length ys) t after next (count + d)
    more ys e short f =
        let k = run_short step over room most short ys s in
        record {
          fed = rw e (fed_more step over s₀ (take i block) ys u.fed f);
          used_most = rw mul-add (omega (arith, u.used_most, f.said.place, k.0));
          count_most = rw mul-add (omega (arith, u.count_most, f.counted, k.1));
        }

    -- one byte more
    pub upto_byte :
        {t : S} {after : List ℕ} {next d : ℕ} → i < length block → over s ≡ false
        → ((s : S) (b : ℕ) → Short room most (step s b)) → Fed (step s (get_or block i 0)) t out used after next d
        → Upto step over room most block s₀ out₀ (i + 1) t after next (count + d)
    upto_byte h e short f =
        more (get_or block i 0 ∷ []) (rw add-one (take-suc block i 0 h)) short (rw (run_one step over s (get_or block i 0) e) f)

    -- k bytes more
    pub upto_part :
        (k : ℕ) {t : S} {after : List ℕ} {next d : ℕ} → i + k ≤ length block → ((s : S) (b : ℕ) → Short room most (step s b))
        → Fed (run step over s (take k (drop i block))) t out used after next d
        → Upto step over room most block s₀ out₀ (i + k) t after next (count + d)
    upto_part k h short f =
        let size : length (take k (drop i block)) ≡ k = length-take-le k (drop i block) (rw length-drop (omega arith)) in
        rw size at (more (take k (drop i block)) (rw size (take-add i k block)) short f)

    -- all of them
    pub upto_all : (size : ℕ) → i ≤ size → size ≤ i → Fed (run step over s₀ (take size block)) s out₀ 0 out used count
    upto_all size h k = let e : i ≡ size = omega arith in rw e at u.fed

    -- over before that
    pub upto_stop : (size : ℕ) → i ≤ size → over s ≡ true → Fed (run step over s₀ (take size block)) s out₀ 0 out used count
    upto_stop size h e =
        let rest : List ℕ = drop i (take size block) in
        let split : take i block ++ rest ≡ take size block =
        ap (λ (l : List ℕ). l ++ rest) (sym (take-take i size block h)) ∙ take-append-drop i (take size block) in
        subst (λ (l : List ℕ). Fed (run step over s₀ l) s out₀ 0 out used count) split
        (fed_stop step over s₀ (take i block) rest u.fed e)
