-- A job that is written is read back, whatever follows it, and what is read is how that job is written. Assumes nothing.
use Rattle.refusals.specs.declared.Refusal.{Refusal}
use Rattle.refusals.specs.declared.Refusal.TheVariants.{UnknownFunction}
use Rattle.std.specs.Prelude.{Some, None, Result, Ok, Err}
use Rattle.std.specs.Prelude.{ℕ, ◌+◌, ◌^◌, ◌≤◌, ◌<◌, Bool}
use Rattle.std.proofs.Math.Path.{◌≡◌, refl, ap, subst}
use Rattle.std.proofs.Common.{sym, ◌∙◌, add-zero, lit<, drop-drop}
use Rattle.std.proofs.Math.Bool.{true, false, cond}
use mathlib.Core.List.{List, [], ◌++◌, append_assoc}
use native.Mathlib.Omega.{arith}
use borrow.Author.Tests.{eqb-true, eqb-false, ltb-true, ltb-false, lt-ltb, ne_eqb}
use Rattle.std.proofs.Math.Dec.{eqb, ltb}
use Rattle.std.proofs.Math.ListN.{length, drop, length-append, length-drop}
use Rattle.std.proofs.Math.Seq.{drop-append_seam}
use Rattle.packed_number.specs.Numbers.{whole, number_bytes, number_at}
use Rattle.packed.specs.Jobs.{arity_of, argument_of, with_argument, argument_bytes, job_bytes, job_length}
use Rattle.packed.specs.Reading.{begun, function_read, argument_read, argument_at, argument_after, job_at, found, read_at}
use Rattle.packed.specs.LengthLaws.{number_least, job_length_sum}
use Rattle.packed_number.specs.NumberLaws.{Bytes, Stands}
use Rattle.packed_number.proofs.NumberLaws.{number_at_back, number_at_bytes}
use Rattle.packed_number.specs.declared.Number.{Number}
use Rattle.packed.specs.declared.jobs.Job.{Job}
use Rattle.packed.specs.declared.read.Got.{Got}

-- a job of a known function: words of 64 bits, and 0 where the function has no argument
pub record Proper (j : Job) : Type 0 where
  pub known : arity_of j.function ≡ 0 → ⊥
  pub function_fits : j.function < 2 ^ 64
  pub fits : (k : ℕ) → argument_of j k < 2 ^ 64
  pub unused : (k : ℕ) → k < 4 → arity_of j.function ≤ k → argument_of j k ≡ 0

abbrev pub gotten : Job → ℕ → Got
gotten j next = record { job = j; next = next }

-- ---- what is written is read back
pub after : (l : List ℕ) (at : ℕ) (t r : List ℕ) → drop at l ≡ t ++ r → drop (at + length t) l ≡ r
after l at t r e = sym (drop-drop (length t) at l) ∙ ap (λ (m : List ℕ). drop (length t) m) e ∙ drop-append_seam t r

module _ (l : List ℕ) (j : Job) (proper : Proper j) where
  function_back : (at : ℕ) (rest : List ℕ) → drop at l ≡ number_bytes j.function ++ rest
      → function_read (number_at l at) ≡ Ok (begun j.function (at + length (number_bytes j.function)))
  unfolding function_read
  function_back at rest e =
      rw (number_at_back l at j.function rest proper.function_fits e, ne_eqb (arity_of j.function) 0 proper.known)

  argument_back : (p : Job) (k at : ℕ) (rest : List ℕ) → k < 4 → p.function ≡ j.function → with_argument p k 0 ≡ p
      → drop at l ≡ argument_bytes j k ++ rest
      → argument_at l (gotten p at) k ≡ Ok (gotten (with_argument p k (argument_of j k)) (at + length (argument_bytes j k)))
  unfolding argument_at argument_bytes argument_read
  argument_back p k at rest i f z e =
      ap (λ (m : ℕ). cond (ltb k (arity_of m)) (argument_read p k (number_at l at)) (Ok (gotten p at))) f
      ∙ go (ltb k (arity_of j.function)) refl e
    where
      go :
          (t : Bool) → ltb k (arity_of j.function) ≡ t → drop at l ≡ cond t (number_bytes (argument_of j k)) [] ++ rest
          → cond t (argument_read p k (number_at l at)) (Ok (gotten p at))
          ≡ Ok (gotten (with_argument p k (argument_of j k)) (at + length (cond t (number_bytes (argument_of j k)) [])))
      go true t e = rw (number_at_back l at (argument_of j k) rest (proper.fits k) e)
      go false t e =
          rw (proper.unused k i (ltb-false k (arity_of j.function) t), z, add-zero)

  -- the job with its first arguments filled in
  abbrev none : Job
  none = record { function = j.function; a = 0; b = 0; c = 0; d = 0 }

  abbrev one : Job
  one = record { function = j.function; a = j.a; b = 0; c = 0; d = 0 }

  abbrev two : Job
  two = record { function = j.function; a = j.a; b = j.b; c = 0; d = 0 }

  abbrev three : Job
  three = record { function = j.function; a = j.a; b = j.b; c = j.c; d = 0 }

  pub job_back : (at : ℕ) (rest : List ℕ) → drop at l ≡ job_bytes j ++ rest → job_at l at ≡ Ok (gotten j (at + job_length j))
  unfolding job_at job_bytes argument_after begun with_argument argument_of
  job_back at rest e =
      let f = number_bytes j.function in
      let p = argument_bytes j 0 in
      let q = argument_bytes j 1 in
      let r = argument_bytes j 2 in
      let s = argument_bytes j 3 in
      let n : at + length f + length p + length q + length r + length s ≡ at + job_length j = omega (arith, job_length_sum j) in
      let e0 : drop at l ≡ f ++ (p ++ (q ++ (r ++ (s ++ rest)))) = e ∙ simp append_assoc in
      let e1 = after l at f _ e0 in
      let e2 = after l _ p _ e1 in
      let e3 = after l _ q _ e2 in
      let e4 = after l _ r _ e3 in
      rw (
        function_back at _ e0,
        argument_back none 0 _ _ (lit< tt) refl refl e1,
        argument_back one 1 _ _ (lit< tt) refl refl e2,
        argument_back two 2 _ _ (lit< tt) refl refl e3,
        argument_back three 3 _ _ (lit< tt) refl refl e4,
        n,
      )

  pub read_back : (at : ℕ) (rest : List ℕ) → drop at l ≡ job_bytes j ++ rest
      → read_at l at ≡ Ok (Some (gotten j (at + job_length j)))
  unfolding read_at found job_length
  read_back at rest e = rw (lt-ltb at (length l) inside) (ap found (job_back at rest e))
    where
      inside : at < length l
      inside =
          omega (
            arith,
            length-drop at l,
            ap length e,
            length-append (job_bytes j) rest,
            job_length_sum j,
            number_least j.function,
          )

-- ---- what is read is how it is written
-- one argument more, at k: its value, the place after it, and its bytes where the function has one
record Step (l : List ℕ) (p : Job) (at k : ℕ) (h : Got) : Type 0 where
  v : ℕ
  next : ℕ
  fits : v < 2 ^ 64
  unused : arity_of p.function ≤ k → v ≡ 0
  is : h ≡ gotten (with_argument p k v) next
  stands : Stands l at (cond (ltb k (arity_of p.function)) (number_bytes v) []) next

refused : (n : Refusal) (g : Got) {P : Type 0} → Err n ≡ Ok g → P
refused n g e = let z : ◌≡◌ {A = ℕ} 0 1 = cc in absurd (omega arith)

argument_is : (l : List ℕ) (p : Job) (at k : ℕ) (h : Got) → Bytes l → with_argument p k 0 ≡ p
    → argument_at l (gotten p at) k ≡ Ok h → Step l p at k h
unfolding argument_at argument_read
argument_is l p at k h b z e = go (ltb k (arity_of p.function)) (number_at l at) refl refl e
  where
    go :
        (t : Bool) (n : Result Number Refusal) → ltb k (arity_of p.function) ≡ t → number_at l at ≡ n
        → cond t (argument_read p k n) (Ok (gotten p at)) ≡ Ok h
        → Step l p at k h
    go true (Ok n) t f e =
        let v = n.value in
        let next = n.next in
        let r = number_at_bytes l at v next b f in
        let m = ltb-true k (arity_of p.function) t in
        let i : gotten (with_argument p k v) next ≡ h = cc in
        record { v = v; next = next; fits = r.0; unused = λ u. absurd (omega arith); is = sym i; stands = rw t r.1 }
    go true (Err n) t f e = refused n h e
    go false n t f e =
        let i : gotten p at ≡ h = cc in
        record {
          v = 0;
          next = at;
          fits = omega arith;
          unused = λ u. refl;
          is = sym i ∙ ap (λ (j : Job). gotten j at) (sym z);
          stands = rw t (record { bytes = refl; place = sym (add-zero at) });
        }

-- what was found at a place was read there
pub was_found : (r : Result Got Refusal) (got : Got) → found r ≡ Ok (Some got) → r ≡ Ok got
unfolding found
was_found (Ok g) got e = let z : g ≡ got = cc in ap (λ (x : Got). Ok x) z
was_found (Err r) got e = let z : ◌≡◌ {A = ℕ} 0 1 = cc in absurd (omega arith)

-- what was read before it
record From (l : List ℕ) (r : Result Got Refusal) (k : ℕ) (h : Got) : Type 0 where
  g : Got
  is : r ≡ Ok g
  then : argument_at l g k ≡ Ok h

from : (l : List ℕ) (r : Result Got Refusal) (k : ℕ) (h : Got) → argument_after l r k ≡ Ok h → From l r k h
unfolding argument_after
from l (Ok g) k h e = record { g = g; is = refl; then = e }
from l (Err n) k h e = refused n h e

stands_more : {l t u : List ℕ} {at mid next : ℕ} → Stands l at t mid → Stands l mid u next → Stands l at (t ++ u) next
stands_more {l} {t} {u} {at} {mid} {next} p q = record {
  bytes = p.bytes ∙ ap (λ (m : List ℕ). t ++ m) q.bytes ∙ sym (append_assoc t u (drop next l));
  place = rw length-append (omega (arith, p.place, q.place));
}

-- four words, 0 where the function has no argument
proper_of :
    (f a b c d : ℕ) → (arity_of f ≡ 0 → ⊥) → f < 2 ^ 64 → a < 2 ^ 64 → b < 2 ^ 64 → c < 2 ^ 64 → d < 2 ^ 64
    → (arity_of f ≤ 0 → a ≡ 0) → (arity_of f ≤ 1 → b ≡ 0) → (arity_of f ≤ 2 → c ≡ 0) → (arity_of f ≤ 3 → d ≡ 0)
    → Proper (record { function = f; a = a; b = b; c = c; d = d })
unfolding argument_of
proper_of f a b c d h p q r s t u v w x = record {
  known = h;
  function_fits = p;
  fits = λ k. fit (eqb k 0) (eqb k 1) (eqb k 2);
  unused = λ k i m. un k i m (eqb k 0) (eqb k 1) (eqb k 2) refl refl refl;
}
  where
    fit : (i j k : Bool) → cond i a (cond j b (cond k c d)) < 2 ^ 64
    fit true j k = q
    fit false true k = r
    fit false false true = s
    fit false false false = t

    un :
        (k : ℕ) → k < 4 → arity_of f ≤ k → (i j m : Bool) → eqb k 0 ≡ i → eqb k 1 ≡ j → eqb k 2 ≡ m
        → cond i a (cond j b (cond m c d)) ≡ 0
    un k z y true j m e g o = u (omega (arith, eqb-true k 0 e))
    un k z y false true m e g o = v (omega (arith, eqb-true k 1 g))
    un k z y false false true e g o = w (omega (arith, eqb-true k 2 o))
    un k z y false false false e g o = x (omega (arith, y, z))

pub record Is (l : List ℕ) (at : ℕ) (got : Got) : Type 0 where
  pub proper : Proper got.job
  pub stands : Stands l at (job_bytes got.job) got.next

module _ (l : List ℕ) (at : ℕ) (b : Bytes l) where
  chained : (f n : ℕ) (g h i got : Got) → number_at l at ≡ whole f n → (arity_of f ≡ 0 → ⊥) → argument_at l (begun f n) 0 ≡ Ok g
      → argument_at l g 1 ≡ Ok h → argument_at l h 2 ≡ Ok i → argument_at l i 3 ≡ Ok got → Is l at got
  unfolding begun with_argument job_bytes argument_bytes argument_of
  chained f n g h i got e known e0 e1 e2 e3 =
      let m = number_at_bytes l at f n b e in
      let s = argument_is l _ n 0 g b refl e0 in
      let t = argument_is l _ s.next 1 h b refl (subst (λ (x : Got). argument_at l x 1 ≡ Ok h) s.is e1) in
      let u = argument_is l _ t.next 2 i b refl (subst (λ (x : Got). argument_at l x 2 ≡ Ok i) t.is e2) in
      let v = argument_is l _ u.next 3 got b refl (subst (λ (x : Got). argument_at l x 3 ≡ Ok got) u.is e3) in
      let j : Job = record { function = f; a = s.v; b = t.v; c = u.v; d = v.v } in
      let made : Is l at (gotten j v.next) = record {
        proper =
            proper_of f s.v t.v u.v v.v known m.0 s.fits t.fits u.fits v.fits s.unused t.unused
            u.unused v.unused;
        stands = stands_more m.1 (stands_more s.stands (stands_more t.stands (stands_more u.stands v.stands)));
      } in
      subst (λ (x : Got). Is l at x) (sym v.is) made

  begins : (n : Result Number Refusal) (g h i got : Got) → number_at l at ≡ n → function_read n ≡ Ok g → argument_at l g 0 ≡ Ok h
      → argument_at l h 1 ≡ Ok i → (k : Got) → argument_at l i 2 ≡ Ok k → argument_at l k 3 ≡ Ok got → Is l at got
  unfolding function_read
  begins (Ok n) g h i got e r e0 e1 k e2 e3 = go (eqb (arity_of n.value) 0) refl r
    where
      f : ℕ
      f = n.value

      next : ℕ
      next = n.next

      go : (t : Bool) → eqb (arity_of f) 0 ≡ t → cond t (Err UnknownFunction) (Ok (begun f next)) ≡ Ok g → Is l at got
      go true t r = refused UnknownFunction g r
      go false t r =
          let z : begun f next ≡ g = cc in
          chained f next h i k got e (eqb-false (arity_of f) 0 t) (subst (λ (x : Got). argument_at l x 0 ≡ Ok h) (sym z) e0)
          e1 e2 e3
  begins (Err n) g h i got e r e0 e1 k e2 e3 = refused n g r

  job_is : (got : Got) → job_at l at ≡ Ok got → Is l at got
  unfolding job_at
  job_is got e =
      let d = from l _ 3 got e in
      let c = from l _ 2 d.g d.is in
      let b = from l _ 1 c.g c.is in
      let a = from l _ 0 b.g b.is in
      begins (number_at l at) a.g b.g c.g got refl a.is a.then b.then d.g c.then d.then

  pub read_is : (got : Got) → read_at l at ≡ Ok (Some got) → (at < length l) × Is l at got
  unfolding read_at
  read_is got e = go (ltb at (length l)) refl e
    where
      go : (t : Bool) → ltb at (length l) ≡ t → cond t (found (job_at l at)) (Ok None) ≡ Ok (Some got)
          → (at < length l) × Is l at got
      go true t e = (ltb-true at (length l) t, job_is got (was_found (job_at l at) got e))
      go false t e = let z : ◌≡◌ {A = ℕ} 0 1 = cc in absurd (omega arith)
