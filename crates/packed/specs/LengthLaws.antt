-- How long numbers and jobs are, so that a caller can size a buffer. Assumes nothing.
use Rattle.std.specs.Prelude.{ℕ, zero, suc, ◌+◌, ◌/◌, ◌%◌, ◌≤◌, ◌<◌, ◌≡◌, refl, Bool, true, false, cond, [], ◌∷◌, eqb, ltb, length}
use Rattle.std.proofs.Common.{arith, eqb-true, lt-ltb, length-append}
use Rattle.packed_number.specs.Numbers.{groups_of, number_bytes}
use Rattle.packed.specs.Jobs.{arity_of, argument_of, argument_bytes, job_bytes, job_length}
use Rattle.packed.specs.declared.jobs.Job.{Job}

-- ---- a number takes from one to ten bytes
pub groups_some : (left n : ℕ) → 1 ≤ length (groups_of left n)
unfolding groups_of
groups_some zero n = omega arith
groups_some (suc left) n = go (ltb n 128)
  where
    go : (t : Bool) → 1 ≤ length (cond t (n ∷ []) ((128 + n % 128) ∷ groups_of left (n / 128)))
    go true = omega arith
    go false = omega arith

groups_most : (left n : ℕ) → length (groups_of left n) ≤ suc left
unfolding groups_of
groups_most zero n = omega arith
groups_most (suc left) n = go (ltb n 128) (groups_most left (n / 128))
  where
    go : (t : Bool) → length (groups_of left (n / 128)) ≤ suc left
        → length (cond t (n ∷ []) ((128 + n % 128) ∷ groups_of left (n / 128))) ≤ suc (suc left)
    go true h = omega arith
    go false h = omega arith

pub number_least : (n : ℕ) → 1 ≤ length (number_bytes n)
unfolding number_bytes
number_least n = groups_some 9 n

pub number_most : (n : ℕ) → length (number_bytes n) ≤ 10
unfolding number_bytes
number_most n = groups_most 9 n

pub argument_most : (j : Job) (k : ℕ) → length (argument_bytes j k) ≤ 10
unfolding argument_bytes
argument_most j k = go (ltb k (arity_of j.function))
  where
    go : (t : Bool) → length (cond t (number_bytes (argument_of j k)) []) ≤ 10
    go true = number_most (argument_of j k)
    go false = omega arith

-- ---- a job
pub job_length_sum :
    (j : Job) → job_length j ≡ length (number_bytes j.function)
    + (length (argument_bytes j 0) + (length (argument_bytes j 1) + (length (argument_bytes j 2) + length (argument_bytes j 3))))
unfolding job_length job_bytes
job_length_sum j = simp length-append

pub job_some : (j : Job) → 1 ≤ job_length j
job_some j = omega (arith, job_length_sum j, number_least j.function)

-- a known function's number is one byte long, and it has two arguments at least: a test after the other
abbrev Short : ℕ → ℕ → Type 0
Short f arity = (◌≡◌ {A = ℕ} arity 0 → ⊥) → (f < 128) × (2 ≤ arity)

one_more : (f n k rest : ℕ) → n < 128 → 2 ≤ k → Short f rest → Short f (cond (eqb f n) k rest)
one_more f n k rest small two more = go (eqb f n) refl
  where
    go : (t : Bool) → eqb f n ≡ t → Short f (cond t k rest)
    go true e h = (omega (arith, eqb-true f n e), two)
    go false e h = more h

known_is : (f : ℕ) → Short f (arity_of f)
unfolding arity_of
known_is f =
    let last : Short f 0 = λ h. absurd (h refl) in
    let six = one_more f 6 4 _ (omega arith) (omega arith) last in
    let five = one_more f 5 4 _ (omega arith) (omega arith) six in
    let four = one_more f 4 3 _ (omega arith) (omega arith) five in
    let three = one_more f 3 3 _ (omega arith) (omega arith) four in
    one_more f 1 3 _ (omega arith) (omega arith) (one_more f 2 2 _ (omega arith) (omega arith) three)

byte_number : (n : ℕ) → n < 128 → length (number_bytes n) ≡ 1
unfolding number_bytes groups_of
byte_number n h = rw (lt-ltb n 128 h)

argument_least : (j : Job) (k : ℕ) → k < arity_of j.function → 1 ≤ length (argument_bytes j k)
unfolding argument_bytes
argument_least j k h = rw (lt-ltb k (arity_of j.function) h) (number_least (argument_of j k))

-- from three bytes to 41
pub job_length_bounds : (j : Job) → (arity_of j.function ≡ 0 → ⊥) → (3 ≤ job_length j) × (job_length j ≤ 41)
job_length_bounds j h =
    let k = known_is j.function h in
    let one = byte_number j.function k.0 in
    let first = argument_least j 0 (omega (arith, k.1)) in
    let second = argument_least j 1 (omega (arith, k.1)) in (
      omega (arith, job_length_sum j, one, first, second),
      omega (arith, job_length_sum j, one, argument_most j 0, argument_most j 1, argument_most j 2, argument_most j 3),
    )

-- whatever its function, no more than fifty
pub job_most : (j : Job) → job_length j ≤ 50
job_most j =
    omega (
      arith,
      job_length_sum j,
      number_most j.function,
      argument_most j 0,
      argument_most j 1,
      argument_most j 2,
      argument_most j 3,
    )
