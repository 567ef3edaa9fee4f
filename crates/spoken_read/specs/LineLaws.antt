-- What is said to a line, by what was found in it. Assumes nothing.
use Rattle.std.specs.Prelude.{◌≡◌, ℕ, ◌-◌, List, take, drop, Option, Some, None, Result, Err}
use Rattle.spoken_parts.specs.declared.said.Bad.{Bad}
use Rattle.spoken_parts.specs.declared.said.Bad.TheVariants.{NoFunction}
use Rattle.spoken_read.specs.Words.{ends_at, word_at}
use Rattle.spoken_read.specs.Numbers.{taken_of}
use Rattle.spoken_read.specs.Lines.{called_of, taken_said, function_said, to_call}
use Rattle.spoken_read.specs.declared.numbers.Numbers.{Numbers}
use Rattle.spoken_read.specs.declared.said.Function.{Function}

module _ (line : List ℕ) (at end : ℕ) (f : Option Function) where
  -- the first word's end and its function
  call_is : end ≡ ends_at line at → f ≡ called_of (take (end - at) (drop at line)) → to_call line at ≡ function_said f line end
  unfolding to_call word_at
  call_is p q = rw (← p, ← q)

  pub call_none : end ≡ ends_at line at → f ≡ called_of (take (end - at) (drop at line)) → f ≡ None
      → to_call line at ≡ Err NoFunction
  call_none p q e = rw (call_is p q, e)

  pub call_taken : (g : Function) (t : Result Numbers Bad) → end ≡ ends_at line at
      → f ≡ called_of (take (end - at) (drop at line)) → f ≡ Some g → taken_of line end ≡ t
      → to_call line at ≡ taken_said g t
  call_taken g t p q e k = rw (call_is p q, e, k)
