-- `spell` meets its contract. The invariant: what is left of the loop writes what the whole loop writes. Assumes nothing.
use Prim.Native.Nat.{ℕ, zero, suc, ◌+◌, ◌-◌, ◌/◌, ◌%◌, ◌≤◌}
use mathlib.Core.Path.{◌≡◌, refl, sym, ap, ◌∙◌}
use mathlib.Core.List.{List}
use native.Mathlib.Omega.{arith}
use lib.ListN.{set, length-set}
use lib.Seq.{sets}
use Rattle.writing.specs.Written.{sets_last}
use Rattle.phrases.specs.Pieces.{letters}
use Rattle.phrases.specs.PieceLaws.{letters_length}
use Rattle.phrases.proofs.spell.Goals as goal
use Rattle.phrases.proofs.spell.Invariants.{spelled}

store : (i j n : ℕ) (o : List ℕ) (at : ℕ) → i ≡ suc j → spelled j (n / 256) (set o (at + j) (n % 256)) at ≡ spelled i n o at
unfolding spelled
store i j n o at e = rw e

none_left : (i n : ℕ) (o : List ℕ) (at : ℕ) → i ≤ 0 → spelled i n o at ≡ o
unfolding spelled
none_left i n o at h = let z : i ≡ 0 = omega arith in rw z

written : (k n : ℕ) (o : List ℕ) (at : ℕ) → spelled k n o at ≡ sets o at (letters k n)
unfolding spelled letters
written zero n o at = refl
written (suc k) n o at =
    let d = letters k (n / 256) in
    written k (n / 256) (set o (at + k) (n % 256)) at
    ∙ ap (λ (m : ℕ). sets (set o (at + m) (n % 256)) at d) (sym (letters_length k (n / 256)))
    ∙ sets_last d o at (n % 256)

pub loop-i-preserved : goal.loop-i-preserved
loop-i-preserved c =
    let l = c.loop-i in
    let a = c.args in
    (simp length-set l.invariant.0, store l.i (l.i - 1) l.rest l.out a.at (omega arith) ∙ l.invariant.1)

pub returns : goal.returns
returns c =
    let l = c.loop-i in
    let a = c.args in
    record {
      bytes =
          sym (none_left l.i l.rest l.out a.at c.loop-i-test.false) ∙ l.invariant.1
          ∙ written a.k a.n a.out.now a.at;
      place = rw letters_length;
    }
