-- `spell` meets its contract. The invariant: what is left of the loop writes what the whole loop writes. Assumes nothing.
use Prim.Native.Nat.{ℕ, zero, suc, ◌+◌, ◌-◌, ◌/◌, ◌%◌, ◌≤◌}
use mathlib.Core.Path.{◌≡◌, refl, sym, ap, ◌∙◌}
use mathlib.Core.List.{List}
use native.Mathlib.Omega.{arith}
use lib.ListN.{set, length-set}
use lib.Seq.{sets}
use Rattle.digits.specs.Digits.{glyph_of, digits}
use Rattle.digits.proofs.DigitLaws.{digits_length}
use Rattle.writing.specs.Written.{sets_last}
use Rattle.writing.proofs.numbers.spell.Goals as goal
use Rattle.writing.proofs.numbers.spell.Invariants.{spelled}

store : (base i j n : ℕ) (o : List ℕ) (at g : ℕ) → i ≡ suc j → g ≡ glyph_of (n % base)
    → spelled base j (n / base) (set o (at + j) g) at ≡ spelled base i n o at
unfolding spelled
store base i j n o at g e f = rw (e, f)

none_left : (base i n : ℕ) (o : List ℕ) (at : ℕ) → i ≤ 0 → spelled base i n o at ≡ o
unfolding spelled
none_left base i n o at h = let z : i ≡ 0 = omega arith in rw z

written : (base k n : ℕ) (o : List ℕ) (at : ℕ) → spelled base k n o at ≡ sets o at (digits base k n)
unfolding spelled digits
written base zero n o at = refl
written base (suc k) n o at =
    let g = glyph_of (n % base) in
    let d = digits base k (n / base) in
    written base k (n / base) (set o (at + k) g) at
    ∙ ap (λ (m : ℕ). sets (set o (at + m) g) at d) (sym (digits_length base k (n / base)))
    ∙ sets_last d o at g

pub loop-i-preserved : goal.loop-i-preserved
loop-i-preserved c =
    let l = c.loop-i in
    let a = c.args in (
      simp length-set l.invariant.0,
      store a.base l.i (l.i - 1) l.rest l.out a.at c.glyph.result (omega arith)
          c.glyph.ensures ∙ l.invariant.1,
    )

pub returns : goal.returns
returns c =
    let l = c.loop-i in
    let a = c.args in
    record {
      bytes =
          sym (none_left a.base l.i l.rest l.out a.at c.loop-i-test.false) ∙ l.invariant.1
          ∙ written a.base a.k a.n a.out.now a.at;
      place = rw digits_length;
    }
