-- How the ends of lines are counted by parts. Assumes nothing.
use Rattle.std.specs.Prelude.{ℕ, ◌+◌, ◌-◌, ◌≤◌, ◌<◌, min, ◌≡◌, Bool, true, false, cond, List, [], ◌∷◌, ◌++◌, eqb, length, drop, take, get_or}
use Rattle.std.proofs.Common.{sym, ap, ◌∙◌, inl, inr, add_assoc, zero-add, add-one, arith, length-take, drop-cons, take-add, take_all}
use Rattle.algebra.specs.Order.{lt_or_le}
use Rattle.pace.specs.Numbers.{ends_of, newlines}

flag_most : (t : Bool) → cond t 1 0 ≤ 1
flag_most true = omega arith
flag_most false = omega arith

pub ends_most : (b : ℕ) → ends_of b ≤ 1
unfolding ends_of
ends_most b = flag_most (eqb b 10)

-- no more lines end than there are bytes
pub newlines_most : (l : List ℕ) → newlines l ≤ length l
unfolding newlines
newlines_most [] = omega arith
newlines_most (b ∷ bs) = omega (arith, ends_most b, newlines_most bs)

pub newlines_both : (l m : List ℕ) → newlines (l ++ m) ≡ newlines l + newlines m
unfolding newlines
newlines_both [] m = sym (zero-add (newlines m))
newlines_both (b ∷ bs) m = rw (newlines_both bs m) (sym (add_assoc (ends_of b) (newlines bs) (newlines m)))

-- a byte more is counted
pub newlines_next : (l : List ℕ) (i : ℕ) → i < length l → newlines (drop i l) ≡ ends_of (get_or l i 0) + newlines (drop (i + 1) l)
unfolding newlines
newlines_next l i h = rw (drop-cons l i 0 h, add-one)

-- what ends in a part is added to what ended before it
pub newlines_part :
    (l : List ℕ) (at step n r : ℕ) → n ≡ newlines (take at l) → r ≡ newlines (take (at + step - at) (drop at l))
    → n + r ≡ newlines (take (at + step) l)
newlines_part l at step n r e f =
    let s : at + step - at ≡ step = omega arith in
    rw (e, f, s) (sym (ap newlines (take-add at step l) ∙ newlines_both (take at l) (take step (drop at l))))

pub part_short : (l : List ℕ) (at step k : ℕ) → step ≤ k → length (take (at + step - at) (drop at l)) ≤ k
part_short l at step k h = rw length-take (omega arith)

pub newlines_few : (l : List ℕ) (at step r : ℕ) → r ≡ newlines (take (at + step - at) (drop at l)) → r ≤ step
newlines_few l at step r e = omega (
  arith,
  newlines_most (take (at + step - at) (drop at l)),
  part_short l at step step
      (omega arith),
)

-- more than all is all
take_min : (l : List ℕ) (size : ℕ) → take (min (length l) size) l ≡ take size l
take_min l size = elim (lt_or_le size (length l)) [
  | inl h ↦ let e : min (length l) size ≡ size = omega arith in rw e
  | inr h ↦ take_all (min (length l) size) l (omega arith) ∙ sym (take_all size l h)
]

pub newlines_all :
    (l : List ℕ) (size end at n : ℕ) → end ≡ min (length l) size → end ≤ at → at ≤ end → n ≡ newlines (take at l)
    → n ≡ newlines (take size l)
newlines_all l size end at n e h k f =
    let s : at ≡ min (length l) size = omega arith in f ∙ ap (λ (k : ℕ). newlines (take k l)) s ∙ ap newlines (take_min l size)
