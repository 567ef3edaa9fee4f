-- Several f64s of which none is NaN, by one test of their sum; and what the test of a guess says of the f64s. Assumes nothing.
use Rattle.std.specs.Prelude.{◌≡◌, true, T, from_bits, to_bits, Float}
use Rattle.std.proofs.Common.{sym, ap, ◌∙◌, subst, true≢false}
use Rattle.std.specs.Float.{nan, inf, fin, binary64}
use Rattle.std.specs.Float.Ieee.{fits, is_nan, eq, add}
use Rattle.std.specs.Float.Ieee.Bits.{of_bits-to_bits}
use Rattle.binary64.specs.Operators.{◌⊕◌}
use Rattle.root.specs.Root.{root}
use Rattle.root.specs.Together.{Number, Numbers3, Numbers4, numbers3, numbers4}

itself : (x : Float) → eq x x ≡ true → Number x
unfolding eq is_nan
itself nan h = true≢false (sym h)
itself (inf s) h = tt
itself (fin s m e) h = tt

first : (x y : Float) → Number (x ⊕ y) → Number x
unfolding add is_nan
first nan y h = h
first (inf s) y h = tt
first (fin s m e) y h = tt

second : (x y : Float) → Number (x ⊕ y) → Number y
unfolding add is_nan
second nan nan h = h
second (inf s) nan h = h
second (fin s m e) nan h = h
second x (inf t) h = tt
second x (fin t n d) h = tt

pub numbers3_told : (x y z : Float) → numbers3 x y z ≡ true → Numbers3 x y z
unfolding numbers3
numbers3_told x y z h =
    let s = itself (x ⊕ y ⊕ z) h in
    let t = first (x ⊕ y) z s in
    record { one = first x y t; two = second x y t; three = second (x ⊕ y) z s }

pub numbers4_told : (x y z p : Float) → numbers4 x y z p ≡ true → Numbers4 x y z p
unfolding numbers4
numbers4_told x y z p h =
    let s = itself (x ⊕ y ⊕ z ⊕ p) h in
    let r = first (x ⊕ y ⊕ z) p s in
    let t = first (x ⊕ y) z r in
    record { one = first x y t; two = second x y t; three = second (x ⊕ y) z r; four = second (x ⊕ y ⊕ z) p s }

-- of the patterns of two f64s it was told that one is the other's root: so it is of the f64s
pub root_told : (x s : Float) → fits binary64 x ≡ true → fits binary64 s ≡ true
    → from_bits binary64 (to_bits binary64 s) ≡ root (from_bits binary64 (to_bits binary64 x)) → s ≡ root x
root_told x s f g h =
    let F : T (fits binary64 x) = subst T (sym f) tt in
    let G : T (fits binary64 s) = subst T (sym g) tt in
    sym (of_bits-to_bits binary64 s G) ∙ h ∙ ap root (of_bits-to_bits binary64 x F)
