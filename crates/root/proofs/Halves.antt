-- n * 2 ^ 52 against c * (c + 1), by products of the halves h and l of c = h * 2 ^ 26 + l. Assumes nothing.
use Rattle.std.proofs.Common.{◌≡◌, ℕ, ◌+◌, ◌-◌, ◌*◌, ◌/◌, ◌%◌, ◌^◌, ◌<◌, ◌≤◌, ltb, ap, ◌∙◌, subst, mul-le-mul, arith, pow_mono, pow-add}
use Rattle.algebra.specs.Ring.{con, ◌:+◌, ◌:*◌, ◌≈◌}
use Rattle.algebra.proofs.Ring.{ring}
use Rattle.algebra.specs.Order.{same_ltb}
use Rattle.root.specs.Parts.{RootDigits}

-- the two divisions by 2 ^ 26 are one by 2 ^ 52
nested : (n x y z : ℕ) → ltb (x + (y + z / 2 ^ 26) / 2 ^ 26) n ≡ ltb (x * 2 ^ 52 + y * 2 ^ 26 + z) (n * 2 ^ 52)
nested n x y z =
    same_ltb (x + (y + z / 2 ^ 26) / 2 ^ 26) n (x * 2 ^ 52 + y * 2 ^ 26 + z) (n * 2 ^ 52) (λ h. omega arith) (λ h. omega arith)

square_up : (c : ℕ) → c * (c + 1) ≡ c * c + c
square_up = ring 1 (λ c. c :* (c :+ con 1) ≈ c :* c :+ c) tt

-- ---- the products of the halves
pub record Bounds (h l : ℕ) : Type 0 where
  pub hh : h * h ≤ 2 ^ 54
  pub hl : 2 * h * l ≤ 2 ^ 54
  pub ll : l * l ≤ 2 ^ 52

pub bounds : (h l : ℕ) → h ≤ 2 ^ 27 → l ≤ 2 ^ 26 → Bounds h l
bounds h l p q = record { hh = mul-le-mul p p; hl = let k : 2 * h ≤ 2 ^ 28 = omega arith in mul-le-mul k q; ll = mul-le-mul q q }

squared : (h l : ℕ) → h * h * 2 ^ 52 + 2 * h * l * 2 ^ 26 + l * l ≡ (h * 2 ^ 26 + l) * (h * 2 ^ 26 + l)
squared =
    ring 2 (λ h l.
    h :* h :* con (2 ^ 52) :+ con 2 :* h :* l :* con (2 ^ 26) :+ l :* l ≈ (h :* con (2 ^ 26) :+ l) :* (h :* con (2 ^ 26) :+ l)) tt

-- what `above` computes
pub by_halves : (n h l c : ℕ) → h * 2 ^ 26 + l ≡ c
    → ltb (h * h + (2 * h * l + h + (l * l + l) / 2 ^ 26) / 2 ^ 26) n ≡ ltb (c * (c + 1)) (n * 2 ^ 52)
by_halves n h l c e =
    let d = h * 2 ^ 26 + l in
    let k : h * h * 2 ^ 52 + (2 * h * l + h) * 2 ^ 26 + (l * l + l) ≡ d * (d + 1) = omega (arith, squared h l, square_up d) in
    nested n (h * h) (2 * h * l + h) (l * l + l) ∙ ap (λ (z : ℕ). ltb z (n * 2 ^ 52)) (k ∙ ap (λ (z : ℕ). z * (z + 1)) e)

-- ---- the root is the first c with n * 2 ^ 52 ≤ c * (c + 1)
square_suc : (a : ℕ) → (a + 1) * (a + 1) ≡ a * (a + 1) + (a + 1)
square_suc = ring 1 (λ a. (a :+ con 1) :* (a :+ con 1) ≈ a :* (a :+ con 1) :+ (a :+ con 1)) tt

pub first : (n a : ℕ) → a * (a + 1) < n * 2 ^ 52 → n * 2 ^ 52 ≤ (a + 1) * (a + 1 + 1) → RootDigits n (a + 1)
first n a h k = record {
  above = omega (arith, square_suc a);
  within = subst (λ (z : ℕ). n * 2 ^ 52 ≤ z) (square_up (a + 1)) k;
}

-- ---- a turn of `bisect`: the power of two that it adds, as the code forms it, and its double
pub record Step (turns : ℕ) : Type 0 where
  pub power : 1 * 2 ^ (turns - 1) % 2 ^ 64 ≡ 2 ^ (turns - 1)
  pub double : 2 ^ turns ≡ 2 ^ (turns - 1) + 2 ^ (turns - 1)

pub step : (turns : ℕ) → 0 < turns → turns ≤ 52 → Step turns
step turns p h =
    let b : 2 ^ (turns - 1) ≤ 2 ^ 51 = pow_mono {i = turns - 1} {j = 51} (omega arith) in
    let e : turns ≡ 1 + (turns - 1) = omega arith in
    let d : 2 ^ turns ≡ 2 * 2 ^ (turns - 1) = ap (λ (k : ℕ). 2 ^ k) e ∙ pow-add 2 1 (turns - 1) in
    record { power = omega arith; double = omega arith }
