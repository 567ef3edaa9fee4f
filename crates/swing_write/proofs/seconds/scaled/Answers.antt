-- `scaled` meets its contract: two words, shifted. Assumes nothing.
use Prim.Native.Nat.{ℕ, suc, ◌+◌, ◌-◌, ◌*◌, ◌/◌, ◌%◌, ◌^◌, ◌≤◌, ◌<◌}
use mathlib.Core.Path.{◌≡◌, sym, ap, ◌∙◌}
use native.Mathlib.Nat.{div-add-mod', pow-suc, one-mul, mod-eq_of_lt}
use native.Mathlib.Omega.{arith}
use borrow.Author.Rules.{rules}
use lib.Pow.{pow-lt}
use Rattle.swing_write.proofs.Scaled.{rest_is, quotient_small, shifted, rounds}
use Rattle.swing_write.proofs.seconds.scaled.Goals as goal

-- the sum, as the code has it
sum : (m s hi lo : ℕ) → m < 2 ^ 53 → 33 ≤ s → s ≤ 63 → hi * 2 ^ 64 + lo ≡ m * 1000000000000 → lo < 2 ^ 64
    → hi * 2 ^ (64 - s) % 2 ^ 64 + lo / 2 ^ s < 2 ^ 60
sum m s hi lo M l h e L = rw (shifted m s hi lo M l h e L) (quotient_small m s hi lo M l h e L)

left_over_lem : (lo A : ℕ) → lo < 2 ^ 64 → lo - lo / A * A % 2 ^ 64 ≡ lo % A
left_over_lem lo A h = rw (rest_is lo A h) (part (lo / A * A) (lo % A) lo (div-add-mod' lo A))
  where
    part : (q r l : ℕ) → q + r ≡ l → l - q ≡ r
    part q r l e = omega arith

fits_in : {n : ℕ} → n < 2 ^ 60 → n < 2 ^ 64
fits_in h = omega arith

room : {n : ℕ} → n < 2 ^ 60 → n < 2 ^ 63
room h = omega arith

-- the half of 2 ^ s, as the code has it
doubled : (s : ℕ) → 33 ≤ s → s ≤ 63 → 1 * 2 ^ (s - 1) % 2 ^ 64 * 2 ≡ 2 ^ s
doubled s l h =
    let e : suc (s - 1) ≡ s = omega arith in
    let p : 1 * 2 ^ (s - 1) ≡ 2 ^ (s - 1) = one-mul (2 ^ (s - 1)) in
    rw (p, mod-eq_of_lt (pow-lt (less s h))) (sym (pow-suc 2 (s - 1)) ∙ ap (λ (z : ℕ). 2 ^ z) e)
  where
    less : (s : ℕ) → s ≤ 63 → s - 1 < 64
    less s h = omega arith

pub overflow_add-q : goal.overflow_add-q
overflow_add-q c =
    let a = c.args in
    let h = sum a.m a.s c.product-p.result.hi c.product-p.result.lo c.requires.m_bound c.requires.le_s.0
    c.requires.le_s.1
    c.product-p.ensures (omega arith) in
    record { fits = fits_in h }

pub nearer-requires : goal.nearer-requires
nearer-requires c =
    let a = c.args in
    room (sum a.m a.s c.product-p.result.hi c.product-p.result.lo c.requires.m_bound c.requires.le_s.0
    c.requires.le_s.1
    c.product-p.ensures (omega arith))

pub returns : goal.returns
returns c =
    let a = c.args in
    let L : c.product-p.result.lo < 2 ^ 64 = omega arith in
    c.nearer.ensures
    ∙ rounds a.m a.s c.product-p.result.hi c.product-p.result.lo c.requires.m_bound c.requires.le_s.0
    c.requires.le_s.1
    c.product-p.ensures L _ _ _
    (ap (λ (z : ℕ). z + c.product-p.result.lo / 2 ^ a.s)
    (shifted a.m a.s c.product-p.result.hi c.product-p.result.lo c.requires.m_bound c.requires.le_s.0
    c.requires.le_s.1
    c.product-p.ensures L))
    (left_over_lem c.product-p.result.lo (2 ^ a.s) L) (doubled a.s c.requires.le_s.0 c.requires.le_s.1)
