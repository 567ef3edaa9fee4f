-- `cut` meets its contract: a shift down is the quotient, and what it lost the rest. Assumes nothing.
use Rattle.std.proofs.Common.{◌≡◌, ℕ, suc, ◌+◌, ◌-◌, ◌*◌, ◌/◌, ◌%◌, ◌^◌, ◌<◌, ◌≤◌, sym, ap, ◌∙◌, ap₂, mod-eq_of_lt, one-mul, pow-suc, div-add-mod', arith, rules}
use lib.Pow.{pow-lt}
use Rattle.parted.specs.Parts.{part_of, parts_of}
use Rattle.parted.proofs.parts.cut.Goals as goal

-- the quotient shifted back fits in a word
module _ (w d : ℕ) (W : w < 2 ^ 64) where
  part-of : (q r : ℕ) → q + r ≡ w → q % 2 ^ 64 ≡ q
  part-of q r e = omega arith

  back : w / d * d % 2 ^ 64 ≡ w / d * d
  back = part-of (w / d * d) (w % d) (div-add-mod' w d)

  under : w / d * d % 2 ^ 64 ≤ w
  under = rw back (omega (arith, div-add-mod' w d))

  rest : w - w / d * d % 2 ^ 64 ≡ w % d
  rest = rw back (omega (arith, div-add-mod' w d))

-- the half of 2 ^ t
doubled : (t : ℕ) → 1 ≤ t → t < 64 → 1 * 2 ^ (t - 1) % 2 ^ 64 * 2 ≡ 2 ^ t
doubled t l h =
    let e : suc (t - 1) ≡ t = omega arith in
    let p : 1 * 2 ^ (t - 1) ≡ 2 ^ (t - 1) = one-mul (2 ^ (t - 1)) in
    rw (p, mod-eq_of_lt (pow-lt (less t h))) (sym (pow-suc 2 (t - 1)) ∙ ap (λ (z : ℕ). 2 ^ z) e)
  where
    less : (t : ℕ) → t < 64 → t - 1 < 64
    less t h = omega arith

cut_is : (w t k : ℕ) → w < 2 ^ 64 → 1 ≤ t → t < 64 → k ≡ part_of (w - w / 2 ^ t * 2 ^ t % 2 ^ 64) (1 * 2 ^ (t - 1) % 2 ^ 64 * 2)
    → record { whole = w / 2 ^ t; part = k } ≡ parts_of w (2 ^ t)
unfolding parts_of
cut_is w t k W l h e =
    ap (λ (k : ℕ). record { whole = w / 2 ^ t; part = k }) (e ∙ ap₂ part_of (rest w (2 ^ t) W) (doubled t l h))

pub returns : goal.returns
returns c =
    cut_is _ _ _ (omega arith) c.requires.0 c.requires.1 c.part.ensures
