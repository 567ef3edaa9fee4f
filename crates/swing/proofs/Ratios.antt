-- Between which powers of two the quotients of the whole numbers lie, and four times the root of L/g. Assumes nothing.
use Rattle.std.specs.Prelude.{ℕ, ◌-◌, ◌*◌, ◌^◌, ◌≤◌, ◌<◌, ◌≡◌, [], ◌∷◌, T, leb, Float}
use Rattle.std.proofs.Common.{sym, ◌∙◌, subst, le_of_lt, le_trans, mul-pos, arith, leb→le}
use Rattle.std.proofs.Math.Bool.{false}
use Rattle.std.proofs.Math.Pow.{pow_pos}
use Rattle.std.specs.Float.{nan, inf, fin}
use Rattle.std.specs.Float.Ieee.{binary64, up, down, round, of_int}
use Rattle.std.specs.Float.Ieee.Back.{round_whole}
use Rattle.std.specs.Float.Ieee.Exact.{HasValue}
use Rattle.std.specs.Float.Ieee.Scale.{round_same}
use Rattle.algebra.specs.Ring.{con, nxt, ◌:*◌, ◌≈◌, ◌⊩◌, ◌times◌≼◌}
use Rattle.algebra.proofs.Ring.{ring, below}
use Rattle.rounding.specs.Cut.{value}
use Rattle.swing.specs.Period.{whole, ratio, four_roots, times}
use Rattle.swing.specs.Ranges.{From1}
use Rattle.between.specs.Between.{Between}
use Rattle.between.proofs.Between.{div_is, form_of, fraction_between, product_between, root_between, constant}
use Rattle.swing.specs.Ratios.{below_one, power}

-- ---- quotients of whole numbers that are f64s as they stand
pub in_units : (x : Float) (n D : ℕ) → HasValue x false n 1 → HasValue x false (n * D) D
in_units nan n D h = absurd h
in_units (inf s) n D h = absurd h
in_units (fin s m e) n D h = (
  h.0,
  ring 4 (λ a n c D. (D times a :* con 1 ≼ n :* c) ∷ [] ⊩ a :* D ≈ n :* D :* c) tt (m * up e)
      n (down e) D h.1,
)

exact : (n : ℕ) → n ≤ 20000000 → HasValue (whole n) false n 1
unfolding of_int
exact n h = round_whole binary64 false n (small n h)
  where
    small : (n : ℕ) → n ≤ 20000000 → n ≤ 9007199254740992
    small n h = omega arith

module _ (a b : ℕ) (A : From1 a 20000000) (B : From1 b 20000000) where
  ratio_is : ratio a b ≡ round binary64 false a b
  unfolding ratio
  ratio_is =
      let D = 2 ^ 1074 in
      let P : 0 < D = pow_pos 1074 in
      div_is (form_of (whole a) (a * D) (mul-pos A.least P) (in_units (whole a) a D (exact a A.largest)))
      (form_of (whole b) (b * D) (mul-pos B.least P) (in_units (whole b) b D (exact b B.largest))) (mul-pos B.least P)
      ∙ round_same binary64 false (a * D) (b * D) a b (mul-pos B.least P) B.least
      (ring 3 (λ a b D. a :* D :* b ≈ a :* (b :* D)) tt a b D)

-- L/g lies from 2 ^ -25 to 2 ^ 24
low_ratio : (a b : ℕ) → 1 ≤ a → b ≤ 2 ^ 25 → 2 ^ 1049 * b ≤ a * 2 ^ 1074
low_ratio =
    below 2 (λ a b. (con (2 ^ 1074) times con 1 ≼ a) ∷ (con (2 ^ 1049) times b ≼ con (2 ^ 25)) ∷ [] ⊩ con (2 ^ 1049)
    :* b ≈ a :* con (2 ^ 1074)) tt

high_ratio : (a b : ℕ) → a ≤ 2 ^ 24 → 1 ≤ b → a * 2 ^ 1074 ≤ 2 ^ 1098 * b
high_ratio =
    below 2 (λ a b. (con (2 ^ 1074) times a ≼ con (2 ^ 24)) ∷ (con (2 ^ 1098) times con 1 ≼ b) ∷ [] ⊩ a :* con (2 ^ 1074) ≈ con
    (2 ^ 1098) :* b) tt

up_to : (n m k : ℕ) → n ≤ m → T (leb m k) → n ≤ k
up_to n m k h t = le_trans h (leb→le m k t)

length_ratio : (l g : ℕ) → From1 l 10000000 → From1 g 20000000 → Between (power 998) (power 1047) (ratio l g)
unfolding value
length_ratio l g L G =
    subst (λ (x : Float). Between (power 998) (power 1047) x)
    (sym (ratio_is l g (record { least = L.least; largest = up_to l 10000000 20000000 L.largest tt }) G))
    (fraction_between l g (power 998) (power 1047) G.least tt
    (low_ratio l g L.least (up_to g 20000000 (2 ^ 25) G.largest tt))
    (high_ratio l g (up_to l 10000000 (2 ^ 24) L.largest tt) G.least))

high_argument : (a b : ℕ) → a < b → b ≤ 2 ^ 25 → a * 2 ^ 1074 ≤ (2 ^ 1074 - 2 ^ 1049) * b
high_argument =
    below 2 (λ a b. (con (2 ^ 1074) times nxt a ≼ b) ∷ (con (2 ^ 1049) times b ≼ con (2 ^ 25)) ∷ []
    ⊩ a :* con (2 ^ 1074) ≈ con (2 ^ 1074 - 2 ^ 1049) :* b) tt

pub argument : (a b : ℕ) → 1 ≤ a → a < b → b ≤ 20000000 → Between (power 998) below_one (ratio a b)
unfolding value
argument a b h k l =
    let A : From1 a 20000000 = record { least = h; largest = le_trans (le_of_lt k) l } in
    let B : From1 b 20000000 = record { least = le_trans h (le_of_lt k); largest = l } in
    subst (λ (x : Float). Between (power 998) (1023 * 2 ^ 52 - 2 ^ 28) x) (sym (ratio_is a b A B))
    (fraction_between a b (power 998) (1023 * 2 ^ 52 - 2 ^ 28) B.least tt (low_ratio a b h (up_to b 20000000 (2 ^ 25) l tt))
    (high_argument a b k (up_to b 20000000 (2 ^ 25) l tt)))

-- ---- "four times the root of L/g": from 2 ^ -11 to 2 ^ 14
pub four_roots_lem : (l g : ℕ) → From1 l 10000000 → From1 g 20000000 → Between (power 1012) (power 1037) (four_roots l g)
unfolding value four_roots
four_roots_lem l g L G =
    product_between (constant (power 1025) tt) (root_between (length_ratio l g L G) (power 1010) (power 1035) tt tt tt)
    (power 1012)
    (power 1037) tt tt tt
