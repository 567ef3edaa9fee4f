-- Small arguments, which are their own answers: what is left of the series is less than a last place of the argument. Assumes
-- nothing.
use Rattle.std.specs.Prelude.{◌≡◌, ℕ, ◌-◌, ◌*◌, ◌^◌, ◌<◌, ◌≤◌, [], ◌∷◌, refl}
use Rattle.std.proofs.Common.{zero-le, subst, le_of_lt}
use Rattle.algebra.specs.Ring.{con, ◌:*◌, ◌≈◌, ◌⊩◌, ◌times◌≼◌, Order}
use Rattle.algebra.proofs.Ring.{by_below}
use Rattle.rounding.specs.Cut.{value}
use Rattle.rounding.proofs.Value.{value_lt}
use Rattle.enclosure.specs.Quotient.{◌≼◌, whole, ◌⊠◌}
use Rattle.series.specs.Pattern.{field}
use Rattle.series.specs.Near.{number, last_place}
use Rattle.series.proofs.Arguments.{below_places}
use Rattle.series.specs.Atan as arc
use Rattle.series.specs.Ln1p as one-plus

-- n is the size and u its last place, both in smallest units
cube : Order 2 (λ n u.
    (con (2 ^ 1074) :* n :* n times n ≼ con (2 ^ 53) :* u)
    ∷ (con (2 ^ 1127) :* u :* n times n ≼ con (2 ^ 1047)) ∷ (con (2 ^ 2174) :* u times n ≼ con (2 ^ 1047)) ∷ []
    ⊩ n :* (n :* n) :* con (2 ^ 1074) ≈ u :* (con (2 ^ 1074) :* (con (2 ^ 1074) :* con (2 ^ 1074))))
cube = by_below tt

square : Order 2 (λ n u.
    (con (2 ^ 1074) :* n times n ≼ con (2 ^ 53) :* u) ∷ (con (2 ^ 1127) :* u times n ≼ con (2 ^ 1020)) ∷ []
    ⊩ n :* n :* con (2 ^ 1074) ≈ u :* (con (2 ^ 1074) :* con (2 ^ 1074)))
square = by_below tt

atan_tiny_is : value arc.tiny ≡ 2 ^ 1047
unfolding value
atan_tiny_is = refl

ln_1p_tiny_is : value one-plus.tiny ≡ 2 ^ 1020
unfolding value
ln_1p_tiny_is = refl

pub nothing : (a : ℕ) → whole 0 ≼ last_place a
nothing a = record { cross = zero-le }

pub cube_small : (a : ℕ) → a < arc.tiny → number a ⊠ (number a ⊠ number a) ≼ last_place a
cube_small a h =
    let few = le_of_lt (below_places a) in
    let small : value a ≤ 2 ^ 1047 = le_of_lt (subst (λ (v : ℕ). value a < v) atan_tiny_is (value_lt a arc.tiny h)) in
    record { cross = cube.law (value a) (2 ^ (field a - 1)) few small small }

pub square_small : (a : ℕ) → a < one-plus.tiny → number a ⊠ number a ≼ last_place a
square_small a h =
    let few = le_of_lt (below_places a) in
    let small : value a ≤ 2 ^ 1020 = le_of_lt (subst (λ (v : ℕ). value a < v) ln_1p_tiny_is (value_lt a one-plus.tiny h)) in
    record { cross = square.law (value a) (2 ^ (field a - 1)) few small }

-- (a quarter at most)
pub quarter : (a : ℕ) → a < one-plus.tiny → 4 * value a ≤ 2 ^ 1074
quarter a h =
    let small : value a ≤ 2 ^ 1020 = le_of_lt (subst (λ (v : ℕ). value a < v) ln_1p_tiny_is (value_lt a one-plus.tiny h)) in
    four_times.law (value a) small
  where
    four_times : Order 1 (λ n. (con 4 times n ≼ con (2 ^ 1020)) ∷ [] ⊩ con 4 :* n ≈ con (2 ^ 1074))
    four_times = by_below tt
