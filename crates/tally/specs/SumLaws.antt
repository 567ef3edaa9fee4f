-- Words of an exact sum: values in any order, sums joined in any order. Assumes nothing.
use Rattle.std.specs.Prelude.{◌≡◌, ℕ, ◌+◌, ◌%◌, Bool, true, false, cond, ◌&&◌, List, [], length, ◌==◌, refl}
use Rattle.std.proofs.Common.{sym, ap, ◌∙◌, add_comm, add_assoc, arith}
use Rattle.std.proofs.Math.Nat.{mod-add-mod}
use borrow.Author.Tests.{eq-eqb, eqb-true}
use Rattle.limbs.specs.Value.{value_of, limbs_of, room, length_limbs, limbs_rest, limbs_mod}
use Rattle.exact.specs.Exact.{held_as, finite_pattern, value_added, sums_joined}

-- what is added to words that hold the rest of v
rest_plus : (v x : ℕ) → limbs_of 34 (value_of (limbs_of 34 v) + x) ≡ limbs_of 34 (v + x)
rest_plus v x =
    ap (λ (z : ℕ). limbs_of 34 (z + x)) (limbs_rest 34 v) ∙ sym (limbs_mod 34 (v % room 34 + x))
    ∙ ap (limbs_of 34) (mod-add-mod v (room 34) x) ∙ limbs_mod 34 (v + x)

plus_rest : (v x : ℕ) → limbs_of 34 (x + value_of (limbs_of 34 v)) ≡ limbs_of 34 (x + v)
plus_rest v x = ap (limbs_of 34) (add_comm x (value_of (limbs_of 34 v))) ∙ rest_plus v x ∙ ap (limbs_of 34) (add_comm v x)

around : (v x y : ℕ) → v + x + y ≡ v + y + x
around v x y = omega arith

-- ---- a value
pub added_length : (ws : List ℕ) (b : ℕ) → length (value_added ws b) ≡ length ws
unfolding value_added
added_length ws b = go (length ws == 34) refl (finite_pattern b)
  where
    go : (t : Bool) → (length ws == 34) ≡ t → (f : Bool)
        → length (cond (t && f) (limbs_of 34 (value_of ws + held_as b)) ws) ≡ length ws
    go true h true = length_limbs 34 (value_of ws + held_as b) ∙ sym (eqb-true (length ws) 34 h)
    go true h false = refl
    go false h f = refl

module _ (ws : List ℕ) (h : length ws ≡ 34) where
  value_there : (b : ℕ) → value_added ws b ≡ cond (finite_pattern b) (limbs_of 34 (value_of ws + held_as b)) ws
  unfolding value_added
  value_there b = rw (eq-eqb (length ws) 34 h)

value_limbs_there : (v b : ℕ) → value_added (limbs_of 34 v) b ≡ cond (finite_pattern b) (limbs_of 34 (v + held_as b)) (limbs_of 34 v)
value_limbs_there v b =
    value_there (limbs_of 34 v) (length_limbs 34 v) b
    ∙ ap (λ (z : List ℕ). cond (finite_pattern b) z (limbs_of 34 v)) (rest_plus v (held_as b))

pub value_swap : (ws : List ℕ) → length ws ≡ 34 → (a b : ℕ) → value_added (value_added ws a) b ≡ value_added (value_added ws b) a
value_swap ws h a b =
    ap (λ (z : List ℕ). value_added z b) (value_there ws h a) ∙ go (finite_pattern a) refl (finite_pattern b) refl
    ∙ sym (ap (λ (z : List ℕ). value_added z a) (value_there ws h b))
  where
    go : (s : Bool) → finite_pattern a ≡ s → (t : Bool) → finite_pattern b ≡ t
        → value_added (cond s (limbs_of 34 (value_of ws + held_as a)) ws) b
        ≡ value_added (cond t (limbs_of 34 (value_of ws + held_as b)) ws) a
    go true p true q =
        value_limbs_there (value_of ws + held_as a) b ∙ rw (q, around (value_of ws) (held_as a) (held_as b))
        (sym (value_limbs_there (value_of ws + held_as b) a ∙ rw p))
    go true p false q =
        value_limbs_there (value_of ws + held_as a) b ∙ rw q (sym (value_there ws h a ∙ rw p))
    go false p true q =
        value_there ws h b ∙ rw q (sym (value_limbs_there (value_of ws + held_as b) a ∙ rw p))
    go false p false q = value_there ws h b ∙ rw q (sym (value_there ws h a ∙ rw p))

-- ---- two sums
module _ (ws os : List ℕ) (h : length ws ≡ 34) (k : length os ≡ 34) where
  sums_there : sums_joined ws os ≡ limbs_of 34 (value_of ws + value_of os)
  unfolding sums_joined
  sums_there = rw (eq-eqb (length ws) 34 h, eq-eqb (length os) 34 k)

pub sums_length : (ws os : List ℕ) → length ws ≡ 34 → length os ≡ 34 → length (sums_joined ws os) ≡ 34
sums_length ws os h k = ap length (sums_there ws os h k) ∙ length_limbs 34 (value_of ws + value_of os)

pub sums_comm : (ws os : List ℕ) → length ws ≡ 34 → length os ≡ 34 → sums_joined ws os ≡ sums_joined os ws
sums_comm ws os h k =
    sums_there ws os h k ∙ ap (limbs_of 34) (add_comm (value_of ws) (value_of os)) ∙ sym (sums_there os ws k h)

pub sums_assoc : (ws os vs : List ℕ) → length ws ≡ 34 → length os ≡ 34 → length vs ≡ 34
    → sums_joined (sums_joined ws os) vs ≡ sums_joined ws (sums_joined os vs)
sums_assoc ws os vs h k l =
    sums_there (sums_joined ws os) vs (sums_length ws os h k) l
    ∙ ap (λ (z : List ℕ). limbs_of 34 (value_of z + value_of vs)) (sums_there ws os h k)
    ∙ rest_plus (value_of ws + value_of os) (value_of vs)
    ∙ ap (limbs_of 34) (add_assoc (value_of ws) (value_of os) (value_of vs))
    ∙ sym (plus_rest (value_of os + value_of vs) (value_of ws))
    ∙ ap (λ (z : List ℕ). limbs_of 34 (value_of ws + value_of z)) (sym (sums_there os vs k l))
    ∙ sym (sums_there ws (sums_joined os vs) h (sums_length os vs k l))
