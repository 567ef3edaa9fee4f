-- The parts of a fraction are told by how whole numbers compare with twice the fraction. So equal fractions have the same, and a
-- number that stands for a fraction, its lost digits kept as one bit, has that fraction's. Assumes nothing.
use Rattle.std.specs.Prelude.{◌≡◌, ℕ, ◌+◌, ◌-◌, ◌*◌, ◌/◌, ◌%◌, ◌<◌, [], ◌∷◌}
use Prim.Native.Nat.{compare, Ordering}
use Rattle.std.proofs.Math.Path.{refl, ap, ap₂}
use Rattle.std.proofs.Common.{sym, ◌∙◌, subst, mod-lt, div-add-mod', mul-pos, add-zero, eq-zero-or-pos, arith, eq-eqb, ne_eqb}
use Rattle.std.proofs.Math.Logic.{inl, inr}
use Rattle.std.proofs.Math.Nat.{mul-add-div_right, mul-add-mod_self_right, div-eq_of_lt, mod-eq_of_lt}
use Rattle.algebra.specs.Ring.{con, ◌:+◌, ◌:*◌, ◌≈◌, ◌⊩◌, ◌times◌≼◌}
use Rattle.algebra.proofs.Ring.{ring}
use Rattle.algebra.specs.Order.{Compared, compared, lt_compare, eq_compare, gt_compare, scaled_compare}
use Rattle.rounding.specs.Jam.{Jam, jam_even}
use Rattle.parted.specs.Parts.{side_of, part_of, parts_of}

-- 2 n / d is 2 q, below 2 q + 1, that, or above it and below 2 q + 2; k tells which
pub data Lies (n d q k : ℕ) : Type 0 where
  none : k ≡ 0 → q * 2 * d ≡ n * 2 → Lies n d q k
  less : k ≡ 1 → q * 2 * d < n * 2 → n * 2 < (q * 2 + 1) * d → Lies n d q k
  half : k ≡ 2 → (q * 2 + 1) * d ≡ n * 2 → Lies n d q k
  more : k ≡ 3 → (q * 2 + 1) * d < n * 2 → n * 2 < (q * 2 + 2) * d → Lies n d q k

pub even_is : (q d : ℕ) → q * 2 * d ≡ q * d * 2
even_is = ring 2 (λ q d. q :* con 2 :* d ≈ q :* d :* con 2) tt

pub odd_is : (q d : ℕ) → (q * 2 + 1) * d ≡ q * d * 2 + d
odd_is = ring 2 (λ q d. (q :* con 2 :+ con 1) :* d ≈ q :* d :* con 2 :+ d) tt

pub next_is : (q d : ℕ) → (q * 2 + 2) * d ≡ q * d * 2 + d * 2
next_is = ring 2 (λ q d. (q :* con 2 :+ con 2) :* d ≈ q :* d :* con 2 :+ d :* con 2) tt

-- ---- so they lie
module _ (n d : ℕ) (D : 0 < d) where
  split : n / d * d + n % d ≡ n
  split = div-add-mod' n d

  some : (o : Ordering) → Compared o (n % d * 2) d → 0 < n % d → Lies n d (n / d) (side_of o)
  some Ordering.lt c z = less refl (omega (arith, split, even_is (n / d) d)) (omega (arith, split, odd_is (n / d) d))
  some Ordering.eq c z = half refl (omega (arith, split, odd_is (n / d) d))
  some Ordering.gt c z =
      more refl (omega (arith, split, odd_is (n / d) d)) (omega (arith, split, mod-lt n D, next_is (n / d) d))

  pub lies : Lies n d (n / d) (part_of (n % d) d)
  unfolding part_of
  lies = elim (eq-zero-or-pos (n % d)) [
    | inl z ↦ rw (eq-eqb (n % d) 0 z) (none refl (omega (arith, split, even_is (n / d) d)))
    | inr z ↦ rw (ne_eqb (n % d) 0 (λ e. omega arith)) (some (compare (n % d * 2) d) (compared (n % d * 2) d) z)
  ]

  -- and where they lie they are
  at : (q r k : ℕ) → q * d + r ≡ n → r < d → part_of r d ≡ k → parts_of n d ≡ record { whole = q; part = k }
  unfolding parts_of
  at q r k e l f =
      let w : n / d ≡ q = ap (λ (z : ℕ). z / d) (sym e) ∙ mul-add-div_right {m = d} D q r ∙ rw (div-eq_of_lt l) (add-zero q) in
      let m : n % d ≡ r = ap (λ (z : ℕ). z % d) (sym e) ∙ mul-add-mod_self_right q d r ∙ mod-eq_of_lt l in
      ap₂ (λ (w k : ℕ). record { whole = w; part = k }) w (ap (λ (z : ℕ). part_of z d) m ∙ f)

  part_none : part_of 0 d ≡ 0
  unfolding part_of
  part_none = refl

  part_some : (r : ℕ) (o : Ordering) → 0 < r → compare (r * 2) d ≡ o → part_of r d ≡ side_of o
  unfolding part_of
  part_some r o z e = rw (ne_eqb r 0 (λ f. omega arith), e)

  pub found : (q k : ℕ) → Lies n d q k → parts_of n d ≡ record { whole = q; part = k }
  found q k (none e f) = at q 0 k (omega (arith, even_is q d)) D (part_none ∙ sym e)
  found q k (less e f g) =
      let r = n - q * d in
      at q r k (omega (arith, even_is q d)) (omega (arith, even_is q d, odd_is q d))
      (part_some r Ordering.lt (omega (arith, even_is q d)) (lt_compare (r * 2) d (omega (arith, odd_is q d))) ∙ sym e)
  found q k (half e f) =
      let r = n - q * d in
      at q r k (omega (arith, odd_is q d)) (omega (arith, odd_is q d))
      (part_some r Ordering.eq (omega (arith, odd_is q d)) (eq_compare (r * 2) d (omega (arith, odd_is q d))) ∙ sym e)
  found q k (more e f g) =
      let r = n - q * d in
      at q r k (omega (arith, odd_is q d)) (omega (arith, odd_is q d, next_is q d))
      (part_some r Ordering.gt (omega (arith, odd_is q d)) (gt_compare (r * 2) d (omega (arith, odd_is q d))) ∙ sym e)

-- ---- two fractions that compare alike
pub record Alike (n d m e : ℕ) : Type 0 where
  pub says : (c : ℕ) → compare (c * d) (n * 2) ≡ compare (c * e) (m * 2)

module _ (a b c d : ℕ) (s : compare a b ≡ compare c d) where
  still : (o : Ordering) → compare a b ≡ o → Compared o c d
  still o e = subst (λ (o : Ordering). Compared o c d) (sym s ∙ e) (compared c d)

  as_lt : a < b → c < d
  as_lt h = still Ordering.lt (lt_compare a b h)

  as_eq : a ≡ b → c ≡ d
  as_eq h = still Ordering.eq (eq_compare a b h)

  as_gt : b < a → d < c
  as_gt h = still Ordering.gt (gt_compare a b h)

moved : (n d m e q k : ℕ) → Alike n d m e → Lies n d q k → Lies m e q k
moved n d m e q k s (none f g) = none f (as_eq _ _ _ _ (s.says (q * 2)) g)
moved n d m e q k s (less f g h) = less f (as_lt _ _ _ _ (s.says (q * 2)) g) (as_gt _ _ _ _ (s.says (q * 2 + 1)) h)
moved n d m e q k s (half f g) = half f (as_eq _ _ _ _ (s.says (q * 2 + 1)) g)
moved n d m e q k s (more f g h) = more f (as_lt _ _ _ _ (s.says (q * 2 + 1)) g) (as_gt _ _ _ _ (s.says (q * 2 + 2)) h)

pub alike_parts : (n d m e : ℕ) → 0 < d → 0 < e → Alike n d m e → parts_of m e ≡ parts_of n d
unfolding parts_of
alike_parts n d m e D E s = found m e E (n / d) (part_of (n % d) d) (moved n d m e (n / d) (part_of (n % d) d) s (lies n d D))

-- equal fractions
pub same_parts : (n d m e : ℕ) → 0 < d → 0 < e → n * e ≡ m * d → parts_of m e ≡ parts_of n d
same_parts n d m e D E f = alike_parts n d m e D E (record {
  says =
      λ c. sym (scaled_compare (c * d) (n * 2) e E) ∙ ap₂ compare (turned c d e) (crossed n d m e f)
      ∙ scaled_compare (c * e) (m * 2) d D;
})
  where
    turned : (c d e : ℕ) → c * d * e ≡ c * e * d
    turned = ring 3 (λ c d e. c :* d :* e ≈ c :* e :* d) tt

    crossed : (n d m e : ℕ) → n * e ≡ m * d → n * 2 * e ≡ m * 2 * d
    crossed = ring 4 (λ n d m e. (con 2 times n :* e ≼ m :* d) ∷ [] ⊩ n :* con 2 :* e ≈ m :* con 2 :* d) tt

-- w that stands for X / Y, over a multiple of four
pub jam_parts : (X Y w F : ℕ) → 0 < Y → 0 < F → Jam X Y w → parts_of w (4 * F) ≡ parts_of X (4 * F * Y)
jam_parts X Y w F P Q j = alike_parts X (4 * F * Y) w (4 * F) (mul-pos (omega arith) P) (omega arith) (record {
  says =
      λ c. ap (λ (z : ℕ). compare z (X * 2)) (grouped c F Y) ∙ scaled_compare (2 * (c * F) * Y) X 2 (omega arith)
      ∙ jam_even X Y w P j (c * F)
      ∙ sym (ap (λ (z : ℕ). compare z (w * 2)) (halved c F) ∙ scaled_compare (2 * (c * F)) w 2 (omega arith));
})
  where
    grouped : (c F Y : ℕ) → c * (4 * F * Y) ≡ 2 * (c * F) * Y * 2
    grouped = ring 3 (λ c F Y. c :* (con 4 :* F :* Y) ≈ con 2 :* (c :* F) :* Y :* con 2) tt

    halved : (c F : ℕ) → c * (4 * F) ≡ 2 * (c * F) * 2
    halved = ring 2 (λ c F. c :* (con 4 :* F) ≈ con 2 :* (c :* F) :* con 2) tt
