-- A number that is written is read back, whatever follows it, and what is read whole is how that number is written. Assumes
-- nothing.
use Rattle.std.specs.Prelude.{ℕ, zero, suc, ◌+◌, ◌-◌, ◌*◌, ◌/◌, ◌%◌, ◌^◌, ◌≤◌, ◌<◌, ◌≡◌, refl, Bool, true, false, cond, List, Err, [], ◌∷◌, ◌++◌, eqb, ltb, length, drop}
use Rattle.std.proofs.Common.{sym, ap, ap₂, ◌∙◌, pow-suc, pos_of_ne-zero, arith, eqb-true, ltb-true, ltb-false, lt-ltb, le-ltb, drop-drop}
use Rattle.std.proofs.Math.Nat.{pow-zero}
use Rattle.std.proofs.lemmas.Bool.{eqb-false}
use Rattle.packed_number.specs.Numbers.{whole, groups_of, number_bytes, last_group, number_from, number_at}
use Rattle.packed_number.specs.declared.Number.{Number}
use Rattle.refusals.specs.declared.Refusal.{Refusal}
use Rattle.refusals.specs.declared.Refusal.TheVariants.{ListCut, NumberBad}
use Rattle.packed_number.specs.NumberLaws.{Bytes, Reads, Stands}

-- ---- what the groups say
-- a group that more follow adds its seven bits at its weight
pub group_adds : (left w v at b : ℕ) (bs : List ℕ) → 128 ≤ b
    → number_from (suc left) w v at (b ∷ bs) ≡ number_from left (w * 128) (v + (b - 128) * w) (at + 1) bs
unfolding number_from
group_adds left w v at b bs h = rw (le-ltb b 128 h)

-- ten groups hold 2 ^ 64 - 1; what would be 2 ^ 64 is over 64 bits, and no bit of it is dropped
abbrev nine : ℕ → List ℕ → List ℕ
nine b bs = b ∷ b ∷ b ∷ b ∷ b ∷ b ∷ b ∷ b ∷ b ∷ bs

largest : number_at (nine 255 (1 ∷ [])) 0 ≡ whole 18446744073709551615 10
unfolding number_at number_from
largest = refl

over_largest : number_at (nine 128 (2 ∷ [])) 0 ≡ Err NumberBad
unfolding number_at number_from
over_largest = refl

-- ---- what is written is read back
-- a last group, which is not zero unless it is the first
last_is : (w v n next : ℕ) → (n ≡ 0 → (w ≡ 1) × (v ≡ 0)) → last_group w v next n ≡ whole (v + n * w) next
unfolding last_group
last_is w v n next h = go (eqb n 0) refl
  where
    go : (t : Bool) → eqb n 0 ≡ t → cond t (cond (ltb 1 w) (Err NumberBad) (whole v next)) (whole (v + n * w) next)
        ≡ whole (v + n * w) next
    go true e =
        let z : n ≡ 0 = eqb-true n 0 e in
        rw (le-ltb 1 w (omega (arith, (h z).0))) (ap (λ (x : ℕ). whole x next) (rw z (omega arith)))
    go false e = refl

-- the first group and the rest make the number
joined : (w v q r n : ℕ) → q * 128 + r ≡ n → v + r * w + q * (w * 128) ≡ v + n * w
joined w v q r n e = rw (sym e) (omega arith)

less : (left n : ℕ) → n < 2 * 128 ^ suc left → n / 128 < 2 * 128 ^ left
less left n h = let p : n < 2 * (128 ^ left * 128) = rw pow-suc at h in omega arith

-- so many more groups hold a number below twice their weight; only the first may be zero
pub number_back : (left w v at n : ℕ) (rest : List ℕ) → n < 2 * 128 ^ left → (n ≡ 0 → (0 < left) × (w ≡ 1) × (v ≡ 0))
    → number_from left w v at (groups_of left n ++ rest) ≡ whole (v + n * w) (at + length (groups_of left n))
unfolding number_from groups_of
number_back zero w v at n rest h k = go (eqb n 1) refl
  where
    go : (t : Bool) → eqb n 1 ≡ t → cond t (whole (v + w) (at + 1)) (Err NumberBad) ≡ whole (v + n * w) (at + 1)
    go true e = let z : n ≡ 1 = eqb-true n 1 e in ap (λ (x : ℕ). whole x (at + 1)) (rw z (omega arith))
    go false e =
        let q : n < 2 * 128 ^ 0 = h in
        let z : n ≡ 0 = omega (arith, pow-zero 128, eqb-false n 1 e) in
        absurd (omega (arith, (k z).0))
number_back (suc left) w v at n rest h k = go (ltb n 128) refl
    (number_back left (w * 128) (v + n % 128 * w) (at + 1) (n / 128) rest (less left n h))
  where
    go : (t : Bool) → ltb n 128 ≡ t
        → ((n / 128 ≡ 0 → (0 < left) × (w * 128 ≡ 1) × (v + n % 128 * w ≡ 0))
        → number_from left (w * 128) (v + n % 128 * w) (at + 1) (groups_of left (n / 128) ++ rest)
        ≡ whole (v + n % 128 * w + n / 128 * (w * 128)) (at + 1 + length (groups_of left (n / 128))))
        → number_from (suc left) w v at (cond t (n ∷ []) ((128 + n % 128) ∷ groups_of left (n / 128)) ++ rest)
        ≡ whole (v + n * w) (at + length (cond t (n ∷ []) ((128 + n % 128) ∷ groups_of left (n / 128))))
    go true t more = rw t (last_is w v n (at + 1) (λ e. ((k e).1, (k e).2)))
    go false t more =
        let g : 128 ≤ n = ltb-false n 128 t in
        let z : 128 + n % 128 - 128 ≡ n % 128 = omega arith in
        group_adds left w v at (128 + n % 128) (groups_of left (n / 128) ++ rest) (omega arith)
        ∙ rw (z, more (λ e. absurd (omega arith))) (ap₂ whole (joined w v (n / 128) (n % 128) n (omega arith)) (omega arith))

-- at a place of a list
pub number_at_back : (l : List ℕ) (at n : ℕ) (rest : List ℕ) → n < 2 ^ 64 → drop at l ≡ number_bytes n ++ rest
    → number_at l at ≡ whole n (at + length (number_bytes n))
unfolding number_at number_bytes
number_at_back l at n rest h e =
    rw e (number_back 9 1 0 at n rest (omega arith) (λ z. (omega arith, refl, refl))
    ∙ ap (λ (x : ℕ). whole x (at + length (groups_of 9 n))) (omega arith))

pub power_some : (m : ℕ) → 0 < 128 ^ m
power_some zero = rw pow-zero (omega arith)
power_some (suc m) = rw pow-suc (omega (arith, power_some m))

-- two numbers read whole are one in both parts
pub whole_value : {x next y then : ℕ} → whole x next ≡ whole y then → x ≡ y
whole_value {x} {next} {y} {then} e =
    let z : ◌≡◌ {A = Number} (record { value = x; next = next }) (record { value = y; next = then }) = cc in
    ap (λ (n : Number). n.value) z

pub whole_next : {x next y then : ℕ} → whole x next ≡ whole y then → next ≡ then
whole_next {x} {next} {y} {then} e =
    let z : ◌≡◌ {A = Number} (record { value = x; next = next }) (record { value = y; next = then }) = cc in
    ap (λ (n : Number). n.next) z

no_number : (k : Refusal) (x next : ℕ) {P : Type 0} → Err k ≡ whole x next → P
no_number k x next e = let z : ◌≡◌ {A = ℕ} 0 1 = cc in absurd (omega arith)

groups_last : (left n : ℕ) → n < 128 → groups_of (suc left) n ≡ n ∷ []
unfolding groups_of
groups_last left n h = rw (lt-ltb n 128 h)

groups_one : groups_of 0 1 ≡ 1 ∷ []
unfolding groups_of
groups_one = refl

groups_more : (left n b q : ℕ) → 128 ≤ b → b < 256 → 0 < q → n ≡ q * 128 + (b - 128) → groups_of (suc left) n ≡ b ∷ groups_of left q
unfolding groups_of
groups_more left n b q h k p e =
    let d : n / 128 ≡ q = omega arith in
    let z : 128 + n % 128 ≡ b = omega arith in
    rw (le-ltb n 128 (omega arith), d, z)

reads_last : (left w v at b : ℕ) (bs : List ℕ) (x next : ℕ) → b < 128 → last_group w v (at + 1) b ≡ whole x next
    → Reads (suc left) w v at (b ∷ bs) x next
unfolding last_group
reads_last left w v at b bs x next h e = go (eqb b 0) (ltb 1 w) refl refl e
  where
    alone : groups_of (suc left) b ≡ b ∷ []
    alone = groups_last left b h

    made : x ≡ v + b * w → next ≡ at + 1 → (1 < w → 0 < b) → Reads (suc left) w v at (b ∷ bs) x next
    made p q r = record {
      n = b;
      small = rw pow-suc (omega (arith, power_some left));
      some = r;
      value = p;
      place = rw alone q;
      written = rw alone;
    }

    go :
        (t u : Bool) → eqb b 0 ≡ t → ltb 1 w ≡ u → cond t (cond u (Err NumberBad) (whole v (at + 1)))
        (whole (v + b * w) (at + 1)) ≡ whole x next
        → Reads (suc left) w v at (b ∷ bs) x next
    go true true t u e = no_number NumberBad x next e
    go true false t u e =
        let z : b ≡ 0 = eqb-true b 0 t in
        let p : v ≡ x = whole_value e in
        let q : at + 1 ≡ next = whole_next e in
        let m : w ≤ 1 = ltb-false 1 w u in
        made (rw z (omega arith)) (sym q) (λ g. absurd (omega arith))
    go false u t s e =
        let p : v + b * w ≡ x = whole_value e in
        let q : at + 1 ≡ next = whole_next e in
        made (sym p) (sym q) (λ g. pos_of_ne-zero (eqb-false b 0 t))

reads_more : (left w v at b : ℕ) (bs : List ℕ) (x next : ℕ) → 128 ≤ b → b < 256 → 0 < w
    → Reads left (w * 128) (v + (b - 128) * w) (at + 1) bs x next → Reads (suc left) w v at (b ∷ bs) x next
reads_more left w v at b bs x next h k p r = record {
  n = m;
  small = rw pow-suc (omega (arith, r.small));
  some = λ g. omega (arith, first);
  value = r.value ∙ joined w v r.n (b - 128) m refl;
  place = rw same (omega (arith, r.place));
  written = rw same (ap (λ (l : List ℕ). b ∷ l) r.written);
}
  where
    m : ℕ
    m = r.n * 128 + (b - 128)

    first : 0 < r.n
    first = r.some (omega arith)

    same : groups_of (suc left) m ≡ b ∷ groups_of left r.n
    same = groups_more left m b r.n h k first refl

pub bytes_back : (left w v at : ℕ) (bytes : List ℕ) (x next : ℕ) → Bytes bytes → 0 < w
    → number_from left w v at bytes ≡ whole x next
    → Reads left w v at bytes x next
unfolding number_from
bytes_back zero w v at [] x next h k e = no_number ListCut x next e
bytes_back zero w v at (b ∷ bs) x next h k e = go (eqb b 1) refl e
  where
    go : (t : Bool) → eqb b 1 ≡ t → cond t (whole (v + w) (at + 1)) (Err NumberBad) ≡ whole x next
        → Reads 0 w v at (b ∷ bs) x next
    go true t e =
        let p : v + w ≡ x = whole_value e in
        let q : at + 1 ≡ next = whole_next e in
        record {
          n = 1;
          small = omega (arith, pow-zero 128);
          some = λ g. omega arith;
          value = omega arith;
          place = rw groups_one (sym q);
          written = rw (groups_one, eqb-true b 1 t);
        }
    go false t e = no_number NumberBad x next e
bytes_back (suc left) w v at [] x next h k e = no_number ListCut x next e
bytes_back (suc left) w v at (b ∷ bs) x next h k e =
    go (ltb b 128) refl e (bytes_back left (w * 128) (v + (b - 128) * w) (at + 1) bs x next h.1 (omega arith))
  where
    go : (t : Bool) → ltb b 128 ≡ t
        → cond t (last_group w v (at + 1) b) (number_from left (w * 128) (v + (b - 128) * w) (at + 1) bs) ≡ whole x next
        → (number_from left (w * 128) (v + (b - 128) * w) (at + 1) bs ≡ whole x next
        → Reads left (w * 128) (v + (b - 128) * w) (at + 1) bs x next)
        → Reads (suc left) w v at (b ∷ bs) x next
    go true t e more = reads_last left w v at b bs x next (ltb-true b 128 t) e
    go false t e more = reads_more left w v at b bs x next (ltb-false b 128 t) h.0 k (more e)

pub bytes_drop : (k : ℕ) (l : List ℕ) → Bytes l → Bytes (drop k l)
bytes_drop zero l h = h
bytes_drop (suc k) [] h = h
bytes_drop (suc k) (b ∷ l) h = bytes_drop k l h.1

stands : (l : List ℕ) (at x next : ℕ) → Reads 9 1 0 at (drop at l) x next → (x < 2 ^ 64) × Stands l at (number_bytes x) next
unfolding number_bytes
stands l at x next r =
    let z : x ≡ r.n = omega (arith, r.value) in
    let k = length (groups_of 9 r.n) in
    let d : drop k (drop at l) ≡ drop next l = drop-drop k at l ∙ ap (λ (m : ℕ). drop m l) (sym r.place) in (
      omega (arith, r.small),
      record {
        bytes = r.written ∙ ap₂ (λ (m : ℕ) (t : List ℕ). groups_of 9 m ++ t) (sym z) d;
        place = r.place ∙ ap (λ (m : ℕ). at + length (groups_of 9 m)) (sym z);
      },
    )

pub number_at_bytes : (l : List ℕ) (at x next : ℕ) → Bytes l → number_at l at ≡ whole x next
    → (x < 2 ^ 64) × Stands l at (number_bytes x) next
unfolding number_at
number_at_bytes l at x next h e = stands l at x next (bytes_back 9 1 0 at (drop at l) x next (bytes_drop at l h) (omega arith) e)
