-- 2e T(1/3) + 2t, e ≥ 1: the rule is near it, in parts of 2 ^ (b - 63), where e has at most b binary digits. The constant's own
-- error is e < 2 ^ b parts of 2 ^ -63, which is 1 here. With t = T(s) this is ln of m * 2 ^ (e - 52). Assumes nothing.
use Rattle.std.specs.Prelude.{ℕ, ◌+◌, ◌-◌, ◌*◌, ◌/◌, ◌^◌, ◌≤◌, ◌<◌, ◌≡◌, [], ◌∷◌}
use Rattle.std.proofs.Common.{sym, ◌∙◌, ap, div-mul-le_self, le_trans, arith, pow_pos, pow-add}
use Rattle.std.proofs.Math.Nat.{lt-div-mul-add}
use Rattle.algebra.specs.Ring.{con, nxt, ◌:+◌, ◌:*◌, ◌≈◌, ◌⊩◌, ◌times◌≼◌, Order}
use Rattle.algebra.proofs.Ring.{by_below}
use Rattle.enclosure.specs.Quotient.{Quotient, ◌≼◌, whole, parts, ◌⊞◌, ◌⊠◌}
use Rattle.enclosure.specs.Order.{≼_refl, ≼_trans, ⊞-mono, ⊠-mono, parts_join, parts_split, parts_mono}
use Rattle.enclosure.specs.Enclosure.{T-lower, T-upper, third, third_proper, argument_of_ln, ln_proper, ln_lower, ln_upper}
use Rattle.enclosure.specs.Enclosure.{Within}
use Rattle.enclosure.specs.Rules.{T-answer, ln_seed, ln_two, multiple, ln_answer}
use Rattle.enclosure.proofs.Logarithm.{T-near}
use Rattle.enclosure.proofs.Seeds.{ln_seeds}
use Rattle.enclosure.proofs.Constants.{ln_two_low, ln_two_high}

-- ---- a multiple of a bound in parts
multiplied_low : Order 5 (λ k v x x' q. (k times v :* (con 1 :* x') ≼ con 2 :* x :* q) ∷ []
    ⊩ k :* v :* (con 1 :* x') ≈ con 2 :* k :* x :* q)
multiplied_low = by_below tt

times_low : (k : ℕ) (x : Quotient) (v : ℕ) → parts 63 v ≼ whole 2 ⊠ x → parts 63 (k * v) ≼ whole (2 * k) ⊠ x
times_low k x v h = record { cross = multiplied_low.law k v x.num x.den (2 ^ 63) h.cross }

multiplied_high : Order 5 (λ k v x x' q. (k times con 2 :* x :* q ≼ v :* (con 1 :* x')) ∷ []
    ⊩ con 2 :* k :* x :* q ≈ k :* v :* (con 1 :* x'))
multiplied_high = by_below tt

times_high : (k : ℕ) (x : Quotient) (v : ℕ) → whole 2 ⊠ x ≼ parts 63 v → whole (2 * k) ⊠ x ≼ parts 63 (k * v)
times_high k x v h = record { cross = multiplied_high.law k v x.num x.den (2 ^ 63) h.cross }

-- ---- v + 2 w
split_two : Order 3 (λ v w q. (v :+ con 2 :* w) :* (q :* (con 1 :* q)) ≈ (v :* (con 1 :* q) :+ con 2 :* w :* q) :* q)
split_two = by_below tt

split_parts : (v w : ℕ) → parts 63 (v + 2 * w) ≼ parts 63 v ⊞ whole 2 ⊠ parts 63 w
split_parts v w = record { cross = split_two.law v w (2 ^ 63) }

join_two : Order 3 (λ v w q. (v :* (con 1 :* q) :+ con 2 :* w :* q) :* q ≈ (v :+ con 2 :* w) :* (q :* (con 1 :* q)))
join_two = by_below tt

join_parts : (v w : ℕ) → parts 63 v ⊞ whole 2 ⊠ parts 63 w ≼ parts 63 (v + 2 * w)
join_parts v w = record { cross = join_two.law v w (2 ^ 63) }

moved : Order 5 (λ x x' y y' q. (x :* (con 1 :* (y' :* q)) :+ con 2 :* (y :* q :+ con 12 :* y') :* x') :*
    (x' :* (con 1 :* y') :* q)
    ≈ ((x :* (con 1 :* y') :+ con 2 :* y :* x') :* q :+ con 24 :* (x' :* (con 1 :* y'))) :* (x' :* (con 1 :* (y' :* q))))
moved = by_below tt

move : (x y : Quotient) → x ⊞ whole 2 ⊠ (y ⊞ parts 63 12) ≼ x ⊞ whole 2 ⊠ y ⊞ parts 63 24
move x y = record { cross = moved.law x.num x.den y.num y.den (2 ^ 63) }

-- ---- the rests of the two divisions (M = 2 ^ b)
floors_low : Order 5 (λ a c M p q. (con 1 times p :* M ≼ a) ∷ (con 1 times q :* M ≼ c) ∷ [] ⊩ (p :+ q) :* M ≈ a :+ c)
floors_low = by_below tt

floors_high : Order 6 (λ a c M p q e.
    (con 1 times nxt a ≼ p :* M :+ M) ∷ (con 1 times nxt c ≼ q :* M :+ M) ∷ (con 1 times nxt e ≼ M) ∷ (con 39 times con 2 ≼ M)
    ∷ []
    ⊩ a :+ e :+ (c :+ con 78) ≈ (p :+ q :+ con 42) :* M)
floors_high = by_below tt

-- ---- B is near t, whatever its enclosures
module _ (b e B : ℕ) (some : 1 ≤ e) (fits : e < 2 ^ b) (few : b ≤ 63) {lower upper : ℕ → Quotient}
    (near : Within lower upper (parts 63 B) (parts 63 12) (parts 63 39)) where
  abbrev Y : ℕ
  Y = multiple b e B

  scale : 2 ^ (63 - b) * 2 ^ b ≡ 2 ^ 63
  scale = let k : 63 - b + b ≡ 63 = omega arith in sym (pow-add 2 (63 - b) b) ∙ ap (λ (n : ℕ). 2 ^ n) k

  finer : (n : ℕ) → parts (63 - b) n ≼ parts 63 (n * 2 ^ b)
  finer n = record { cross = omega (arith, ap (λ (q : ℕ). n * q) scale) }

  coarser : (n : ℕ) → parts 63 (n * 2 ^ b) ≼ parts (63 - b) n
  coarser n = record { cross = omega (arith, ap (λ (q : ℕ). n * q) scale) }

  -- THE LAW
  pub multiple_near : Within (λ n. whole (2 * e) ⊠ T-lower third n ⊞ whole 2 ⊠ lower n)
      (λ n. whole (2 * e) ⊠ T-upper third third_proper n ⊞ whole 2 ⊠ upper n) (parts (63 - b) Y) (parts (63 - b) 12)
      (parts (63 - b) 42)
  multiple_near =
      let M = 2 ^ b in
      let two : 2 ≤ M = omega arith in
      let v = e * ln_two in
      record {
        low = λ n.
            let x = whole (2 * e) ⊠ T-upper third third_proper n in
            let y = upper n in
            let rests : Y * M ≤ v + 2 * B = floors_low.law v (2 * B) M (v / M) (2 * B / M) (div-mul-le_self v M)
            (div-mul-le_self (2 * B) M) in
            let less : 24 ≤ 12 * M = omega arith in
            let start : parts (63 - b) Y ≼ parts 63 v ⊞ whole 2 ⊠ parts 63 B =
            ≼_trans (≼_trans (finer Y) (parts_mono 63 (Y * M) (v + 2 * B) rests)) (split_parts v B) in
            let both : parts 63 v ⊞ whole 2 ⊠ parts 63 B ≼ x ⊞ whole 2 ⊠ (y ⊞ parts 63 12) =
            ⊞-mono (times_low e (T-upper third third_proper n) ln_two (ln_two_low n)) (⊠-mono ≼_refl (near.low n)) in
            let end : x ⊞ whole 2 ⊠ y ⊞ parts 63 24 ≼ x ⊞ whole 2 ⊠ y ⊞ parts (63 - b) 12 =
            ⊞-mono ≼_refl (≼_trans (parts_mono 63 24 (12 * M) less) (coarser 12)) in
            ≼_trans (≼_trans start both) (≼_trans (move x y) end);
        high = λ n.
            let x = whole (2 * e) ⊠ T-lower third n in
            let y = lower n in
            let w = B + 39 in
            let both : x ⊞ whole 2 ⊠ y ≼ parts 63 (e * (ln_two + 1)) ⊞ whole 2 ⊠ parts 63 w =
            ⊞-mono (times_high e (T-lower third n) (ln_two + 1) (ln_two_high n))
            (⊠-mono ≼_refl (≼_trans (near.high n) (parts_join 63 B 39))) in
            let rests = floors_high.law v (2 * B) M (v / M) (2 * B / M) e (lt-div-mul-add (pow_pos b))
            (lt-div-mul-add (pow_pos b)) fits two in
            let most : e * (ln_two + 1) + 2 * w ≤ (Y + 42) * M = le_trans (omega arith) rests in
            ≼_trans (≼_trans both (≼_trans (join_parts (e * (ln_two + 1)) w)
            (parts_mono 63 (e * (ln_two + 1) + 2 * w) ((Y + 42) * M) most)))
            (≼_trans (coarser (Y + 42)) (parts_split (63 - b) Y 42));
      }

-- THE LAW from 2 up
pub ln_near : (m b e : ℕ) → 2 ^ 52 ≤ m → m < 2 ^ 53 → 1 ≤ e → e < 2 ^ b → b ≤ 63
    → Within (ln_lower (parts 52 m) e) (ln_upper (parts 52 m) e) (parts (63 - b) (ln_answer b e m)) (parts (63 - b) 12)
    (parts (63 - b) 42)
unfolding ln_answer ln_lower ln_upper
ln_near m b e low high some fits few =
    let s = argument_of_ln (parts 52 m) in
    multiple_near b e (T-answer 1 (ln_seed m)) some fits few
    (T-near s (ln_proper (parts 52 m)) 1 (ln_seed m) (ln_seeds m low high))
