-- What is proved of the rules, gathered: each answer lies near every enclosure, for every n. Assumes nothing. An f64's last
-- place is 256 parts of the rule at least for atan up to 1, 512 for atan above 1 and for ln, 128 for ln_1p (`Sizes`); so half
-- of it is more than what is given away here, and the other half is left for the last rounding (`within_rounded`).
use Rattle.std.specs.Prelude.{ℕ, suc, ◌+◌, ◌-◌, ◌*◌, ◌/◌, ◌^◌, ◌≤◌, ◌<◌, [], ◌∷◌}
use Rattle.std.proofs.Common.{le_of_mul-le-mul_right, arith, pow-add}
use Rattle.algebra.specs.Ring.{con, ◌:+◌, ◌:*◌, ◌≈◌, ◌⊩◌, ◌times◌≼◌, Order}
use Rattle.algebra.proofs.Ring.{by_below}
use Rattle.enclosure.specs.Quotient.{Quotient, ◌≼◌, whole, parts, ◌⊞◌, ◌⊠◌}
use Rattle.enclosure.specs.Order.{≼_refl, ≼_trans, ⊞-mono, ⊞-under, parts_join, parts_split, parts_mono}
use Rattle.enclosure.specs.Enclosure.{atan_lower, atan_upper, steep_lower, steep_upper, argument_of_ln, ln_proper, ln_lower}
use Rattle.enclosure.specs.Enclosure.{ln_upper, ln_below_lower, ln_below_upper, gain, loss}
use Rattle.enclosure.proofs.Enclosure.{gain_proper, loss_proper}
use Rattle.enclosure.specs.Enclosure.{double_lower, double_upper, Within}
use Rattle.enclosure.specs.Pieces.{odd, terms}
use Rattle.enclosure.specs.Rules.{atan_answer, steep_answer, T-answer, gain_seed, loss_seed, ln_answer, inverse_seed}
use Rattle.enclosure.specs.Rules.{ln_below_answer, gain_answer, loss_answer}
use Rattle.enclosure.proofs.Atan.{atan_near}
use Rattle.enclosure.proofs.Steep.{steep_near}
use Rattle.enclosure.specs.Logarithm.{Seed}
use Rattle.enclosure.proofs.Logarithm.{T-tight, T-near}
use Rattle.enclosure.proofs.Addition.{across_proper}
use Rattle.enclosure.proofs.Seeds.{gain_seeds, loss_seeds, ln_third, beyond, inverse_seeds, above_seeds, below_seeds}
use Rattle.enclosure.proofs.Ln.{multiple_near, ln_near}
use Rattle.enclosure.proofs.Below.{below_near, with_none}
use Rattle.enclosure.proofs.Sizes.{exact_floor}

-- ---- atan of t = tau * 2 ^ -(62 + j)
pub atan_within : (j tau : ℕ) → tau ≤ 2 ^ 62
    → Within (atan_lower (parts (62 + j) tau)) (atan_upper (parts (62 + j) tau)) (parts (62 + j) (atan_answer j tau))
    (parts (62 + j) 10)
    (parts (62 + j) 30)
atan_within j tau high = atan_near (parts (62 + j) tau) j tau (exact_floor j tau high)

-- ---- atan of t > 1
pub steep_within : (t : Quotient) (h : t.den < t.num)
    → Within (steep_lower t h) (steep_upper t h) (parts 62 (steep_answer (t.den * 2 ^ 62 / t.num))) (parts 62 30) (parts 62 11)
steep_within t h = steep_near t h

-- ---- ln of m * 2 ^ (e - 52)
pub ln_within : (m b e : ℕ) → 2 ^ 52 ≤ m → m < 2 ^ 53 → 1 ≤ e → e < 2 ^ b → b ≤ 63
    → Within (ln_lower (parts 52 m) e) (ln_upper (parts 52 m) e) (parts (63 - b) (ln_answer b e m)) (parts (63 - b) 12)
    (parts (63 - b) 42)
ln_within m b e low high some fits few = ln_near m b e low high some fits few

-- ---- ln_1p of a = m * 2 ^ -(53 + j), and of -a
-- (p = 2q, x / x' an end)
doubled_low : Order 6 (λ v a x x' p q.
    (con 1 times v :* (x' :* p) ≼ (x :* p :+ a :* x') :* p) ∷ (v :* x' times con 2 :* q ≼ p)
    ∷ (x :* (p :+ con 2 :* q) :+ a :* x' times p ≼ con 2 :* q) ∷ []
    ⊩ v :* (con 1 :* x' :* q) :* con 2 ≈ (con 2 :* x :* q :+ a :* (con 1 :* x')) :* q :* con 2)
doubled_low = by_below tt

doubled_high : Order 6 (λ v b x x' p q.
    (con 1 times x :* (p :* p) ≼ (v :* p :+ b :* p) :* x') ∷ (x :* (p :+ con 2 :* q) times con 2 :* q ≼ p)
    ∷ ((v :+ b) :* x' times p ≼ con 2 :* q) ∷ []
    ⊩ con 2 :* x :* (q :* q) :* con 2 ≈ (v :* q :+ b :* q) :* (con 1 :* x') :* con 2)
doubled_high = by_below tt

pub doubled : {lower upper : ℕ → Quotient} (j B : ℕ)
    → Within lower upper (parts (62 + j) B) (parts (62 + j) 12) (parts (62 + j) 39)
    → Within (λ n. whole 2 ⊠ lower n) (λ n. whole 2 ⊠ upper n) (parts (61 + j) B) (parts (61 + j) 12) (parts (61 + j) 39)
doubled {lower} {upper} j B near =
    let p = 2 ^ (62 + j) in
    let q = 2 ^ (61 + j) in
    let up : 2 * q ≤ p = rw (pow-add 2 62 j, pow-add 2 61 j) (omega arith) in
    let down : p ≤ 2 * q = rw (pow-add 2 62 j, pow-add 2 61 j) (omega arith) in
    record {
      low = λ n.
          let x = upper n in
          record {
            cross = le_of_mul-le-mul_right (doubled_low.law B 12 x.num x.den p q (near.low n).cross up down)
                (omega arith);
          };
      high = λ n.
          let x = lower n in
          record {
            cross = le_of_mul-le-mul_right (doubled_high.law B 39 x.num x.den p q (near.high n).cross up down)
                (omega arith);
          };
    }

pub double_near : (s : Quotient) (proper : s.num < s.den) (j sg : ℕ) → Seed s j sg
    → Within (double_lower s) (double_upper s proper) (parts (61 + j) (T-answer j sg)) (parts (61 + j) 12) (parts (61 + j) 39)
unfolding double_lower double_upper
double_near s proper j sg seed = doubled j (T-answer j sg) (T-near s proper j sg seed)

pub gain_within : (j m : ℕ) → m ≤ 2 ^ 53
    → let s = gain (parts (53 + j) m) in let h = gain_proper (parts (53 + j) m) in
    Within (double_lower s) (double_upper s h) (parts (61 + j) (T-answer j (gain_seed j m))) (parts (61 + j) 12)
    (parts (61 + j) 39)
gain_within j m fits = let a = parts (53 + j) m in double_near (gain a) (gain_proper a) j (gain_seed j m) (gain_seeds j m fits)

pub loss_within : (j m : ℕ) (proper : m < 2 ^ (53 + j)) → m ≤ 2 ^ 53 → 4 * m ≤ 3 * 2 ^ (53 + j)
    → let s = loss (parts (53 + j) m) proper in let h = loss_proper (parts (53 + j) m) proper in
    Within (double_lower s) (double_upper s h) (parts (61 + j) (T-answer j (loss_seed j m))) (parts (61 + j) 12)
    (parts (61 + j) 39)
loss_within j m proper fits small =
    let a = parts (53 + j) m in
    double_near (loss a proper) (loss_proper a proper) j (loss_seed j m) (loss_seeds j m proper fits small)

-- ---- ln of m * 2 ^ -(e + 53), below 1/2
pub ln_below_within : (m b e : ℕ) → 2 ^ 52 ≤ m → m < 2 ^ 53 → 1 ≤ e → e < 2 ^ b → b ≤ 63
    → Within (ln_below_lower (parts 52 m) (suc e)) (ln_below_upper (parts 52 m) (suc e))
    (parts (63 - b) (ln_below_answer b e m)) (parts (63 - b) 12)
    (parts (63 - b) 42)
unfolding ln_below_answer
ln_below_within m b e low high some fits few =
    let h = ln_third m low high in
    let proper = across_proper (argument_of_ln (parts 52 m)) h in
    let tight = T-tight (beyond m low high) proper 1 (inverse_seed m) (inverse_seeds m low high) in
    below_near (parts 52 m) h e (terms odd) (multiple_near b e (T-answer 1 (inverse_seed m)) some fits few tight)

-- ---- ln between 1 and 2, where x - 1 is n parts of 2 ^ -53; and between 1/2 and 1, where 1 - x is
pub above_one_within : (m j : ℕ) → 2 ^ 52 ≤ m → m < 2 ^ 53 → let n = 2 * (m - 2 ^ 52) in n * 2 ^ j ≤ 2 ^ 53
    → Within (ln_lower (parts 52 m) 0) (ln_upper (parts 52 m) 0) (parts (61 + j) (gain_answer j n)) (parts (61 + j) 12)
    (parts (61 + j) 39)
unfolding gain_answer ln_lower ln_upper
above_one_within m j low high fits =
    let sg = gain_seed j (2 * (m - 2 ^ 52) * 2 ^ j) in
    with_none (doubled j (T-answer j sg)
    (T-near (argument_of_ln (parts 52 m)) (ln_proper (parts 52 m)) j sg (above_seeds m j low high fits)))

pub below_one_within : (m j : ℕ) → 2 ^ 52 ≤ m → m < 2 ^ 53 → let n = 2 ^ 53 - m in n * 2 ^ j ≤ 2 ^ 53
    → Within (ln_below_lower (parts 52 m) 1) (ln_below_upper (parts 52 m) 1) (parts (61 + j) (loss_answer j n))
    (parts (61 + j) 12) (parts (61 + j) 39)
unfolding loss_answer
below_one_within m j low high fits =
    let h = ln_third m low high in
    let proper = across_proper (argument_of_ln (parts 52 m)) h in
    let sg = loss_seed j ((2 ^ 53 - m) * 2 ^ j) in
    let tight = T-tight (beyond m low high) proper j sg (below_seeds m j low high fits) in
    below_near (parts 52 m) h 0 (terms odd) (with_none (doubled j (T-answer j sg) tight))

-- ---- the same number written otherwise, and wider distances
pub within_same : {lower upper : ℕ → Quotient} {v w down up down' up' : Quotient} → Within lower upper v down up → w ≼ v → v ≼ w
    → down ≼ down'
    → up ≼ up'
    → Within lower upper w down' up'
within_same near below above d u = record {
  low = λ n. ≼_trans below (≼_trans (near.low n) (⊞-mono ≼_refl d));
  high = λ n. ≼_trans (near.high n) (⊞-mono above u);
}

-- ---- the last rounding: y parts, at most h from v parts, lie within a last place where the distances leave room for h
pub within_rounded : {lower upper : ℕ → Quotient} (k v down up y h place : ℕ)
    → Within lower upper (parts k v) (parts k down) (parts k up)
    → y ≤ v + h → v ≤ y + h → down + h ≤ place → up + h ≤ place → Within lower upper (parts k y) (parts k place) (parts k place)
within_rounded {lower} {upper} k v down up y h place near below above d u =
    let rounded : parts k y ≼ parts k v ⊞ parts k h = ≼_trans (parts_mono k y (v + h) below) (parts_split k v h) in
    let back : parts k v ≼ parts k y ⊞ parts k h = ≼_trans (parts_mono k v (y + h) above) (parts_split k y h) in
    let gathered : (a b : ℕ) → a + b ≤ place → parts k a ⊞ parts k b
    ≼ parts k place = λ a b e. ≼_trans (parts_join k a b) (parts_mono k (a + b) place e) in
    record {
      low = λ n.
          let end = ≼_trans (⊞-under (upper n) (parts k down) (parts k h)) (⊞-mono ≼_refl (gathered down h d)) in
          ≼_trans rounded (≼_trans (⊞-mono (near.low n) ≼_refl) end);
      high = λ n.
          let end = ≼_trans (⊞-under (parts k y) (parts k h) (parts k up)) (⊞-mono ≼_refl (gathered h up (omega arith))) in
          ≼_trans (near.high n) (≼_trans (⊞-mono back ≼_refl) end);
    }
