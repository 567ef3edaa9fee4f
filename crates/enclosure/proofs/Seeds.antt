-- The seeds of ln and ln_1p are seeds: s in parts of 2 ^ -(62 + j), 3 too low or 1 too high at most. Assumes nothing.
use Rattle.std.specs.Prelude.{ℕ, zero, suc, ◌+◌, ◌-◌, ◌*◌, ◌^◌, ◌≤◌, ◌<◌, ◌≡◌, [], ◌∷◌}
use Rattle.std.proofs.Common.{sym, ap, le_of_mul-le-mul_right, div-mul-le_self, le_of_eq, le_trans, mul-le-mul_right, arith, pow_pos, pow-add}
use Rattle.std.proofs.Math.Nat.{lt-div-mul-add, div-le_of_le-mul}
use Rattle.algebra.specs.Ring.{con, nxt, ◌:+◌, ◌:*◌, ◌≈◌, ◌⊩◌, ◌times◌≼◌, Order}
use Rattle.algebra.proofs.Ring.{by_below}
use Rattle.enclosure.specs.Quotient.{Quotient, parts}
use Rattle.enclosure.specs.Enclosure.{argument_of_ln, gain, loss}
use Rattle.enclosure.specs.Rules.{part, gain_seed, loss_seed, ln_seed, inverse_seed}
use Rattle.enclosure.specs.Addition.{across}
use Rattle.enclosure.specs.Logarithm.{Seed}

-- ---- ln: s = p / q is 1/3 at most, g the seed
ln_low : Order 3 (λ g p q. (con 1 times g :* q ≼ con 2 :* p :* con (2 ^ 62)) ∷ [] ⊩ g :* q ≈ p :* con (2 ^ 63) :+ q)
ln_low = by_below tt

ln_high : Order 3 (λ g p q. (con 1 times nxt (con 2 :* p :* con (2 ^ 62)) ≼ g :* q :+ q) ∷ []
    ⊩ p :* con (2 ^ 63) ≈ (g :+ con 3) :* q)
ln_high = by_below tt

ln_fits : Order 2 (λ p q. (con (2 ^ 62) times con 3 :* p ≼ q) ∷ [] ⊩ con 2 :* p :* con (2 ^ 62) ≈ q :* con (2 ^ 62))
ln_fits = by_below tt

pub ln_seeds : (m : ℕ) → 2 ^ 52 ≤ m → m < 2 ^ 53 → Seed (argument_of_ln (parts 52 m)) 1 (ln_seed m)
ln_seeds m low high =
    let p = m - 2 ^ 52 in
    let q = m + 2 ^ 52 in
    let pos : 0 < q = omega arith in
    let third : 3 * p ≤ q = omega arith in
    record {
      low = ln_low.law (ln_seed m) p q (div-mul-le_self (2 * p * 2 ^ 62) q);
      high = ln_high.law (ln_seed m) p q (lt-div-mul-add pos);
      fits = div-le_of_le-mul q (ln_fits.law p q third);
      small = omega arith;
    }

-- ---- ln below 1/2: the same of r, which is 2p / 2q
inverse_low : Order 3 (λ g p q. (con 2 times g :* q ≼ con 2 :* p :* con (2 ^ 62)) ∷ []
    ⊩ g :* (con 2 :* q) ≈ con 2 :* p :* con (2 ^ 63) :+ con 2 :* q)
inverse_low = by_below tt

inverse_high : Order 3 (λ g p q. (con 2 times nxt (con 2 :* p :* con (2 ^ 62)) ≼ g :* q :+ q) ∷ []
    ⊩ con 2 :* p :* con (2 ^ 63) ≈ (g :+ con 3) :* (con 2 :* q))
inverse_high = by_below tt

-- (m-1) / (m+1) is at most 1/3, and across it lies r
pub ln_third : (m : ℕ) → 2 ^ 52 ≤ m → m < 2 ^ 53 → let s = argument_of_ln (parts 52 m) in 3 * s.num ≤ s.den
ln_third m low high = omega arith

module _ (m : ℕ) (low : 2 ^ 52 ≤ m) (high : m < 2 ^ 53) where
  abbrev pub beyond : Quotient
  beyond = across (argument_of_ln (parts 52 m)) (ln_third m low high)

  pub beyond_num : beyond.num ≡ 2 * (2 ^ 53 - m)
  beyond_num = omega arith

  pub beyond_den : beyond.den ≡ 2 * (2 ^ 53 + m)
  beyond_den = omega arith

  pub inverse_seeds : Seed beyond 1 (inverse_seed m)
  inverse_seeds =
      let p = 2 ^ 53 - m in
      let q = 2 ^ 53 + m in
      let pos : 0 < q = omega arith in
      let third : 3 * p ≤ q = omega arith in
      record {
        low = rw (beyond_num, beyond_den) (inverse_low.law (inverse_seed m) p q (div-mul-le_self (2 * p * 2 ^ 62) q));
        high = rw (beyond_num, beyond_den) (inverse_high.law (inverse_seed m) p q (lt-div-mul-add pos));
        fits = div-le_of_le-mul q (ln_fits.law p q third);
        small = omega arith;
      }

-- ---- ln_1p above 0. J = 2 ^ j, a = m / (2 ^ 53 J), c its part, g the seed
gain_low : Order 4 (λ m J c g.
    (g times nxt (m :* con (2 ^ 7)) ≼ c :* J :+ J) ∷ (J times g :* (con (2 ^ 61) :+ c) ≼ m :* con (2 ^ 7) :* con (2 ^ 62))
    ∷ (J times g ≼ con (2 ^ 61)) ∷ []
    ⊩ g :* (con 2 :* (con (2 ^ 53) :* J) :+ m) :* con (2 ^ 7) ≈
    (m :* (con (2 ^ 62) :* J) :+ (con 2 :* (con (2 ^ 53) :* J) :+ m)) :* con (2 ^ 7))
gain_low = by_below tt

gain_high : Order 4 (λ m J c g.
    (g :+ con 1 times c :* J ≼ m :* con (2 ^ 7)) ∷ (J times nxt (m :* con (2 ^ 7) :* con (2 ^ 62))
    ≼ g :* (con (2 ^ 61) :+ c) :+ (con (2 ^ 61) :+ c)) ∷ []
    ⊩ m :* (con (2 ^ 62) :* J) :* con (2 ^ 7) ≈ (g :+ con 3) :* (con 2 :* (con (2 ^ 53) :* J) :+ m) :* con (2 ^ 7))
gain_high = by_below tt

gain_fits : Order 2 (λ m c. (con (2 ^ 69) times m ≼ con (2 ^ 53)) ∷ []
    ⊩ m :* con (2 ^ 7) :* con (2 ^ 62) ≈ (con (2 ^ 61) :+ c) :* con (2 ^ 61))
gain_fits = by_below tt

gain_small : (m J : ℕ) → m ≤ 2 ^ 53 → 1 ≤ J → 5 * m ≤ 3 * (2 * (2 ^ 53 * J) + m)
gain_small m J h p = omega arith

pub gain_seeds : (j m : ℕ) → m ≤ 2 ^ 53 → Seed (gain (parts (53 + j) m)) j (gain_seed j m)
gain_seeds j m h =
    let J = 2 ^ j in
    let c = part j m in
    let g = gain_seed j m in
    let pos : 0 < 2 ^ 61 + c = omega arith in
    let g61 : g ≤ 2 ^ 61 = div-le_of_le-mul (2 ^ 61 + c) (gain_fits.law m c h) in
    let l = gain_low.law m J c g (lt-div-mul-add (pow_pos j)) (div-mul-le_self (m * 2 ^ 7 * 2 ^ 62) (2 ^ 61 + c)) g61 in
    let u = gain_high.law m J c g (div-mul-le_self (m * 2 ^ 7) J) (lt-div-mul-add pos) in
    record {
      low = rw (pow-add 2 53 j, pow-add 2 62 j) (le_of_mul-le-mul_right l (pow_pos 7));
      high = rw (pow-add 2 53 j, pow-add 2 62 j) (le_of_mul-le-mul_right u (pow_pos 7));
      fits = le_trans g61 (omega arith);
      small = rw (pow-add 2 53 j) (gain_small m J h (pow_pos j));
    }

-- ---- ln_1p below 0: q = 2 ^ (54 + j) - m, d = 2 ^ 61 - c
loss_low : Order 6 (λ m J c g q d.
    (con (2 ^ 7) :* g times q :+ m ≼ con (2 ^ 54) :* J) ∷ (g times c :* J ≼ m :* con (2 ^ 7)) ∷
    (g :* J times con (2 ^ 61) ≼ d :+ c)
    ∷ (J times g :* d ≼ m :* con (2 ^ 7) :* con (2 ^ 62)) ∷ []
    ⊩ g :* q :* con (2 ^ 7) ≈ (m :* (con (2 ^ 62) :* J) :+ q) :* con (2 ^ 7))
loss_low = by_below tt

-- (l is what the rest of m * 2 ^ 7 is at most: it is J, and where j is 0 the rest is 0)
loss_high : Order 7 (λ m J c g q d l.
    (J times nxt (m :* con (2 ^ 7) :* con (2 ^ 62)) ≼ g :* d :+ d) ∷ (J :* (g :+ con 1) times d :+ c ≼ con (2 ^ 61))
    ∷ (con (2 ^ 7) :* (g :+ con 1) times con (2 ^ 54) :* J ≼ q :+ m) ∷ (g :+ con 1 times m :* con (2 ^ 7) ≼ c :* J :+ l)
    ∷ (con 1 times (g :+ con 1) :* l ≼ con 2 :* (q :* con (2 ^ 7))) ∷ []
    ⊩ m :* (con (2 ^ 62) :* J) :* con (2 ^ 7) ≈ (g :+ con 3) :* q :* con (2 ^ 7))
loss_high = by_below tt

loss_small : (m J q : ℕ) → 4 * m ≤ 3 * (2 ^ 53 * J) → 2 ^ 54 * J ≤ q + m → 5 * m ≤ 3 * q
loss_small m J q h e = omega arith

-- j = 0
fits_0 : Order 2 (λ m d. (con (2 ^ 68) times con 4 :* m ≼ con (3 * 2 ^ 53)) ∷
    (con (2 ^ 62) times con (2 ^ 61) ≼ d :+ m :* con (2 ^ 7)) ∷ []
    ⊩ m :* con (2 ^ 7) :* con (2 ^ 62) ≈ d :* con (2 ^ 62))
fits_0 = by_below tt

-- j > 0
fits_1 : Order 2 (λ m d. (con (2 ^ 69) times m ≼ con (2 ^ 53)) ∷ (con (3 * 2 ^ 60 - 1) times con (3 * 2 ^ 59) ≼ d) ∷ []
    ⊩ m :* con (2 ^ 7) :* con (2 ^ 62) ≈ d :* con (3 * 2 ^ 60 - 1))
fits_1 = by_below tt

rest_1 : Order 4 (λ m J g q.
    (J times g :+ con 1 ≼ con (3 * 2 ^ 60)) ∷ (con (2 ^ 8) times con (2 ^ 54) :* J ≼ q :+ m)
    ∷ (con (2 ^ 8) times m ≼ con (2 ^ 53)) ∷ (con (2 ^ 60) times con 2 ≼ J) ∷ []
    ⊩ (g :+ con 1) :* J ≈ con 2 :* (q :* con (2 ^ 7)))
rest_1 = by_below tt

part_half : (m J : ℕ) → m ≤ 2 ^ 53 → 2 ≤ J → m * 2 ^ 7 ≤ J * 2 ^ 59
part_half m J h e = omega arith

-- (what both cases give)
record Rest (j m q : ℕ) : Type 0 where
  up_to : ℕ
  rest : m * 2 ^ 7 ≤ part j m * 2 ^ j + up_to
  few : (loss_seed j m + 1) * up_to ≤ 2 * (q * 2 ^ 7)
  held : part j m ≤ 2 ^ 60
  fits : loss_seed j m ≤ 2 ^ 62

rests : (j m q : ℕ) → m ≤ 2 ^ 53 → 4 * m ≤ 3 * (2 ^ 53 * 2 ^ j) → 2 ^ 54 * 2 ^ j ≤ q + m → Rest j m q
rests zero m q h a e =
    let c = part 0 m in
    let k : c * 1 ≤ m * 2 ^ 7 = div-mul-le_self (m * 2 ^ 7) 1 in
    let l : m * 2 ^ 7 < c * 1 + 1 = lt-div-mul-add (omega arith) in
    let f : c ≡ m * 2 ^ 7 = omega arith in
    record {
      up_to = 0;
      rest = omega arith;
      few = omega arith;
      held = omega arith;
      fits = div-le_of_le-mul (2 ^ 61 - c) (fits_0.law m (2 ^ 61 - c) (omega arith) (omega arith));
    }
rests (suc i) m q h a e =
    let J = 2 ^ suc i in
    let P : 1 ≤ 2 ^ i = pow_pos i in
    let two : 2 ≤ J = omega arith in
    let c = part (suc i) m in
    let half : c ≤ 2 ^ 59 = div-le_of_le-mul J (part_half m J h two) in
    let g : loss_seed (suc i) m ≤ 3 * 2 ^ 60 - 1 = div-le_of_le-mul (2 ^ 61 - c) (fits_1.law m (2 ^ 61 - c) h (omega arith)) in
    let l : m * 2 ^ 7 < c * J + J = lt-div-mul-add (pow_pos (suc i)) in
    record {
      up_to = J;
      rest = omega arith;
      few = rest_1.law m J (loss_seed (suc i) m) q (omega arith) e h two;
      held = omega arith;
      fits = omega arith;
    }

pub loss_seeds : (j m : ℕ) (proper : m < 2 ^ (53 + j)) → m ≤ 2 ^ 53 → 4 * m ≤ 3 * 2 ^ (53 + j)
    → Seed (loss (parts (53 + j) m) proper) j (loss_seed j m)
loss_seeds j m proper h a =
    let J = 2 ^ j in
    let q = 2 * 2 ^ (53 + j) - m in
    let c = part j m in
    let g = loss_seed j m in
    let e : 2 ^ (53 + j) ≡ 2 ^ 53 * J = pow-add 2 53 j in
    let a' : 4 * m ≤ 3 * (2 ^ 53 * J) = omega arith in
    let s : q + m ≡ 2 ^ 54 * J = omega arith in
    let r = rests j m q h a' (le_of_eq (sym s)) in
    let pos : 0 < 2 ^ 61 - c = omega (arith, r.held) in
    let up : 2 ^ 61 ≤ 2 ^ 61 - c + c = omega arith in
    let down : 2 ^ 61 - c + c ≤ 2 ^ 61 = omega (arith, r.held) in
    let l = loss_low.law m J c g q (2 ^ 61 - c) (le_of_eq s) (div-mul-le_self (m * 2 ^ 7) J) up
    (div-mul-le_self (m * 2 ^ 7 * 2 ^ 62) (2 ^ 61 - c)) in
    let u = loss_high.law m J c g q (2 ^ 61 - c) r.up_to (lt-div-mul-add pos) down (le_of_eq (sym s)) r.rest r.few in
    record {
      low = rw (pow-add 2 62 j) (le_of_mul-le-mul_right l (pow_pos 7));
      high = rw (pow-add 2 62 j) (le_of_mul-le-mul_right u (pow_pos 7));
      fits = r.fits;
      small = loss_small m J q a' (le_of_eq (sym s));
    }

-- ---- a seed is that of the number, however its quotient is written
same_low : Order 6 (λ g n d n' d' P. (d' times g :* d ≼ n :* P :+ d) ∷ (P times n :* d' ≼ n' :* d) ∷ [] ⊩ g :* d' :* d
    ≈ (n' :* P :+ d') :* d)
same_low = by_below tt

same_high : Order 6 (λ g n d n' d' P. (d' times n :* P ≼ (g :+ con 3) :* d) ∷ (P times n' :* d ≼ n :* d') ∷ []
    ⊩ n' :* P :* d ≈ (g :+ con 3) :* d' :* d)
same_high = by_below tt

same_small : Order 4 (λ n d n' d'. (d' times con 5 :* n ≼ con 3 :* d) ∷ (con 5 times n' :* d ≼ n :* d') ∷ []
    ⊩ con 5 :* n' :* d ≈ con 3 :* d' :* d)
same_small = by_below tt

pub seed_same : (r r' : Quotient) (j sg : ℕ) → r.num * r'.den ≡ r'.num * r.den → Seed r j sg → Seed r' j sg
seed_same r r' j sg e h =
    let n = r.num in
    let d = r.den in
    let P = 2 ^ (62 + j) in
    let to = le_of_eq e in
    let back = le_of_eq (sym e) in
    record {
      low = le_of_mul-le-mul_right (same_low.law sg n d r'.num r'.den P h.low to) r.pos;
      high = le_of_mul-le-mul_right (same_high.law sg n d r'.num r'.den P h.high back) r.pos;
      fits = h.fits;
      small = le_of_mul-le-mul_right (same_small.law n d r'.num r'.den h.small back) r.pos;
    }

-- ---- ln between 1/2 and 2: the distance from 1 is n parts of 2 ^ -53, shifted up by j (J = 2 ^ j)
above_same : (p q J : ℕ) → q ≡ 2 ^ 53 + p → 2 * p * J * q ≡ p * (2 * (2 ^ 53 * J) + 2 * p * J)
above_same p q J e = rw e (omega arith)

loss_den : (n q J : ℕ) → q + n ≡ 2 ^ 54 → 2 * (2 ^ 53 * J) - n * J ≡ q * J
loss_den n q J e = omega (arith, ap (λ (z : ℕ). z * J) e)

below_same : (n q J : ℕ) → n * J * (2 * q) ≡ 2 * n * (q * J)
below_same n q J = omega arith

module _ (m j : ℕ) (low : 2 ^ 52 ≤ m) (high : m < 2 ^ 53) where
  abbrev J : ℕ
  J = 2 ^ j

  scale : 2 ^ (53 + j) ≡ 2 ^ 53 * J
  scale = pow-add 2 53 j

  pub above_seeds : let n = 2 * (m - 2 ^ 52) in n * J ≤ 2 ^ 53 → Seed (argument_of_ln (parts 52 m)) j (gain_seed j (n * J))
  above_seeds fits =
      let n = 2 * (m - 2 ^ 52) in
      let same = above_same (m - 2 ^ 52) (m + 2 ^ 52) J (omega arith) in
      seed_same (gain (parts (53 + j) (n * J))) (argument_of_ln (parts 52 m)) j (gain_seed j (n * J)) (rw scale same)
      (gain_seeds j (n * J) fits)

  pub below_seeds : let n = 2 ^ 53 - m in n * J ≤ 2 ^ 53 → Seed (beyond m low high) j (loss_seed j (n * J))
  below_seeds fits =
      let n = 2 ^ 53 - m in
      let some : 1 ≤ J = pow_pos j in
      let half : n * J ≤ 2 ^ 52 * J = mul-le-mul_right J (omega arith) in
      let proper : n * J < 2 ^ (53 + j) = rw scale (omega arith) in
      let small : 4 * (n * J) ≤ 3 * 2 ^ (53 + j) = rw scale (omega arith) in
      let den : 2 * 2 ^ (53 + j) - n * J ≡ (2 ^ 53 + m) * J = rw scale (loss_den n (2 ^ 53 + m) J (omega arith)) in
      let same : n * J * (beyond m low high).den ≡ (beyond m low high).num * (2 * 2 ^ (53 + j) - n * J) =
      rw (beyond_num m low high, beyond_den m low high, den) (below_same n (2 ^ 53 + m) J) in
      seed_same (loss (parts (53 + j) (n * J)) proper) (beyond m low high) j (loss_seed j (n * J)) same
      (loss_seeds j (n * J) proper fits small)
