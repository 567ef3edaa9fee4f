-- The rule for atan is near every enclosure, for any t ≤ 2 ^ -j of which tau is the whole number of parts of 2 ^ -(62 + j),
-- rounded down.
-- In these parts: the share is at most 5 too low, so the front is at most 2 too low and 5 too high; the sum's value loses 6 and
-- 2 * 20 parts of 2 ^ -63 at most; what Euler's series leaves out after 64 terms is 1 at most. Assumes nothing.
use Rattle.std.specs.Prelude.{ℕ, ◌+◌, ◌-◌, ◌*◌, ◌/◌, ◌^◌, ◌≤◌, ◌<◌, ◌≡◌, [], ◌∷◌}
use Rattle.std.proofs.Common.{sym, ◌∙◌, ap, le_of_mul-le-mul_right, div-mul-le_self, mul-le-mul, le_of_eq, arith, leb→le, pow_pos, pow-add}
use Rattle.std.proofs.Math.Nat.{lt-div-mul-add, div-le_of_le-mul, pow-le-pow_right}
use Rattle.algebra.specs.Ring.{con, nxt, ◌:+◌, ◌:*◌, ◌≈◌, ◌⊩◌, ◌times◌≼◌, Order}
use Rattle.algebra.proofs.Ring.{by_below}
use Rattle.enclosure.specs.Quotient.{Quotient, ◌≼◌, parts, ◌⊞◌, ◌⊠◌}
use Rattle.enclosure.specs.Order.{≼_refl, ≼_trans, ⊞-mono, ⊠-mono}
use Rattle.enclosure.specs.Enclosure.{one_and_square, euler_start, euler_ratio, euler_term, atan_lower, atan_upper, Within}
use Rattle.enclosure.proofs.Nested.{euler_falls, atan_nested, near_all, gathered}
use Rattle.enclosure.specs.Expansion.{power, Enough}
use Rattle.enclosure.proofs.Expansion.{euler_expansion, late, enough_by}
use Rattle.enclosure.specs.Pieces.{euler, terms, value}
use Rattle.enclosure.specs.Rules.{square, share, front, atan_answer}
use Rattle.enclosure.specs.Slope.{half}
use Rattle.enclosure.proofs.Rows.{value_fits}
use Rattle.enclosure.specs.Values.{partial, Near}
use Rattle.enclosure.proofs.Values.{value_low, value_high}
use Rattle.enclosure.specs.Atan.{Floor}

-- ---- the square. t = n / d, g is tau, u the square, Q = 2 ^ (62 + j), W = 2 ^ (63 + 2j)
square_low : Order 6 (λ n d g u Q W.
    (d :* d times u :* W ≼ g :* g) ∷ (g :* d :+ n :* Q times g :* d ≼ n :* Q) ∷ (n :* n times Q :* Q ≼ con (2 ^ 61) :* W) ∷ []
    ⊩ u :* (d :* d) :* W ≈ con (2 ^ 61) :* (n :* n) :* W)
square_low = by_below tt

square_high : Order 6 (λ n d g u Q W.
    (d :* d times nxt (g :* g) ≼ u :* W :+ W) ∷ (n :* Q :+ g :* d :+ d times nxt (n :* Q) ≼ g :* d :+ d)
    ∷ (con 2 :* d :* d times g ≼ con (2 ^ 62))
    ∷ (d :* d times con (2 ^ 63) ≼ W) ∷ (n :* n times con (2 ^ 61) :* W ≼ Q :* Q) ∷ []
    ⊩ con (2 ^ 61) :* (n :* n) :* W ≈ (u :+ con 2) :* (d :* d) :* W)
square_high = by_below tt

-- ---- the share f. N = n^2, D = d^2, and r is 2 ^ 62 - f, or 2 ^ 62 - f - 5
share_low : Order 5 (λ f r u N D.
    (con 4 :* D times f :* (con (2 ^ 61) :+ u) ≼ u :* con (2 ^ 62)) ∷ (con 4 :* D :* u times con (2 ^ 62) ≼ f :+ r)
    ∷ (con 4 :* r times u :* D ≼ con (2 ^ 61) :* N)
    ∷ (con (2 ^ 63) :* N times f :+ r ≼ con (2 ^ 62)) ∷ []
    ⊩ con 4 :* f :* (D :+ N) :* con (2 ^ 61) ≈ (N :* con (2 ^ 64) :+ con 0 :* (D :+ N)) :* con (2 ^ 61))
share_low = by_below tt

share_high : Order 5 (λ f r u N D.
    (con 4 :* r times con (2 ^ 61) :* N ≼ (u :+ con 2) :* D)
    ∷ (con 4 :* D times nxt (u :* con (2 ^ 62)) ≼ f :* (con (2 ^ 61) :+ u) :+ (con (2 ^ 61) :+ u))
    ∷ (con 4 :* D :* (u :+ con 2) times f :+ r :+ con 5 ≼ con (2 ^ 62))
    ∷ (con (2 ^ 63) :* N times con (2 ^ 62) ≼ f :+ r :+ con 5) ∷ []
    ⊩ N :* con (2 ^ 64) :* con (2 ^ 61) ≈ (con 4 :* f :+ con 20) :* (D :+ N) :* con (2 ^ 61))
share_high = by_below tt

share_half : Order 1 (λ u. (con (2 ^ 61) times u ≼ con (2 ^ 61)) ∷ [] ⊩ u :* con (2 ^ 62) ≈ (con (2 ^ 61) :+ u) :* con (2 ^ 61))
share_half = by_below tt

-- ---- the front p
front_low : Order 9 (λ n d g p f r N D Q.
    (con 4 :* (D :+ N) times p :* con (2 ^ 62) ≼ g :* r) ∷ (g times N :* con (2 ^ 64) ≼ (con 4 :* f :+ con 20) :* (D :+ N))
    ∷ (con 4 :* g :* (D :+ N) times f :+ r ≼ con (2 ^ 62)) ∷ (con 20 :* (D :+ N) times g ≼ con (2 ^ 62))
    ∷ (con (2 ^ 64) :* d times g :* d ≼ n :* Q)
    ∷ (con (2 ^ 64) :* g times D ≼ d :* d) ∷ []
    ⊩ p :* (D :+ N) :* con (2 ^ 64) ≈ (n :* Q :* d :+ con 5 :* (D :+ N)) :* con (2 ^ 64))
front_low = by_below tt

front_high : Order 9 (λ n d g p f r N D Q.
    (con 4 :* (D :+ N) times nxt (g :* r) ≼ p :* con (2 ^ 62) :+ con (2 ^ 62))
    ∷ (g :+ con 1 times con 4 :* f :* (D :+ N) ≼ N :* con (2 ^ 64) :+ con 0 :* (D :+ N))
    ∷ (con 4 :* (g :+ con 1) :* (D :+ N) times con (2 ^ 62) ≼ f :+ r) ∷ (con 4 :* (D :+ N) times r ≼ con (2 ^ 62))
    ∷ (con (2 ^ 64) :* d times nxt (n :* Q) ≼ g :* d :+ d)
    ∷ (con (2 ^ 64) :* (g :+ con 1) times d :* d ≼ D) ∷ []
    ⊩ n :* Q :* d :* con (2 ^ 64) ≈ (p :+ con 2) :* (D :+ N) :* con (2 ^ 64))
front_high = by_below tt

-- ---- the answer A. h is the sum's value, e / q the exact sum, m = n Q d, Y = D + N
answer_low : Order 7 (λ A p h m Y e q.
    (Y :* q times A :* con (2 ^ 63) ≼ p :* h) ∷ (h :* q times p :* Y ≼ m :+ con 5 :* Y)
    ∷ (m times h :* q ≼ e :* con (2 ^ 63) :+ con 2 :* con 0 :* q)
    ∷ (con 5 :* Y :* q times nxt h ≼ con (2 ^ 64)) ∷ []
    ⊩ A :* (Y :* q) :* con (2 ^ 63) ≈ (m :* e :+ con 10 :* (Y :* q)) :* con (2 ^ 63))
answer_low = by_below tt

answer_high : Order 7 (λ A p h m Y e q.
    (Y :* q times nxt (p :* h) ≼ A :* con (2 ^ 63) :+ con (2 ^ 63)) ∷ ((h :+ con 46) :* q times m ≼ (p :+ con 2) :* Y)
    ∷ (m times e :* con (2 ^ 63) ≼ (h :+ con 6 :+ con 2 :* con 20) :* q) ∷ (con 2 :* Y :* q times nxt h ≼ con (2 ^ 64))
    ∷ (con 46 :* Y :* q times p ≼ con (2 ^ 62)) ∷ []
    ⊩ m :* e :* con (2 ^ 63) ≈ (A :+ con 29) :* (Y :* q) :* con (2 ^ 63))
answer_high = by_below tt

-- (the same as quotients)
as_low : Order 7 (λ A n d Y e q Q. (d :* Q times A :* (Y :* q) ≼ n :* Q :* d :* e :+ con 10 :* (Y :* q)) ∷ []
    ⊩ A :* (d :* Y :* q :* Q) ≈ (n :* (d :* d) :* e :* Q :+ con 10 :* (d :* Y :* q)) :* Q)
as_low = by_below tt

as_high : Order 7 (λ A n d Y e q Q. (d times n :* Q :* d :* e ≼ A :* (Y :* q)) ∷ [] ⊩ n :* (d :* d) :* e :* Q
    ≈ A :* (d :* Y :* q))
as_high = by_below tt

-- ---- what the series leaves out: w / x is the ratio's power
tail_fits : Order 6 (λ n d w x Y Q. (Y :* w :* d :* d times n :* Q ≼ con (2 ^ 62) :* d)
    ∷ (Y :* d :* d :* d times w :* con (2 ^ 62) ≼ x) ∷ []
    ⊩ Y :* (w :* (n :* (d :* d))) :* Q ≈ con 1 :* (d :* d :* (x :* (d :* Y))))
tail_fits = by_below tt

tau_fits : Order 4 (λ n d g Q. (con 1 times n :* Q ≼ con (2 ^ 62) :* d) ∷ (con 1 times g :* d ≼ n :* Q) ∷ [] ⊩ g :* d
    ≈ con (2 ^ 62) :* d)
tau_fits = by_below tt

below_one : Order 3 (λ n d Q. (n times con (2 ^ 62) ≼ Q) ∷ (con 1 times n :* Q ≼ con (2 ^ 62) :* d) ∷ [] ⊩ n :* con (2 ^ 62)
    ≈ d :* con (2 ^ 62))
below_one = by_below tt

scale : (j : ℕ) → 2 ^ (62 + j) * 2 ^ (62 + j) ≡ 2 ^ 61 * 2 ^ (63 + 2 * j)
scale j =
    let e : 62 + j + (62 + j) ≡ 61 + (63 + 2 * j) = omega arith in
    sym (pow-add 2 (62 + j) (62 + j)) ∙ ap (λ (n : ℕ). 2 ^ n) e ∙ pow-add 2 61 (63 + 2 * j)

square_fits : Order 2 (λ g W. (g :+ con (2 ^ 62) times g ≼ con (2 ^ 62)) ∷ (con (2 ^ 61) times con (2 ^ 63) ≼ W) ∷ []
    ⊩ g :* g ≈ W :* con (2 ^ 61))
square_fits = by_below tt

module _ (t : Quotient) (j tau : ℕ) (floor : Floor t j tau) where
  abbrev n : ℕ
  n = t.num

  abbrev d : ℕ
  d = t.den

  abbrev Q : ℕ
  Q = 2 ^ (62 + j)

  abbrev W : ℕ
  W = 2 ^ (63 + 2 * j)

  abbrev u : ℕ
  u = square j tau

  abbrev f : ℕ
  f = share u

  Q-large : 2 ^ 62 ≤ Q
  Q-large = let h : 62 ≤ 62 + j = omega arith in pow-le-pow_right (omega arith) h

  W-large : 2 ^ 63 ≤ W
  W-large = let h : 63 ≤ 63 + 2 * j = omega arith in pow-le-pow_right (omega arith) h

  pub tau_high : tau ≤ 2 ^ 62
  tau_high = le_of_mul-le-mul_right (tau_fits.law n d tau Q floor.one floor.low) t.pos

  t_one : n ≤ d
  t_one = le_of_mul-le-mul_right (below_one.law n d Q Q-large floor.one) (pow_pos 62)

  pub share_fits : f ≤ 2 ^ 61
  share_fits =
      let square_small : u ≤ 2 ^ 61 = div-le_of_le-mul W (square_fits.law tau W tau_high W-large) in
      div-le_of_le-mul (2 ^ 61 + u) (share_half.law u square_small)

  -- (of any f that is the quotient)
  near_at : (f : ℕ) → f ≤ 2 ^ 61 → f * (2 ^ 61 + u) ≤ u * 2 ^ 62 → u * 2 ^ 62 < f * (2 ^ 61 + u) + (2 ^ 61 + u)
      → Near euler (euler_ratio t) (4 * f) 0 20
  near_at f fits fl fh =
      let r = 2 ^ 62 - f in
      let a : f + r ≤ 2 ^ 62 = omega arith in
      let b : 2 ^ 62 ≤ f + r = omega arith in
      let q = 2 ^ 62 - f - 5 in
      let a' : f + q + 5 ≤ 2 ^ 62 = omega arith in
      let b' : 2 ^ 62 ≤ f + q + 5 = omega arith in
      let D = d * d in
      let N = n * n in
      let ul : u * D ≤ 2 ^ 61 * N =
      le_of_mul-le-mul_right (square_low.law n d tau u Q W (div-mul-le_self (tau * tau) W) floor.low (le_of_eq (scale j)))
      (pow_pos (63 + 2 * j)) in
      let uh : 2 ^ 61 * N ≤ (u + 2) * D =
      le_of_mul-le-mul_right
      (square_high.law n d tau u Q W (lt-div-mul-add (pow_pos (63 + 2 * j))) floor.high tau_high W-large
      (le_of_eq (sym (scale j))))
      (pow_pos (63 + 2 * j)) in
      let x : 4 * f ≤ 2 ^ 63 = omega arith in
      record {
        low = le_of_mul-le-mul_right (share_low.law f r u N D fl b ul a) (pow_pos 61);
        high = le_of_mul-le-mul_right (share_high.law f q u N D uh fh a' b') (pow_pos 61);
        half = omega (arith, mul-le-mul t_one t_one);
        fits = x;
        inside = omega arith;
      }

  pub near : Near euler (euler_ratio t) (4 * f) 0 20
  near = let R : 0 < 2 ^ 61 + u = omega arith in near_at f share_fits (div-mul-le_self (u * 2 ^ 62) (2 ^ 61 + u))
      (lt-div-mul-add R)

  abbrev poly : Quotient
  poly = partial euler (euler_ratio t)

  abbrev h : ℕ
  h = value euler (4 * f)

  abbrev p : ℕ
  p = front tau f

  abbrev A : ℕ
  A = p * h / 2 ^ 63

  abbrev Y : ℕ
  Y = d * d + n * n

  h_fits : h < 2 ^ 64
  h_fits = value_fits euler (4 * f) near.inside

  partial_low : parts (62 + j) A ≼ t ⊠ euler_start t ⊠ poly ⊞ parts (62 + j) 10
  partial_low =
      let r = 2 ^ 62 - f in
      let a : f + r ≤ 2 ^ 62 = omega (arith, share_fits) in
      let same : d * d ≤ d * d = omega arith in
      let g = front_low.law n d tau p f r (n * n) (d * d) Q (div-mul-le_self (tau * r) (2 ^ 62)) near.high a tau_high
      floor.low same in
      let k = answer_low.law A p h (n * Q * d) Y poly.num poly.den (div-mul-le_self (p * h) (2 ^ 63))
      (le_of_mul-le-mul_right g (pow_pos 64))
      (value_low euler (euler_ratio t) (4 * f) 0 20 near) h_fits in
      record { cross = as_low.law A n d Y poly.num poly.den Q (le_of_mul-le-mul_right k (pow_pos 63)) }

  partial_high : t ⊠ euler_start t ⊠ poly ≼ parts (62 + j) (A + 29)
  partial_high =
      let r = 2 ^ 62 - f in
      let a : 2 ^ 62 ≤ f + r = omega arith in
      let b : r ≤ 2 ^ 62 = omega arith in
      let same : d * d ≤ d * d = omega arith in
      let small : p ≤ 2 ^ 62 = div-le_of_le-mul (2 ^ 62) (mul-le-mul tau_high b) in
      let g = front_high.law n d tau p f r (n * n) (d * d) Q (lt-div-mul-add (pow_pos 62)) near.low a b floor.high same in
      let k = answer_high.law A p h (n * Q * d) Y poly.num poly.den (lt-div-mul-add (pow_pos 63))
      (le_of_mul-le-mul_right g (pow_pos 64))
      (value_high euler (euler_ratio t) (4 * f) 0 20 near) h_fits small in
      record { cross = as_high.law (A + 29) n d Y poly.num poly.den Q (le_of_mul-le-mul_right k (pow_pos 63)) }

  enough : Enough (euler_ratio t) (terms euler)
  enough = enough_by {y = half} (terms euler) (record { cross = omega (arith, mul-le-mul t_one t_one) }) (leb→le _ _ tt)

  tail_high : one_and_square t ⊠ euler_term t (terms euler) ≼ parts (62 + j) 1
  unfolding euler_term
  tail_high =
      let w = power (euler_ratio t) (terms euler) in
      let fits : one_and_square t ⊠ (w ⊠ (t ⊠ euler_start t)) ≼ parts (62 + j) 1 =
      record { cross = tail_fits.law n d w.num w.den Y Q floor.one enough } in
      ≼_trans (⊠-mono ≼_refl (late (euler_term t) (euler_ratio t) (one_and_square t) (euler_falls t) (terms euler))) fits

  -- THE LAW
  pub atan_near : Within (atan_lower t) (atan_upper t) (parts (62 + j) (atan_answer j tau)) (parts (62 + j) 10)
      (parts (62 + j) 30)
  unfolding atan_answer atan_lower atan_upper
  atan_near =
      let at_low : parts (62 + j) A ≼ atan_lower t (terms euler) ⊞ parts (62 + j) 10 = ≼_trans partial_low
      (⊞-mono (euler_expansion t (terms euler)).0 ≼_refl) in
      let at_high : atan_upper t (terms euler) ≼ parts (62 + j) A ⊞ parts (62 + j) 30 =
      gathered (62 + j) A 29 1 (≼_trans (euler_expansion t (terms euler)).1 partial_high) tail_high in
      near_all (atan_nested t) (terms euler) at_low at_high
