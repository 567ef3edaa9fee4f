-- atan above 1 is 8 atan(1/5) - 2 atan(1/239) - atan(1/t): the constant less the rule's answer at 1/t is near every enclosure.
-- Assumes nothing.
use Rattle.std.specs.Prelude.{ℕ, ◌+◌, ◌-◌, ◌*◌, ◌/◌, ◌^◌, ◌≤◌, ◌<◌, ◌≡◌, [], ◌∷◌}
use Rattle.std.proofs.Common.{inl, inr, le_of_mul-le-mul_right, div-mul-le_self, mul-pos, arith, pow_pos}
use Rattle.std.proofs.Math.Nat.{lt-div-mul-add}
use Rattle.algebra.specs.Ring.{con, ◌:+◌, ◌:*◌, ◌≈◌, ◌⊩◌, ◌times◌≼◌, Order}
use Rattle.algebra.proofs.Ring.{by_below}
use Rattle.algebra.specs.Order.{lt_or_le}
use Rattle.enclosure.specs.Quotient.{Quotient, ◌≼◌, whole, parts, ◌⊞◌, ◌⊟◌, ◌⊠◌}
use Rattle.enclosure.specs.Order.{≼_refl, ≼_trans, ⊞-mono, parts_split}
use Rattle.enclosure.specs.Enclosure.{atan_lower, atan_upper, inverse, fifth, part_of_239, steep_lower, steep_upper, Within}
use Rattle.enclosure.specs.Rules.{half_pi, atan_answer, steep_answer}
use Rattle.enclosure.specs.Atan.{Floor}
use Rattle.enclosure.proofs.Atan.{atan_near}
use Rattle.enclosure.proofs.Constants.{half_pi_low, half_pi_high}
use Rattle.enclosure.proofs.Tiny.{atan_first_high}

-- ---- differences (w is the numerator of x ⊟ z)
put_over : Order 9 (λ a a' z z' x x' b b' w.
    (con 1 times (a :* z' :+ z :* a') :* (x' :* b') ≼ (x :* b' :+ b :* x') :* (a' :* z')) ∷
    (b' :* a' times x :* z' ≼ w :+ z :* x') ∷ []
    ⊩ a :* (x' :* z' :* b') ≈ (w :* b' :+ b :* (x' :* z')) :* a')
put_over = by_below tt

pub ⊟-below : (a z x b : Quotient) → a ⊞ z ≼ x ⊞ b → a ≼ x ⊟ z ⊞ b
⊟-below a z x b h =
    let w = x.num * z.den - z.num * x.den in
    let e : x.num * z.den ≤ w + z.num * x.den = omega arith in
    record { cross = put_over.law a.num a.den z.num z.den x.num x.den b.num b.den w h.cross e }

taken_off : Order 7 (λ a a' z z' x x' w. (con 1 times x :* (a' :* z') ≼ (a :* z' :+ z :* a') :* x') ∷
    (a' times w :+ z :* x' ≼ x :* z') ∷ []
    ⊩ w :* a' ≈ a :* (x' :* z'))
taken_off = by_below tt

pub ⊟-above : {a x : Quotient} (z : Quotient) → x ≼ a ⊞ z → x ⊟ z ≼ a
⊟-above {a} {x} z h =
    let w = x.num * z.den - z.num * x.den in
    elim (lt_or_le (x.num * z.den) (z.num * x.den)) [
      | inl l ↦ let e : w ≡ 0 = omega arith in record { cross = rw e (omega arith) }
      | inr l ↦
          let e : w + z.num * x.den ≤ x.num * z.den = omega arith in
          record { cross = taken_off.law a.num a.den z.num z.den x.num x.den w h.cross e }
    ]

-- ---- parts that are gathered: a + b = y + c + v of them
cancelled : Order 6 (λ a b c d e f. (con 1 times (a :* f :+ e :* b) :* (d :* f) ≼ (c :* f :+ e :* d) :* (b :* f)) ∷ []
    ⊩ a :* d :* (f :* f) ≈ c :* b :* (f :* f))
cancelled = by_below tt

⊞-cancel : {x y : Quotient} (z : Quotient) → x ⊞ z ≼ y ⊞ z → x ≼ y
⊞-cancel {x} {y} z h = record {
  cross = le_of_mul-le-mul_right (cancelled.law x.num x.den y.num y.den z.num z.den h.cross)
      (mul-pos z.pos z.pos);
}

swapped : Order 6 (λ x x' v v' b b'. (x :* (v' :* b') :+ (v :* b' :+ b :* v') :* x') :* (x' :* b' :* v')
    ≈ ((x :* b' :+ b :* x') :* v' :+ v :* (x' :* b')) :* (x' :* (v' :* b')))
swapped = by_below tt

swap : (x v b : Quotient) → x ⊞ (v ⊞ b) ≼ x ⊞ b ⊞ v
swap x v b = record { cross = swapped.law x.num x.den v.num v.den b.num b.den }

gathered : Order 9 (λ a b y v g g' u u' q. (q :* q :* q :* g' :* g' :* u' :* u' times a :+ b ≼ y :+ v) ∷ []
    ⊩ ((a :* g' :+ g :* q) :* (u' :* q) :+ (u :* q :+ b :* u') :* (q :* g')) :* (q :* (g' :* u') :* q)
    ≈ ((y :* (g' :* u') :+ (g :* u' :+ u :* g') :* q) :* q :+ v :* (q :* (g' :* u'))) :* (q :* g' :* (u' :* q)))
gathered = by_below tt

gather : (g u : Quotient) (a b y v : ℕ) → a + b ≤ y + v → parts 62 a ⊞ g ⊞ (u ⊞ parts 62 b) ≼ parts 62 y ⊞ (g ⊞ u) ⊞ parts 62 v
gather g u a b y v h = record { cross = gathered.law a b y v g.num g.den u.num u.den (2 ^ 62) h }

spread_out : Order 8 (λ y v a g g' u u' q. (q :* q :* g' :* g' :* u' :* u' times y :+ v ≼ a) ∷ []
    ⊩ ((y :* (g' :* u') :+ (g :* u' :+ u :* g') :* q) :* q :+ v :* (q :* (g' :* u'))) :* (q :* g' :* u')
    ≈ ((a :* g' :+ g :* q) :* u' :+ u :* (q :* g')) :* (q :* (g' :* u') :* q))
spread_out = by_below tt

spread : (g u : Quotient) (y v a : ℕ) → y + v ≤ a → parts 62 y ⊞ (g ⊞ u) ⊞ parts 62 v ≼ parts 62 a ⊞ g ⊞ u
spread g u y v a h = record { cross = spread_out.law y v a g.num g.den u.num u.den (2 ^ 62) h }

-- ---- what is near atan(r), r ≤ 1, is at most 2 ^ 62 + 10 parts
at_most_one : Order 2 (λ n d. (con (2 ^ 124) times n ≼ d) ∷ []
    ⊩ (n :* con (2 ^ 62) :+ con 10 :* d) :* con (2 ^ 62) ≈ con (2 ^ 62 + 10) :* (d :* con (2 ^ 62)))
at_most_one = by_below tt

pub within_one : (r : Quotient) (v : ℕ) (up : Quotient) → r.num ≤ r.den
    → Within (atan_lower r) (atan_upper r) (parts 62 v) (parts 62 10) up
    → v ≤ 2 ^ 62 + 10
within_one r v up one w =
    let most : r ⊞ parts 62 10 ≼ parts 62 (2 ^ 62 + 10) = record { cross = at_most_one.law r.num r.den one } in
    let h : parts 62 v ≼ parts 62 (2 ^ 62 + 10) = ≼_trans (≼_trans (w.low 1) (⊞-mono (atan_first_high r) ≼_refl)) most in
    le_of_mul-le-mul_right h.cross (pow_pos 62)

module _ (t : Quotient) (steep : t.den < t.num) where
  abbrev r : Quotient
  r = inverse t steep

  abbrev tau : ℕ
  tau = t.den * 2 ^ 62 / t.num

  pub inverse_floor : Floor r 0 tau
  inverse_floor = record { low = div-mul-le_self (t.den * 2 ^ 62) t.num; high = lt-div-mul-add r.pos; one = omega arith }

  abbrev v : ℕ
  v = atan_answer 0 tau

  near : Within (atan_lower r) (atan_upper r) (parts 62 v) (parts 62 10) (parts 62 30)
  near = atan_near r 0 tau inverse_floor

  pub inverse_most : v ≤ 2 ^ 62 + 10
  inverse_most = let one : r.num ≤ r.den = omega arith in within_one r v (parts 62 30) one near

  adds_up : steep_answer tau + v ≡ half_pi
  unfolding steep_answer
  adds_up = omega (arith, inverse_most)

  -- THE LAW
  pub steep_near : Within (steep_lower t steep) (steep_upper t steep) (parts 62 (steep_answer tau)) (parts 62 30) (parts 62 11)
  unfolding steep_lower steep_upper
  steep_near =
      let y = steep_answer tau in
      let e = adds_up in
      record {
        low = λ n.
            let x = whole 8 ⊠ atan_upper fifth n in
            let g = whole 2 ⊠ atan_lower part_of_239 n in
            let l = atan_lower r n in
            let h : parts 62 half_pi ⊞ g ⊞ l ≼ x ⊞ (parts 62 v ⊞ parts 62 30) = ⊞-mono (half_pi_low n) (near.high n) in
            let k : parts 62 y ⊞ (g ⊞ l) ⊞ parts 62 v ≼ x ⊞ parts 62 30 ⊞ parts 62 v =
            ≼_trans (≼_trans (spread g l y v half_pi (omega arith)) h) (swap x (parts 62 v) (parts 62 30)) in
            ⊟-below (parts 62 y) (g ⊞ l) x (parts 62 30) (⊞-cancel (parts 62 v) k);
        high = λ n.
            let x = whole 8 ⊠ atan_lower fifth n in
            let g = whole 2 ⊠ atan_upper part_of_239 n in
            let u = atan_upper r n in
            let h : x ⊞ parts 62 v ≼ parts 62 (half_pi + 1) ⊞ g ⊞ (u ⊞ parts 62 10) = ⊞-mono (half_pi_high n) (near.low n) in
            let k : x ⊞ parts 62 v ≼ parts 62 (y + 11) ⊞ (g ⊞ u) ⊞ parts 62 v =
            ≼_trans h (gather g u (half_pi + 1) 10 (y + 11) v (omega arith)) in
            ≼_trans (⊟-above (g ⊞ u) (⊞-cancel (parts 62 v) k)) (parts_split 62 y 11);
      }
