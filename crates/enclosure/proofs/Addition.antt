-- The addition theorem of T, as far as ln needs it: T(1/3) = T(t) + T(r), where r = (1/3 - t) / (1 - t/3), by enclosures. Said of
-- f(t) = T(t) + T((1/3 - t) / (1 - t/3)), where the first T is a partial sum and the second an upper end: from x to y = x + δ it
-- rises by δ^2 at most (`Rise`; without roundings f is constant), so in 2^i steps by δ^2 / 2^i at most, so not at all.
-- Assumes nothing.
use Rattle.std.specs.Prelude.{ℕ, zero, suc, ◌+◌, ◌-◌, ◌*◌, ◌^◌, ◌≤◌, ◌<◌, ◌≡◌, [], ◌∷◌}
use Rattle.std.proofs.Common.{sym, ap, ◌∙◌, subst, inl, inr, le_of_eq, mul-pos, mul-le-mul, pow-add}
use Rattle.std.proofs.Math.Nat.{pow-succ'}
use native.Mathlib.Omega.{arith}
use Rattle.algebra.specs.Ring.{con, nxt, ◌:+◌, ◌:*◌, ◌≈◌, ◌⊩◌, ◌times◌≼◌, Law, Order}
use Rattle.algebra.proofs.Ring.{by_ring, by_below}
use Rattle.algebra.specs.Order.{lt_or_le}
use Rattle.enclosure.specs.Quotient.{Quotient, ◌≼◌, whole, parts, ◌⊞◌, ◌⊟◌, ◌⊠◌}
use Rattle.enclosure.specs.Order.{≼_refl, ≼_trans, ⊞-mono, ⊠-mono, ≼-more, ⊞-under, parts_join}
use Rattle.enclosure.specs.Enclosure.{T-factor, T-lower, T-upper, third, third_proper}
use Rattle.enclosure.proofs.Nested.{T-nested}
use Rattle.enclosure.proofs.Tiny.{T-tiny-high}
use Rattle.enclosure.proofs.Rise.{T-mono, T-rises, T-grows}
use Rattle.enclosure.specs.Addition.{across}

pub across_proper : (t : Quotient) (h : 3 * t.num ≤ t.den) → (across t h).num < (across t h).den
across_proper t h = omega (arith, t.pos)

-- ---- from x = a / b to y = c / d. w / (d b) is y - x, and B, C the denominators across
reached : Order 5 (λ a b c d w. (b :* d times c :* b ≼ w :+ a :* d) ∷ [] ⊩ c :* (b :* (d :* b)) ≈ (a :* (d :* b) :+ w :* b) :* d)
reached = by_below tt

short : Order 7 (λ a b c d w e e'. (con 1 times c :* (b :* e') ≼ (a :* e' :+ e :* b) :* d) ∷ (e' times w :+ a :* d ≼ c :* b) ∷ []
    ⊩ w :* e' ≈ e :* (d :* b))
short = by_below tt

-- (the numerators across are p and r: 8w / (B C) is the way back)
way_back : Law 9 (λ a b c d w p r B C.
    (p times B ≼ con 3 :* r :+ con 8 :* a) ∷ (r times con 3 :* p :+ con 8 :* c ≼ C) ∷ (con 8 times w :+ a :* d ≼ c :* b)
    ∷ (con 8 :* a times p :+ con 3 :* c ≼ d) ∷ (con 8 :* c times b ≼ r :+ con 3 :* a) ∷ []
    ⊩ p :* B :+ con 8 :* w ≈ r :* C)
way_back = by_ring tt

apart : Order 5 (λ p r B C w. (B :* C times p :* B :+ con 8 :* w ≼ r :* C) ∷ []
    ⊩ (p :* (B :* C) :+ con 8 :* w :* C) :* B ≈ r :* (C :* (B :* C)))
apart = by_below tt

-- (W is d^2 - c^2, and U the like across)
wider : Order 6 (λ a b c d w B. (d times B :+ a ≼ con 3 :* b) ∷ (con 1 times c :* b ≼ w :+ a :* d) ∷ []
    ⊩ d :* B :+ b :* c ≈ con 3 :* b :* d :+ w)
wider = by_below tt

across_squares : Order 6 (λ c d p C W U.
    (con 1 times U :+ p :* p ≼ C :* C) ∷ (C :+ con 3 :* p :+ con 8 :* c times C ≼ con 3 :* p :+ con 8 :* c)
    ∷ (con 8 :* (p :+ con 3 :* c :+ d) times p :+ con 3 :* c ≼ d) ∷ (con 8 times d :* d ≼ W :+ c :* c) ∷ []
    ⊩ U ≈ con 8 :* W)
across_squares = by_below tt

-- D / (1 - y^2) is at most D^2 more than its like across
steeper : Order 8 (λ w b c d B C W U.
    (C :* U :* b :* b :* d :* d :* d :* w times d :* B :+ b :* c ≼ con 3 :* b :* d :+ w)
    ∷ (C :* U :* b :* b :* b :* d :* d :* d :* w times con 3 :* d ≼ C :+ c)
    ∷ (C :* C :* b :* b :* b :* d :* d :* d :* w times U ≼ con 8 :* W)
    ∷ (C :* U :* b :* b :* d :* w :* w times d :* d ≼ con 2 :* W) ∷ (C :* U :* W :* b :* d :* w :* w times con 2 :* b ≼ B) ∷ []
    ⊩ w :* (d :* d) :* (B :* C :* U :* (d :* b :* (d :* b)))
    ≈ (con 8 :* w :* (C :* C) :* (d :* b :* (d :* b)) :+ w :* w :* (B :* C :* U)) :* (d :* b :* W))
steeper = by_below tt

turned : Order 8 (λ T T' X X' G G' Y Y'.
    ((T :* (X' :* G') :+ (X :* G' :+ G :* X') :* T') :* Y' :+ Y :* (T' :* (X' :* G'))) :* (T' :* (Y' :* X') :* G')
    ≈ ((T :* (Y' :* X') :+ (Y :* X' :+ X :* Y') :* T') :* G' :+ G :* (T' :* (Y' :* X'))) :* (T' :* (X' :* G') :* Y'))
turned = by_below tt

turn : (t x g y : Quotient) → t ⊞ (x ⊞ g) ⊞ y ≼ t ⊞ (y ⊞ x) ⊞ g
turn t x g y = record { cross = turned.law t.num t.den x.num x.den g.num g.den y.num y.den }

-- f, of which the law speaks: n terms of the first T and k of the second
unfoldable both : (t : Quotient) → 3 * t.num ≤ t.den → ℕ → ℕ → Quotient
both t h n k = T-lower t n ⊞ T-upper (across t h) (across_proper t h) k

module _ (x y : Quotient) (hx : 3 * x.num ≤ x.den) (hy : 3 * y.num ≤ y.den) (up : x ≼ y) where
  abbrev a : ℕ
  a = x.num

  abbrev b : ℕ
  b = x.den

  abbrev c : ℕ
  c = y.num

  abbrev d : ℕ
  d = y.den

  abbrev B : ℕ
  B = 3 * b - a

  abbrev C : ℕ
  C = 3 * d - c

  abbrev p : ℕ
  p = d - 3 * c

  abbrev r : ℕ
  r = b - 3 * a

  abbrev w : ℕ
  w = c * b - a * d

  -- y - x, and the way back across
  abbrev D : Quotient
  D = y ⊟ x

  abbrev E : Quotient
  E = record { num = 8 * w; den = B * C; pos = mul-pos (across x hx).pos (across y hy).pos }

  w_is : w + a * d ≡ c * b
  w_is = omega (arith, up.cross)

  y_proper : c < d
  y_proper = omega (arith, y.pos)

  first_rises : (n : ℕ) → T-lower y n ≼ T-lower x n ⊞ D ⊠ T-factor y y_proper
  first_rises = T-rises x y D up (record { cross = reached.law a b c d w (le_of_eq (sym w_is)) }) y_proper

  second_falls : (k : ℕ) → let u = across y hy in T-upper u (across_proper y hy) k ⊞ E ⊠ T-factor u (across_proper y hy)
      ≼ T-upper (across x hx) (across_proper x hx) k
  second_falls =
      let e : p * B + 8 * w ≡ r * C =
      way_back.law a b c d w p r B C (omega arith) (omega arith) w_is (omega arith) (omega arith) in
      T-grows (across y hy) (across x hx) E (record { cross = apart.law p r B C w (le_of_eq e) }) (across_proper y hy)
      (across_proper x hx)

  -- D is at most δ
  module _ (δ : Quotient) (near : y ≼ x ⊞ δ) where
    D-small : D ≼ δ
    D-small = record { cross = short.law a b c d w δ.num δ.den near.cross (le_of_eq w_is) }

    little_more : D ⊠ T-factor y y_proper ≼ E ⊠ T-factor (across y hy) (across_proper y hy) ⊞ δ ⊠ δ
    little_more =
        let W = d * d - c * c in
        let U = C * C - p * p in
        let h : p ≤ C = omega arith in
        let wide = wider.law a b c d w B (omega arith) (le_of_eq (sym w_is)) in
        let squares = across_squares.law c d p C W U (omega (arith, mul-le-mul h h)) (omega arith) (omega arith) (omega arith) in
        let most : d * d ≤ 2 * W = omega (arith, mul-le-mul hy hy) in
        let s = steeper.law w b c d B C W U wide (omega arith) squares most (omega arith) in
        let least : D ⊠ T-factor y y_proper ≼ E ⊠ T-factor (across y hy) (across_proper y hy) ⊞ D ⊠ D = record { cross = s } in
        ≼_trans least (⊞-mono ≼_refl (⊠-mono D-small D-small))

    -- one step
    step : (n k : ℕ) → both y hy n k ≼ both x hx n k ⊞ δ ⊠ δ
    unfolding both
    step n k =
        let u = across y hy in
        let F = E ⊠ T-factor u (across_proper y hy) in
        let Y = T-upper u (across_proper y hy) k in
        let t = T-lower x n in
        let grown : T-lower y n ≼ t ⊞ (F ⊞ δ ⊠ δ) = ≼_trans (first_rises n) (⊞-mono ≼_refl little_more) in
        ≼_trans (⊞-mono grown ≼_refl) (≼_trans (turn t F (δ ⊠ δ) Y) (⊞-mono (⊞-mono ≼_refl (second_falls k)) ≼_refl))

-- ---- half the way from x to y
mid_third : Order 4 (λ a b c d. (d times con 3 :* a ≼ b) ∷ (b times con 3 :* c ≼ d) ∷ [] ⊩ con 3 :* (a :* d :+ c :* b)
    ≈ con 2 :* (b :* d))
mid_third = by_below tt

mid_low : Order 4 (λ a b c d. (b times a :* d ≼ c :* b) ∷ [] ⊩ a :* (con 2 :* (b :* d)) ≈ (a :* d :+ c :* b) :* b)
mid_low = by_below tt

mid_high : Order 4 (λ a b c d. (d times a :* d ≼ c :* b) ∷ [] ⊩ (a :* d :+ c :* b) :* d ≈ c :* (con 2 :* (b :* d)))
mid_high = by_below tt

-- (K is twice J)
mid_first : Order 6 (λ a b c d J K.
    (c :* b :* b times K ≼ con 2 :* J) ∷ (con 2 :* b times c :* (b :* J) ≼ (a :* J :+ con 1 :* b) :* d)
    ∷ (a :* b :* d times con 2 :* J ≼ K) ∷ []
    ⊩ (a :* d :+ c :* b) :* (b :* K) ≈ (a :* K :+ con 1 :* b) :* (con 2 :* (b :* d)))
mid_first = by_below tt

mid_last : Order 6 (λ a b c d J K.
    (b :* c :* d times K ≼ con 2 :* J) ∷ (con 2 :* d times c :* (b :* J) ≼ (a :* J :+ con 1 :* b) :* d)
    ∷ (a :* d :* d times con 2 :* J ≼ K) ∷ []
    ⊩ c :* (con 2 :* (b :* d) :* K) ≈ ((a :* d :+ c :* b) :* K :+ con 1 :* (con 2 :* (b :* d))) :* d)
mid_last = by_below tt

-- in 2 ^ i steps
walk : (i j : ℕ) (x y : Quotient) (hx : 3 * x.num ≤ x.den) (hy : 3 * y.num ≤ y.den) → x ≼ y → y ≼ x ⊞ parts j 1 → (n k : ℕ)
    → both y hy n k ≼ both x hx n k ⊞ parts (2 * j + i) 1
walk zero j x y hx hy up near n k =
    let e : 2 ^ (2 * j + 0) ≡ 2 ^ j * 2 ^ j = let f : 2 * j + 0 ≡ j + j = omega arith in ap (λ (m : ℕ). 2 ^ m) f
    ∙ pow-add 2 j j in
    ≼_trans (step x y hx hy up (parts j 1) near n k) (⊞-mono ≼_refl (record { cross = le_of_eq (omega (arith, e)) }))
walk (suc i) j x y hx hy up near n k =
    let a = x.num in
    let b = x.den in
    let c = y.num in
    let d = y.den in
    let mid : Quotient = record { num = a * d + c * b; den = 2 * (b * d); pos = omega (arith, mul-pos x.pos y.pos) } in
    let hm : 3 * (a * d + c * b) ≤ 2 * (b * d) = mid_third.law a b c d hx hy in
    let K = 2 ^ suc j in
    let J = 2 ^ j in
    let up_to : K ≤ 2 * J = le_of_eq (pow-succ' 2 j) in
    let from : 2 * J ≤ K = le_of_eq (sym (pow-succ' 2 j)) in
    let low : x ≼ mid = record { cross = mid_low.law a b c d up.cross } in
    let high : mid ≼ y = record { cross = mid_high.law a b c d up.cross } in
    let first = walk i (suc j) x mid hx hm low (record { cross = mid_first.law a b c d J K up_to near.cross from }) n k in
    let last = walk i (suc j) mid y hm hy high (record { cross = mid_last.law a b c d J K up_to near.cross from }) n k in
    let m = 2 * suc j + i in
    let e : 2 * suc j + i ≡ suc (2 * j + suc i) = omega arith in
    let twice : 2 ^ m ≡ 2 * 2 ^ (2 * j + suc i) = ap (λ (z : ℕ). 2 ^ z) e ∙ pow-succ' 2 (2 * j + suc i) in
    let sum : parts m 1 ⊞ parts m 1
    ≼ parts (2 * j + suc i) 1 = ≼_trans (parts_join m 1 1) (record { cross = le_of_eq (omega (arith, twice)) }) in
    ≼_trans last (≼_trans (⊞-mono first ≼_refl) (≼_trans (⊞-under (both x hx n k) (parts m 1) (parts m 1)) (⊞-mono ≼_refl sum)))

-- ---- what is at most any part too much is not too much
power_more : (n : ℕ) → n < 2 ^ n
power_more zero = omega arith
power_more (suc n) = omega (arith, power_more n, pow-succ' 2 n)

too_much : Order 5 (λ x x' y y' P. (P times nxt (y :* x') ≼ x :* y')
    ∷ (con 1 times x :* (y' :* P) ≼ (y :* P :+ con 1 :* y') :* x') ∷ []
    ⊩ P ≈ y' :* x')
too_much = by_below tt

no_more : (x y : Quotient) → ((i : ℕ) → x ≼ y ⊞ parts i 1) → x ≼ y
no_more x y h = elim (lt_or_le (y.num * x.den) (x.num * y.den)) [
  | inl l ↦
      let i = y.den * x.den in
      absurd (omega (arith, power_more i, too_much.law x.num x.den y.num y.den (2 ^ i) l (h i).cross))
  | inr l ↦ record { cross = l }
]

one_more : Order 4 (λ a b c d. (b times c ≼ d) ∷ [] ⊩ c :* (b :* con 1) ≈ (a :* con 1 :+ con 1 :* b) :* d)
one_more = by_below tt

-- so f falls
both_falls : (x y : Quotient) (hx : 3 * x.num ≤ x.den) (hy : 3 * y.num ≤ y.den) → x ≼ y → (n k : ℕ) → both y hy n k
    ≼ both x hx n k
both_falls x y hx hy up n k =
    let near : y ≼ x ⊞ parts 0 1 = record { cross = one_more.law x.num x.den y.num y.den (omega arith) } in
    no_more (both y hy n k) (both x hx n k) (λ i.
    let e : 2 * 0 + i ≡ i = omega arith in
    subst (λ (m : ℕ). both y hy n k ≼ both x hx n k ⊞ parts m 1) e (walk i 0 x y hx hy up near n k))

-- an upper end keeps the order, too
none_on_top : Order 2 (λ n d. (n :* con 1 :+ con 0 :* d) :* d ≈ n :* (d :* con 1))
none_on_top = by_below tt

upper_mono : (u v : Quotient) (h : u.num < u.den) (l : v.num < v.den) → u ≼ v → (n : ℕ) → T-upper u h n ≼ T-upper v l n
upper_mono u v h l up n =
    let same : u ⊞ whole 0 ≼ v = ≼_trans (record { cross = none_on_top.law u.num u.den }) up in
    ≼_trans (≼-more (T-upper u h n) (whole 0 ⊠ T-factor u h)) (T-grows u v (whole 0) same h l n)

-- THE LAWS. From t to 1/3:
module _ (t : Quotient) (h : 3 * t.num ≤ t.den) where
  pub third_low : (n k : ℕ) → T-lower third n ≼ T-lower t n ⊞ T-upper (across t h) (across_proper t h) k
  unfolding both
  third_low n k =
      let last : 3 * third.num ≤ third.den = omega arith in
      let rest = T-upper (across third last) (across_proper third last) k in
      ≼_trans (≼-more (T-lower third n) rest) (both_falls t third h last (record { cross = omega arith }) n k)

  -- and from 0 to r, where r across is t again
  pub third_high : (n k : ℕ) → T-lower (across t h) k ⊞ T-lower t n ≼ T-upper third third_proper n
  unfolding both
  third_high n k =
      let r = across t h in
      let hr : 3 * r.num ≤ r.den = omega arith in
      let none : 3 * 0 ≤ 1 = omega arith in
      let p = t.num in
      let q = t.den in
      let num_is : 3 * q - p - 3 * (q - 3 * p) ≡ 8 * p = omega arith in
      let den-is : 3 * (3 * q - p) - (q - 3 * p) ≡ 8 * q = omega arith in
      let back : t ≼ across r hr = record { cross = rw (num_is, den-is) (omega arith) } in
      let start : across (whole 0) none ≼ third = record { cross = omega arith } in
      let inside : T-lower t n ≼ T-upper (across r hr) (across_proper r hr) n =
      ≼_trans (T-mono back n) (T-nested (across r hr) (across_proper r hr) n n) in
      let falls = both_falls (whole 0) r none hr (record { cross = omega arith }) k n in
      let first : T-lower (whole 0) k ≼ whole 0 =
      ≼_trans (T-tiny-high (whole 0) (omega arith) (omega arith) k) (record { cross = omega arith }) in
      let top = upper_mono (across (whole 0) none) third (across_proper (whole 0) none) third_proper start n in
      let e = T-upper third third_proper n in
      ≼_trans (⊞-mono ≼_refl inside) (≼_trans falls
      (≼_trans (⊞-mono first top) (record { cross = nothing_first.law e.num e.den })))
    where
      nothing_first : Order 2 (λ n d. (con 0 :* d :+ n :* con 1) :* d ≈ n :* (con 1 :* d))
      nothing_first = by_below tt
