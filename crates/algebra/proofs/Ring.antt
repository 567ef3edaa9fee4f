-- A solver for identities of the commutative semiring ℕ, and for inequalities that hold coefficient by coefficient.
-- An expression is data (`Poly`); `norm` computes its Horner form, and `ring`, `below` compare two of them by computation.
use Prim.Native.Nat.{ℕ, zero, suc, ◌+◌, ◌*◌, ◌^◌, ◌≤◌, compare, Ordering, zero-le}
use Rattle.std.specs.Prelude.{◌≡◌, refl, List, [], ◌∷◌}
use Rattle.std.proofs.Common.{sym, ◌∙◌, ap, ap₂, le_antisymm, add-le-add, mul-le-mul_left, arith}
use Rattle.std.proofs.Math.Nat.{pow-zero, pow-succ'}
use Rattle.std.proofs.Math.Bridge.{IsLe, le_by_compare}
use Rattle.algebra.specs.Ring.{◌:+◌, ◌:*◌, ◌:^◌, All, AtMost, AtMosts, Equal, Equals, Form, Good, ImpEq, ImpLe, Law, Order, Over, Poly, Used, Verdict, at, atmost?, below?, closed, con, equal?, eval, fine, flip, hd, later, left, lowers, mk, node, norm, num, nxt, off, place, plus, plusn, power, right, same?, scale, seq, swap, times, tl, under, undern, uppers, used, var, weigh, ◌times◌≼◌}

ev : Form → List ℕ → ℕ
ev (num c) ρ = c
ev (node p q) ρ = ev p (tl ρ) + hd ρ * ev q ρ

mk_ev : (p q : Form) (ρ : List ℕ) → ev (mk p q) ρ ≡ ev p (tl ρ) + hd ρ * ev q ρ
unfolding ev
mk_ev (num c) (num zero) ρ = omega arith
mk_ev (num c) (num (suc n)) ρ = refl
mk_ev (num c) (node r s) ρ = refl
mk_ev (node p q) t ρ = refl

plusn_ev : (k : ℕ) (p : Form) (ρ : List ℕ) → ev (plusn k p) ρ ≡ k + ev p ρ
unfolding ev
plusn_ev k (num c) ρ = refl
plusn_ev k (node p q) ρ = omega (arith, plusn_ev k p (tl ρ))

plus_ev : (p q : Form) (ρ : List ℕ) → ev (plus p q) ρ ≡ ev p ρ + ev q ρ
unfolding ev
plus_ev (num c) r ρ = plusn_ev c r ρ
plus_ev (node p q) (num c) ρ = omega (arith, plusn_ev c p (tl ρ))
plus_ev (node p q) (node r s) ρ = omega (arith, plus_ev p r (tl ρ), ap (λ t. hd ρ * t) (plus_ev q s ρ))

scale_ev : (k : ℕ) (p : Form) (ρ : List ℕ) → ev (scale k p) ρ ≡ k * ev p ρ
unfolding ev
scale_ev k (num c) ρ = refl
scale_ev k (node p q) ρ = omega (arith, mk_ev (scale k p) (scale k q) ρ, scale_ev k p (tl ρ), ap (λ t. hd ρ * t) (scale_ev k q ρ))

later_ev : (f : Form → Form) (p : Form) → ((r : Form) (ρ : List ℕ) → ev (f r) ρ ≡ ev p ρ * ev r ρ) → (r : Form) (ρ : List ℕ)
    → ev (later f r) ρ ≡ ev p (tl ρ) * ev r ρ
unfolding ev
later_ev f p h (num c) ρ = omega (arith, mk_ev (f (num c)) (num 0) ρ, h (num c) (tl ρ))
later_ev f p h (node r s) ρ = omega (arith, mk_ev (f r) (later f s) ρ, h r (tl ρ), ap (λ t. hd ρ * t) (later_ev f p h s ρ))

times_ev : (p r : Form) (ρ : List ℕ) → ev ((times) p r) ρ ≡ ev p ρ * ev r ρ
unfolding ev
times_ev (num c) r ρ = scale_ev c r ρ
times_ev (node p q) r ρ = omega (
  arith,
  plus_ev (later ((times) p) r) (mk (num 0) ((times) q r)) ρ,
  later_ev ((times) p) p (times_ev p) r ρ,
  mk_ev (num 0) ((times) q r) ρ,
  ap (λ t. hd ρ * t) (times_ev q r ρ),
)

power_ev : (p : Form) (n : ℕ) (ρ : List ℕ) → ev (power p n) ρ ≡ ev p ρ ^ n
unfolding ev
power_ev p zero ρ = sym (pow-zero (ev p ρ))
power_ev p (suc n) ρ = times_ev p (power p n) ρ ∙ ap (λ t. ev p ρ * t) (power_ev p n ρ) ∙ sym (pow-succ' (ev p ρ) n)

place_ev : (i : ℕ) (ρ : List ℕ) → ev (place i) ρ ≡ at i ρ
unfolding ev
place_ev zero ρ = omega arith
place_ev (suc i) ρ = omega (arith, place_ev i (tl ρ))

norm_ev : (e : Poly) (ρ : List ℕ) → eval e ρ ≡ ev (norm e) ρ
unfolding ev
norm_ev (var i) ρ = sym (place_ev i ρ)
norm_ev (con k) ρ = refl
norm_ev (nxt e) ρ = omega (arith, norm_ev e ρ, plusn_ev 1 (norm e) ρ)
norm_ev (e :+ f) ρ = ap₂ ◌+◌ (norm_ev e ρ) (norm_ev f ρ) ∙ sym (plus_ev (norm e) (norm f) ρ)
norm_ev (e :* f) ρ = ap₂ ◌*◌ (norm_ev e ρ) (norm_ev f ρ) ∙ sym (times_ev (norm e) (norm f) ρ)
norm_ev (e :^ n) ρ = ap (λ t. t ^ n) (norm_ev e ρ) ∙ sym (power_ev (norm e) n ρ)

seq_fst : (v w : Verdict) → Good (seq v w) → Good v
seq_fst fine w h = tt
seq_fst (off m l r) w h = h

seq_snd : (v w : Verdict) → Good (seq v w) → Good w
seq_snd fine w h = h
seq_snd (off m l r) w h = elim h [ ]

unswap : (v : Verdict) → Good (swap v) → Good v
unswap fine h = tt
unswap (off m l r) h = elim h [ ]

weigh_le : (a b : ℕ) (m : List ℕ) → Good (weigh (compare a b) m a b) → a ≤ b
unfolding IsLe
weigh_le a b m p = le_by_compare a b (go (compare a b) p)
  where
    go : (o : Ordering) → Good (weigh o m a b) → IsLe o
    go Ordering.lt p = tt
    go Ordering.eq p = tt
    go Ordering.gt p = elim p [ ]

undern_ev : (a : ℕ) (p : Form) (ks : List ℕ) (k : ℕ) (ρ : List ℕ) → Good (undern a p ks k) → a ≤ ev p ρ
unfolding ev
undern_ev a (num c) ks k ρ h = weigh_le a c (flip ks (k ∷ [])) h
undern_ev a (node p q) ks k ρ h = omega (arith, undern_ev a p (k ∷ ks) 0 (tl ρ) h)

under_ev : (p q : Form) (ks : List ℕ) (k : ℕ) (ρ : List ℕ) → Good (under p q ks k) → ev p ρ ≤ ev q ρ
unfolding ev
under_ev (num a) r ks k ρ h = undern_ev a r ks k ρ h
under_ev (node p q) (num c) ks k ρ h =
    let v : Verdict = under p (num c) (k ∷ ks) 0 in
    let w : Verdict = under q (num 0) ks (suc k) in
    omega (
      arith,
      under_ev p (num c) (k ∷ ks) 0 (tl ρ) (seq_fst v w h),
      mul-le-mul_left (hd ρ)
          (under_ev q (num 0) ks (suc k) ρ (seq_snd v w h)),
    )
under_ev (node p q) (node r s) ks k ρ h =
    let v : Verdict = under p r (k ∷ ks) 0 in
    let w : Verdict = under q s ks (suc k) in
    add-le-add (under_ev p r (k ∷ ks) 0 (tl ρ) (seq_fst v w h))
    (mul-le-mul_left (hd ρ) (under_ev q s ks (suc k) ρ (seq_snd v w h)))

-- ---- THE THEOREMS, over an environment
pub le_solve : (e f : Poly) (ρ : List ℕ) → Good (below? e f) → eval e ρ ≤ eval f ρ
le_solve e f ρ h = omega (arith, norm_ev e ρ, norm_ev f ρ, under_ev (norm e) (norm f) [] 0 ρ h)

pub solve : (e f : Poly) (ρ : List ℕ) → Good (same? e f) → eval e ρ ≡ eval f ρ
solve e f ρ h = le_antisymm (le_solve e f ρ (seq_fst (below? e f) (swap (below? f e)) h))
    (le_solve f e ρ (unswap (below? f e) (seq_snd (below? e f) (swap (below? f e)) h)))

le_go : (hs : List Used) (ρ : List ℕ) (a b x y : ℕ) → a + (eval (uppers hs) ρ + y) ≤ b + (eval (lowers hs) ρ + x) → x ≤ y
    → ImpLe hs ρ (a ≤ b)
le_go [] ρ a b x y p q = omega arith
le_go ((m times l ≼ r) ∷ hs) ρ a b x y p q = λ h. le_go hs ρ a b (eval m ρ * eval l ρ + x) (eval m ρ * eval r ρ + y) (omega arith)
    (omega (arith, mul-le-mul_left (eval m ρ) h))

eq_go : (hs : List Used) (ρ : List ℕ) (a b x y : ℕ) → a + (eval (uppers hs) ρ + y) ≡ b + (eval (lowers hs) ρ + x) → x ≡ y
    → ImpEq hs ρ (a ≡ b)
eq_go [] ρ a b x y p q = omega arith
eq_go ((m times l ≼ r) ∷ hs) ρ a b x y p q = λ h. eq_go hs ρ a b (eval m ρ * eval l ρ + x) (eval m ρ * eval r ρ + y) (omega arith)
    (omega (arith, ap (λ t. eval m ρ * t) h))

pub le_solve_from : (hs : List Used) (e f : Poly) (ρ : List ℕ) → Good (below? (e :+ uppers hs) (f :+ lowers hs))
    → ImpLe hs ρ (eval e ρ ≤ eval f ρ)
le_solve_from hs e f ρ h = le_go hs ρ (eval e ρ) (eval f ρ) 0 0
    (omega (arith, le_solve (e :+ uppers hs) (f :+ lowers hs) ρ h)) zero-le

pub solve_from : (hs : List Used) (e f : Poly) (ρ : List ℕ) → Good (same? (e :+ uppers hs) (f :+ lowers hs))
    → ImpEq hs ρ (eval e ρ ≡ eval f ρ)
solve_from hs e f ρ h = eq_go hs ρ (eval e ρ) (eval f ρ) 0 0 (omega (arith, solve (e :+ uppers hs) (f :+ lowers hs) ρ h)) refl

all : (n : ℕ) (P : List ℕ → Type 0) → ((ρ : List ℕ) → P ρ) → All n P
all zero P h = h []
all (suc n) P h = λ x. all n (λ ρ. P (x ∷ ρ)) (λ ρ. h (x ∷ ρ))

pub ring : (n : ℕ) (F : Over n) → Good (equal? (closed n 0 F)) → Equals n F
ring n F h = all n (Equal (closed n 0 F)) (λ ρ. solve_from (used (closed n 0 F)) (left (closed n 0 F)) (right (closed n 0 F)) ρ h)

pub below : (n : ℕ) (F : Over n) → Good (atmost? (closed n 0 F)) → AtMosts n F
below n F h = all n (AtMost (closed n 0 F))
    (λ ρ. le_solve_from (used (closed n 0 F)) (left (closed n 0 F)) (right (closed n 0 F)) ρ h)

pub by_ring : {n : ℕ} {F : Over n} → Good (equal? (closed n 0 F)) → Law n F
by_ring {n} {F} h = record { law = ring n F h }

pub by_below : {n : ℕ} {F : Over n} → Good (atmost? (closed n 0 F)) → Order n F
by_below {n} {F} h = record { law = below n F h }
