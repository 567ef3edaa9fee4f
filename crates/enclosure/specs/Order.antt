-- The order of quotients: sums, differences and products keep it. Assumes nothing.
use Rattle.std.specs.Prelude.{ℕ, ◌+◌, ◌^◌, ◌≤◌, [], ◌∷◌}
use Rattle.std.proofs.Common.{sym, le_of_mul-le-mul_right, le_of_eq, mul-le-mul_right, arith}
use Rattle.algebra.specs.Ring.{◌:+◌, ◌:*◌, ◌≈◌, ◌⊩◌, ◌times◌≼◌, Law, Order}
use Rattle.algebra.proofs.Ring.{by_ring, by_below}
use Rattle.enclosure.specs.Quotient.{Quotient, ◌≼◌, parts, ◌⊞◌, ◌⊠◌}

pub ≼_refl : {x : Quotient} → x ≼ x
≼_refl {x} = record { cross = omega arith }

through : Order 6 (λ a b c d e f. (f times a :* d ≼ c :* b) ∷ (b times c :* f ≼ e :* d) ∷ [] ⊩ a :* f :* d ≈ e :* b :* d)
through = by_below tt

pub ≼_trans : {x y z : Quotient} → x ≼ y → y ≼ z → x ≼ z
≼_trans {x} {y} {z} h g = record {
  cross = le_of_mul-le-mul_right (through.law x.num x.den y.num y.den z.num z.den h.cross g.cross)
      y.pos;
}

sums : Order 8 (λ a b c d a' b' c' d'. (d :* d' times a :* b' ≼ a' :* b) ∷ (b :* b' times c :* d' ≼ c' :* d) ∷ []
    ⊩ (a :* d :+ c :* b) :* (b' :* d') ≈ (a' :* d' :+ c' :* b') :* (b :* d))
sums = by_below tt

pub ⊞-mono : {x y x' y' : Quotient} → x ≼ x' → y ≼ y' → x ⊞ y ≼ x' ⊞ y'
⊞-mono {x} {y} {x'} {y'} h g = record {
  cross = sums.law x.num x.den y.num y.den x'.num x'.den y'.num y'.den h.cross g.cross;
}

products : Order 8 (λ a b c d a' b' c' d'. (c :* d' times a :* b' ≼ a' :* b) ∷ (a' :* b times c :* d' ≼ c' :* d) ∷ []
    ⊩ a :* c :* (b' :* d') ≈ a' :* c' :* (b :* d))
products = by_below tt

pub ⊠-mono : {x y x' y' : Quotient} → x ≼ x' → y ≼ y' → x ⊠ y ≼ x' ⊠ y'
⊠-mono {x} {y} {x'} {y'} h g = record {
  cross = products.law x.num x.den y.num y.den x'.num x'.den y'.num y'.den h.cross g.cross;
}

more : Order 4 (λ a b c d. a :* (b :* d) ≈ (a :* d :+ c :* b) :* b)
more = by_below tt

pub ≼-more : (x y : Quotient) → x ≼ x ⊞ y
≼-more x y = record { cross = more.law x.num x.den y.num y.den }

-- ---- sums bracketed to either side
grouped : Law 6 (λ a b c d e f. ((a :* d :+ c :* b) :* f :+ e :* (b :* d)) :* (b :* (d :* f))
    ≈ (a :* (d :* f) :+ (c :* f :+ e :* d) :* b) :* (b :* d :* f))
grouped = by_ring tt

pub ⊞-under : (x y z : Quotient) → x ⊞ y ⊞ z ≼ x ⊞ (y ⊞ z)
⊞-under x y z = record { cross = le_of_eq (grouped.law x.num x.den y.num y.den z.num z.den) }

pub ⊞-over : (x y z : Quotient) → x ⊞ (y ⊞ z) ≼ x ⊞ y ⊞ z
⊞-over x y z = record { cross = le_of_eq (sym (grouped.law x.num x.den y.num y.den z.num z.den)) }

-- ---- parts
joined : Law 3 (λ a b q. (a :* q :+ b :* q) :* q ≈ (a :+ b) :* (q :* q))
joined = by_ring tt

pub parts_join : (k a b : ℕ) → parts k a ⊞ parts k b ≼ parts k (a + b)
parts_join k a b = record { cross = le_of_eq (joined.law a b (2 ^ k)) }

pub parts_split : (k a b : ℕ) → parts k (a + b) ≼ parts k a ⊞ parts k b
parts_split k a b = record { cross = le_of_eq (sym (joined.law a b (2 ^ k))) }

pub parts_mono : (k a b : ℕ) → a ≤ b → parts k a ≼ parts k b
parts_mono k a b h = record { cross = mul-le-mul_right (2 ^ k) h }
