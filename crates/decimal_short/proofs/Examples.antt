-- Some f64s and their shortest decimals, computed: the place by a test of it and of the next. Assumes nothing.
use Rattle.std.specs.Prelude.{ℕ, suc, ◌≡◌, refl, true, false, T, leb}
use Rattle.std.proofs.Math.Path.{ap}
use Rattle.std.proofs.Common.{◌∙◌, leb→le}
use Rattle.std.specs.Float.Ieee.{binary64, round, of_bits, to_bits}
use Rattle.std.specs.Float.Ieee.Bits.{of_bits-fits}
use Rattle.std.specs.Float.Ieee.Positive.{positive}
use Rattle.decimal.specs.Decimal.{decimal_of}
use Rattle.decimal_short.specs.Shortest.{reads, within, told, most, place_of, past_middle, chosen_at, shortest}
use Rattle.decimal_short.proofs.Largest.{last_is}
use Rattle.decimal_short.specs.Examples.{Written}

module _ (n d t : ℕ) (p : T (positive (of_bits binary64 n))) (h : T (leb t most)) (y : told (of_bits binary64 n) t ≡ true)
    (z : told (of_bits binary64 n) (suc t) ≡ false) (c : chosen_at (of_bits binary64 n) t ≡ d) where
  pub written : Written n d t
  unfolding shortest
  written =
      let e = last_is (record { ok = of_bits-fits binary64 n; size = p }) t (leb→le t most h) y z in
      (e, ap (λ (s : ℕ). chosen_at (of_bits binary64 n) s) e ∙ c)

-- 0.1
tenth : Written 0x3fb9_9999_9999_999a 1 1199
unfolding of_bits to_bits round told reads within past_middle chosen_at decimal_of
tenth = written 0x3fb9_9999_9999_999a 1 1199 tt tt refl refl refl

-- 0.1 + 0.2 has all seventeen digits: 0.30000000000000004
seventeen : Written 0x3fd3_3333_3333_3334 30000000000000004 1183
unfolding of_bits to_bits round told reads within past_middle chosen_at decimal_of
seventeen = written 0x3fd3_3333_3333_3334 30000000000000004 1183 tt tt refl refl refl

-- the least f64, 2 ^ -1074: of 4e-324 and 5e-324, which both read back, the nearer
least : Written 0x0000_0000_0000_0001 5 876
unfolding of_bits to_bits round told reads within past_middle chosen_at decimal_of
least = written 0x0000_0000_0000_0001 5 876 tt tt refl refl refl

-- the least normal one, a power of two: 2.2250738585072014e-308
least_normal : Written 0x0010_0000_0000_0000 22250738585072014 876
unfolding of_bits to_bits round told reads within past_middle chosen_at decimal_of
least_normal = written 0x0010_0000_0000_0000 22250738585072014 876 tt tt refl refl refl

-- the greatest: 1.7976931348623157e308
greatest : Written 0x7fef_ffff_ffff_ffff 17976931348623157 1492
unfolding of_bits to_bits round told reads within past_middle chosen_at decimal_of
greatest = written 0x7fef_ffff_ffff_ffff 17976931348623157 1492 tt tt refl refl refl

-- 1e23, which is no f64 but reads as this one
up : Written 0x44b5_2d02_c7e1_4af6 1 1223
unfolding of_bits to_bits round told reads within past_middle chosen_at decimal_of
up = written 0x44b5_2d02_c7e1_4af6 1 1223 tt tt refl refl refl

-- 1125899906842624.25, at the middle of two that read back: the upper, .. 624.3
halfway : Written 0x4310_0000_0000_0001 11258999068426243 1199
unfolding of_bits to_bits round told reads within past_middle chosen_at decimal_of
halfway = written 0x4310_0000_0000_0001 11258999068426243 1199 tt tt refl refl refl
