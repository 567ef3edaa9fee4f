-- Which way a decimal is laid out, by the tests as the code has them. Assumes nothing.
use Prim.Native.Nat.{ℕ, ◌+◌, ◌-◌, ◌≤◌, ◌<◌}
use mathlib.Core.Path.{◌≡◌, sym}
use borrow.Author.Tests.{lt-leb, le-leb, lt-ltb, le-ltb}
use Rattle.writing.specs.Decimal.{places_of}
use Rattle.decimal.specs.Decimal.{ones}
use Rattle.decimal_text.specs.Shape.{whole_shape, point_shape, power_shape, shape_of}

module _ (d t n : ℕ) (is : n ≡ places_of 19 d) where
  pub as_point : t < ones → 1195 < n + t → point_shape d (ones - t) ≡ shape_of d t
  unfolding shape_of
  as_point h l = rw (sym is, lt-leb ones t h, lt-ltb t ones h, lt-ltb 1195 (n + t) l)

  pub as_low : t < ones → n + t ≤ 1195 → power_shape d (n - 1) t ≡ shape_of d t
  unfolding shape_of
  as_low h l = rw (sym is, lt-leb ones t h, lt-ltb t ones h, le-ltb 1195 (n + t) l)

  pub as_whole : ones ≤ t → n + t ≤ 1217 → whole_shape d t ≡ shape_of d t
  unfolding shape_of
  as_whole h l = rw (sym is, le-leb ones t h, le-leb (n + t) 1217 l)

  pub as_high : ones ≤ t → 1217 < n + t → power_shape d (n - 1) t ≡ shape_of d t
  unfolding shape_of
  as_high h l = rw (sym is, le-leb ones t h, lt-leb (n + t) 1217 l, le-ltb t ones h)
