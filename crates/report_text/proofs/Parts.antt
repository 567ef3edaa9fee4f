-- The parts of a line, one after the other, and the room that they take. Assumes nothing.
use Prim.Native.Nat.{ℕ, ◌+◌, ◌≤◌, ◌<◌}
use mathlib.Core.Path.{◌≡◌, refl, sym, ap, ◌∙◌}
use mathlib.Core.Bool.{Bool, true, false, ◌&&◌, cond}
use mathlib.Core.List.{List, [], ◌∷◌}
use native.Mathlib.Omega.{arith}
use borrow.Author.Tests.{eqb-true, eq-eqb}
use lib.Dec.{eqb}
use lib.Ieee.{Float, binary64, to_bits}
use lib.ListN.{length, set, replicate, length-set}
use Rattle.limbs.specs.Value.{value_of, limbs_of, room, Words, length_limbs, value_held, value_lt}
use Rattle.exact.specs.Exact.{turn, below_zero, size_held, rounded_held, held_by, size_left}
use Rattle.digits.specs.Digits.{digits}
use Rattle.writing.specs.Decimal.{decimal}
use Rattle.writing.specs.Written.{Put, Tried, tried_put, put_more, put_byte, put_none, put_length}
use Rattle.unpack_stream.specs.Text.{name_text}
use Rattle.report_text.specs.HexLaws.{size-lt}
use Rattle.report_text.specs.RoomLaws.{decimal_most, name_most, key_most, sign_most}
use Rattle.report_text.specs.Text.{refused_key, slot_key, slot_line, hex_text, sign_text, exact_line, sum_line}

-- ---- the room that is left after a part of so many bytes at most
pub left_room : {before text out : List ℕ} {at next : ℕ} (k r m : ℕ) → k + r ≤ m → at + m ≤ length before → length text ≤ k
    → Put before at text out next → next + r ≤ length out
left_room k r m e h l p = omega (arith, p.place, put_length p)

-- ---- a word's line
pub after_name_lem : {o o₁ : List ℕ} {at n₁ : ℕ} (r m f : ℕ) → 3 + r ≤ m → at + m ≤ length o → Put o at (name_text f) o₁ n₁
    → n₁ + r ≤ length o₁
after_name_lem r m f e h p = left_room 3 r m e h (name_most f) p

pub after_sign : {o o₁ : List ℕ} {at n₁ : ℕ} (w : ℕ) → at + 545 ≤ length o → Put o at (sign_text w) o₁ n₁ → n₁ + 544 ≤ length o₁
after_sign w h p = left_room 1 544 545 (omega arith) h (sign_most w) p

module _ {o o₁ o₂ : List ℕ} {at n₁ n₂ : ℕ} where
  pub refused_whole : (n : ℕ) → at + 12 ≤ length o
      → Tried 9 o at (32 ∷ 114 ∷ 101 ∷ 102 ∷ 117 ∷ 115 ∷ 101 ∷ 100 ∷ 32 ∷ []) o₁ n₁ → Tried 2 o₁ n₁ (decimal 1 n) o₂ n₂
      → (n₂ + 1 ≤ length o₂) × (length (set o₂ n₂ 32) ≡ length o) × (Put o at (refused_key n) (set o₂ n₂ 32) (n₂ + 1))
  unfolding refused_key
  refused_whole n h p q =
      let a = tried_put {room = 9} (omega arith) p in
      let r : n₁ + 3 ≤ length o₁ = left_room 9 3 12 (omega arith) h (omega arith) a in
      let b = tried_put {room = 2} (omega arith) q in (
        left_room 2 1 3 (omega arith) r (decimal_most 1 n) b,
        length-set o₂ n₂ 32 ∙ put_length b ∙ put_length a,
        put_more a (put_more b (put_byte o₂ n₂ 32)),
      )

  pub slot_whole : {o₃ : List ℕ} {n₃ : ℕ} (f i n : ℕ) → at + 35 ≤ length o → Put o at (name_text f) o₁ n₁
      → Put o₁ n₁ (slot_key i) o₂ n₂ → Tried 20 o₂ n₂ (decimal 19 n) o₃ n₃ → Put o at (slot_line f i n) o₃ n₃
  unfolding slot_line
  slot_whole f i n h p q t =
      let r : n₁ + 32 ≤ length o₁ = after_name_lem 32 35 f (omega arith) h p in
      put_more p (put_more q (tried_put {room = 20} (left_room 12 20 32 (omega arith) r (key_most i) q) t))

  -- ---- a rounded sum's
  pub sum_whole : {o₃ : List ℕ} {n₃ : ℕ} (f w b : ℕ) (x : Float) → at + 24 ≤ length o → Put o at (name_text f) o₁ n₁
      → Tried 5 o₁ n₁ (32 ∷ 115 ∷ 117 ∷ 109 ∷ 32 ∷ []) o₂ n₂ → x ≡ rounded_held w → b ≡ to_bits binary64 x
      → Tried 16 o₂ n₂ (digits 16 16 b) o₃ n₃ → Put o at (sum_line f w) o₃ n₃
  unfolding sum_line
  sum_whole f w b x h p q i j t =
      let r : n₁ + 21 ≤ length o₁ = after_name_lem 21 24 f (omega arith) h p in
      let k = tried_put {room = 5} (omega arith) q in
      let l : n₂ + 16 ≤ length o₂ = left_room 5 16 21 (omega arith) r (omega arith) k in
      put_more p (put_more k (rw (j ∙ ap (to_bits binary64) i) at (tried_put {room = 16} l t)))

  -- ---- an exact sum's
  pub after_key : (f : ℕ) → at + 555 ≤ length o → Put o at (name_text f) o₁ n₁
      → Tried 7 o₁ n₁ (32 ∷ 101 ∷ 120 ∷ 97 ∷ 99 ∷ 116 ∷ 32 ∷ []) o₂ n₂
      → (n₂ + 545 ≤ length o₂) × (Put o₁ n₁ (32 ∷ 101 ∷ 120 ∷ 97 ∷ 99 ∷ 116 ∷ 32 ∷ []) o₂ n₂)
  after_key f h p q =
      let r : n₁ + 552 ≤ length o₁ = after_name_lem 552 555 f (omega arith) h p in
      let k = tried_put {room = 7} (omega arith) q in
      (left_room 7 545 552 (omega arith) r (omega arith) k, k)

pub exact_whole : {o o₁ o₂ o₃ o₄ : List ℕ} {at n₁ n₂ n₃ n₄ : ℕ} (f w v : ℕ) → Put o at (name_text f) o₁ n₁
    → Put o₁ n₁ (32 ∷ 101 ∷ 120 ∷ 97 ∷ 99 ∷ 116 ∷ 32 ∷ []) o₂ n₂ → Put o₂ n₂ (sign_text w) o₃ n₃ → v ≡ size_held w
    → Put o₃ n₃ (hex_text v) o₄ n₄ → Put o at (exact_line f w) o₄ n₄
unfolding exact_line
exact_whole f w v p q s e t = put_more p (put_more q (put_more s (rw e at t)))

pub sign_there : {t : Bool} (o : List ℕ) (at w : ℕ) → t ≡ below_zero w → t ≡ true → Put o at (sign_text w) (set o at 45) (at + 1)
unfolding sign_text
sign_there o at w e h = rw (sym e ∙ h) (put_byte o at 45)

pub sign_not : {t : Bool} (o : List ℕ) (at w : ℕ) → t ≡ below_zero w → t ≡ false → Put o at (sign_text w) o at
unfolding sign_text
sign_not o at w e h = rw (sym e ∙ h) (put_none o at)

-- the size that stands in the words
nothing_held : size_held 0 ≡ 0
unfolding size_held below_zero turn
nothing_held = refl

pub zeros : value_of (replicate 34 0) ≡ 0
unfolding value_of
zeros = refl

pub size_is : (ws out after : List ℕ) → Words ws → length out ≡ 34 → value_of out ≡ 0 → after ≡ size_left ws out
    → (length after ≡ 34) × (value_of after ≡ size_held (held_by ws))
unfolding size_left held_by turn
size_is ws out after w l z e = go (eqb (length ws) 34) refl (e ∙ rw (eq-eqb (length out) 34 l))
  where
    go : (t : Bool) → eqb (length ws) 34 ≡ t → after ≡ cond (t && true) (limbs_of 34 (size_held (value_of ws))) out
        → (length after ≡ 34) × (value_of after ≡ size_held (cond t (value_of ws) 0))
    go true k f =
        let n : length ws ≡ 34 = eqb-true (length ws) 34 k in
        let h : value_of ws < room 34 = rw n at (value_lt ws w) in (
          ap length f ∙ length_limbs 34 (size_held (value_of ws)),
          ap value_of f
              ∙ value_held 34 (size_held (value_of ws)) (size-lt (value_of ws) h),
        )
    go false k f = (ap length f ∙ l, ap value_of f ∙ z ∙ sym nothing_held)
