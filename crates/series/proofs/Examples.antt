-- Answers that antt computes by the definitions.
use Rattle.std.specs.Prelude.{◌≡◌, true, refl}
use Rattle.std.specs.Float.{inf}
use Rattle.std.specs.Float.Ieee.{round, of_bits, to_bits}
use Rattle.enclosure.specs.Pieces.{value, row, numerators}
use Rattle.enclosure.specs.Rules.{atan_answer, steep_answer, T-answer, ln_answer, ln_below_answer, gain_answer, loss_answer}
use Rattle.binary64.specs.Operators.{bits}
use Rattle.series.specs.Atan.{atan}
use Rattle.series.specs.Ln.{ln}
use Rattle.series.specs.Ln1p.{ln_1p}

-- ---- atan at 0.5, -1, 3 and -0
atan_half : atan (bits 0x3fe0_0000_0000_0000) ≡ bits 0x3fdd_ac67_0561_bb4f
unfolding atan to_bits of_bits round atan_answer value row numerators
atan_half = refl

atan_minus_1 : atan (bits 0xbff0_0000_0000_0000) ≡ bits 0xbfe9_21fb_5444_2d18
unfolding atan to_bits of_bits round atan_answer value row numerators
atan_minus_1 = refl

atan_3 : atan (bits 0x4008_0000_0000_0000) ≡ bits 0x3ff3_fc17_6b7a_8560
unfolding atan to_bits of_bits round steep_answer atan_answer value row numerators
atan_3 = refl

atan_minus_0 : atan (bits 0x8000_0000_0000_0000) ≡ bits 0x8000_0000_0000_0000
unfolding atan to_bits of_bits
atan_minus_0 = refl

-- ---- ln at 2 and 700
ln_2 : ln (bits 0x4000_0000_0000_0000) ≡ bits 0x3fe6_2e42_fefa_39ef
unfolding ln to_bits of_bits round ln_answer T-answer value row numerators
ln_2 = refl

ln_700 : ln (bits 0x4085_e000_0000_0000) ≡ bits 0x401a_344e_6741_ebab
unfolding ln to_bits of_bits round ln_answer T-answer value row numerators
ln_700 = refl

-- ---- ln below 2: at 1.5, 1, 0.75, 0.1, the least number and the zeros
ln_1_5 : ln (bits 0x3ff8_0000_0000_0000) ≡ bits 0x3fd9_f323_ecbf_984c
unfolding ln to_bits of_bits round gain_answer T-answer value row numerators
ln_1_5 = refl

ln_1 : ln (bits 0x3ff0_0000_0000_0000) ≡ bits 0
unfolding ln to_bits of_bits
ln_1 = refl

ln_0_75 : ln (bits 0x3fe8_0000_0000_0000) ≡ bits 0xbfd2_6962_1134_db92
unfolding ln to_bits of_bits round loss_answer T-answer value row numerators
ln_0_75 = refl

ln_0_1 : ln (bits 0x3fb9_9999_9999_999a) ≡ bits 0xc002_6bb1_bbb5_5515
unfolding ln to_bits of_bits round ln_below_answer T-answer value row numerators
ln_0_1 = refl

ln_least : ln (bits 1) ≡ bits 0xc087_4385_446d_71c3
unfolding ln to_bits of_bits round ln_below_answer T-answer value row numerators
ln_least = refl

ln_0 : (ln (bits 0) ≡ inf true) × (ln (bits 0x8000_0000_0000_0000) ≡ inf true)
unfolding ln to_bits of_bits
ln_0 = (refl, refl)

-- ---- ln_1p at 0.5 and -0.75
ln_1p_half : ln_1p (bits 0x3fe0_0000_0000_0000) ≡ bits 0x3fd9_f323_ecbf_984c
unfolding ln_1p to_bits of_bits round T-answer value row numerators
ln_1p_half = refl

ln_1p_below : ln_1p (bits 0xbfe8_0000_0000_0000) ≡ bits 0xbff6_2e42_fefa_39ef
unfolding ln_1p to_bits of_bits round T-answer value row numerators
ln_1p_below = refl
