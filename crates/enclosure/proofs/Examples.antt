-- Worked examples of the rules, computed.
use Rattle.std.specs.Prelude.{◌^◌, ◌≡◌, refl}
use Rattle.enclosure.specs.Pieces.{row, numerators, value}
use Rattle.enclosure.specs.Rules.{atan_answer, steep_answer, T-answer, gain_seed, loss_seed, ln_answer, ln_below_answer}
use Rattle.enclosure.specs.Rules.{gain_answer, loss_answer}

-- ---- atan at 1, 0.5, 0.1, 1e-5 and 3
atan_1 : atan_answer 0 (2 ^ 62) ≡ 3622009729038561421
unfolding atan_answer value row numerators
atan_1 = refl

atan_half : atan_answer 0 (2 ^ 61) ≡ 2138197195906305896
unfolding atan_answer value row numerators
atan_half = refl

atan_tenth : atan_answer 3 3689348814741910528 ≡ 3677124249351919935
unfolding atan_answer value row numerators
atan_tenth = refl

atan_tiny : atan_answer 16 3022314549036573184 ≡ 3022314548935829365
unfolding atan_answer value row numerators
atan_tiny = refl

atan_3 : steep_answer 1537228672809129301 ≡ 5760206924944867318
unfolding steep_answer atan_answer value row numerators
atan_3 = refl

-- ---- ln_1p at 0.5, -0.75 and 0.001
ln_1p_half : T-answer 0 (gain_seed 0 4503599627370496) ≡ 934938885011285496
unfolding T-answer value row numerators
ln_1p_half = refl

ln_1p_below : T-answer 0 (loss_seed 0 6755399441055744) ≡ 3196577161300663913
unfolding T-answer value row numerators
ln_1p_below = refl

ln_1p_small : T-answer 9 (gain_seed 9 4611686018427388) ≡ 1180001718142680877
unfolding T-answer value row numerators
ln_1p_small = refl

-- ---- ln at 2.5 and 700
ln_2_5 : ln_answer 1 1 5629499534213120 ≡ 4225645156998639423
unfolding ln_answer T-answer value row numerators
ln_2_5 = refl

ln_700 : ln_answer 4 9 6157265115545600 ≡ 3776440698339284654
unfolding ln_answer T-answer value row numerators
ln_700 = refl

-- ---- ln at 1.5 and 0.75, where x - 1 is 2 ^ 52 and -2 ^ 51 parts of 2 ^ -53, and at 0.1
ln_1_5 : gain_answer 0 4503599627370496 ≡ 934938885011285496
unfolding gain_answer T-answer value row numerators
ln_1_5 = refl

ln_0_75 : loss_answer 1 2251799813685248 ≡ 1326699391278092919
unfolding loss_answer T-answer value row numerators
ln_0_75 = refl

ln_0_1 : ln_below_answer 2 3 7205759403792794 ≡ 5309399739799983497
unfolding ln_below_answer T-answer value row numerators
ln_0_1 = refl
