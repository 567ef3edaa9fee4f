-- Where RJ's helper, RC(1, 1 + y), asks: ln at what is 2 or more or not finite, and ln_1p at what is between -3/4 and 3/4 or not
-- finite. Assumes nothing.
use Rattle.std.specs.Prelude.{◌≡◌, true, false, ℕ, ◌^◌, T, Float}
use Rattle.std.proofs.Common.{sym, ap, subst, inl, inr, true≢false, le_of_lt, ltb→lt}
use Rattle.std.specs.Float.{nan, inf, fin, binary64}
use Rattle.std.specs.Float.Ieee.{neg, lt, le, fits, of_bits}
use Rattle.std.specs.Float.Ieee.Bits.{is_true}
use Rattle.std.specs.Float.Ieee.Fits.{and_l, and_r}
use Rattle.std.specs.Float.Ieee.Scale.{finite}
use Rattle.root.specs.Root.{root}
use Rattle.scaling.specs.Units.{Is, lt_units, neg_units}
use Rattle.scaling.proofs.Plain.{whole_units_of}
use Rattle.carlson.specs.Constants.{two, half}
use Rattle.rj_term.specs.Helper.{hundredth, AtHalf, ln_argument}
use Rattle.rj_term.specs.Borders.{to_logs}
use Rattle.rj_term.proofs.Borders.{logs_reached, ln_from_two}
use Rattle.asked.specs.With.{FromTwo, Within}
use Rattle.asked.proofs.Lost.{split, neg_lost, lost_two, lost_within}
use Rattle.asked.proofs.Arguments.{half_is, root_within}

-- what is below -0.01 has the sign
negative : (y : Float) → T (fits binary64 y) → T (lt y (neg hundredth)) → finite y ≡ true → (n : ℕ) × Is binary64 y true n
unfolding lt neg of_bits
negative nan F h f = absurd h
negative (inf s) F h f = absurd (true≢false (sym f))
negative (fin true m e) F h f = whole_units_of binary64 (fin true m e) F tt
negative (fin false m e) F h f = absurd h

pub logs_asked : (y : Float) → T (fits binary64 y) → T (to_logs y) → Within (root (neg y)) × Within (neg (root (neg y)))
logs_asked y F t =
    let k = subst T (logs_reached y) t in
    split y (λ l. lost_within (neg y) (neg_lost y l))
    (λ f.
    let r = negative y F (and_r (lt (neg half) y) (lt y (neg hundredth)) k) f in
    let h = subst T (lt_units (neg_units half_is) r.1) (and_l (lt (neg half) y) (lt y (neg hundredth)) k) in
    root_within (neg_units r.1) (le_of_lt (ltb→lt r.0 (2 ^ 1073) h)))

pub ln_asked : (y : Float) → AtHalf y → FromTwo (ln_argument y)
ln_asked y h = elim (ln_from_two y h) [
  | inl t ↦ (λ f. is_true (le two (ln_argument y)) t)
  | inr e ↦ lost_two (ln_argument y) (ap finite e)
]
