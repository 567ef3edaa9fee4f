-- A text scanned from a place on; and what it is where it is a number. Assumes nothing.
use Rattle.std.specs.Prelude.{ℕ, ◌+◌, ◌≤◌, ◌<◌, ◌≡◌, refl, Bool, true, false, cond, Ok, Err, List, [], ◌∷◌, length, get_or, drop}
use Rattle.std.proofs.Common.{sym, ap, ◌∙◌, subst, add-one, drop_of_length-le, drop-cons}
use Rattle.decimal_scan.specs.declared.scan.Phase.{Phase}
use Rattle.decimal_scan.specs.declared.scan.Phase.TheVariants.{Bad}
use Rattle.decimal_scan.specs.declared.scan.Scan.{Scan}
use Rattle.decimal_scan.specs.Scan.{is_bad, may_end, byte_after, bytes_after, is_whole}
use Rattle.decimal_read.specs.declared.NoDecimal.TheVariants.{NoNumber}
use Rattle.decimal_read.specs.Scanned.{ended_at, scanned_from}

-- ---- a byte more, and the end
scanned_next : (l : List ℕ) (s : Scan) (i : ℕ) → i < length l
    → scanned_from s i (drop i l)
    ≡ cond (is_bad (byte_after s (get_or l i 0)).phase) (Err (NoNumber i))
    (scanned_from (byte_after s (get_or l i 0)) (i + 1) (drop (i + 1) l))
unfolding scanned_from
scanned_next l s i h = rw (drop-cons l i 0 h, add-one)

pub scanned_bad : (l : List ℕ) (s r : Scan) (i : ℕ) → i < length l → r ≡ byte_after s (get_or l i 0) → is_bad r.phase ≡ true
    → scanned_from s i (drop i l) ≡ Err (NoNumber i)
scanned_bad l s r i h e p =
    scanned_next l s i h
    ∙ ap (λ (t : Bool). cond t (Err (NoNumber i)) (scanned_from (byte_after s (get_or l i 0)) (i + 1) (drop (i + 1) l)))
    (ap (λ (x : Scan). is_bad x.phase) (sym e) ∙ p)

pub scanned_on : (l : List ℕ) (s r : Scan) (i : ℕ) → i < length l → r ≡ byte_after s (get_or l i 0) → is_bad r.phase ≡ false
    → scanned_from s i (drop i l) ≡ scanned_from r (i + 1) (drop (i + 1) l)
scanned_on l s r i h e p =
    scanned_next l s i h
    ∙ ap (λ (t : Bool). cond t (Err (NoNumber i)) (scanned_from (byte_after s (get_or l i 0)) (i + 1) (drop (i + 1) l)))
    (ap (λ (x : Scan). is_bad x.phase) (sym e) ∙ p)
    ∙ ap (λ (x : Scan). scanned_from x (i + 1) (drop (i + 1) l)) (sym e)

pub scanned_last : (l : List ℕ) (s : Scan) (i : ℕ) → length l ≤ i → scanned_from s i (drop i l) ≡ ended_at s i
unfolding scanned_from
scanned_last l s i h = rw (drop_of_length-le l {i = i} h)

-- ---- a number is scanned to its end
pub record Sound (s r : Scan) (l : List ℕ) : Type 0 where
  pub same : r ≡ bytes_after s l
  pub good : is_bad r.phase ≡ false

pub whole_good : (s : Scan) → is_whole s ≡ true → is_bad s.phase ≡ false
unfolding is_whole
whole_good s = go s.phase
  where
    go : (p : Phase) → may_end p ≡ true → is_bad p ≡ false
    go Bad e = cc
    go _ e = refl

pub scanned_sound : (l : List ℕ) (s r : Scan) (at : ℕ) → scanned_from s at l ≡ Ok r → Sound s r l
unfolding scanned_from ended_at bytes_after
scanned_sound [] s r at = go (is_whole s) refl
  where
    go : (t : Bool) → is_whole s ≡ t → cond t (Ok s) (Err (NoNumber at)) ≡ Ok r → Sound s r []
    go true e w =
        let same : s ≡ r = cc in
        record { same = sym same; good = subst (λ (x : Scan). is_bad x.phase ≡ false) same (whole_good s e) }
    go false e w = cc
scanned_sound (b ∷ l) s r at = go (is_bad (byte_after s b).phase) (λ w. scanned_sound l (byte_after s b) r (at + 1) w)
  where
    go : (t : Bool) → (scanned_from (byte_after s b) (at + 1) l ≡ Ok r → Sound (byte_after s b) r l)
        → cond t (Err (NoNumber at)) (scanned_from (byte_after s b) (at + 1) l) ≡ Ok r
        → Sound s r (b ∷ l)
    go true f w = cc
    go false f w = let h = f w in record { same = h.same; good = h.good }
