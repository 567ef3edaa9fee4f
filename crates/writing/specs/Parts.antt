-- The first bytes of a list, counted past its end or not, and what is held of bytes as they come. Assumes nothing.
use Rattle.std.specs.Prelude.{ℕ, suc, ◌≤◌, ◌<◌, min, ◌≡◌, List, [], ◌∷◌, ◌++◌, length, take, set}
use Rattle.std.proofs.Common.{sym, ◌∙◌, ⊎_elim, add-one, arith, lt-ltb, le-ltb, length-append, take_all, take-take, take-suc-set, length-take-le}
use Rattle.std.proofs.Math.Nat.{min-eq_left, min-eq_right}
use Rattle.std.proofs.lemmas.List.{take-append-le}
use Rattle.std.proofs.Math.Seq.{take-length, set_out}
use Rattle.algebra.specs.Order.{lt_or_le}
use Rattle.writing.specs.Written.{pushed}

pub take_least : (l : List ℕ) (size m r : ℕ) → length l ≡ size → r ≡ min size m → take r l ≡ take m l
take_least l size m r e f =
    ⊎_elim (λ h. rw (f, min-eq_left {n = size} {m = m} (omega arith), take_all size l (omega arith), take_all m l (omega arith)))
    (λ h. rw (f, min-eq_right {n = m} {m = size} h)) (lt_or_le size m)

-- one byte more is held, of at most as many as there is room for
pub held_more : (l : List ℕ) (n b r : ℕ) → n ≤ length l → r ≡ pushed n (length l)
    → take r (set l n b) ≡ take (length l) (take n l ++ b ∷ [])
unfolding pushed
held_more l n b r h e = ⊎_elim inside full (lt_or_le n (length l))
  where
    inside : n < length l → take r (set l n b) ≡ take (length l) (take n l ++ b ∷ [])
    inside k =
        let f : r ≡ suc n = rw (lt-ltb n (length l) k, add-one) at e in
        let g : length (take n l ++ b ∷ []) ≤ length l = rw (length-append, length-take-le n l h) (omega arith) in
        rw f (take-suc-set l n b k) ∙ sym (take_all (length l) (take n l ++ b ∷ []) g)

    full : length l ≤ n → take r (set l n b) ≡ take (length l) (take n l ++ b ∷ [])
    full k =
        let f : r ≡ n = rw (le-ltb n (length l) k) at e in
        rw (f, set_out l n b k, take_all n l k) (sym (take-append-le (length l) l (b ∷ []) (omega arith) ∙ take-length l))

-- what is held after one byte more hangs on no more than what was held
pub held_again : (k : ℕ) (l : List ℕ) (b : ℕ) → take k (take k l ++ b ∷ []) ≡ take k (l ++ b ∷ [])
held_again k l b = ⊎_elim long (λ h. rw (take_all k l h)) (lt_or_le k (length l))
  where
    long : k < length l → take k (take k l ++ b ∷ []) ≡ take k (l ++ b ∷ [])
    long h =
        take-append-le k (take k l) (b ∷ []) (omega (arith, length-take-le k l (omega arith)))
        ∙ take-take k k l (omega arith)
        ∙ sym (take-append-le k l (b ∷ []) (omega arith))
