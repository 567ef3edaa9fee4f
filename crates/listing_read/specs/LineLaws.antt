-- Exactly the well-formed lines are read: a call that is written is read back, and what is read is that call's line. Assumes
-- nothing.
use Rattle.std.specs.Prelude.{ℕ, zero, suc, ◌+◌, ◌*◌, ◌^◌, ◌≤◌, ◌<◌, ◌≡◌, refl, Bool, true, false, ◌&&◌, cond, Option, Some, None, List, [], ◌∷◌, ◌++◌, eqb, ltb, length, get_or, take, drop}
use Rattle.std.proofs.Common.{sym, ap, ◌∙◌, append_assoc, add-one, arith, eqb-true, eq-eqb, ne_eqb, ltb-true, ltb-false, lit<, lit≤, length-append, length-drop, drop_of_length-le, take-append-drop, drop-cons, drop-drop, take_all, take_at, length-take-le}
use Rattle.std.proofs.Math.Seq.{drop-append-add, get_or-append_seam}
use Rattle.digits.specs.Digits.{digits, number_from, word_text}
use Rattle.digits.proofs.DigitLaws.{digits_length, word_length, read_written, written_read}
use Rattle.calls.specs.Calls.{name_of, arguments_of, arity_of}
use Rattle.calls.specs.declared.Call.{Call}
use Rattle.calls.specs.declared.Call.TheVariants.{Rc, Rf, Rd, Rg, Rj, Cel}
use Rattle.listing_read.specs.Lines.{
  line_length,
  longest_line,
  word_texts,
  line_of,
  word_at,
  and_then,
  words_at,
  same,
  called_by,
  named,
  read_as,
  call_of,
}

-- ---- lengths
words_length : (xs : List ℕ) → length (word_texts xs) ≡ length xs * 17
unfolding word_texts
words_length [] = refl
words_length (x ∷ xs) = rw (length-append, word_length, words_length xs) (omega arith)

pub line_length_lem : (c : Call) → length (line_of c) ≡ line_length (length (name_of c)) (arity_of c)
unfolding line_of
line_length_lem c = rw (length-append, words_length (arguments_of c))

-- ---- a call that is written is read back
-- a pattern is that of a u64
abbrev pub Patterns : List ℕ → Type 0
Patterns [] = Unit {0}
Patterns (x ∷ xs) = (x < 2 ^ 64) × Patterns xs

word_back : (p q : List ℕ) (x : ℕ) → x < 2 ^ 64 → word_at (p ++ (word_text x ++ q)) (length p) ≡ Some x
unfolding word_at word_text
word_back p q x h =
    rw (
      get_or-append_seam p 32 (digits 16 16 x ++ q) 0,
      drop-append-add p (32 ∷ (digits 16 16 x ++ q)) 1,
      take_at (digits 16 16 x) q 16 (digits_length 16 16 x),
    )
    (read_written 16 (lit< tt) (lit≤ tt) 16 0 x h ∙ ap Some (omega arith))

words_back : (xs p : List ℕ) → Patterns xs → words_at (length xs) (p ++ word_texts xs) (length p) ≡ Some xs
unfolding words_at word_texts
words_back [] p h = refl
words_back (x ∷ xs) p h =
    let rest : words_at (length xs) (p ++ (word_text x ++ word_texts xs)) (length p + 17) ≡ Some xs =
    rw (append_assoc, length-append, word_length) at (words_back xs (p ++ word_text x) h.1) in
    rw (word_back p (word_texts xs) x h.0, rest)

-- ---- what is read is that call's line
word_is : (l : List ℕ) (i x : ℕ) → i + 17 ≤ length l → word_at l i ≡ Some x → drop i l ≡ word_text x ++ drop (i + 17) l
unfolding word_at word_text
word_is l i x h e = go (eqb (get_or l i 0) 32) refl e
  where
    go :
        (t : Bool) → eqb (get_or l i 0) 32 ≡ t → cond t (number_from 16 0 (take 16 (drop (i + 1) l))) None ≡ Some x
        → drop i l ≡ 32 ∷ (digits 16 16 x ++ drop (i + 17) l)
    go true t e =
        let d = drop (i + 1) l in
        let n : length (take 16 d) ≡ 16 = length-take-le 16 d (omega (arith, length-drop (i + 1) l)) in
        let w : digits 16 16 x ≡ take 16 d = rw n at (written_read 16 (lit< tt) (lit≤ tt) (take 16 d) 0 x e).1 in
        let k : i + 1 + 16 ≡ i + 17 = omega arith in
        let r : drop 16 d ≡ drop (i + 17) l = drop-drop 16 (i + 1) l ∙ ap (λ (m : ℕ). drop m l) k in
        let f : drop i l ≡ get_or l i 0 ∷ d = rw add-one (drop-cons l i 0 (omega arith)) in
        f ∙ rw (eqb-true (get_or l i 0) 32 t, w, ← r, take-append-drop)
    go false t e = cc

words_are : (n : ℕ) (l : List ℕ) (i : ℕ) (xs : List ℕ) → i + n * 17 ≡ length l → words_at n l i ≡ Some xs
    → drop i l ≡ word_texts xs
unfolding words_at word_texts
words_are zero l i [] h e = drop_of_length-le l {i = i} (omega arith)
words_are zero l i (x ∷ xs) h e = cc
words_are (suc n) l i xs h e = go (word_at l i) (words_at n l (i + 17)) refl refl e (words_are n l (i + 17))
  where
    go :
        (w : Option ℕ) (ws : Option (List ℕ)) → word_at l i ≡ w → words_at n l (i + 17) ≡ ws → and_then w ws ≡ Some xs
        → ((ys : List ℕ) → i + 17 + n * 17 ≡ length l → words_at n l (i + 17) ≡ Some ys → drop (i + 17) l ≡ word_texts ys)
        → drop i l ≡ word_texts xs
    go (Some x) (Some ys) p q e rest =
        let f : x ∷ ys ≡ xs = cc in
        word_is l i x (omega arith) p ∙ ap (λ (t : List ℕ). word_text x ++ t) (rest ys (omega arith) q) ∙ ap word_texts f
    go (Some x) None p q e rest = cc
    go None ws p q e rest = cc

-- ---- which call it is
bad : (c : Call) {P : Type 0} → None ≡ Some c → P
bad c e = cc

and_true : (s t : Bool) → (s && t) ≡ true → (s ≡ true) × (t ≡ true)
and_true true t e = (refl, e)
and_true false t e = cc

pub same_true : (l m : List ℕ) → same l m ≡ true → l ≡ m
unfolding same
same_true [] [] e = refl
same_true [] (b ∷ m) e = cc
same_true (a ∷ l) [] e = cc
same_true (a ∷ l) (b ∷ m) e = let t = and_true (eqb a b) (same l m) e in rw (eqb-true a b t.0, same_true l m t.1)

pub same_own : (l : List ℕ) → same l l ≡ true
unfolding same
same_own [] = refl
same_own (a ∷ l) = rw (eq-eqb a a refl, same_own l)

-- the name and the arguments are those of the call
abbrev Fits : List ℕ → Option (List ℕ) → Call → Type 0
Fits name ws c = (name ≡ name_of c) × (ws ≡ Some (arguments_of c))

tried : (name : List ℕ) (a c : Call) (ws : Option (List ℕ)) (rest : Option Call) → ws ≡ Some (arguments_of a)
    → (rest ≡ Some c → Fits name ws c)
    → called_by name a rest ≡ Some c → Fits name ws c
tried name a c ws rest f g e = go (same name (name_of a)) refl e
  where
    go : (t : Bool) → same name (name_of a) ≡ t → cond t (Some a) rest ≡ Some c → Fits name ws c
    go true t e =
        let is : a ≡ c = cc in
        (same_true name (name_of a) t ∙ ap name_of is, f ∙ ap (λ (b : Call). Some (arguments_of b)) is)
    go false t e = g e

named_good : (name : List ℕ) (ws : Option (List ℕ)) (c : Call) → named name ws ≡ Some c → Fits name ws c
unfolding named arguments_of
named_good name None c e = bad c e
named_good name (Some []) c e = bad c e
named_good name (Some (x ∷ [])) c e = bad c e
named_good name (Some (x ∷ y ∷ [])) c e = tried name (Rc x y) c _ None refl (bad c) e
named_good name (Some (x ∷ y ∷ z ∷ [])) c e =
    tried name (Rf x y z) c _ _ refl (tried name (Rd x y z) c _ _ refl (tried name (Rg x y z) c _ None refl (bad c))) e
named_good name (Some (x ∷ y ∷ z ∷ p ∷ [])) c e =
    tried name (Rj x y z p) c _ _ refl (tried name (Cel x y z p) c _ None refl (bad c)) e
named_good name (Some (x ∷ y ∷ z ∷ p ∷ q ∷ ws)) c e = bad c e

line_is : (n k : ℕ) (l : List ℕ) (c : Call) → line_length n k ≡ length l → read_as n k l ≡ Some c → line_of c ≡ l
unfolding line_of
line_is n k l c h e =
    let f = named_good (take n l) (words_at k l n) c e in
    rw (← f.0, ← words_are k l n (arguments_of c) h f.1, take-append-drop)

-- ---- the two laws
pub read_back : (c : Call) → Patterns (arguments_of c) → call_of (line_of c) ≡ Some c
unfolding call_of named line_of arguments_of name_of same
read_back (Rc x y) h = rw (line_length_lem (Rc x y), words_back (x ∷ y ∷ []) (82 ∷ 67 ∷ []) h)
read_back (Rf x y z) h = rw (line_length_lem (Rf x y z), words_back (x ∷ y ∷ z ∷ []) (82 ∷ 70 ∷ []) h)
read_back (Rd x y z) h = rw (line_length_lem (Rd x y z), words_back (x ∷ y ∷ z ∷ []) (82 ∷ 68 ∷ []) h)
read_back (Rg x y z) h = rw (line_length_lem (Rg x y z), words_back (x ∷ y ∷ z ∷ []) (82 ∷ 71 ∷ []) h)
read_back (Rj x y z p) h = rw (line_length_lem (Rj x y z p), words_back (x ∷ y ∷ z ∷ p ∷ []) (82 ∷ 74 ∷ []) h)
read_back (Cel kc p a b) h = rw (line_length_lem (Cel kc p a b), words_back (kc ∷ p ∷ a ∷ b ∷ []) (67 ∷ 69 ∷ 76 ∷ []) h)

-- what is read, and that the line is as long as was asked
pub write_back : (l : List ℕ) (c : Call) → call_of l ≡ Some c → line_of c ≡ l
unfolding call_of
write_back l c e = go (eqb (length l) 36) (eqb (length l) 53) (eqb (length l) 70) (eqb (length l) 71) refl refl refl refl e
  where
    go :
        (t u v w : Bool) → eqb (length l) 36 ≡ t → eqb (length l) 53 ≡ u → eqb (length l) 70 ≡ v → eqb (length l) 71 ≡ w
        → cond t (read_as 2 2 l) (cond u (read_as 2 3 l) (cond v (read_as 2 4 l) (cond w (read_as 3 4 l) None))) ≡ Some c
        → line_of c ≡ l
    go true u v w p q r s e = line_is 2 2 l c (sym (eqb-true (length l) 36 p)) e
    go false true v w p q r s e = line_is 2 3 l c (sym (eqb-true (length l) 53 q)) e
    go false false true w p q r s e = line_is 2 4 l c (sym (eqb-true (length l) 70 r)) e
    go false false false true p q r s e = line_is 3 4 l c (sym (eqb-true (length l) 71 s)) e
    go false false false false p q r s e = bad c e

-- a line that is longer than every good one
pub too_long : (l : List ℕ) → longest_line < length l → call_of l ≡ None
unfolding call_of
too_long l h = rw (
  ne_eqb (length l) 36 (λ e. omega arith),
  ne_eqb (length l) 53 (λ e. omega arith),
  ne_eqb (length l) 70 (λ e. omega arith),
  ne_eqb (length l) 71 (λ e. omega arith),
)

-- of a line it is enough to hold one byte more than the longest good one has
pub held_call : (l : List ℕ) → call_of (take (longest_line + 1) l) ≡ call_of l
held_call l = go (ltb (longest_line + 1) (length l)) refl
  where
    go : (t : Bool) → ltb (longest_line + 1) (length l) ≡ t → call_of (take (longest_line + 1) l) ≡ call_of l
    go true e =
        let h : longest_line + 1 < length l = ltb-true (longest_line + 1) (length l) e in
        rw (
          too_long (take (longest_line + 1) l) (omega (arith, length-take-le (longest_line + 1) l (omega arith))),
          too_long l (omega arith),
        )
    go false e = rw (take_all (longest_line + 1) l (ltb-false (longest_line + 1) (length l) e))
