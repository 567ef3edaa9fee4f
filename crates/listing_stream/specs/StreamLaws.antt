-- Fed block by block, whole, the input gives the listing, wherever the blocks are cut, whoever answers. Assumes nothing.
use Rattle.std.specs.Prelude.{ℕ, ◌≡◌, Bool, eqb, take, Option, Some, None}
use Rattle.std.proofs.Math.Path.{refl, ap}
use Rattle.std.proofs.Math.Bool.{true, false, cond}
use mathlib.Core.List.{List, [], ◌∷◌, ◌++◌, append_assoc}
use Rattle.calls.specs.declared.Call.TheVariants.{Cel}
use Rattle.calls.specs.declared.Call.{Call}
use Rattle.listing_read.specs.Lines.{call_of}
use Rattle.listing_read.specs.LineLaws.{held_call}
use Rattle.listing_write.specs.Text.{is_cel}
use Rattle.listing_stream.specs.Replies.{admitted, reply_to, reply_of}
use Rattle.writing.specs.Bad.{bad_text}
use Rattle.writing.specs.Fed.{Ran, quiet, and_ran, run}
use Rattle.writing.specs.Input.{last_line, lines_from}
use Rattle.writing.specs.Parts.{held_again}
use Rattle.listing_stream.specs.Stream.{header_text, replies_to, listing_of, listing_byte, listing_from, said_last, held_length}

-- ---- which lines are calls: of the base all that can be read, of the profile all but CEL's
pub base_admits : (r : Option Call) → admitted false r ≡ r
unfolding admitted
base_admits (Some c) = refl
base_admits None = refl

pub profile_has_no_cel : (l : List ℕ) {kc p a b : ℕ} → call_of l ≡ Some (Cel kc p a b) → reply_of true l ≡ bad_text
unfolding reply_of admitted reply_to is_cel
profile_has_no_cel l e = rw e

module _ (profile : Bool) where
  -- ---- a line that is held in part
  held_reply : (l : List ℕ) → reply_of profile (take held_length l) ≡ reply_of profile l
  unfolding reply_of
  held_reply l = ap (λ (r : Option Call). reply_to profile (admitted profile r)) (held_call l)

  -- ---- the whole input
  said_last_lem : (l : List ℕ) → said_last profile (take held_length l) ≡ replies_to profile (last_line l)
  unfolding said_last last_line replies_to
  said_last_lem [] = refl
  said_last_lem (b ∷ l) = ap (λ (r : List ℕ). r ++ []) (held_reply (b ∷ l))

  -- what is said to bytes and at the input's end
  abbrev pub said_all : List ℕ → List ℕ → List ℕ
  said_all held bs = (listing_from profile held bs).said ++ said_last profile (listing_from profile held bs).left

  from_held : (bs begun : List ℕ) → said_all (take held_length begun) bs ≡ replies_to profile (lines_from begun bs)
  unfolding run and_ran lines_from replies_to listing_byte
  from_held [] begun = said_last_lem begun
  from_held (b ∷ bs) begun = go (eqb b 10) (from_held bs)
    where
      go :
          (t : Bool) → ((l : List ℕ) → said_all (take held_length l) bs ≡ replies_to profile (lines_from l bs))
          → (let p : Ran (List ℕ) =
          cond t (record { said = reply_of profile (take held_length begun); count = 0; left = [] })
          (quiet (take held_length (take held_length begun ++ b ∷ []))) in
          (p.said ++ (listing_from profile p.left bs).said) ++ said_last profile (listing_from profile p.left bs).left
          ≡ replies_to profile (cond t (begun ∷ lines_from [] bs) (lines_from (begun ++ b ∷ []) bs)))
      go true rest = rw (append_assoc, held_reply begun, rest [])
      go false rest = rw (held_again held_length begun b) (rest (begun ++ b ∷ []))

  -- THE LAW: the header, then what is said to the input as it is fed, then what is said at its end, are the listing
  pub whole : (input : List ℕ) → header_text profile ++ said_all [] input ≡ listing_of profile input
  unfolding listing_of
  whole input = ap (λ (l : List ℕ). header_text profile ++ l) (from_held input [])
