-- `is_name` meets its contract: the library's test of two texts goes over them byte by byte, as `same` does. Assumes nothing.
use Rattle.std.proofs.Common.{ℕ, ◌≡◌, refl, List, [], ◌∷◌, nat_eq, ◌∙◌, ◌&&◌, ap}
use Rattle.std.specs.Cmp.Lexicographic.{pointwise}
use Rattle.listing_read.specs.Lines.{same}
use Rattle.listing_read.proofs.is_name.Goals as goal

told : (l m : List ℕ) → pointwise nat_eq l m ≡ same l m
unfolding same
told [] [] = refl
told [] (b ∷ m) = refl
told (a ∷ l) [] = refl
told (a ∷ l) (b ∷ m) = ap (λ t. nat_eq a b && t) (told l m)

pub returns : goal.returns
returns c = c.eq.ensures ∙ told _ _
