-- A road has the listing's words here too. Assumes nothing.
use Rattle.std.specs.Prelude.{◌≡◌, refl, [], ◌∷◌, ◌++◌}
use Rattle.carlson.specs.declared.answer.Road.{Road}
use Rattle.carlson.specs.declared.answer.Road.TheVariants.{Closed, Infinite, Agm, Duplication, Joint, Taylor, Reduction, Loop}
use Rattle.listing_write.specs.Text.{road_text}
use Rattle.spoken_parts.specs.Texts.{road_words}

-- THE LAW: the listing's word has a blank after it, and is else the same
pub same_words : (r : Road) → road_text r ≡ road_words r ++ 32 ∷ []
unfolding road_text road_words
same_words Closed = refl
same_words Infinite = refl
same_words Agm = refl
same_words Duplication = refl
same_words Joint = refl
same_words Taylor = refl
same_words Reduction = refl
same_words Loop = refl
