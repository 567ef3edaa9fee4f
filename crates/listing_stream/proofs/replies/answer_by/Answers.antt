-- `answer_by` meets its contract: the flag's entry answers. Assumes nothing.
use Rattle.listing_stream.specs.Replies.{answer_by}
use Rattle.listing_stream.proofs.replies.answer_by.Goals as goal

pub returns-then-profile : goal.returns-then-profile
unfolding answer_by
returns-then-profile c =
    rw c.if-profile.true c.profile_of.ensures

pub returns : goal.returns
unfolding answer_by
returns c =
    rw c.if-profile.false c.answer_of.ensures
