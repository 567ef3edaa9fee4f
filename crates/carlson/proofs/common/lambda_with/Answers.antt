-- `lambda_with` meets its contract, step by step as its definition. Assumes nothing.
use Rattle.std.proofs.Common.{refl}
use Rattle.carlson.specs.Common.{lambda_of}
use Rattle.carlson.proofs.common.lambda_with.Goals as goal

pub returns : goal.returns
unfolding lambda_of
returns c =
    refl
