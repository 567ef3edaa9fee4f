-- `ten` meets its contract: 10 ^ k is 5 ^ k shifted. Assumes nothing.
use Prim.Native.Nat.{ℕ, ◌*◌, ◌%◌, ◌^◌}
use mathlib.Core.Path.{ap, ◌∙◌}
use borrow.Author.Rules.{rules}
use Rattle.decimal_text.specs.Bounds.{ten_word}
use Rattle.decimal_text.proofs.shape.ten.Goals as goal

pub returns : goal.returns
returns c =
    ap (λ (f : ℕ). f * 2 ^ c.args.k % 2 ^ 64) c.five.ensures ∙ ten_word c.args.k c.requires
