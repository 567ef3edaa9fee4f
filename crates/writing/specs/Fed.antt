-- Input that comes in parts: a run over its bytes, which may be over before they end. Definitions only.
use Rattle.std.specs.Prelude.{ℕ, ◌+◌, ◌≡◌, Bool, cond, List, [], ◌∷◌, ◌++◌}
use Rattle.writing.specs.Written.{Put}

-- what comes of some bytes: what is said to them, how much is counted of them, and the state that they leave
pub record Ran (S : Type 0) : Type 0 where
  pub said : List ℕ
  pub count : ℕ
  pub left : S

module _ {S : Type 0} where
  -- nothing is said and nothing counted
  abbrev pub quiet : S → Ran S
  quiet s = record { said = []; count = 0; left = s }

  -- one after the other
  unfoldable pub and_ran : Ran S → Ran S → Ran S
  and_ran p q = record { said = p.said ++ q.said; count = p.count + q.count; left = q.left }

  -- what a function that is fed some bytes does: the state that it leaves, what it puts into `out`, and how much it counts
  pub record Fed (p : Ran S) (state : S) (before : List ℕ) (at : ℕ) (out : List ℕ) (used count : ℕ) : Type 0 where
    pub left : state ≡ p.left
    pub said : Put before at p.said out used
    pub counted : count ≡ p.count

-- one item after the other, bytes or lines; a state that is over takes nothing more
module _ {S A : Type 0} (step : S → A → Ran S) (over : S → Bool) where
  unfoldable pub run : S → List A → Ran S
  run s [] = quiet s
  run s (x ∷ xs) = cond (over s) (quiet s) (and_ran (step s x) (run (step s x).left xs))
