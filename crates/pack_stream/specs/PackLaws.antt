-- Fed block by block, the input gives the work list of its lines, wherever the blocks are cut. Assumes nothing.
use Rattle.std.specs.Prelude.{ℕ, List}
use Rattle.writing.specs.Fed.{Ran, and_ran}
use Rattle.pack_stream.specs.Pack.{Held, pack_from, pack_last}

-- ---- the whole input
-- what comes of bytes and of the input's end
abbrev pub pack_all : Held → List ℕ → Ran Held
pack_all h bs = and_ran (pack_from h bs) (pack_last (pack_from h bs).left)
