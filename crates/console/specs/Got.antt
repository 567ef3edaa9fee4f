-- What is known of a read: the bytes that came are counted within the block. Definition only.
use Rattle.std.specs.Prelude.{ℕ, List}
use Rattle.io.specs.Counts.{IsPrefixLen}
use Rattle.console.specs.declared.Got.{Got}
use Rattle.console.specs.declared.Got.TheVariants.{Bytes, End, Failed}

abbrev pub Within : Got → List ℕ → Type 0
Within (Bytes n) block = IsPrefixLen n block
Within End block = Unit {0}
Within Failed block = Unit {0}
