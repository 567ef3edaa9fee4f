-- Steps that several of the entries make, as the Rust has them. Definitions only.
use Rattle.std.specs.Prelude.{ℕ, Bool, Float}
use Rattle.std.specs.Float.Ieee.{le}
use Rattle.binary64.specs.Leaves.{absolute}
use Rattle.binary64.specs.Operators.{◌⊕◌, ◌⊖◌, ◌⊗◌, ◌⊘◌, bits}
use Rattle.carlson.specs.Constants.{one, three, epsilon}
use Rattle.carlson.specs.declared.common.Lambda.{Lambda}

-- document 01, Rounds: "RD's and RG's AGM have no cap in the Rust; the port adds 40"
abbrev pub mean_cap : ℕ
mean_cap = 40

-- the test that asks for another pass of the mean: the two differ by 2.7 epsilon or more
unfoldable pub apart : Float → Float → Bool
apart xn yn = le (bits 0x4005_9999_9999_999A ⊗ epsilon ⊗ absolute xn) (absolute (xn ⊖ yn))

-- by how much a pass of duplication moves its arguments, from their roots
unfoldable pub lambda_of : Float → Float → Float → Float
lambda_of rx ry rz = rx ⊗ ry ⊕ rx ⊗ rz ⊕ ry ⊗ rz

-- beside it the last root
abbrev pub lambda_with : Float → Float → Float → Lambda
lambda_with rx ry rz = record { lambda = lambda_of rx ry rz; rz = rz }

-- the series of RD and RJ (DLMF 19.36.2)
-- by their bits: 9, 14, 6, 88, 22, 52, 26, 16, 40, 20, 45, 272, 68
unfoldable pub third_kind : Float → Float → Float → Float → Float
third_kind e2 e3 e4 e5 =
    let nine = bits 0x4022_0000_0000_0000 in
    one ⊖ three ⊗ e2 ⊘ bits 0x402C_0000_0000_0000 ⊕ e3 ⊘ bits 0x4018_0000_0000_0000 ⊕ nine ⊗ e2 ⊗ e2 ⊘ bits 0x4056_0000_0000_0000
    ⊖ three ⊗ e4 ⊘ bits 0x4036_0000_0000_0000
    ⊖ nine ⊗ e2 ⊗ e3 ⊘ bits 0x404A_0000_0000_0000
    ⊕ three ⊗ e5 ⊘ bits 0x403A_0000_0000_0000
    ⊖ e2 ⊗ e2 ⊗ e2 ⊘ bits 0x4030_0000_0000_0000
    ⊕ three ⊗ e3 ⊗ e3 ⊘ bits 0x4044_0000_0000_0000
    ⊕ three ⊗ e2 ⊗ e4 ⊘ bits 0x4034_0000_0000_0000
    ⊕ bits 0x4046_8000_0000_0000 ⊗ e2 ⊗ e2 ⊗ e3 ⊘ bits 0x4071_0000_0000_0000
    ⊖ nine ⊗ (e3 ⊗ e4 ⊕ e2 ⊗ e5) ⊘ bits 0x4051_0000_0000_0000
