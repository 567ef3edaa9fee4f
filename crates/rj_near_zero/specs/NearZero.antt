-- RJ near its zero, in the steps of elliprj_pv_near_zero (elliprj.rs). Definitions, and that a constant of the code is what the
-- Rust takes.
use Rattle.std.specs.Prelude.{◌≡◌, refl, Bool, cond, Float, Option, Some, None}
use Rattle.std.specs.Float.Ieee.{neg, lt, le, of_bits}
use Rattle.rounding.specs.Cut.{value, rounded}
use Rattle.binary64.specs.Leaves.{absolute, maximum}
use Rattle.binary64.specs.Operators.{◌⊕◌, ◌⊖◌, ◌⊗◌, ◌⊘◌, bits}
use Rattle.root.specs.Root.{root}
use Rattle.fused.specs.Fused.{fused}
use Rattle.carlson.specs.Constants.{two, three, four, epsilon}
use Rattle.rj_near_zero.specs.declared.nearzero.Deltas.{Deltas}

unfoldable pub largest_of : Float → Float → Float → Float
largest_of x y z = maximum (maximum (absolute x) (absolute y)) (absolute z)

unfoldable pub distant : Float → Float → Float → Float → Float → Bool
distant x y z q radius = lt radius (largest_of (x ⊖ two ⊗ q) (y ⊖ two ⊗ q) (z ⊖ three ⊗ q))

unfoldable pub deltas_of : Float → Float → Float → Float → Deltas
deltas_of x y z q = record { x = fused (neg two) q x; y = fused (neg two) q y; z = fused (neg three) q z }

-- the two linear coefficients, each an f64
-- by its bits: 0.05188661383050757
abbrev pub first_a : Float
first_a = bits 0x3FAA_90E1_DB01_21D7

-- by its bits: 0.030423254727293472
abbrev pub first_b : Float
first_b = bits 0x3F9F_2746_105D_CD24

unfoldable pub linear_of : Float → Float → Float
linear_of raw dz = fused first_a raw (first_b ⊗ dz)

-- by their bits: 2.57998712160197e-18, 1.067499995727255e-18
unfoldable pub error_of : Float → Float → Float
error_of raw dz =
    fused first_b dz (neg (first_b ⊗ dz)) ⊕ bits 0x3C47_CBD2_85D5_7EB7 ⊗ raw ⊖ bits 0x3C33_B120_4EA9_7498 ⊗ dz

-- by their bits: 0.024380373980361945, 0.03250716530714926, 0.010731679551607051, 0.010479605394661824
unfoldable pub quadratic_of : Float → Float → Float → Float
quadratic_of sum product dz =
    neg (bits 0x3F98_F72B_33A3_BDD9) ⊗ sum ⊗ sum ⊕ bits 0x3FA0_A4C7_77C2_7E91 ⊗ product
    ⊖ bits 0x3F85_FA7D_A5A4_768B ⊗ sum ⊗ dz
    ⊖ bits 0x3F85_7654_D38F_7A6A ⊗ dz ⊗ dz

-- by their bits: 0.0101259759655333, 0.02430234231727992, 0.004141427326475685, 0.005521903101967579, 0.0028089569663743764,
-- 0.0031555894162704945
unfoldable pub cubic_of : Float → Float → Float → Float
cubic_of sum product dz =
    bits 0x3F84_BCED_7CE5_792F ⊗ sum ⊗ sum ⊗ sum ⊖ bits 0x3F98_E2B6_95E0_2B05 ⊗ sum ⊗ product
    ⊕ bits 0x3F70_F699_EED0_C9E2 ⊗ sum ⊗ sum ⊗ dz
    ⊖ bits 0x3F76_9E22_93C1_0D2D ⊗ product ⊗ dz
    ⊕ bits 0x3F67_02CF_49CE_6ECD ⊗ sum ⊗ dz ⊗ dz
    ⊕ bits 0x3F69_D9C0_2AF5_A429 ⊗ dz ⊗ dz ⊗ dz

-- divided by q after the cancellation, so that q need not be a power of two
unfoldable pub taylor_of : Deltas → Float → Float
taylor_of d q =
    let raw = d.x ⊕ d.y in
    let sum = raw ⊘ q in
    let product = (d.x ⊘ q) ⊗ (d.y ⊘ q) in
    let dz = d.z ⊘ q in
    ((linear_of raw d.z ⊕ error_of raw d.z) ⊘ q ⊕ (quadratic_of sum product dz ⊕ cubic_of sum product dz)) ⊘ q ⊘ root q

-- the root of epsilon is 2 ^ -26, which the code writes out
pub root_epsilon : root epsilon ≡ bits 0x3E50_0000_0000_0000
unfolding root rounded value of_bits
root_epsilon = refl

-- within a quarter of q times the root of epsilon, after a wider first test
unfoldable pub near_zero : Float → Float → Float → Float → Option Float
near_zero x y z q =
    let radius = q ⊗ root epsilon in
    let d = deltas_of x y z q in
    cond (distant x y z q radius) None (cond (le (largest_of d.x d.y d.z) (radius ⊘ four)) (Some (taylor_of d q)) None)
