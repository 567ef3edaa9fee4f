-- RF and RD by one duplication (elliprg.rs, elliprf_rd_unchecked; document 01, Rounds). Definitions only.
use Rattle.std.specs.Prelude.{ℕ, Bool, true, false, ◌&&◌, cond, Float}
use Rattle.std.specs.Float.{nan}
use Rattle.std.specs.Float.Ieee.{lt}
use Rattle.binary64.specs.Leaves.{absolute}
use Rattle.binary64.specs.Operators.{◌⊕◌, ◌⊖◌, ◌⊗◌, ◌⊘◌}
use Rattle.root.specs.Root.{root}
use Rattle.carlson.specs.Constants.{zero, one, two, three, four}
use Rattle.carlson.specs.Common.{lambda_with}
use Rattle.carlson.specs.Loop.{capped}
use Rattle.carlson.specs.Answer.{joint_at}
use Rattle.carlson.specs.declared.answer.Found.{Found}
use Rattle.carlson.specs.declared.common.Lambda.{Lambda}
use Rattle.rf_duplicate.specs.Duplicate.{mean_of, rf_start, rf_series}
use Rattle.rd_duplicate.specs.Duplicate.{rd_mean, rd_start, rd_series}
use Rattle.rg_joint.specs.declared.joint.RfPart.{RfPart}
use Rattle.rg_joint.specs.declared.joint.RdPart.{RdPart}
use Rattle.rg_joint.specs.declared.joint.Joint.{Joint}
use Rattle.rg_joint.specs.declared.joint.RfRd.{RfRd}

-- ---- the start: both as in their own files, with no result yet
unfoldable pub rf_begun : Float → Float → Float → RfPart
rf_begun x y z = record { an = mean_of x y z; q = rf_start (mean_of x y z) x y z; fnval = one; res = nan; done = false }

unfoldable pub rd_begun : Float → Float → Float → RdPart
rd_begun x y z = record { an = rd_mean x y z; q = rd_start (rd_mean x y z) x y z; fnval = one; sum = zero; res = nan; done = false }

unfoldable pub joint_begun : Float → Float → Float → Joint
joint_begun x y z = record { xn = x; yn = y; zn = z; rf = rf_begun x y z; rd = rd_begun x y z }

-- ---- RF's share of a pass; once it is done it stays as it is
unfoldable pub rf_moved : RfPart → Float → RfPart
rf_moved p lambda =
    record { an = (p.an ⊕ lambda) ⊘ four; q = p.q ⊘ four; fnval = p.fnval ⊗ four; res = p.res; done = p.done }

unfoldable pub rf_ended : RfPart → Float → Float → Float → RfPart
rf_ended p x y a0 =
    cond (lt p.q (absolute p.an))
    (record { an = p.an; q = p.q; fnval = p.fnval; res = rf_series x y a0 p.an p.fnval; done = true })
    p

unfoldable pub rf_next : RfPart → Float → Float → Float → Float → RfPart
rf_next p lambda x y a0 = cond p.done p (rf_ended (rf_moved p lambda) x y a0)

-- ---- RD's share, likewise
unfoldable pub rd_moved : RdPart → Float → Float → Float → RdPart
rd_moved p lambda rz zn = record {
  an = (p.an ⊕ lambda) ⊘ four;
  q = p.q ⊘ four;
  fnval = p.fnval ⊘ four;
  sum = p.sum ⊕ p.fnval ⊘ (rz ⊗ (zn ⊕ lambda));
  res = p.res;
  done = p.done;
}

unfoldable pub rd_ended : RdPart → Float → Float → Float → RdPart
rd_ended p x y a0 =
    cond (lt p.q p.an)
    (record {
      an = p.an;
      q = p.q;
      fnval = p.fnval;
      sum = p.sum;
      res = rd_series x y a0 p.an p.fnval p.sum;
      done =
          true;
    })
    p

unfoldable pub rd_next : RdPart → Float → Float → Float → Float → Float → Float → RdPart
rd_next p lambda rz zn x y a0 = cond p.done p (rd_ended (rd_moved p lambda rz zn) x y a0)

-- ---- a pass of both
unfoldable pub joint_moved : Joint → Lambda → Float → Float → Float → Float → Joint
joint_moved s l x y arf ard = record {
  xn = (s.xn ⊕ l.lambda) ⊘ four;
  yn = (s.yn ⊕ l.lambda) ⊘ four;
  zn = (s.zn ⊕ l.lambda) ⊘ four;
  rf = rf_next s.rf l.lambda x y arf;
  rd = rd_next s.rd l.lambda l.rz s.zn x y ard;
}

unfoldable pub joint_next : Float → Float → Float → Float → Joint → Joint
joint_next x y arf ard s = joint_moved s (lambda_with (root s.xn) (root s.yn) (root s.zn)) x y arf ard

unfoldable pub all_done : Joint → Bool
all_done s = s.rf.done && s.rd.done

unfoldable pub rf_rd_of : Joint → ℕ → RfRd
rf_rd_of s n = record { rf = s.rf.res; rd = s.rd.res; rounds = n }

-- "RG's joint loop 50"
abbrev pub joint_cap : ℕ
joint_cap = 50

-- document 01, Rounds: counted are the passes begun. What is not close when the cap is spent stays NaN.
unfoldable pub joint_of : Float → Float → Float → RfRd
joint_of x y z =
    capped (joint_next x y (mean_of x y z) (rd_mean x y z)) all_done rf_rd_of rf_rd_of joint_cap false (joint_begun x y z) 0

-- (DLMF 19.21.10)
unfoldable pub rg_value : Float → Float → Float → Float → Float → Float
rg_value x y z rf rd = (z ⊗ rf ⊖ (x ⊖ z) ⊗ (y ⊖ z) ⊗ rd ⊘ three ⊕ root (x ⊗ y ⊘ z)) ⊘ two

unfoldable pub rg_joint : Float → Float → Float → Found
rg_joint x y z = let r = joint_of x y z in joint_at (rg_value x y z r.rf r.rd) r.rounds
