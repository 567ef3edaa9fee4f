-- `feed_all` meets its contract. The invariant: what was fed so far is the block's beginning, and no line in it was bad.
-- Assumes nothing.
use Prim.Native.Nat.{ℕ, ◌+◌, ◌*◌, ◌^◌, ◌≤◌, ◌<◌}
use mathlib.Core.Path.{◌≡◌, refl, sym, ◌∙◌}
use mathlib.Core.Bool.{false}
use mathlib.Core.List.{List}
use native.Mathlib.Omega.{arith}
use lib.ListN.{length, take}
use Rattle.writing.specs.FedLaws.{upto_none, upto_byte, upto_all, upto_stop}
use Rattle.writing.specs.Written.{put_length}
use Rattle.pack_stream.specs.Pack.{pack_byte, held_length, job_room}
use Rattle.pack_stream.specs.declared.stream.Progress.{Progress}
use Rattle.pack_stream.proofs.Bounds.{byte_short}
use Rattle.pack_stream.proofs.stream.feed_all.Goals as goal
use Rattle.pack_stream.proofs.stream.feed_all.Invariants.{Fed-to}
use Rattle.pack_stream.proofs.stream.feed_all.Goals.{After-step-fed, At-loop-i}

begins : (block held out : List ℕ) (n : ℕ) (all : Progress) → n ≤ held_length
    → all ≡ record { held = n; used = 0; lines = 0; bad = false }
    → (all.held ≤ held_length) × (all.bad ≡ false) × Fed-to block (take n held) out 0 held out all
begins block held out n all h e = rw e (h, refl, upto_none)

-- a turn of the loop: its byte was fed
turn : (c : After-step-fed)
    → (
    let a = c.args in
    let all = c.loop-i.all in
    Fed-to a.block.now (take a.n a.held.now) a.out.now (c.loop-i.i + 1) c.step-fed.new.held
    c.step-fed.new.out
    (record {
      held = c.step-fed.result.held;
      used = c.step-fed.result.used;
      lines = all.lines + c.step-fed.result.lines;
      bad = c.step-fed.result.bad;
    }))
unfolding pack_byte
turn c =
    let inside : c.loop-i.i < length c.args.block.now =
    omega (arith, c.requires.size_in_bounds) in
    upto_byte c.loop-i.invariant.3 inside c.loop-i.invariant.2 byte_short c.step-fed.ensures.packs

-- the room is in the machine, so there are few bytes
few_bytes : (c : At-loop-i) → job_room * c.args.size < 2 ^ 64
few_bytes c = omega (arith, c.requires.size_in_bounds_2)

pub loop-i-init : goal.loop-i-init
loop-i-init c =
    let b = begins c.args.block.now c.args.held.now c.args.out.now c.args.n _ c.requires.n_le_held_length
    c.nothing-all.ensures in
    (b.0, c.requires.held_len, b.1, b.2)

pub step-fed-requires : goal.step-fed-requires
step-fed-requires c =
    let l = c.loop-i in let u = l.invariant.3 in record { held_len = l.invariant.1; n_le_held_length = l.invariant.0; job_room_in_bounds = omega (arith, put_length u.fed.said, u.used_most) }

pub overflow_add-all : goal.overflow_add-all
overflow_add-all c =
    omega (arith, (turn (goal.at.overflow_add-all c).After-step-fed).count_most, few_bytes (goal.at.overflow_add-all c).At-loop-i)

pub shape_of-out-then-all : goal.shape_of-out-then-all
shape_of-out-then-all c =
    put_length (turn (goal.at.shape_of-out-then-all c).After-step-fed).fed.said

pub returns-then-all : goal.returns-then-all
returns-then-all c =
    let u = turn (goal.at.returns-then-all c).After-step-fed in record { packs = upto_stop u c.args.size (omega arith) c.if-all.true; held_le_held_length = c.step-fed.ensures.held_le_held_length; used_bound = omega (arith, u.used_most) }

pub shape_of-held : goal.shape_of-held
shape_of-held c =
    c.loop-i.invariant.1 ∙ sym c.requires.held_len

pub shape_of-out : goal.shape_of-out
shape_of-out c =
    put_length c.loop-i.invariant.3.fed.said

pub returns : goal.returns
returns c =
    let l = c.loop-i in let u = c.loop-i.invariant.3 in record { packs = upto_all u _ (omega arith) c.loop-i-test.false; held_le_held_length = l.invariant.0; used_bound = omega (arith, u.used_most) }

pub loop-i-preserved : goal.loop-i-preserved
loop-i-preserved c = (
  c.step-fed.ensures.held_le_held_length,
  c.step-fed.auto.held ∙ c.loop-i.invariant.1,
  c.if-all.false,
  turn (goal.at.loop-i-preserved c).After-step-fed,
)
