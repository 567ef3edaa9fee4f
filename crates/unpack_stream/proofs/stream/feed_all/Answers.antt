-- `feed_all` meets its contract. The invariant: what was fed so far is the beginning of the bytes, and no refusal ended it.
-- Assumes nothing.
use Rattle.std.specs.Prelude.{None}
use Prim.Native.Nat.{ℕ, ◌+◌, ◌-◌, ◌*◌, ◌^◌, ◌≤◌, ◌<◌}
use mathlib.Core.Path.{◌≡◌, refl, sym, ap, ◌∙◌}
use mathlib.Core.Bool.{Bool, false, cond}
use mathlib.Core.List.{List, [], ◌∷◌}
use native.Mathlib.Omega.{arith}
use lib.ListN.{length, take, drop, length-drop}
use lib.Seq.{take-length, length-take-le}
use Rattle.writing.specs.Fed.{quiet, and_ran, run}
use Rattle.std.specs.Option.{is_some}
use Rattle.writing.specs.FedLaws.{upto_none, upto_part, upto_stop}
use Rattle.unpack_stream.specs.Text.{line_room}
use Rattle.unpack_stream.specs.Unpack.{ended, Held, holding, unpack_byte, unpack_from, held_length, state_of, Unpacks, Turns}
use Rattle.unpack_stream.specs.declared.stream.Progress.{Progress}
use Rattle.unpack_stream.specs.declared.stream.Turned.{Turned}
use Rattle.unpack_stream.proofs.Lines.{byte_short}
use Rattle.unpack_stream.proofs.stream.feed_all.Goals as goal
use Rattle.unpack_stream.proofs.stream.feed_all.Invariants.{Fed-to}
use Rattle.unpack_stream.proofs.stream.feed_all.Goals.{After-turn-turned, At-loop-i}

begins : (bytes held out : List ℕ) (n : ℕ) (all : Progress) → n ≤ held_length
    → all ≡ record { held = n; used = 0; taken = 0; stop = None }
    → (all.held ≤ held_length) × (is_some all.stop ≡ false) × Fed-to bytes (take n held) out 0 held out all
begins bytes held out n all h e = rw e (h, refl, upto_none)

-- what was fed before a turn, with what the turn fed
abbrev both : Progress → Progress → Progress
both all fed = record {
  held = fed.held;
  used = fed.used;
  taken = all.taken + fed.taken;
  stop = fed.stop;
}

-- of a state that goes on only what is held counts
same-run : (xs : List ℕ) (s : Held) → 0 < length xs → ended s ≡ false → unpack_from s xs ≡ unpack_from (holding s.rest) xs
unfolding run unpack_byte
same-run [] s h e = absurd (omega arith)
same-run (x ∷ xs) s h e =
    ap (λ (t : Bool). cond t (quiet s) (and_ran (unpack_byte s x) (unpack_from (unpack_byte s x).left xs))) e

turned :
    (bytes held out₀ middle half after out : List ℕ) (i : ℕ) (all : Progress) (r : Turned) → is_some all.stop ≡ false
    → Fed-to bytes held out₀ i middle half all
    → Turns bytes i (take all.held middle) after half all.used out r
    → Fed-to bytes held out₀ r.next after out (both all r.fed)
turned bytes held out₀ middle half after out i all r e u t =
    let k : ℕ = r.next - i in
    let there : i + k ≡ r.next = omega (arith, t.later) in
    let some : length (take k (drop i bytes)) ≡ k = length-take-le k (drop i bytes) (rw length-drop (omega (arith, t.inside))) in
    let fed : Unpacks (unpack_from (state_of middle all) (take k (drop i bytes))) after half all.used out r.fed =
    rw (same-run (take k (drop i bytes)) (state_of middle all) (omega (arith, t.later, some)) e) t.fed in
    rw there at (upto_part u k (omega (arith, t.inside)) byte_short fed)

-- a turn of the loop: its bytes were fed
turn : (c : After-turn-turned)
    → (
    let a = c.args in
    Fed-to a.bytes.now (take a.n a.held.now) a.out.now c.turn-turned.result.next c.turn-turned.new.held
    c.turn-turned.new.out (both c.loop-i.all c.turn-turned.result.fed))
turn c =
    let l = c.loop-i in
    turned _ _ _ l.held _ _ _ _ l.all c.turn-turned.result l.invariant.3 l.invariant.4 c.turn-turned.ensures

-- the room is in the machine, so there are few bytes
few_bytes : (c : At-loop-i)
    → line_room * length c.args.bytes.now < 2 ^ 64
few_bytes c = omega (arith, c.requires.bytes_in_bounds)

pub loop-i-init : goal.loop-i-init
loop-i-init c =
    let b = begins c.args.bytes.now c.args.held.now c.args.out.now c.args.n _ c.requires.n_le_held_length
    c.waiting-all.ensures in
    (omega arith, b.0, c.requires.held_len, b.1, b.2)

pub overflow_add-all : goal.overflow_add-all
overflow_add-all c =
    omega (arith, (turn (goal.at.overflow_add-all c).After-turn-turned).count_most, c.turn-turned.ensures.inside, few_bytes (goal.at.overflow_add-all c).At-loop-i)

pub returns-then-is_some : goal.returns-then-is_some
returns-then-is_some c =
    let bytes = c.args.bytes.now in let t = c.turn-turned.ensures in let u = turn (goal.at.returns-then-is_some c).After-turn-turned in record { unpacks = rw (take-length bytes) at (upto_stop u (length bytes) t.inside (sym c.if-is_some.ensures)); held_le_held_length = t.few; used_bound = omega (arith, t.inside, u.used_most) }

pub loop-i-preserved : goal.loop-i-preserved
loop-i-preserved c =
    let l = c.loop-i in
    let t = c.turn-turned.ensures in (
      t.inside,
      t.few,
      c.turn-turned.auto.held ∙ l.invariant.2,
      sym c.if-is_some.ensures,
      turn (goal.at.loop-i-preserved c).After-turn-turned,
    )
