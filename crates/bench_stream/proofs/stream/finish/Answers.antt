-- `finish` meets its contract: what is left is answered, then the tallies are told if they are asked for. Assumes nothing.
use Prim.Native.Nat.{ℕ, ◌+◌, ◌≤◌}
use mathlib.Core.Path.{◌≡◌, sym, subst}
use mathlib.Core.Bool.{Bool, true, false}
use mathlib.Core.List.{List, []}
use native.Mathlib.Omega.{arith}
use borrow.Author.Rules.{rules}
use lib.ListN.{length, take}
use lib.Seq.{length-take-le}
use Rattle.io.specs.Counts.{IsPrefixLen}
use Rattle.writing.specs.Fed.{Fed}
use Rattle.writing.specs.Parts.{take_least}
use Rattle.writing.specs.Written.{Put, Tried, tried_put, put_more, put_none, put_length, place_most}
use Rattle.bench_write.specs.Texts.{said_text, shown_of, text_under, longest_reply, longest_tallies, longest_of}
use Rattle.bench_write.specs.declared.tallies.Tally.{Tally}
use Rattle.bench_write.specs.declared.said.Said.TheVariants.{Tallies}
use Rattle.bench_stream.specs.Lines.{Open, under, held_length}
use Rattle.bench_stream.specs.Stream.{said_at_end, input_end, said_last}
use Rattle.bench_stream.specs.declared.lines.State.{State}
use Rattle.bench_stream.proofs.Lengths.{end_length, last_length}
use Rattle.bench_stream.proofs.stream.finish.Goals as goal

tallied : (t : Tally) {o out : List ℕ} {at next : ℕ} → at + longest_tallies ≤ length o
    → Tried (longest_of (Tallies t)) o at (text_under (Tallies t) []) out next → Put o at (said_at_end true t) out next
unfolding longest_of text_under shown_of said_text said_at_end
tallied t h p = tried_put h p

module _ (held : List ℕ) (s : State) (n r : ℕ) (l : length held ≡ held_length) (is : take r held ≡ take n held) {u : Open}
    {o half : List ℕ} {used : ℕ} (full : length o ≡ 65536) (f : Fed (input_end (under s (take r held))) u o 0 half used 0) where
  room : used + longest_tallies ≤ length half
  room = omega (arith, place_most longest_reply f.said (end_length (under s (take r held))), put_length f.said)

  told : (summary : Bool) {out : List ℕ} {next : ℕ} → Put half used (said_at_end summary u.state.tally) out next
      → Put o 0 (said_last summary (under s (take n held))) out next
  unfolding said_last
  told summary {out} {next} p =
      subst (λ (name : List ℕ). Put o 0 (said_last summary (under s name)) out next) is
      (put_more f.said
      (subst (λ (x : Open). Put half used (said_at_end summary x.state.tally) out next) f.left p))

  counts : (summary : Bool) {out : List ℕ} {next : ℕ} → Put o 0 (said_last summary (under s (take n held))) out next
      → IsPrefixLen next out
  counts summary {out} {next} p =
      let most : next ≤ length out =
      omega (arith, place_most (longest_reply + longest_tallies) p (last_length summary (under s (take n held))), put_length p) in
      (most, sym (length-take-le _ _ most))

  asked : (summary : Bool) → summary ≡ true → {out : List ℕ} {next : ℕ}
      → Tried (longest_of (Tallies u.state.tally)) half used (text_under (Tallies u.state.tally) []) out next
      → Put o 0 (said_last summary (under s (take n held))) out next × IsPrefixLen next out
  asked summary e {out} {next} t =
      let p = told summary (subst (λ (b : Bool). Put half used (said_at_end b u.state.tally) out next) (sym e)
      (tallied u.state.tally room t)) in
      (p, counts summary p)

  not-asked : (summary : Bool) → summary ≡ false → Put o 0 (said_last summary (under s (take n held))) half used × IsPrefixLen used half
  unfolding said_at_end
  not-asked summary e =
      let p =
      told summary (subst (λ (b : Bool). Put half used (said_at_end b u.state.tally) half used) (sym e) (put_none half used)) in
      (p, counts summary p)

pub returns-then-summary : goal.returns-then-summary
returns-then-summary c =
    let held : length c.args.held.now ≡ held_length = search rules in let full : length c.args.out.now ≡ 65536 = search rules in record {
      put = (asked c.args.held.now c.args.s c.args.n c.least.result held
          (take_least c.args.held.now held_length c.args.n c.least.result held c.least.ensures.2) full
          c.ended-told.ensures
          c.args.summary c.if-summary.true c.put_said.ensures).0;
      prefix_len = (asked c.args.held.now c.args.s c.args.n c.least.result held
          (take_least c.args.held.now held_length c.args.n c.least.result held c.least.ensures.2) full
          c.ended-told.ensures
          c.args.summary c.if-summary.true c.put_said.ensures).1;
    }

pub returns : goal.returns
returns c =
    let held : length c.args.held.now ≡ held_length = search rules in let full : length c.args.out.now ≡ 65536 = search rules in record {
      put = (not-asked c.args.held.now c.args.s c.args.n c.least.result held
          (take_least c.args.held.now held_length c.args.n c.least.result held c.least.ensures.2) full
          c.ended-told.ensures
          c.args.summary c.if-summary.false).0;
      prefix_len = (not-asked c.args.held.now c.args.s c.args.n c.least.result held
          (take_least c.args.held.now held_length c.args.n c.least.result held c.least.ensures.2) full
          c.ended-told.ensures
          c.args.summary c.if-summary.false).1;
    }
