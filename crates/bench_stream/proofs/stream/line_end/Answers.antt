-- `line_end` meets its contract: the reply is that to the line that was read. Assumes nothing.
use Prim.Native.Nat.{ℕ, ◌+◌, ◌≤◌}
use mathlib.Core.Path.{◌≡◌, refl, sym, ap, ◌∙◌, subst}
use mathlib.Core.List.{List, []}
use native.Mathlib.Omega.{arith}
use lib.ListN.{length, take}
use lib.Seq.{length-take-le}
use Rattle.writing.specs.Written.{Put, Tried, tried_put}
use Rattle.writing.specs.Fed.{Fed}
use Rattle.bench_write.specs.Texts.{longest_reply, longest_of, text_under}
use Rattle.bench_write.specs.declared.said.Said.{Said}
use Rattle.bench_replies.specs.Replies.{reply_of}
use Rattle.bench_replies.specs.Room.{reply_room}
use Rattle.bench_stream.specs.Lines.{state_heard, under, reply_now, said, heard, line_end}
use Rattle.bench_stream.specs.declared.lines.State.{State}
use Rattle.bench_stream.proofs.stream.line_end.Goals as goal

told :
    (s t : State) (r : Said) (name : List ℕ) (n : ℕ) {o out : List ℕ} {at next : ℕ} → length name ≡ n
    → r ≡ reply_of s.decays s.row n → t ≡ state_heard s r → Put o at (text_under r name) out next
    → Fed (line_end (under s name)) (under t []) o at out next 0
unfolding heard said reply_now
told s t r name n {o} {out} {at} {next} l is e p =
    let f : r ≡ reply_of s.decays s.row (length name) = is ∙ ap (λ (k : ℕ). reply_of s.decays s.row k) (sym l) in
    record {
      left = ap (λ (t : State). under t []) (e ∙ ap (state_heard s) f);
      said = subst (λ (r : Said). Put o at (text_under r name) out next) f p;
      counted = refl;
    }

-- there is room for a reply
put : (s : State) (r : Said) (name : List ℕ) (n : ℕ) {o out : List ℕ} {at next : ℕ} → r ≡ reply_of s.decays s.row n
    → at + longest_reply ≤ length o → Tried (longest_of r) o at (text_under r name) out next → Put o at (text_under r name) out next
put s r name n {o} {out} {at} is room t =
    let e : longest_of r ≡ longest_reply = ap longest_of is ∙ reply_room s.decays s.row n in
    tried_put (omega arith) t

pub slice_bounds-put_said-end : goal.slice_bounds-put_said-end
slice_bounds-put_said-end c =
    sym (length-take-le _ _ (omega arith))

pub returns : goal.returns
returns c =
    record {
      benches = told _ _ _ (take c.args.n c.args.held.now) _ (length-take-le _ _ c.requires.n_in_bounds) c.reply_to-reply.ensures
          c.after_line.ensures
          (put c.args.s _ _ _ c.reply_to-reply.ensures c.requires.longest_reply_in_bounds c.put_said.ensures);
      held_value = refl;
    }
