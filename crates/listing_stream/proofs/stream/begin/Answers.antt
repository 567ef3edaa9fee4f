-- `begin` meets its contract: there is room for either header. Assumes nothing.
use Prim.Native.Nat.{◌≤◌}
use mathlib.Core.Path.{◌≡◌, sym}
use native.Mathlib.Omega.{arith}
use borrow.Author.Rules.{rules}
use lib.ListN.{length}
use lib.Seq.{length-take-le}
use Rattle.writing.specs.Written.{tried_put, put_length}
use Rattle.listing_stream.proofs.stream.begin.Goals as goal

pub returns-then-profile : goal.returns-then-profile
returns-then-profile c =
    let full : length c.args.out.now ≡ 65536 = search rules in let p = tried_put (omega (arith, full)) c.put_text.ensures in let most : c.put_text.result ≤ length c.put_text.new.out = omega (arith, put_length p, p.place) in record { put = rw c.if-profile.true p; prefix_len = (most, sym (length-take-le _ _ most)) }

pub returns : goal.returns
returns c =
    let full : length c.args.out.now ≡ 65536 = search rules in let p = tried_put (omega (arith, full)) c.put_text-2.ensures in let most : c.put_text-2.result ≤ length c.put_text-2.new.out = omega (arith, put_length p, p.place) in record { put = rw c.if-profile.false p; prefix_len = (most, sym (length-take-le _ _ most)) }
