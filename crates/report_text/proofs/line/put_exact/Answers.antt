-- `put_exact` meets its contract. Assumes nothing.
use Prim.Native.Nat.{◌+◌}
use mathlib.Core.Path.{refl}
use native.Mathlib.Omega.{arith}
use Rattle.writing.specs.Written.{there, tried_there, tried_lacking}
use Rattle.report_text.proofs.Parts.{after_key, after_sign, size_is, exact_whole, zeros}
use Rattle.report_text.proofs.line.put_exact.Goals as goal

pub put_name-name-requires : goal.put_name-name-requires
put_name-name-requires c =
    let a = c.args in
    omega (arith, there {n = a.at + 555} c.has_room.ensures c.if-has_room.true)

pub put_sign-sign-requires : goal.put_sign-sign-requires
put_sign-sign-requires c =
    let a = c.args in
    let r = after_key a.function (there c.has_room.ensures c.if-has_room.true) c.put_name-name.ensures
    c.put_text-key.ensures in
    omega (arith, r.0)

pub put_hex-requires : goal.put_hex-requires
put_hex-requires c =
    let a = c.args in let r = after_key a.function (there c.has_room.ensures c.if-has_room.true) c.put_name-name.ensures
    c.put_text-key.ensures in let i = size_is a.sum.now _ c.size_into.new.out (λ j. (c.type_inv.sum j).fits) refl zeros
    c.size_into.ensures in record { size_len = i.0; hex_most_in_bounds = after_sign _ r.0 c.put_sign-sign.ensures }

pub returns-then-has_room : goal.returns-then-has_room
returns-then-has_room c =
    let a = c.args in
    let r = after_key a.function (there c.has_room.ensures c.if-has_room.true) c.put_name-name.ensures
    c.put_text-key.ensures in
    let i = size_is a.sum.now _ c.size_into.new.out (λ j. (c.type_inv.sum j).fits) refl zeros
    c.size_into.ensures in
    tried_there c.has_room.ensures c.if-has_room.true
    (exact_whole a.function _ _ c.put_name-name.ensures r.1 c.put_sign-sign.ensures i.1 c.put_hex.ensures)

pub returns : goal.returns
returns c =
    tried_lacking c.has_room.ensures c.if-has_room.false
