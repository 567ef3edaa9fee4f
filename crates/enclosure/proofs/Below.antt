-- ln below 1 is -(2(e+1) T(1/3) - 2 T(s)), and what is near 2e T(1/3) + 2 T(r) is near that, since T(1/3) - T(s) is T(r)
-- (`Addition`). Assumes nothing.
use Rattle.std.specs.Prelude.{ℕ, suc, ◌*◌, ◌≤◌, [], ◌∷◌}
use Rattle.algebra.specs.Ring.{con, nxt, ◌:+◌, ◌:*◌, ◌≈◌, ◌⊩◌, ◌times◌≼◌, Order}
use Rattle.algebra.proofs.Ring.{by_below}
use Rattle.enclosure.specs.Quotient.{Quotient, ◌≼◌, whole, ◌⊞◌, ◌⊠◌}
use Rattle.enclosure.specs.Order.{≼_refl, ≼_trans, ⊞-mono}
use Rattle.enclosure.specs.Enclosure.{T-lower, T-upper, third, third_proper, argument_of_ln, ln_proper, ln_below_lower}
use Rattle.enclosure.specs.Enclosure.{ln_below_upper, Within}
use Rattle.enclosure.proofs.Nested.{T-nested}
use Rattle.enclosure.specs.Addition.{across}
use Rattle.enclosure.proofs.Addition.{across_proper, third_low, third_high}
use Rattle.enclosure.proofs.Steep.{⊟-below, ⊟-above}

-- (2e U + 2L + d) + 2S ≤ 2(e+1) U + d, where L + S ≤ U
taken_low : Order 9 (λ e U U' L L' S S' d d'. (con 2 :* U' :* d' :* d' times (L :* S' :+ S :* L') :* U' ≼ U :* (L' :* S')) ∷ []
    ⊩ (((con 2 :* e :* U :* (con 1 :* L') :+ con 2 :* L :* (con 1 :* U')) :* d' :+ d :* (con 1 :* U' :* (con 1 :* L'))) :*
    (con 1 :* S')
    :+ con 2 :* S :* (con 1 :* U' :* (con 1 :* L') :* d')) :* (con 1 :* U' :* d')
    ≈ (con 2 :* nxt e :* U :* d' :+ d :* (con 1 :* U')) :* (con 1 :* U' :* (con 1 :* L') :* d' :* (con 1 :* S')))
taken_low = by_below tt

-- 2(e+1) T ≤ (2e T + 2R) + 2S, where T ≤ S + R
taken_high : Order 7 (λ e T T' R R' S S'. (con 2 :* T' times T :* (S' :* R') ≼ (S :* R' :+ R :* S') :* T') ∷ []
    ⊩ con 2 :* nxt e :* T :* (con 1 :* T' :* (con 1 :* R') :* (con 1 :* S'))
    ≈ ((con 2 :* e :* T :* (con 1 :* R') :+ con 2 :* R :* (con 1 :* T')) :* (con 1 :* S') :+ con 2 :* S :*
    (con 1 :* T' :* (con 1 :* R')))
    :* (con 1 :* T'))
taken_high = by_below tt

-- THE LAW, from N terms of T(r)
pub below_near : (m : Quotient) (h : 3 * (argument_of_ln m).num ≤ (argument_of_ln m).den) (e N : ℕ) {v down up : Quotient}
    → let r = across (argument_of_ln m) h in
    let proper = across_proper (argument_of_ln m) h in
    Within (λ n. whole (2 * e) ⊠ T-lower third n ⊞ whole 2 ⊠ T-upper r proper N)
    (λ n. whole (2 * e) ⊠ T-upper third third_proper n ⊞ whole 2 ⊠ T-lower r N) v down up
    → Within (ln_below_lower m (suc e)) (ln_below_upper m (suc e)) v down up
unfolding ln_below_lower ln_below_upper
below_near m h e N {v} {down} {up} near =
    let s = argument_of_ln m in
    let r = across s h in
    record {
      low = λ n.
          let U = T-upper third third_proper n in
          let L = T-lower r N in
          let S = T-lower s n in
          let law = taken_low.law e U.num U.den L.num L.den S.num S.den down.num down.den
          (third_high s h n N).cross in
          let sum : v ⊞ whole 2 ⊠ S ≼ whole (2 * suc e) ⊠ U ⊞ down =
          ≼_trans (⊞-mono (near.low n) ≼_refl) (record { cross = law }) in
          ⊟-below v (whole 2 ⊠ S) (whole (2 * suc e) ⊠ U) down sum;
      high = λ n.
          let T = T-lower third n in
          let R = T-upper r (across_proper s h) N in
          let S = T-upper s (ln_proper m) n in
          let most : T ≼ S ⊞ R = ≼_trans (third_low s h n N) (⊞-mono (T-nested s (ln_proper m) n n) ≼_refl) in
          let law = taken_high.law e T.num T.den R.num R.den S.num S.den most.cross in
          ⊟-above (whole 2 ⊠ S) (≼_trans (record { cross = law }) (⊞-mono (near.high n) ≼_refl));
    }

-- ---- no multiple of T(1/3) (e = 0) adds nothing
none_low : Order 4 (λ T T' L L'. (con 0 :* T :* L' :+ L :* (con 1 :* T')) :* L' ≈ L :* (con 1 :* T' :* L'))
none_low = by_below tt

none_high : Order 4 (λ T T' L L'. L :* (con 1 :* T' :* L') ≈ (con 0 :* T :* L' :+ L :* (con 1 :* T')) :* L')
none_high = by_below tt

pub with_none : {lower upper : ℕ → Quotient} {v down up : Quotient} → Within lower upper v down up
    → Within (λ n. whole (2 * 0) ⊠ T-lower third n ⊞ lower n)
    (λ n. whole (2 * 0) ⊠ T-upper third third_proper n ⊞ upper n) v down up
with_none {lower} {upper} near = record {
  low = λ n.
      let T = T-upper third third_proper n in
      let L = upper n in
      ≼_trans (near.low n) (⊞-mono (record { cross = none_high.law T.num T.den L.num L.den }) ≼_refl);
  high = λ n.
      let T = T-lower third n in
      let L = lower n in
      ≼_trans (record { cross = none_low.law T.num T.den L.num L.den }) (near.high n);
}
