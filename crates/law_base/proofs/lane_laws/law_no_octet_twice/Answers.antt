use Rattle.std.proofs.Common.{◌≡◌, ◌∙◌, true}
use Rattle.std.specs.Prelude.{slice_get}
use Rattle.net_model.specs.Ownership.{covers}
use Rattle.law_base.proofs.Owners.{one_byte}
use Rattle.law_base.proofs.Bytes.{places_differ}
use Rattle.law_base.proofs.lane_laws.law_no_octet_twice.Goals as goal

pub returns : goal.returns
returns c = λ net w conserved l m i j x y link here there same.
    let apart = places_differ l.way m.way x y same in
    let lane : l ≡ m = λ k. record { link = link k; way = apart.0 k } in
    let byte = apart.1 in
    let moved : covers w.durable.facts (slice_get (w.frames l) j) x ≡ true = (λ k. covers w.durable.facts (slice_get (w.frames (lane k)) j) (byte k)) ∙ there in
    (lane, one_byte w.durable.facts (w.durable.own l) (w.frames l) _ (conserved.now.owned l) i j x here moved)
