use Rattle.std.proofs.Common.{◌≡◌, ◌+◌, suc, arith, ◌∷◌, List, sym, ◌∙◌, ap, take, drop, drop-cons}
use Rattle.qkd_base.specs.Name.{Name}
use Rattle.net_model.specs.Pools.{dec_fault}
use Rattle.end_store.specs.Pooled.{ends_view}
use Rattle.kme_keys.proofs.Deciding.{fault_found}
use Rattle.kme_keys.proofs.faults.first_fault.Goals as goal

pub returns-in-Some : goal.returns-in-Some
returns-in-Some c =
    let v = ends_view c.args.store.now in
    let names = c.args.names.now in
    let place = c.loop-place.place in
    let next : drop place names ≡ c.index-names-place.result ∷ drop (place + 1) names =
    (let e : suc place ≡ place + 1 = omega arith in
    drop-cons names place c.index-names-place.result c.loop-place-test.true ∙ (λ i. sym c.index-names-place.is i ∷ drop (e i) names)) in
    sym (fault_found v c.args.master c.args.slave (take place names) c.index-names-place.result (drop (place + 1) names) c.in-Some.fault c.in-Some.ensures)
    ∙ ap (λ (ns : List Name). dec_fault v c.args.master c.args.slave (take place names) ns) (sym next) ∙ c.loop-place.invariant
