use Rattle.std.proofs.Common.{◌≡◌, ◌/◌, ℕ, List, Some, false, sym, ◌∙◌, ap, arith}
use Rattle.std.proofs.lemmas.List.{length-take}
use Rattle.net_model.specs.Groups.{routes_to, new_groups}
use Rattle.declared_site.specs.SiteOf.{site_of}
use Rattle.end_store.specs.Pooled.{ends_view}
use Rattle.kme_keys.proofs.Deciding.{me_seen}
use Rattle.kme_keys.proofs.Made.{fresh_seen}
use Rattle.kme_keys.specs.Candidates.{candidates}
use Rattle.kme_keys.proofs.GroupsMade.{by_routes, filled_full, filled_memory, filled_makes, unhanded_counted, groups_seen}
use Rattle.kme_keys.proofs.group_fill.filled_group.Goals as goal

pub overflow_add-group_count : goal.overflow_add-group_count
overflow_add-group_count c =
    let p = c.args.pool.now in
    let l = c.group_count.ensures in
    let t = length-take 4097 (candidates (ends_view c.args.store.now) p.master p.slaves.now p.bits false) in
    omega arith

pub returns-then-group_count-count-gt4096 : goal.returns-then-group_count-count-gt4096
returns-then-group_count-count-gt4096 c v is_up up seen routed =
    let p = c.args.pool.now in
    let counted = unhanded_counted v c.args.store.now seen p.master p.slaves.now p.bits 4097 c.group_count.result c.group_count.ensures in
    by_routes v p.master p.slaves.now p.bits c.args.count c.args.random.now _ _ routed (λ routes is. filled_full v p.master p.slaves.now p.bits c.args.count c.args.random.now routes c.group_count.result counted (omega arith))

pub returns-in_default : goal.returns-in_default
returns-in_default c v is_up up seen routed =
    let p = c.args.pool.now in
    let counted = unhanded_counted v c.args.store.now seen p.master p.slaves.now p.bits 4097 c.group_count.result c.group_count.ensures in
    by_routes v p.master p.slaves.now p.bits c.args.count c.args.random.now _ _ routed (λ routes is. filled_memory v p.master p.slaves.now p.bits c.args.count c.args.random.now routes c.group_count.result counted (omega arith))

pub returns-in_default-routes : goal.returns-in_default-routes
returns-in_default-routes c v is_up up seen routed =
    let p = c.args.pool.now in
    let counted = unhanded_counted v c.args.store.now seen p.master p.slaves.now p.bits 4097 c.group_count.result c.group_count.ensures in
    by_routes v p.master p.slaves.now p.bits c.args.count c.args.random.now _ _ routed (λ routes is. filled_memory v p.master p.slaves.now p.bits c.args.count c.args.random.now routes c.group_count.result counted (omega arith))

pub returns-in-Err : goal.returns-in-Err
returns-in-Err c v is_up up seen routed =
    let p = c.args.pool.now in
    let counted = unhanded_counted v c.args.store.now seen p.master p.slaves.now p.bits 4097 c.group_count.result c.group_count.ensures in
    by_routes v p.master p.slaves.now p.bits c.args.count c.args.random.now _ _ routed (λ routes is. filled_memory v p.master p.slaves.now p.bits c.args.count c.args.random.now routes c.group_count.result counted (omega arith))

pub returns : goal.returns
returns c v is_up up seen routed =
    let p = c.args.pool.now in
    let e = c.args.store.now in
    let counted = unhanded_counted v e seen p.master p.slaves.now p.bits 4097 c.group_count.result c.group_count.ensures in
    let me = me_seen v e seen c.known.result.now c.me.result c.known.ensures c.me.ensures in
    let found = ap (λ (n : ℕ). routes_to (site_of c.args.site.now) is_up n p.slaves.now) me ∙ c.in-Ok-routes.ensures is_up up in
    by_routes v p.master p.slaves.now p.bits c.args.count c.args.random.now _ _ routed (λ routes is.
    let same : c.in-Ok-routes.routes.items ≡ routes = (let s : Some c.in-Ok-routes.routes.items ≡ Some routes = sym found ∙ is in cc) in
    filled_makes v p.master p.slaves.now p.bits c.args.count c.args.random.now routes c.group_count.result counted (omega arith) c.in-Ok-new_groups.batch c.in-Ok.first
    (c.in-Ok-new_groups.ensures ∙ ap (λ (ws : List (ℕ × List ℕ)). new_groups (ends_view e) p.master ws (p.bits / 8) c.args.random.now 0 c.args.count) (c.deref.ensures.value ∙ same) ∙ groups_seen v e seen p.master routes (p.bits / 8) c.args.random.now 0 c.args.count)
    (c.in-Ok.ensures.name ∙ fresh_seen v e seen 0))
