use Rattle.std.proofs.Common.{List, length, take, sym, ◌∙◌, ap, arith}
use Rattle.qkd_base.specs.Name.{Name}
use Rattle.relay_core.specs.Knowledge.{Knowledge}
use Rattle.declared_site.specs.SiteOf.{site_of}
use Rattle.kme_keys.proofs.Deciding.{enc_refuses, enc_few, enc_memory, enc_hands, pool_seen, me_seen}
use Rattle.kme_keys.proofs.ready.enc.Goals as goal

pub returns-then-not-is_entitled : goal.returns-then-not-is_entitled
returns-then-not-is_entitled c v seen =
    let p = c.args.pool.now in
    let me = me_seen v c.args.store.now seen c.known-known.result.now c.me.result c.known-known.ensures c.me.ensures in
    enc_refuses (site_of c.args.site.now) v p.master p.slave c.args.number p.bits c.is_entitled.result (c.is_entitled.ensures v me) (cc)

pub returns-then-ready-number : goal.returns-then-ready-number
returns-then-ready-number c v seen =
    let p = c.args.pool.now in
    let me = me_seen v c.args.store.now seen c.known-known.result.now c.me.result c.known-known.ensures c.me.ensures in
    let counted = c.ready_count-ready.ensures ∙ ap (λ (ns : List Name). length (take c.args.number ns)) (pool_seen v c.args.store.now seen p.master p.slave p.bits) in
    enc_few (site_of c.args.site.now) v p.master p.slave c.args.number p.bits c.is_entitled.result (c.is_entitled.ensures v me) (cc) c.ready_count-ready.result counted (omega arith)

pub returns-in-Err : goal.returns-in-Err
returns-in-Err c v seen =
    let p = c.args.pool.now in
    let me = me_seen v c.args.store.now seen c.known-known.result.now c.me.result c.known-known.ensures c.me.ensures in
    let counted = c.ready_count-ready.ensures ∙ ap (λ (ns : List Name). length (take c.args.number ns)) (pool_seen v c.args.store.now seen p.master p.slave p.bits) in
    enc_memory (site_of c.args.site.now) v p.master p.slave c.args.number p.bits c.is_entitled.result (c.is_entitled.ensures v me) (cc) c.ready_count-ready.result counted (omega arith)

pub returns-in-Ok : goal.returns-in-Ok
returns-in-Ok c v seen =
    let p = c.args.pool.now in
    let me = me_seen v c.args.store.now seen c.known-known.result.now c.me.result c.known-known.ensures c.me.ensures in
    let counted = c.ready_count-ready.ensures ∙ ap (λ (ns : List Name). length (take c.args.number ns)) (pool_seen v c.args.store.now seen p.master p.slave p.bits) in
    let names = c.deref.ensures.value ∙ c.in-Ok.ensures ∙ ap (λ (ns : List Name). take c.args.number ns) (pool_seen v c.args.store.now seen p.master p.slave p.bits) in
    enc_hands (site_of c.args.site.now) v p.master p.slave c.args.number p.bits c.is_entitled.result (c.is_entitled.ensures v me) (cc) c.ready_count-ready.result counted (omega arith)
    c.deref.result.now c.hand_out.result names (c.hand_out.ensures v (seen.facts ∙ ap (λ (k : Knowledge). k.facts) (sym c.known-known.ensures)))
