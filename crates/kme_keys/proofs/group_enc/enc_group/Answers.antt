use Rattle.std.proofs.Common.{List, length, take, sym, ◌∙◌, ap, arith}
use Rattle.qkd_base.specs.Name.{Name}
use Rattle.relay_core.specs.Knowledge.{Knowledge}
use Rattle.declared_site.specs.SiteOf.{site_of}
use Rattle.kme_keys.proofs.Deciding.{me_seen}
use Rattle.kme_keys.proofs.GroupsMade.{enc_refuses, enc_few, enc_memory, enc_hands, group_seen}
use Rattle.kme_keys.proofs.group_enc.enc_group.Goals as goal

pub returns-then-not-is_entitled_group : goal.returns-then-not-is_entitled_group
returns-then-not-is_entitled_group c v seen =
    let p = c.args.pool.now in
    let me = me_seen v c.args.store.now seen c.known-known.result.now c.me.result c.known-known.ensures c.me.ensures in
    enc_refuses (site_of c.args.site.now) v p.master p.slaves.now c.args.number p.bits c.is_entitled_group.result (c.is_entitled_group.ensures v me) (cc)

pub returns-then-ready-number : goal.returns-then-ready-number
returns-then-ready-number c v seen =
    let p = c.args.pool.now in
    let me = me_seen v c.args.store.now seen c.known-known.result.now c.me.result c.known-known.ensures c.me.ensures in
    let counted = c.group_count-ready.ensures ∙ ap (λ (ns : List Name). length (take c.args.number ns)) (group_seen v c.args.store.now seen p.master p.slaves.now p.bits) in
    enc_few (site_of c.args.site.now) v p.master p.slaves.now c.args.number p.bits c.is_entitled_group.result (c.is_entitled_group.ensures v me) (cc) c.group_count-ready.result counted (omega arith)

pub returns-in-Err : goal.returns-in-Err
returns-in-Err c v seen =
    let p = c.args.pool.now in
    let me = me_seen v c.args.store.now seen c.known-known.result.now c.me.result c.known-known.ensures c.me.ensures in
    let counted = c.group_count-ready.ensures ∙ ap (λ (ns : List Name). length (take c.args.number ns)) (group_seen v c.args.store.now seen p.master p.slaves.now p.bits) in
    enc_memory (site_of c.args.site.now) v p.master p.slaves.now c.args.number p.bits c.is_entitled_group.result (c.is_entitled_group.ensures v me) (cc) c.group_count-ready.result counted (omega arith)

pub returns-in-Ok : goal.returns-in-Ok
returns-in-Ok c v seen =
    let p = c.args.pool.now in
    let me = me_seen v c.args.store.now seen c.known-known.result.now c.me.result c.known-known.ensures c.me.ensures in
    let counted = c.group_count-ready.ensures ∙ ap (λ (ns : List Name). length (take c.args.number ns)) (group_seen v c.args.store.now seen p.master p.slaves.now p.bits) in
    let names = c.deref.ensures.value ∙ c.in-Ok.ensures ∙ ap (λ (ns : List Name). take c.args.number ns) (group_seen v c.args.store.now seen p.master p.slaves.now p.bits) in
    enc_hands (site_of c.args.site.now) v p.master p.slaves.now c.args.number p.bits c.is_entitled_group.result (c.is_entitled_group.ensures v me) (cc) c.group_count-ready.result counted (omega arith)
    c.deref.result.now c.hand_out.result names (c.hand_out.ensures v (seen.facts ∙ ap (λ (k : Knowledge). k.facts) (sym c.known-known.ensures)))
