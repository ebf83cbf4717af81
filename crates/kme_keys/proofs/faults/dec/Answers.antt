use Rattle.std.proofs.Common.{[], sym, ◌∙◌, ap}
use Rattle.relay_core.specs.Knowledge.{Knowledge}
use Rattle.declared_site.specs.SiteOf.{site_of}
use Rattle.kme_keys.proofs.Deciding.{dec_refuses, dec_faulty, dec_hands, fault_seen, me_seen}
use Rattle.kme_keys.proofs.faults.dec.Goals as goal

pub returns-then-not-is_entitled : goal.returns-then-not-is_entitled
returns-then-not-is_entitled c v seen =
    let me = me_seen v c.args.store.now seen c.known-known.result.now c.me.result c.known-known.ensures c.me.ensures in
    dec_refuses (site_of c.args.site.now) v c.args.slave c.args.master c.args.names.now c.is_entitled.result (c.is_entitled.ensures v me) (cc)

pub returns-in-Some : goal.returns-in-Some
returns-in-Some c v seen =
    let me = me_seen v c.args.store.now seen c.known-known.result.now c.me.result c.known-known.ensures c.me.ensures in
    dec_faulty (site_of c.args.site.now) v c.args.slave c.args.master c.args.names.now c.is_entitled.result (c.is_entitled.ensures v me) (cc) c.in-Some.fault
    (c.in-Some.ensures ∙ fault_seen v c.args.store.now seen c.args.master c.args.slave [] c.args.names.now)

pub returns-in-None : goal.returns-in-None
returns-in-None c v seen =
    let me = me_seen v c.args.store.now seen c.known-known.result.now c.me.result c.known-known.ensures c.me.ensures in
    dec_hands (site_of c.args.site.now) v c.args.slave c.args.master c.args.names.now c.is_entitled.result (c.is_entitled.ensures v me) (cc)
    (c.in-None.ensures ∙ fault_seen v c.args.store.now seen c.args.master c.args.slave [] c.args.names.now)
    c.hand_out.result (c.hand_out.ensures v (seen.facts ∙ ap (λ (k : Knowledge). k.facts) (sym c.known-known.ensures)))
