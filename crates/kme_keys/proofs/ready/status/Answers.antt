use Rattle.std.proofs.Common.{◌≡◌, ◌≤◌, ◌^◌, length, ◌∙◌, ap, arith}
use Rattle.net_model.specs.Decision.{last_count}
use Rattle.net_model.specs.declared.reply.Reply.TheVariants.{Memory}
use Rattle.relay_core.specs.Knowledge.{Knowledge}
use Rattle.declared_site.specs.SiteOf.{site_of}
use Rattle.end_store.specs.Pooled.{ends_view}
use Rattle.kme_keys.proofs.Deciding.{status_refuses, status_counts, counted_whole, pool_seen, me_seen, at_err}
use Rattle.kme_keys.proofs.ready.status.Goals as goal

pub returns-then-not-is_entitled-clause-step : goal.returns-then-not-is_entitled-clause-step
returns-then-not-is_entitled-clause-step c v seen =
    let me = me_seen v c.args.store.now seen c.known-known.result.now c.me.result c.known-known.ensures c.me.ensures in
    status_refuses (site_of c.args.site.now) v c.args.master c.args.slave c.is_entitled.result (c.is_entitled.ensures v me) (cc)

pub returns-clause-step : goal.returns-clause-step
returns-clause-step c v seen =
    let e = c.args.store.now in
    let me = me_seen v e seen c.known-known.result.now c.me.result c.known-known.ensures c.me.ensures in
    let last : c.last_count-holds.result ≡ last_count e.known.me e.known.facts = c.last_count-holds.ensures.count ∙ ap (λ (k : Knowledge). last_count k.me k.facts) c.known-known.ensures in
    let bound = c.last_count-holds.ensures.bound in
    let whole = counted_whole (ends_view e) c.args.master c.args.slave 256 (2 ^ 48) c.ready_count.result c.ready_count.ensures (omega arith) in
    status_counts (site_of c.args.site.now) v c.args.master c.args.slave c.is_entitled.result (c.is_entitled.ensures v me) (cc) c.ready_count.result
    (whole ∙ ap length (pool_seen v e seen c.args.master c.args.slave 256)) c.ready_count-2.result (c.ready_count-2.ensures.step v)

pub returns-clause-large : goal.returns-clause-large
returns-clause-large c is =
    let e = c.args.store.now in
    let last : c.last_count-holds.result ≡ last_count e.known.me e.known.facts = c.last_count-holds.ensures.count ∙ ap (λ (k : Knowledge). last_count k.me k.facts) c.known-known.ensures in
    let bound = c.last_count-holds.ensures.bound in
    let whole = counted_whole (ends_view e) c.args.master c.args.slave 256 (2 ^ 48) c.ready_count.result c.ready_count.ensures (omega arith) in
    let large : 2 ^ 32 ≤ c.ready_count.result = at_err c.ready_count-2.result Memory is c.ready_count-2.ensures.large in
    omega arith
