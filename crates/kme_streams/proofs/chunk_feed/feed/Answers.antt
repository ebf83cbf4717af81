use Rattle.std.proofs.Common.{Err, Some, refl}
use Rattle.net_model.specs.declared.reply.Reply.TheVariants.{UnknownStream}
use Rattle.net_model.specs.Decision.{Refuses}
use Rattle.net_model.specs.Streams.{fed_stream, feed}
use Rattle.declared_site.specs.SiteOf.{site_of}
use Rattle.kme_streams.specs.Calls.{opening}
use Rattle.kme_streams.proofs.Series.{stepped, feed_none, feed_some}
use Rattle.kme_streams.proofs.chunk_feed.feed.Goals as goal

pub returns-in-None : goal.returns-in-None
returns-in-None c v is_up seen up =
    stepped v (feed (site_of c.args.site.now) is_up v c.args.stream c.args.count c.args.random.now) (Refuses UnknownStream) (Err UnknownStream)
    (feed_none (site_of c.args.site.now) is_up v c.args.kept.now seen c.args.stream c.args.count c.args.random.now c.in-None.ensures) refl

pub returns-in-Some : goal.returns-in-Some
returns-in-Some c v is_up seen up =
    stepped v (feed (site_of c.args.site.now) is_up v c.args.stream c.args.count c.args.random.now)
    (fed_stream (site_of c.args.site.now) is_up v c.args.count c.args.random.now (Some (opening c.in-Some.opened))) c.feed_open.result
    (feed_some (site_of c.args.site.now) is_up v c.args.kept.now seen c.args.stream c.args.count c.args.random.now c.in-Some.opened c.in-Some.ensures) (c.feed_open.ensures v is_up seen up)
