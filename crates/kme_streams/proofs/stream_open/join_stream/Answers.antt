use Rattle.std.proofs.Common.{Some}
use Rattle.net_model.specs.Decision.{answers}
use Rattle.net_model.specs.Streams.{only_status, joins, join_stream}
use Rattle.declared_site.specs.SiteOf.{site_of}
use Rattle.kme_streams.specs.Calls.{opening}
use Rattle.kme_streams.proofs.Deciding.{decided, join_none, join_some}
use Rattle.kme_streams.proofs.stream_open.join_stream.Goals as goal

pub returns-in-None : goal.returns-in-None
returns-in-None c v seen =
    decided v (join_stream (site_of c.args.site.now) v c.args.caller c.args.other c.args.stream c.args.bits) (answers v (only_status 9)) c.answer.result
    (join_none (site_of c.args.site.now) v c.args.stream c.args.caller c.args.other c.args.bits (c.in-None.ensures v seen)) (c.answer.ensures v)

pub returns-in-Some : goal.returns-in-Some
returns-in-Some c v seen =
    decided v (join_stream (site_of c.args.site.now) v c.args.caller c.args.other c.args.stream c.args.bits)
    (joins (site_of c.args.site.now) v c.args.caller c.args.other c.args.bits (Some (opening c.in-Some.opened))) c.joins.result
    (join_some (site_of c.args.site.now) v c.args.stream c.args.caller c.args.other c.args.bits c.in-Some.opened (c.in-Some.ensures v seen)) (c.joins.ensures v seen)
