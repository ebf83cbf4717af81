use Rattle.std.proofs.Common.{[], ◌∷◌, None, ◌∙◌}
use Rattle.net_model.specs.declared.record.Record.TheVariants.{Closed}
use Rattle.net_model.specs.declared.reply.Reply.TheVariants.{Stream}
use Rattle.net_model.specs.Decision.{answers, makes}
use Rattle.net_model.specs.Streams.{only_status, close_stream}
use Rattle.declared_site.specs.SiteOf.{site_of}
use Rattle.kme_streams.proofs.Deciding.{decided, close_none, close_faulty, close_right, closed_made}
use Rattle.kme_streams.proofs.chunk_handout.close_stream.Goals as goal

pub returns-in-None : goal.returns-in-None
returns-in-None c v seen =
    decided v (close_stream (site_of c.args.site.now) v c.args.caller c.args.stream) (answers v (only_status 9)) c.answer.result
    (close_none (site_of c.args.site.now) v c.args.stream c.args.caller (c.in-None.ensures v seen)) (c.answer.ensures v)

pub returns-in-Some-end_status : goal.returns-in-Some-end_status
returns-in-Some-end_status c v seen =
    decided v (close_stream (site_of c.args.site.now) v c.args.caller c.args.stream) (answers v (only_status c.in-Some-end_status.status)) c.answer-in-Some-end_status.result
    (close_faulty (site_of c.args.site.now) v c.args.stream c.args.caller c.in-Some.opened c.in-Some-end_status.status (c.in-Some.ensures v seen) (c.in-Some-end_status.ensures v seen))
    (c.answer-in-Some-end_status.ensures v)

pub returns-in-None-end_status : goal.returns-in-None-end_status
returns-in-None-end_status c v seen =
    decided v (close_stream (site_of c.args.site.now) v c.args.caller c.args.stream) (makes v (Closed c.in-Some.opened.stream c.args.caller ∷ []) (Stream 0 None 0 c.new.result)) c.make.result
    (close_right (site_of c.args.site.now) v c.args.stream c.args.caller c.in-Some.opened (c.in-Some.ensures v seen) (c.in-None-end_status.ensures v seen)
    ∙ closed_made v c.args.caller c.in-Some.opened.stream c.new.result c.new.ensures)
    (c.make.ensures v)
